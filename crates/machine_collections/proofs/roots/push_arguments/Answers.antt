use Rattle.std.proofs.Common.{ℕ, Option, [], ◌∷◌, ◌++◌, length, map, refl, ap, ◌∙◌, arith}
use Rattle.std.proofs.lemmas.List.{length-map}
use Rattle.std.proofs.lemmas.Option.{slice_get_read}
use Rattle.base.proofs.Lists.{get_map}
use Rattle.machine_collections.specs.Roots.{argument_place}
use Rattle.machine_collections.proofs.Counts.{left_next, left_none}
use Rattle.machine_collections.proofs.MovedRoots.{pushed_all, pushed_next}
use Rattle.machine_collections.proofs.roots.push_arguments.Goals as goal

pub push_reserved-requires : goal.push_reserved-requires
push_reserved-requires c =
    let xs = c.args.arguments.now in
    let i = c.loop-argument.argument-index in
    let x = c.argument-item.result in
    let left = left_next (map argument_place c.args.arguments.now) c.loop-argument.argument-index (argument_place x) (get_map argument_place xs i x (slice_get_read xs (length xs) i x refl c.loop-argument-test.true c.argument-item.is)) in
    omega (arith, left, c.loop-argument.invariant.len, c.loop-argument.invariant.capacity, c.requires)

pub loop-argument-preserved : goal.loop-argument-preserved
loop-argument-preserved c =
    let xs = c.args.arguments.now in
    let i = c.loop-argument.argument-index in
    let x = c.argument-item.result in
    let at = (get_map argument_place xs i x (slice_get_read xs (length xs) i x refl c.loop-argument-test.true c.argument-item.is)) in
    let left = left_next (map argument_place c.args.arguments.now) c.loop-argument.argument-index (argument_place x) at in
    record {
      places = pushed_next c.loop-argument.places.items (map argument_place c.args.arguments.now) (c.args.places.now.items ++ map argument_place c.args.arguments.now) c.push_reserved.new.self.items c.loop-argument.argument-index (argument_place x) at
          (c.push_reserved.ensures.items ∙ ap (λ (o : Option ℕ). c.loop-argument.places.items ++ o ∷ []) c.address_of.ensures) c.loop-argument.invariant.places;
      len = omega (arith, left, c.loop-argument.invariant.len, c.push_reserved.ensures.len);
      capacity = c.push_reserved.ensures.capacity ∙ c.loop-argument.invariant.capacity;
    }

pub returns-clause-places : goal.returns-clause-places
returns-clause-places c = pushed_all c.loop-argument.places.items (map argument_place c.args.arguments.now) (c.args.places.now.items ++ map argument_place c.args.arguments.now) c.loop-argument.argument-index (omega (arith, length-map c.args.arguments.now argument_place, c.loop-argument-test.false)) c.loop-argument.invariant.places

pub returns-clause-len : goal.returns-clause-len
returns-clause-len c =
    let none = left_none (map argument_place c.args.arguments.now) c.loop-argument.argument-index (omega (arith, length-map c.args.arguments.now argument_place, c.loop-argument-test.false)) in
    omega (arith, none, c.loop-argument.invariant.len)
