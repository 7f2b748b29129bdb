use Rattle.std.proofs.Common.{◌≡◌, ℕ, ◌+◌, ◌<◌, ◌≤◌, List, Option, Some, length, map, set, ap, ◌∙◌, arith, ⊎_elim}
use Rattle.std.proofs.lemmas.List.{length-map}
use Rattle.heap.specs.declared.value.Value.{Value}
use Rattle.heap.specs.declared.value.Value.TheVariants.{Block}
use Rattle.compact.proofs.Fronts.{front_all, length-front}
use Rattle.compact.specs.Same.{moved_value}
use Rattle.machine_collections.specs.Roots.{argument_place}
use Rattle.machine_collections.proofs.GivenArguments.{argument_put, argument_stays}
use Rattle.machine_collections.proofs.MovedRoots.{moved_below, moved_end}
use Rattle.machine_collections.proofs.roots.put_arguments.Goals as goal
use Rattle.machine_collections.proofs.roots.put_arguments.Goals.{in-Some, in_default, In-loop-place}

below : (c : In-loop-place) → c.args.from + c.loop-place.place < length c.args.roots.now.places.items
below c =
    let less : c.loop-place.place < length (map argument_place c.args.arguments.now) = omega (arith, c.loop-place-test.true, length-map c.args.arguments.now argument_place) in
    moved_below c.requires.0 (map argument_place c.args.arguments.now) c.args.roots.now.places.items c.args.from c.loop-place.place c.requires.1 less

pub overflow_add-from : goal.overflow_add-from
overflow_add-from c = omega (arith, below c, c.args.roots.now.places.ok.0)

pub root-requires : goal.root-requires
root-requires c = below c

pub loop-place-preserved : goal.loop-place-preserved
loop-place-preserved c =
    let xs = c.args.arguments.now in
    let places = c.args.roots.now.places.items in
    let i = c.loop-place.place in
    elim c.match-root.branch [
      | in-Some w ↦ λ to h.
          w.arguments-is
          ∙ ap (λ (l : List Value). set l i (Block w.in-Some.addr)) (c.loop-place.invariant to h)
          ∙ argument_put to xs places c.args.from i w.in-Some.addr h c.loop-place-test.true (c.root.ensures ∙ ap (λ (o : Option ℕ). Some o) w.in-Some.is)
      | in_default w ↦ λ to h. w.arguments-is ∙ c.loop-place.invariant to h ∙ argument_stays to xs places c.args.from i c.root.result h c.loop-place-test.true c.root.ensures w.in_default.not-Some
    ]

pub overflow_add-result : goal.overflow_add-result
overflow_add-result c =
    let xs = c.args.arguments.now in
    let count = length-map xs argument_place in
    let long : length c.loop-place.arguments ≡ length xs = ap length (c.loop-place.invariant c.requires.0 c.requires.1) ∙ length-front (moved_value c.requires.0) c.loop-place.place xs in
    ⊎_elim
    (λ (none : length (map argument_place xs) ≡ 0). omega (arith, count, long, none, c.ranges.from))
    (λ (some : c.args.from + length (map argument_place xs) ≤ length c.args.roots.now.places.items). omega (arith, count, long, some, c.args.roots.now.places.ok.0))
    (moved_end c.requires.0 (map argument_place xs) c.args.roots.now.places.items c.args.from c.requires.1)

pub returns-clause-moved : goal.returns-clause-moved
returns-clause-moved c = λ to h. c.loop-place.invariant to h ∙ front_all (moved_value to) c.loop-place.place c.args.arguments.now (omega (arith, c.loop-place-test.false))

pub returns-clause-next : goal.returns-clause-next
returns-clause-next c =
    let xs = c.args.arguments.now in
    let long : length c.loop-place.arguments ≡ length xs = ap length (c.loop-place.invariant c.requires.0 c.requires.1) ∙ length-front (moved_value c.requires.0) c.loop-place.place xs in
    omega (arith, long, length-map xs argument_place)
