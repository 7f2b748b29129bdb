use Rattle.std.proofs.Common.{◌++◌, ◌∙◌, arith}
use Rattle.machine_collections.proofs.Counts.{left_next, left_none}
use Rattle.machine_collections.proofs.MovedRoots.{pushed_all, pushed_next}
use Rattle.machine_collections.proofs.roots.push_globals.Goals as goal

pub push_reserved-requires : goal.push_reserved-requires
push_reserved-requires c =
    let left = left_next (c.args.globals.now) c.loop-place.place c.root.result c.root.ensures in
    omega (arith, left, c.loop-place.invariant.len, c.loop-place.invariant.capacity, c.requires)

pub loop-place-preserved : goal.loop-place-preserved
loop-place-preserved c =
    let at = c.root.ensures in
    let left = left_next (c.args.globals.now) c.loop-place.place c.root.result at in
    record {
      places = pushed_next c.loop-place.places.items (c.args.globals.now) (c.args.places.now.items ++ c.args.globals.now) c.push_reserved.new.self.items c.loop-place.place c.root.result at
          c.push_reserved.ensures.items c.loop-place.invariant.places;
      len = omega (arith, left, c.loop-place.invariant.len, c.push_reserved.ensures.len);
      capacity = c.push_reserved.ensures.capacity ∙ c.loop-place.invariant.capacity;
    }

pub returns-clause-places : goal.returns-clause-places
returns-clause-places c = pushed_all c.loop-place.places.items (c.args.globals.now) (c.args.places.now.items ++ c.args.globals.now) c.loop-place.place (omega (arith, c.loop-place-test.false)) c.loop-place.invariant.places

pub returns-clause-len : goal.returns-clause-len
returns-clause-len c =
    let none = left_none (c.args.globals.now) c.loop-place.place (omega (arith, c.loop-place-test.false)) in
    omega (arith, none, c.loop-place.invariant.len)
