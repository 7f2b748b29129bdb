use Rattle.std.proofs.Common.{ℕ, ◌<◌, List, Option, Some, length, set, ap, ◌∙◌, arith}
use Rattle.std.proofs.lemmas.List.{length-map}
use Rattle.compact.proofs.Fronts.{front_all}
use Rattle.machine_collections.specs.Roots.{loaded_places}
use Rattle.machine_collections.proofs.MovedRoots.{loaded_put, loaded_some, moved_below}
use Rattle.machine_collections.proofs.roots.put_loaded.Goals as goal
use Rattle.machine_collections.proofs.roots.put_loaded.Goals.{in-Some, in_default}

pub root-requires : goal.root-requires
root-requires c =
    let less : c.loop-place.place < length (loaded_places c.args.loaded.now) = omega (arith, c.loop-place-test.true, length-map c.args.loaded.now (λ (a : ℕ). Some a)) in
    let below = moved_below c.requires.0 (loaded_places c.args.loaded.now) c.args.roots.now.places.items 0 c.loop-place.place c.requires.1 less in
    omega (arith, below)

pub loop-place-preserved : goal.loop-place-preserved
loop-place-preserved c =
    let xs = c.args.loaded.now in
    let places = c.args.roots.now.places.items in
    let i = c.loop-place.place in
    elim c.match-root.branch [
      | in-Some w ↦ λ to h.
          w.loaded-is
          ∙ ap (λ (l : List ℕ). set l i w.in-Some.addr) (c.loop-place.invariant to h)
          ∙ loaded_put to xs places i w.in-Some.addr h c.loop-place-test.true (c.root.ensures ∙ ap (λ (o : Option ℕ). Some o) w.in-Some.is)
      | in_default w ↦ λ to h. absurd (loaded_some to xs places i c.root.result h c.loop-place-test.true c.root.ensures w.in_default.not-Some)
    ]

pub returns-clause-moved : goal.returns-clause-moved
returns-clause-moved c = λ to h. c.loop-place.invariant to h ∙ front_all to c.loop-place.place c.args.loaded.now (omega (arith, c.loop-place-test.false))
