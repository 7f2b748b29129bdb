use Rattle.std.proofs.Common.{◌≡◌, ℕ, ◌+◌, List, Some, get_or, length, set, sym, ap, ◌∙◌, subst, arith}
use Rattle.std.specs.Prelude.{flat_map, slice_get}
use Rattle.std.proofs.lemmas.List.{take_all}
use Rattle.std.proofs.lemmas.Option.{slice_get-get_or}
use Rattle.compact.proofs.Fronts.{front_all, front_get, front_step}
use Rattle.machine_scenes.specs.declared.activation.Activation.{Activation}
use Rattle.machine_collections.specs.Moving.{AreMovedAt, moved_call}
use Rattle.machine_collections.specs.Roots.{call_places}
use Rattle.machine_collections.proofs.MovedRoots.{moved_there, places_more, still_there}
use Rattle.machine_collections.proofs.roots.put_callers.Goals as goal
use Rattle.machine_collections.proofs.roots.put_callers.Goals.{After-index-callers-index}

-- the call at the place
abbrev here : After-index-callers-index → Activation
here c = get_or c.loop-index.callers c.loop-index.index c.index-callers-index.result

here_at : (c : After-index-callers-index) → slice_get c.loop-index.callers c.loop-index.index ≡ Some (here c)
here_at c = slice_get-get_or c.loop-index.callers c.loop-index.index c.index-callers-index.result (omega (arith, c.loop-index-test.true, c.loop-index.auto.callers))

module _ (c : After-index-callers-index) (to : ℕ → ℕ) (h : AreMovedAt to (flat_map call_places c.args.callers.now) c.args.roots.now.places.items c.args.from) where
  -- it is as it was
  here_before : slice_get c.args.callers.now c.loop-index.index ≡ Some (here c)
  here_before = still_there (moved_call to) c.args.callers.now c.loop-index.index (here c) (ap (λ (l : List Activation). slice_get l c.loop-index.index) (sym (c.loop-index.invariant.moved to h)) ∙ here_at c)

  here_moved : AreMovedAt to (call_places (here c)) c.args.roots.now.places.items c.loop-index.next
  here_moved = subst (λ (n : ℕ). AreMovedAt to (call_places (here c)) c.args.roots.now.places.items n) (sym c.loop-index.invariant.next) (moved_there call_places to c.args.callers.now c.args.roots.now.places.items c.args.from c.loop-index.index (here c) h here_before)

pub put_caller-next-requires : goal.put_caller-next-requires
put_caller-next-requires c = (c.requires.0, here_moved c c.requires.0 c.requires.1)

pub loop-index-preserved : goal.loop-index-preserved
loop-index-preserved c =
    let a = (goal.at.loop-index-preserved c).After-index-callers-index in
    let calls = c.args.callers.now in
    let i = c.loop-index.index in
    let more = places_more call_places calls i (here a) (here_before a c.requires.0 c.requires.1) in
    record {
      next = omega (arith, more, c.put_caller-next.ensures.next, c.loop-index.invariant.next);
      moved = λ to h.
          ap (λ (call : Activation). set c.loop-index.callers i call) (c.put_caller-next.ensures.moved to (here_moved a to h))
          ∙ ap (λ (l : List Activation). set l i (moved_call to (here a))) (c.loop-index.invariant.moved to h)
          ∙ front_step (moved_call to) i calls (here a) (front_get (moved_call to) i calls ∙ here_before a to h);
    }

pub returns-clause-moved : goal.returns-clause-moved
returns-clause-moved c = λ to h. c.loop-index.invariant.moved to h ∙ front_all (moved_call to) c.loop-index.index c.args.callers.now (omega (arith, c.loop-index-test.false))

pub returns-clause-next : goal.returns-clause-next
returns-clause-next c =
    c.loop-index.invariant.next
    ∙ ap (λ (calls : List Activation). c.args.from + length (flat_map call_places calls)) (take_all c.loop-index.index c.args.callers.now (omega (arith, c.loop-index-test.false)))
