use Rattle.std.proofs.Common.{◌≡◌, ℕ, ◌+◌, List, Some, get_or, length, set, sym, ap, ◌∙◌, subst, arith}
use Rattle.std.specs.Prelude.{flat_map, slice_get}
use Rattle.std.proofs.lemmas.List.{take_all}
use Rattle.std.proofs.lemmas.Option.{slice_get-get_or}
use Rattle.compact.proofs.Fronts.{front_all, front_get, front_step}
use Rattle.machine_threads.specs.declared.thread.Thread.{Thread}
use Rattle.machine_collections.specs.Moving.{AreMovedAt, moved_thread}
use Rattle.machine_collections.specs.Roots.{thread_places}
use Rattle.machine_collections.proofs.MovedRoots.{moved_there, places_more, still_there}
use Rattle.machine_collections.proofs.roots.put_threads.Goals as goal
use Rattle.machine_collections.proofs.roots.put_threads.Goals.{After-index-threads-index}

-- the thread at the place
abbrev here : After-index-threads-index → Thread
here c = get_or c.loop-index.threads c.loop-index.index c.index-threads-index.result

here_at : (c : After-index-threads-index) → slice_get c.loop-index.threads c.loop-index.index ≡ Some (here c)
here_at c = slice_get-get_or c.loop-index.threads c.loop-index.index c.index-threads-index.result (omega (arith, c.loop-index-test.true, c.loop-index.auto.threads))

module _ (c : After-index-threads-index) (to : ℕ → ℕ) (h : AreMovedAt to (flat_map thread_places c.args.threads.now) c.args.roots.now.places.items c.args.from) where
  -- it is as it was
  here_before : slice_get c.args.threads.now c.loop-index.index ≡ Some (here c)
  here_before = still_there (moved_thread to) c.args.threads.now c.loop-index.index (here c) (ap (λ (l : List Thread). slice_get l c.loop-index.index) (sym (c.loop-index.invariant.moved to h)) ∙ here_at c)

  here_moved : AreMovedAt to (thread_places (here c)) c.args.roots.now.places.items c.loop-index.next
  here_moved = subst (λ (n : ℕ). AreMovedAt to (thread_places (here c)) c.args.roots.now.places.items n) (sym c.loop-index.invariant.next) (moved_there thread_places to c.args.threads.now c.args.roots.now.places.items c.args.from c.loop-index.index (here c) h here_before)

pub put_thread-next-requires : goal.put_thread-next-requires
put_thread-next-requires c = (c.requires.0, here_moved c c.requires.0 c.requires.1)

pub loop-index-preserved : goal.loop-index-preserved
loop-index-preserved c =
    let a = (goal.at.loop-index-preserved c).After-index-threads-index in
    let ts = c.args.threads.now in
    let i = c.loop-index.index in
    let more = places_more thread_places ts i (here a) (here_before a c.requires.0 c.requires.1) in
    record {
      next = omega (arith, more, c.put_thread-next.ensures.next, c.loop-index.invariant.next);
      moved = λ to h.
          ap (λ (t : Thread). set c.loop-index.threads i t) (c.put_thread-next.ensures.moved to (here_moved a to h))
          ∙ ap (λ (l : List Thread). set l i (moved_thread to (here a))) (c.loop-index.invariant.moved to h)
          ∙ front_step (moved_thread to) i ts (here a) (front_get (moved_thread to) i ts ∙ here_before a to h);
    }

pub returns-clause-moved : goal.returns-clause-moved
returns-clause-moved c = λ to h. c.loop-index.invariant.moved to h ∙ front_all (moved_thread to) c.loop-index.index c.args.threads.now (omega (arith, c.loop-index-test.false))

pub returns-clause-next : goal.returns-clause-next
returns-clause-next c =
    c.loop-index.invariant.next
    ∙ ap (λ (ts : List Thread). c.args.from + length (flat_map thread_places ts)) (take_all c.loop-index.index c.args.threads.now (omega (arith, c.loop-index-test.false)))
