-- Steps of one thread that are known not to wait, one after another.
use Rattle.std.proofs.Common.{◌≡◌, ℕ, zero, suc, false, inl, arith, ◌+◌, ◌<◌, ◌≤◌, List, [], ◌∷◌, ◌++◌, replicate, Option, Some, None, refl, sym, ap, subst}
use Rattle.std.specs.Prelude.{slice_get, slice_set}
use Rattle.std.proofs.lemmas.Option.{slice_get_within}
use Rattle.base.proofs.Lists.{get_set_same, set_same}
use Rattle.semantics.specs.declared.event.Ending.TheVariants.{Unfinished}
use Rattle.semantics.specs.declared.event.Event.{Event}
use Rattle.semantics.specs.Journal.{Entry, Step, steps_in}
use Rattle.semantics.specs.declared.printed.Printed.{Printed}
use Rattle.semantics.specs.declared.event.Stop.{Stop}
use Rattle.semantics.specs.declared.schedule.ScheduleWord.TheVariants.{Turn}
use Rattle.semantics.specs.EventViews.{stop_after}
use Rattle.semantics.specs.Schedule.{Schedule}
use Rattle.semantics.specs.Object.{sizes}
use Rattle.semantics.specs.Run.{made}
use Rattle.syntax.specs.Views.{unit_tree}
use Rattle.heap.specs.Heap.{left_of}
use Rattle.semantics.specs.Thread as source
use Rattle.semantics.specs.Thread.{Shared}
use Rattle.semantics.specs.World.{World}
use Rattle.semantics_safety.specs.Owners.{ThreadOwners}
use Rattle.code_meaning.specs.Lowered.{Lowered}
use Rattle.machine_scenes.specs.Buffers.{Acquired}
use Rattle.machine_scenes.specs.declared.activation.Activation.{Activation}
use Rattle.machine_scenes.specs.declared.store.Store.{Store}
use Rattle.machine_threads.specs.declared.thread.Thread.{Thread}
use Rattle.machine_steps.specs.Advances.{Stands, StepsFreely, within}
use Rattle.machine_steps.specs.Moved.{IsSilent}
use Rattle.machine.specs.declared.turn.Turn.TheVariants as turn
use Rattle.machine.specs.Run.{Run, CanGoOn, Corresponds, RunsAlong, WentOn, seen, stepped}
use Rattle.machine.proofs.Moved.{left_seen}
use Rattle.machine.proofs.Runs.{along_both, none_yet, replicate_more, taken_more, turned}
use Rattle.machine.proofs.Steps.{can_turn_here, is_free, make_freely, none_printed, owners, rest, stands, steps_freely, the_thread}

-- an element that is written twice
set_twice : {A : Type 0} (xs : List A) (i : ℕ) (a b : A) → slice_set (slice_set xs i a) i b ≡ slice_set xs i b
set_twice [] i a b = refl
set_twice (x ∷ xs) zero a b = refl
set_twice (x ∷ xs) (suc i) a b = ap (λ l. x ∷ l) (set_twice xs i a b)

-- a thread with the call and the exception that it has is itself
pub same_call : (t : Thread) (call : Activation) (pending : Option ℕ) → t.call ≡ Some call → t.pending ≡ pending → within call pending t ≡ t
same_call t call pending is same = λ i. let it : Thread = record t { call = sym is i; pending = sym same i } in it

module _ (p : Lowered) (w : World) (store : Store) (ts : List Thread) (index : ℕ) (printed : List Printed) (before : List Entry) (k : ℕ) (first : Thread) (h : CanGoOn p w store ts index printed before k first) where
  -- nothing was done yet
  pub none_taken : WentOn p w store store ts index printed before k 0 first None before
  none_taken = record {
    stands = subst (λ (l : List Thread). Corresponds p w store l printed None before) (sym (set_same ts index first h.at)) h.stands;
    along = none_yet (seen p w store before) (rw h.stands.replays refl);
  }

  module _ (n : ℕ) (mid : Store) (t : Thread) (journal : List Entry) (so_far : WentOn p w store mid ts index printed before k n t None journal) where
    pub thread_at : slice_get (slice_set ts index t) index ≡ Some t
    thread_at = get_set_same ts index t (slice_get_within ts index first h.at)

    -- it stands for one of the source
    pub stands_now : (others : Acquired) × (own : ThreadOwners) × (shared : Shared) × (s : source.Thread) × Stands p w mid others k own shared s t
    stands_now =
        let c = so_far.stands in (
          rest p w mid (slice_set ts index t) printed None journal c k index t h.number thread_at,
          owners p w mid (slice_set ts index t) printed None journal c k index t h.number thread_at k,
          c.state.shared,
          (the_thread p w mid (slice_set ts index t) printed None journal c k index t h.number thread_at).source,
          stands p w mid (slice_set ts index t) printed None journal c k index t h.number thread_at,
        )

    -- one step more
    pub one_more : (later : Store) (after : Thread) (e : Event) → t.ending ≡ Unfinished → steps_in journal < 1000000 → StepsFreely p w k mid later t after e → IsSilent e → WentOn p w store later ts index printed before k (n + 1) after (stop_after None k e) (journal ++ Step k false ∷ [])
    one_more later after e lives few freely silent =
        let c = so_far.stands in
        let next = steps_freely p w mid (slice_set ts index t) printed None journal c k index t h.number thread_at later after e freely refl lives in
        let free = is_free p w mid (slice_set ts index t) printed None journal c k index t h.number thread_at later after e freely in
        let can = can_turn_here p w mid (slice_set ts index t) printed None journal c k index t h.number thread_at refl lives free in
        let make = make_freely p w mid (slice_set ts index t) printed None journal c k index t h.number thread_at later after e freely refl lives in
        let left = left_seen p w mid journal c.store_agrees.cells in
        let now : Run = seen p w later (journal ++ Step k false ∷ []) in
        let is : now ≡ stepped (seen p w mid journal) c.state k = λ i. let r : Run = record { unit = p.unit; world = w; journal = journal ++ Step k false ∷ []; layout = make.1 i; slices = make.2 i } in r in
        let room : sizes (made (unit_tree p.unit) w c.state k) ≤ left_of mid.heap = make.0 in
        record {
          stands =
              subst (λ (l : List Thread). Corresponds p w later l printed (stop_after None k e) (journal ++ Step k false ∷ [])) (set_twice ts index t after)
              (subst (λ (l : List Printed). Corresponds p w later (slice_set (slice_set ts index t) index after) l (stop_after None k e) (journal ++ Step k false ∷ [])) (none_printed printed k e silent) next);
          along =
              subst (λ (words : Schedule). RunsAlong (seen p w store before) now words) (sym (replicate_more (Turn k) n))
              (along_both (seen p w store before) (seen p w mid journal) now (replicate n (Turn k)) (Turn k ∷ []) so_far.along
              (turned (seen p w mid journal) now k turn.Stepped ((few, (c.state, c.replays, can)), (seen p w mid journal, inl (refl, (c.state, c.replays, omega (arith, room, left))), (c.state, c.replays, is))) (rw next.replays refl) (λ full. absurd (cc))));
        }

    -- it can go on, where no trap stopped it
    pub goes_on_now : t.ending ≡ Unfinished → CanGoOn p w mid (slice_set ts index t) index printed journal k t
    goes_on_now lives = record { stands = so_far.stands; number = h.number; at = thread_at; lives = lives }

    -- further steps
    pub both_went : (later : Store) (m : ℕ) (after : Thread) (stop : Option Stop) (more : List Entry) → WentOn p w mid later (slice_set ts index t) index printed journal k m after stop more → WentOn p w store later ts index printed before k (n + m) after stop more
    both_went later m after stop more next = record {
      stands = subst (λ (l : List Thread). Corresponds p w later l printed stop more) (set_twice ts index t after) next.stands;
      along =
          taken_more (seen p w store before) (seen p w mid journal) (seen p w later more) (Turn k) n m so_far.along next.along;
    }
