-- What a step of one thread leaves as it was for the others.
use Rattle.std.proofs.Common.{◌≡◌, ◌≢◌, ℕ, zero, suc, ◌+◌, ◌<◌, ◌≤◌, List, [], ◌∷◌, length, reverse, Option, Some, None, sym, subst, arith}
use Rattle.std.specs.Prelude.{slice_set}
use Rattle.class_rules.specs.Class.{Classes}
use Rattle.heap.specs.Heap.{Space}
use Rattle.heap.specs.declared.value.Value.{Value}
use Rattle.heap.specs.declared.value.Value.TheVariants.{Number as Word, Null, Block as Address}
use Rattle.semantics.specs.Object.{ObjectValue, Number, Refers}
use Rattle.semantics.specs.World.{Invocation}
use Rattle.semantics.specs.Thread as source
use Rattle.semantics.specs.Thread.{Shared}
use Rattle.code_meaning.specs.Lowered.{Lowered}
use Rattle.code_meaning.specs.Slots.{visible_to}
use Rattle.tables.specs.Elements.{OwnedNumbers}
use Rattle.semantics_safety.specs.Owners.{ThreadOwners, AllOwners}
use Rattle.machine_threads.specs.declared.thread.Entering.{Entering}
use Rattle.machine_threads.specs.declared.thread.PendingCall.{PendingCall}
use Rattle.machine_threads.specs.declared.thread.Thread.{Thread}
use Rattle.machine_scenes.specs.HeapAgrees.{ValuesAgree}
use Rattle.machine_scenes.specs.Buffers.{KeepsCopies}
use Rattle.machine_scenes.specs.StoreAgrees.{Keeps}
use Rattle.machine_threads.specs.Callers.{owner_at}
use Rattle.machine_threads.specs.ThreadAgrees.{CallsToComeAgree, ThreadAgrees, ThreadsAgree, buffers_of}
use Rattle.machine_scenes.proofs.Keeping.{reference_stays}
use Rattle.machine_steps.proofs.KeptCallers.{callers_stay, others_elsewhere, views_stay, work_stays}
use Rattle.machine_collections.proofs.HeldViews.{slots_agree}

-- a thread has a number from 1 to 8
abbrev pub IsNumbered : ℕ → Type 0
IsNumbered k = (0 < k) × (k ≤ 8)

-- and so have as many threads as these, from the one of a number on
abbrev AreNumbered : ℕ → List Thread → Type 0
AreNumbered n ts = (0 < n) × (n + length ts ≤ 9)

-- the call in progress of thread k, which took the step, has this number of calls below it
module _ (p : Lowered) (classes : Classes) (made k depth : ℕ) (space space' : Space) (copies copies' : List (Option OwnedNumbers)) (shared shared' : Shared) (keeps : Keeps space shared space' shared') (keeps_copies : KeepsCopies (owner_at k depth) copies copies') (numbered : IsNumbered k) where
  -- no call of another thread has its owner
  apart : (j below : ℕ) → IsNumbered j → j ≢ k → owner_at j below ≢ owner_at k depth
  apart j below number other = others_elsewhere j k below depth number.0 number.1 numbered.0 numbered.1 other

  -- what a call is given that isn't entered yet
  values_stay : (ws : List Value) (vs : List ObjectValue) → ValuesAgree space ws vs → ValuesAgree space' ws vs
  values_stay [] [] h = h
  values_stay [] (v ∷ vs) h = absurd h
  values_stay (x ∷ ws) [] h = absurd h
  values_stay (Word n ∷ ws) (Number z ∷ vs) h = (h.0, values_stay ws vs h.1)
  values_stay (Word n ∷ ws) (Refers r ∷ vs) h = absurd h.0
  values_stay (Null ∷ ws) (Number z ∷ vs) h = absurd h.0
  values_stay (Null ∷ ws) (Refers r ∷ vs) h = (reference_stays space space' keeps.names None r h.0, values_stay ws vs h.1)
  values_stay (Address a ∷ ws) (Number z ∷ vs) h = absurd h.0
  values_stay (Address a ∷ ws) (Refers r ∷ vs) h = (reference_stays space space' keeps.names (Some a) r h.0, values_stay ws vs h.1)

  to_come_stay : (o : Option Entering) (nexts : List PendingCall) (calls : List Invocation) → CallsToComeAgree p classes space made o nexts calls → CallsToComeAgree p classes space' made o nexts calls
  to_come_stay None nexts calls h = h
  to_come_stay (Some e) nexts [] h = absurd h
  to_come_stay (Some e) nexts (c ∷ calls) h = (
    record {
      function = (h.0).function;
      named = (h.0).named;
      numbered = (h.0).numbered;
      of_class = (h.0).of_class;
      class_made = (h.0).class_made;
      arguments = values_stay e.arguments.items c.arguments (h.0).arguments;
      fit = (h.0).fit;
      few = (h.0).few;
    },
    h.1,
  )

  thread_stays : (j : ℕ) (own : ThreadOwners) (t : Thread) (s : source.Thread) → IsNumbered j → j ≢ k → ThreadAgrees p classes space copies made j own shared t s → ThreadAgrees p classes space' copies' made j own shared' t s
  thread_stays j own t s number other h =
      let owner = owner_at j (length s.callers) in
      let differs = apart j (length s.callers) number other in
      let slots = slots_agree p classes space copies owner (visible_to own.current shared s) t.call s.frames s.tasks h.work in
      record {
        calls = to_come_stay t.entering t.calls.items s.calls h.calls;
        due = h.due;
        work = work_stays p classes (owner_at k depth) space space' copies copies' shared shared' keeps keeps_copies owner own.current s t.call s.frames s.tasks differs h.work;
        callers = callers_stay p classes (owner_at k depth) space space' copies copies' shared shared' keeps keeps_copies j (reverse t.callers.items) own.callers s.callers (λ below less. apart j below number other) h.callers;
        few = h.few;
        pending = reference_stays space space' keeps.names t.pending s.pending h.pending;
        ending = h.ending;
        busy = h.busy;
        caught = h.caught;
        idle = h.idle;
        views = views_stay p classes (owner_at k depth) space space' copies copies' shared shared' keeps keeps_copies owner (buffers_of t.call) slots.buffers s differs slots.agree h.views;
      }

  -- ---- all threads

  module _ (owners owners' : AllOwners) (elsewhere : (j : ℕ) → j ≢ k → owners' j ≡ owners j) where
    one_stays : (n : ℕ) (t : Thread) (s : source.Thread) → IsNumbered n → n ≢ k → ThreadAgrees p classes space copies made n (owners n) shared t s → ThreadAgrees p classes space' copies' made n (owners' n) shared' t s
    one_stays n t s number other h = subst (λ (o : ThreadOwners). ThreadAgrees p classes space' copies' made n o shared' t s) (sym (elsewhere n other)) (thread_stays n (owners n) t s number other h)

    later_stay : (n : ℕ) (ts : List Thread) (ss : List source.Thread) → AreNumbered n ts → k < n → ThreadsAgree p classes space copies made owners n shared ts ss → ThreadsAgree p classes space' copies' made owners' n shared' ts ss
    later_stay n [] [] numbers later h = h
    later_stay n [] (s ∷ ss) numbers later h = absurd h
    later_stay n (t ∷ ts) [] numbers later h = absurd h
    later_stay n (t ∷ ts) (s ∷ ss) numbers later h = (
      one_stays n t s (numbers.0, omega (arith, numbers.1)) (λ e. omega (arith, e, later)) h.0,
      later_stay (suc n) ts ss (omega arith, omega (arith, numbers.1)) (omega (arith, later)) h.1,
    )

    -- with the one that took the step
    pub changed : (n : ℕ) (ts : List Thread) (ss : List source.Thread) (i : ℕ) (t : Thread) (s : source.Thread) → AreNumbered n ts → k ≡ n + i → ThreadsAgree p classes space copies made owners n shared ts ss → ThreadAgrees p classes space' copies' made k (owners' k) shared' t s
        → ThreadsAgree p classes space' copies' made owners' n shared' (slice_set ts i t) (slice_set ss i s)
    changed n [] [] i t s numbers place h a = tt
    changed n [] (y ∷ ss) i t s numbers place h a = absurd h
    changed n (x ∷ ts) [] i t s numbers place h a = absurd h
    changed n (x ∷ ts) (y ∷ ss) zero t s numbers place h a =
        let here : k ≡ n = omega (arith, place) in
        (subst (λ (m : ℕ). ThreadAgrees p classes space' copies' made m (owners' m) shared' t s) here a, later_stay (suc n) ts ss (omega arith, omega (arith, numbers.1)) (omega (arith, place)) h.1)
    changed n (x ∷ ts) (y ∷ ss) (suc i) t s numbers place h a = (
      one_stays n x y (numbers.0, omega (arith, numbers.1)) (λ e. omega (arith, e, place)) h.0,
      changed (suc n) ts ss i t s (omega arith, omega (arith, numbers.1)) (omega (arith, place)) h.1 a,
    )
