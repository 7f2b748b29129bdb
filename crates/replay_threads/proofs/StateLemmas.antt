-- What an entry does to the state that a state in memory stands for.
use Rattle.std.proofs.Common.{◌≡◌, ℕ, zero, suc, ◌+◌, ◌-◌, ◌<◌, ◌≤◌, Bool, true, false, cond, List, [], ◌∷◌, ◌++◌, length, get_or, map, take, Option, Some, None, refl, sym, ap, ◌∙◌, subst, arith}
use Rattle.std.specs.Prelude.{Vec as RawVec, slice_get, slice_set, vec_len, sum_by, flat_map, ◌&&◌, ◌==◌, not, is_none}
use Rattle.std.proofs.lemmas.Bool.{and_right, eqb-true}
use Rattle.std.proofs.lemmas.List.{length-set, nil_from_length}
use Rattle.std.proofs.lemmas.List.Concat.{flat_map-cons}
use Rattle.std.proofs.lemmas.List.Sums.{sum_by-cons}
use Rattle.std.proofs.lemmas.List.{length-map, take_all}
use Rattle.std.proofs.lemmas.List.FromFn.{length-enumerate_from}
use Rattle.std.proofs.lemmas.Option.{slice_get-map, slice_get_read}
use Rattle.semantics.specs.Variable.{Variables}
use Rattle.replay_steps.specs.declared.activation.Activation.{Activation}
use Rattle.std.specs.List.{enumerate_from}
use Rattle.std.specs.Borrow.{Bor}
use Rattle.std.specs.Option.{option_map, option_map_or, is_some}
use Rattle.syntax.specs.Tree.{SourceUnit}
use Rattle.class_rules.specs.Class.{Classes}
use Rattle.semantics.specs.Journal as entry
use Rattle.semantics.specs.declared.printed.Printed.{Printed}
use Rattle.semantics.specs.Report.{ShownRow, ThreadStanding}
use Rattle.report.specs.Shown.{report_with}
use Rattle.report.specs.ThreadStatus.{standing_view}
use Rattle.semantics.specs.World.{World}
use Rattle.report.specs.declared.thread_status.ThreadStatus.{ThreadStatus}
use Rattle.semantics.specs.ReportOf.{report, standing_at, standing_of}
use Rattle.replay_arguments.specs.Shares.{shared_view}
use Rattle.semantics.specs.State.{State, thread_at, set_thread, copied, in_use, with_event, advanced}
use Rattle.semantics.proofs.Endings.{unfinished}
use Rattle.semantics.specs.Step.{turn_step, can_step, step_of, is_blocked, is_live, is_unfinished, is_waiting}
use Rattle.jni.specs.declared.function.JniFunction.TheVariants.{MonitorEnter}
use Rattle.semantics.specs.CallStep.{trap_of_call, waits_with}
use Rattle.semantics.specs.Effect.{Effect, Calls}
use Rattle.semantics.specs.Thread.{BuffersInUse, copied_by, lengths_copied, viewed_by, objects_viewed, Caller, Monitor, Thread, Shared}
use Rattle.semantics.specs.declared.event.Ending.{Ending}
use Rattle.semantics.specs.declared.event.Ending.TheVariants.{Unfinished, Ended, Uncaught}
use Rattle.semantics.specs.declared.event.Event.TheVariants.{Quiet, PrintedNumber, Trapped}
use Rattle.semantics.specs.ThreadStep.{next_effect, thread_step, waits}
use Rattle.semantics.proofs.StepLaws.{Steps, steps, step-thread}
use Rattle.replay_threads.specs.declared.state.State.{State as StateInMemory}
use Rattle.replay_threads.specs.declared.thread.Thread.{Thread as ThreadInMemory}
use Rattle.semantics.specs.declared.event.Event.{Event}
use Rattle.semantics.specs.declared.event.Event.TheVariants as event
use Rattle.semantics.specs.declared.event.Stop.{Stop as StopInMemory}
use Rattle.semantics.specs.EventViews.{printed_after, stop_after, stop_view}
use Rattle.replay_threads.specs.States.{ThreadsStand, AreInRange, Stands, call_copies, call_views, variables_of, copied_in, viewed_in, in_use_by, Leads, standing_in, standings_of, EachInRange}
use Rattle.replay_threads.specs.Threads.{ThreadInRange, ThreadStands, ThreadWaits, WorkStands, StepIs, TakesStep, last_first}
use Rattle.replay_steps.specs.Callers.{CallerStands}
use Rattle.replay_threads.proofs.CallerLists.{counts_same, names_same}
use Rattle.replay_threads.proofs.StandingLemmas.{numbered_at, taken_more}

-- ---- where nobody owns a monitor

-- no call waits
call_goes : (classes : Classes) (k : ℕ) (shared : Shared) (t : Thread) (e : Effect) → waits_with classes k (record shared { monitors = [] }) t e ≡ false
call_goes classes k shared t (Calls line target MonitorEnter args) = and_right (is_none (trap_of_call classes (record shared { monitors = [] }) t target MonitorEnter args)) false refl
call_goes classes k shared t e = refl

-- and no thread
thread_goes : (classes : Classes) (k : ℕ) (shared : Shared) (o : Option Thread) → shared.monitors ≡ [] → is_waiting classes k shared o ≡ false
thread_goes classes k shared None none = refl
thread_goes classes k shared (Some t) none =
    ap (λ (ms : List Monitor). waits_with classes k (record shared { monitors = ms }) t (next_effect shared t t.tasks)) none
    ∙ call_goes classes k shared t (next_effect shared t t.tasks)

-- ---- one thread of several

-- what a list has at a number, counted from 1
pub element_at : {A : Type 0} (v : RawVec ThreadInMemory A) (n k : ℕ) (t : ThreadInMemory) → (n ≡ 0 → ⊥) → n ≤ k → k ≡ vec_len v
    → t ≡ get_or v.items (n - 1) t → slice_get v.items (n - 1) ≡ Some t
element_at v n k t low high all h = slice_get_read v.items (length v.items) (n - 1) t refl (omega arith) h

module _ (unit : SourceUnit) (classes : Classes) where
  pub record Found (t : ThreadInMemory) (ss : List Thread) (i : ℕ) : Type 0 where
    pub source : Thread
    pub is : slice_get ss i ≡ Some source
    pub stands : ThreadStands unit classes t source

  pub found : (ts : List ThreadInMemory) (ss : List Thread) (i : ℕ) (t : ThreadInMemory) → ThreadsStand unit classes ts ss → slice_get ts i ≡ Some t → Found t ss i
  found [] [] i t h e = absurd (cc)
  found [] (s ∷ ss) i t h e = absurd h
  found (x ∷ ts) [] i t h e = absurd h
  found (x ∷ ts) (s ∷ ss) zero t h e = record { source = s; is = refl; stands = let same : x ≡ t = cc in subst (λ y. ThreadStands unit classes y s) same h.0 }
  found (x ∷ ts) (s ∷ ss) (suc i) t h e = let f = found ts ss i t h.1 e in record { source = f.source; is = f.is; stands = f.stands }

  pub stand_length : (ts : List ThreadInMemory) (ss : List Thread) → ThreadsStand unit classes ts ss → length ts ≡ length ss
  stand_length [] [] h = refl
  stand_length [] (s ∷ ss) h = absurd h
  stand_length (t ∷ ts) [] h = absurd h
  stand_length (t ∷ ts) (s ∷ ss) h = ap suc (stand_length ts ss h.1)

  pub missing : (ts : List ThreadInMemory) (ss : List Thread) (i : ℕ) → ThreadsStand unit classes ts ss → length ts ≤ i → slice_get ss i ≡ None
  missing [] [] i h p = refl
  missing [] (s ∷ ss) i h p = absurd h
  missing (t ∷ ts) [] i h p = absurd h
  missing (t ∷ ts) (s ∷ ss) zero h p = absurd (omega arith)
  missing (t ∷ ts) (s ∷ ss) (suc i) h p = missing ts ss i h.1 (omega arith)

  changed : (ts : List ThreadInMemory) (ss : List Thread) (i : ℕ) (t : ThreadInMemory) (s : Thread) → ThreadsStand unit classes ts ss → ThreadStands unit classes t s → ThreadsStand unit classes (slice_set ts i t) (slice_set ss i s)
  changed [] [] i t s h a = tt
  changed [] (y ∷ ss) i t s h a = absurd h
  changed (x ∷ ts) [] i t s h a = absurd h
  changed (x ∷ ts) (y ∷ ss) zero t s h a = (a, h.1)
  changed (x ∷ ts) (y ∷ ss) (suc i) t s h a = (h.0, changed ts ss i t s h.1 a)

  -- ---- buffers

  variables_same : (o : Option Activation) (s : Thread) → WorkStands o s → variables_of o ≡ s.variables
  variables_same None s h = sym h.0
  variables_same (Some a) s h = sym h.0

  -- what a caller has in its variables
  caller_copies : (a : Activation) (c : Caller) → CallerStands a c → call_copies a ≡ lengths_copied c.variables
  caller_copies a c h = ap lengths_copied (sym h.variables)

  caller_views : (a : Activation) (c : Caller) → CallerStands a c → call_views a ≡ objects_viewed c.variables
  caller_views a c h = ap objects_viewed (sym h.variables)

  -- a thread's buffers are those of its calls
  own_copies : (t : ThreadInMemory) (s : Thread) → ThreadStands unit classes t s → copied_in t ≡ copied_by s
  own_copies t s h =
      ap (λ n. n + lengths_copied (variables_of t.activation)) (counts_same call_copies (λ (c : Caller). lengths_copied c.variables) caller_copies (last_first t.callers.items) s.callers h.callers)
      ∙ ap (λ (vs : Variables). sum_by (λ (c : Caller). lengths_copied c.variables) s.callers + lengths_copied vs) (variables_same t.activation s h.work)

  own_views : (t : ThreadInMemory) (s : Thread) → ThreadStands unit classes t s → viewed_in t ≡ viewed_by s
  own_views t s h =
      ap (λ (l : List ℕ). l ++ objects_viewed (variables_of t.activation)) (names_same call_views (λ (c : Caller). objects_viewed c.variables) caller_views (last_first t.callers.items) s.callers h.callers)
      ∙ ap (λ (vs : Variables). flat_map (λ (c : Caller). objects_viewed c.variables) s.callers ++ objects_viewed vs) (variables_same t.activation s h.work)

  copied_same : (ts : List ThreadInMemory) (ss : List Thread) → ThreadsStand unit classes ts ss → sum_by copied_in ts ≡ sum_by copied_by ss
  copied_same [] [] h = refl
  copied_same [] (s ∷ ss) h = absurd h
  copied_same (t ∷ ts) [] h = absurd h
  copied_same (t ∷ ts) (s ∷ ss) h =
      sum_by-cons copied_in t ts
      ∙ ap (λ n. n + sum_by copied_in ts) (own_copies t s h.0)
      ∙ ap (λ n. copied_by s + n) (copied_same ts ss h.1)
      ∙ sym (sum_by-cons copied_by s ss)

  pub viewed_same : (ts : List ThreadInMemory) (ss : List Thread) → ThreadsStand unit classes ts ss → flat_map viewed_in ts ≡ flat_map viewed_by ss
  viewed_same [] [] h = refl
  viewed_same [] (s ∷ ss) h = absurd h
  viewed_same (t ∷ ts) [] h = absurd h
  viewed_same (t ∷ ts) (s ∷ ss) h =
      flat_map-cons viewed_in t ts
      ∙ ap (λ (l : List ℕ). l ++ flat_map viewed_in ts) (own_views t s h.0)
      ∙ ap (λ (l : List ℕ). viewed_by s ++ l) (viewed_same ts ss h.1)
      ∙ sym (flat_map-cons viewed_by s ss)

-- what the buffers of all threads take is what they take in memory
pub in_use_same : (unit : SourceUnit) (w : World) (m : StateInMemory) (s : State) → Stands unit w m s → in_use_by m.threads.items ≡ in_use s
in_use_same unit w m s h =
    ap (λ n. let u : BuffersInUse = record { copied = n; views = length (flat_map viewed_in m.threads.items) } in u) (copied_same unit w.classes m.threads.items s.threads h.threads)
    ∙ ap (λ (l : List ℕ). let u : BuffersInUse = record { copied = copied s; views = length l } in u) (viewed_same unit w.classes m.threads.items s.threads h.threads)

-- what is known of one thread
each_at : (ts : List ThreadInMemory) (i : ℕ) (t : ThreadInMemory) → EachInRange ts → slice_get ts i ≡ Some t → ThreadInRange t
each_at [] i t h e = absurd (cc)
each_at (x ∷ ts) zero t h e = let same : x ≡ t = cc in subst ThreadInRange same h.0
each_at (x ∷ ts) (suc i) t h e = each_at ts i t h.1 e

each_set : (ts : List ThreadInMemory) (i : ℕ) (t : ThreadInMemory) → EachInRange ts → ThreadInRange t → EachInRange (slice_set ts i t)
each_set [] i t h a = tt
each_set (x ∷ ts) zero t h a = (a, h.1)
each_set (x ∷ ts) (suc i) t h a = (h.0, each_set ts i t h.1 a)

pub range_at : (ts : List ThreadInMemory) (i : ℕ) (t : ThreadInMemory) → AreInRange ts → slice_get ts i ≡ Some t → ThreadInRange t
range_at ts i t range at = each_at ts i t range.each at

pub range_set : (ts : List ThreadInMemory) (i : ℕ) (t : ThreadInMemory) → AreInRange ts → ThreadInRange t → AreInRange (slice_set ts i t)
range_set ts i t range work = record { few = omega (arith, range.few, length-set ts i t); each = each_set ts i t range.each work }

-- ---- entries

none_both : {A : Type 0} (b : Bool) (o : Option A) → o ≡ None → cond b o None ≡ None
none_both true o e = e
none_both false o e = refl

none_else : {A : Type 0} (b : Bool) (o : Option A) → b ≡ false → cond b o None ≡ None
none_else true o e = absurd (cc)
none_else false o e = refl

middle_fails : (a b c : Bool) → b ≡ false → (a && b && c) ≡ false
middle_fails true true c e = absurd (cc)
middle_fails true false c e = refl
middle_fails false b c e = refl

module _ (unit : SourceUnit) (w : World) (m : StateInMemory) (s : State) (h : Stands unit w m s) (range : AreInRange m.threads.items) where
  stop_is : (o : Option StopInMemory) → is_some o ≡ true → is_none (option_map stop_view o) ≡ false
  stop_is None e = absurd (cc)
  stop_is (Some stop) e = refl

  first_fails : (a b c : Bool) → a ≡ false → (a && b && c) ≡ false
  first_fails true b c e = absurd (cc)
  first_fails false b c e = refl

  -- a machine that has stopped takes no step
  pub stopped : (k : ℕ) (refused : Bool) → is_some m.stop ≡ true → turn_step unit w.classes s k refused ≡ None
  unfolding turn_step
  stopped k refused is =
      let over : is_none s.stop ≡ false = ap is_none h.stop ∙ stop_is m.stop is in
      none_else (can_step w.classes s k) (step_of unit w.classes s k refused (thread_at s k))
      (first_fails (is_none s.stop) (is_live (thread_at s k)) (not (is_blocked w.classes s k)) over)

  not_stopped : (o : Option StopInMemory) → is_some o ≡ false → option_map stop_view o ≡ None
  not_stopped None e = refl
  not_stopped (Some stop) e = absurd (cc)

  -- a thread that isn't there
  pub not_there : (k : ℕ) (refused : Bool) → thread_at s k ≡ None → turn_step unit w.classes s k refused ≡ None
  unfolding turn_step
  not_there k refused none = none_both (can_step w.classes s k) (step_of unit w.classes s k refused (thread_at s k)) (ap (step_of unit w.classes s k refused) none)

  pub past_the_end : (k : ℕ) (refused : Bool) → length m.threads.items < k → turn_step unit w.classes s k refused ≡ None
  past_the_end zero refused past = absurd (omega (arith, past))
  past_the_end (suc i) refused past = not_there (suc i) refused (missing unit w.classes m.threads.items s.threads i h.threads (omega (arith, past)))

  -- a thread that has ended
  pub ended : (k : ℕ) (refused : Bool) (i : ℕ) (t : ThreadInMemory) → k ≡ suc i → slice_get m.threads.items i ≡ Some t → is_unfinished t.ending ≡ false → turn_step unit w.classes s k refused ≡ None
  unfolding turn_step
  ended k refused i t counted at over =
      let f = found unit w.classes m.threads.items s.threads i t h.threads at in
      let dead : is_live (thread_at s k) ≡ false = ap (λ k. is_live (thread_at s k)) counted ∙ ap is_live f.is ∙ ap is_unfinished f.stands.ending ∙ over in
      none_else (can_step w.classes s k) (step_of unit w.classes s k refused (thread_at s k))
      (middle_fails (is_none s.stop) (is_live (thread_at s k)) (not (is_blocked w.classes s k)) dead)

  last_fails : (a b c : Bool) → c ≡ true → (a && b && not c) ≡ false
  last_fails true true true e = refl
  last_fails true false true e = refl
  last_fails false b true e = refl
  last_fails a b false e = absurd (cc)

  -- a thread that waits
  pub waiting : (k : ℕ) (refused : Bool) → is_blocked w.classes s k ≡ true → turn_step unit w.classes s k refused ≡ None
  unfolding turn_step
  waiting k refused waits =
      none_else (can_step w.classes s k) (step_of unit w.classes s k refused (thread_at s k)) (last_fails (is_none s.stop) (is_live (thread_at s k)) (is_blocked w.classes s k) waits)

  -- where nobody owns a monitor no thread waits
  pub free_unowned : (k : ℕ) → (length m.shared.monitors == 0) ≡ true → false ≡ is_blocked w.classes s k
  free_unowned k none = sym (thread_goes w.classes k s.shared (thread_at s k) (ap (λ (x : Shared). x.monitors) h.shared ∙ nil_from_length m.shared.monitors (eqb-true (length m.shared.monitors) 0 none)))

  -- a thread that isn't there doesn't wait
  pub free_nobody : (k : ℕ) → k ≡ 0 → false ≡ is_blocked w.classes s k
  free_nobody k none = sym (ap (is_blocked w.classes s) none)

  pub free_past : (k : ℕ) → length m.threads.items < k → false ≡ is_blocked w.classes s k
  free_past zero past = absurd (omega (arith, past))
  free_past (suc i) past = sym (ap (is_waiting w.classes (suc i) s.shared) (missing unit w.classes m.threads.items s.threads i h.threads (omega (arith, past))))

  -- one that is there waits as the one in memory does
  pub blocked_as : (k i : ℕ) (t : ThreadInMemory) (classes : Classes) (answer : Bool) → k ≡ suc i → slice_get m.threads.items i ≡ Some t → classes ≡ m.world.now.classes → ThreadWaits classes k (shared_view m.shared) t answer
      → answer ≡ is_blocked w.classes s k
  blocked_as k i t classes answer counted at same tells =
      let f = found unit w.classes m.threads.items s.threads i t h.threads at in
      let here = subst (λ (c : Classes). ThreadWaits c k (shared_view m.shared) t answer) (same ∙ sym (ap (λ (v : World). v.classes) h.world)) tells in
      here unit f.source f.stands (range_at m.threads.items i t range at).work
      ∙ ap (λ (x : Shared). waits w.classes k x f.source) (sym h.shared)
      ∙ sym (ap (is_waiting w.classes k s.shared) (ap (thread_at s) counted ∙ f.is))

  module _ (i : ℕ) (t after : ThreadInMemory) (at : slice_get m.threads.items i ≡ Some t) (live : is_unfinished t.ending ≡ true) (runs : is_some m.stop ≡ false) (free : is_blocked w.classes s (suc i) ≡ false)
      (new : StateInMemory) (world : new.world ≡ m.world) (threads : new.threads.items ≡ slice_set m.threads.items i after) (refused : Bool) where
    the_thread : Found unit w.classes t s.threads i
    the_thread = found unit w.classes m.threads.items s.threads i t h.threads at

    unended : the_thread.source.ending ≡ Unfinished
    unended = the_thread.stands.ending ∙ unfinished t.ending live

    steps_here : Steps w.classes s (suc i) the_thread.source
    steps_here = steps w.classes s (suc i) the_thread.source (h.stop ∙ not_stopped m.stop runs) the_thread.is unended (sym (ap (is_waiting w.classes (suc i) s.shared) the_thread.is) ∙ free)

    abbrev after_it : Shared
    after_it = shared_view new.shared

    step_is : turn_step unit w.classes s (suc i) refused ≡ advanced s (suc i) (thread_step unit w.classes (in_use s) (suc i) (shared_view m.shared) the_thread.source refused)
    step_is =
        step-thread unit w.classes s (suc i) the_thread.source refused steps_here
        ∙ ap (λ (x : Shared). advanced s (suc i) (thread_step unit w.classes (in_use s) (suc i) x the_thread.source refused)) h.shared

    all_stand : (next : Thread) → ThreadStands unit w.classes after next → ThreadsStand unit w.classes new.threads.items (slice_set s.threads i next)
    all_stand next stands = rw threads (changed unit w.classes m.threads.items s.threads i after next h.threads stands)

    same_world : w ≡ new.world.now
    same_world = h.world ∙ ap (λ (b : Bor World). b.now) (sym world)

    same_stop : (o : Option StopInMemory) → new.stop ≡ o → o ≡ m.stop → s.stop ≡ option_map stop_view new.stop
    same_stop o is same = h.stop ∙ ap (option_map stop_view) (sym (is ∙ same))

    by_step : (took : Option Event) → StepIs unit w.classes after_it after took (thread_step unit w.classes (in_use s) (suc i) (shared_view m.shared) the_thread.source refused) → new.printed.items ≡ option_map_or (printed_after m.printed.items (suc i)) took m.printed.items
        → new.stop ≡ option_map_or (stop_after m.stop (suc i)) took m.stop → Leads unit w s (entry.Step (suc i) refused) new (is_some took)
    by_step (Some event.Quiet) l printed stop = (
      with_event (record s { shared = after_it; threads = set_thread s.threads (suc i) l.next }) (suc i) Quiet,
      step_is ∙ ap (advanced s (suc i)) l.advances,
      record { world = same_world; shared = refl; threads = all_stand l.next l.stands; printed = h.printed ∙ sym printed; stop = same_stop m.stop stop refl },
    )
    by_step (Some (event.PrintedNumber z)) l printed stop = (
      with_event (record s { shared = after_it; threads = set_thread s.threads (suc i) l.next }) (suc i) (PrintedNumber z),
      step_is ∙ ap (advanced s (suc i)) l.advances,
      record {
        world = same_world;
        shared = refl;
        threads = all_stand l.next l.stands;
        printed = ap (λ (ps : List Printed). ps ++ record { thread = suc i; number = z } ∷ []) h.printed ∙ sym printed;
        stop = same_stop m.stop stop refl;
      },
    )
    by_step (Some (event.Trapped trap line)) l printed stop = (
      with_event (record s { shared = after_it; threads = set_thread s.threads (suc i) l.next }) (suc i) (Trapped trap line),
      step_is ∙ ap (advanced s (suc i)) l.advances,
      record { world = same_world; shared = refl; threads = all_stand l.next l.stands; printed = h.printed ∙ sym printed; stop = ap (option_map stop_view) (sym stop) },
    )
    by_step None l printed stop = step_is ∙ ap (advanced s (suc i)) l

    takes_at : (took : Option Event) → TakesStep unit w.classes (in_use s) (suc i) refused (shared_view m.shared) t took (shared_view new.shared) after → new.printed.items ≡ option_map_or (printed_after m.printed.items (suc i)) took m.printed.items → new.stop ≡ option_map_or (stop_after m.stop (suc i)) took m.stop
        → Leads unit w s (entry.Step (suc i) refused) new (is_some took)
    takes_at took step printed stop = by_step took (step the_thread.source the_thread.stands unended) printed stop

  -- an entry is possible as far as its thread's step is
  pub takes : (k : ℕ) (refused : Bool) (i : ℕ) (t after : ThreadInMemory) (took : Option Event) (new : StateInMemory) → k ≡ suc i → slice_get m.threads.items i ≡ Some t → is_unfinished t.ending ≡ true
      → is_some m.stop ≡ false → is_blocked w.classes s k ≡ false → TakesStep unit w.classes (in_use s) k refused (shared_view m.shared) t took (shared_view new.shared) after → new.world ≡ m.world → new.threads.items ≡ slice_set m.threads.items i after
      → new.printed.items ≡ option_map_or (printed_after m.printed.items k) took m.printed.items → new.stop ≡ option_map_or (stop_after m.stop k) took m.stop
      → Leads unit w s (entry.Step k refused) new (is_some took)
  takes k refused i t after took new counted at live runs free step world threads printed stop =
      subst (λ n. Leads unit w s (entry.Step n refused) new (is_some took)) (sym counted)
      (takes_at i t after at live runs (ap (is_blocked w.classes s) (sym counted) ∙ free) new world threads refused took (subst (λ n. TakesStep unit w.classes (in_use s) n refused (shared_view m.shared) t took (shared_view new.shared) after) counted step) (printed ∙ ap (λ k. option_map_or (printed_after m.printed.items k) took m.printed.items) counted) (stop ∙ ap (λ k. option_map_or (stop_after m.stop k) took m.stop) counted))

  -- ---- the report

  standing_same : (k : ℕ) (t : ThreadInMemory) (x : Thread) (waits : Bool) → ThreadStands unit w.classes t x → waits ≡ is_blocked w.classes s k → standing_of w.classes s k x s.stop ≡ standing_in w.classes waits m.stop k t
  standing_same k t x waits stands told = λ i. standing_at w.classes (sym told i) (h.stop i) k (stands.ending i)

  abbrev standings_before : ℕ → List ThreadStanding
  standings_before i = take i (standings_of w.classes s)

  -- one standing more
  pub standing_more : (told : List ThreadStanding) (i k : ℕ) (t : ThreadInMemory) (classes : Classes) (waits : Bool) → k ≡ suc i → slice_get m.threads.items i ≡ Some t → classes ≡ m.world.now.classes → waits ≡ is_blocked w.classes s k
      → told ≡ standings_before i → (told ++ standing_in classes waits m.stop k t ∷ []) ≡ standings_before (suc i)
  standing_more told i k t classes waits counted at same blocked before =
      let f = found unit w.classes m.threads.items s.threads i t h.threads at in
      let number : 1 + i ≡ k = omega (arith, counted) in
      let placed : slice_get (enumerate_from 1 s.threads) i ≡ Some (k, f.source) = numbered_at s.threads 1 i f.source f.is ∙ ap (λ (n : ℕ). Some (n, f.source)) number in
      let of : ℕ × Thread → ThreadStanding = λ x. standing_of w.classes s x.0 x.1 s.stop in
      ap (λ (l : List ThreadStanding). l ++ standing_in classes waits m.stop k t ∷ []) before
      ∙ ap (λ (c : Classes). standings_before i ++ standing_in c waits m.stop k t ∷ []) (same ∙ sym (ap (λ (v : World). v.classes) h.world))
      ∙ ap (λ (x : ThreadStanding). standings_before i ++ x ∷ []) (sym (standing_same k t f.source waits f.stands blocked))
      ∙ sym (taken_more (standings_of w.classes s) i (of (k, f.source)) (slice_get-map of (enumerate_from 1 s.threads) i ∙ ap (option_map of) placed))

  -- all of them
  pub standings_all : (told : List ThreadStanding) (i : ℕ) → length m.threads.items ≤ i → told ≡ standings_before i → told ≡ standings_of w.classes s
  standings_all told i past before =
      let of : ℕ × Thread → ThreadStanding = λ x. standing_of w.classes s x.0 x.1 s.stop in
      before ∙ take_all i (standings_of w.classes s) (omega (arith, past, stand_length unit w.classes m.threads.items s.threads h.threads, length-enumerate_from 1 s.threads, length-map (enumerate_from 1 s.threads) of))

  -- the report of the state is written from the state in memory
  pub report_same : (standings : List ThreadStatus) (rows : List ShownRow) → map standing_view standings ≡ standings_of w.classes s → rows ≡ (report w s).objects → report w s ≡ report_with m.printed.items standings rows
  unfolding report
  report_same standings rows is shows =
      rw (shows, sym is, h.printed) refl
