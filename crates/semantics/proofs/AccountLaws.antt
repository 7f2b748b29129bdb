-- A step is of a thread that can step, prints at most one number, and changes no other thread's part.
use Rattle.std.proofs.Common.{◌≡◌, ◌≢◌, ℕ, zero, suc, Bool, true, false, List, [], ◌∷◌, ◌++◌, length, map, Option, Some, None, refl, sym, ap, ◌∙◌, subst, inl, inr}
use Rattle.std.specs.Prelude.{◌==◌, ◌&&◌, not, is_none, IsSome, slice_get, if◌then◌else◌, ◌⊎◌}
use Rattle.std.specs.List.{filter}
use Rattle.std.specs.Option.{option_map, option_and_then, option_map_or}
use Rattle.std.proofs.lemmas.Bool.{false≢true, and_parts, not-true}
use Rattle.std.proofs.lemmas.Bool.Decides.{eqb_tells}
use Rattle.std.proofs.lemmas.List.{append-nil}
use Rattle.std.proofs.lemmas.List.Elements.{filter-append}
use Rattle.base.proofs.Lists.{get_set_other}
use Rattle.syntax.specs.Tree.{SourceUnit}
use Rattle.class_rules.specs.Class.{Classes}
use Rattle.semantics.specs.declared.printed.Printed.{Printed}
use Rattle.semantics.specs.Journal.{Step, Journal, is_step_of}
use Rattle.semantics.specs.World.{World}
use Rattle.semantics.specs.AccountLaws.{OthersStay, StepsMay, StepsPrint, Prints}
use Rattle.semantics.specs.Run.{replay, replay_from, account_at, entries_of, printed_by, ending_of}
use Rattle.semantics.specs.Start.{start}
use Rattle.semantics.specs.State.{State, Stop, thread_at, set_thread, in_use, advanced, with_event}
use Rattle.semantics.specs.Step.{is_blocked, is_live, can_step, step_of, turn_step}
use Rattle.semantics.specs.Thread.{Thread, Shared, Advance, Advances, NoAdvance}
use Rattle.semantics.specs.declared.event.Ending.TheVariants.{Unfinished}
use Rattle.semantics.specs.declared.event.Event.{Event}
use Rattle.semantics.specs.declared.event.Event.TheVariants.{Quiet, PrintedNumber, Trapped}
use Rattle.semantics.specs.ThreadStep.{thread_step}
use Rattle.semantics.proofs.RunLaws.{replay_from-append}

-- ---- that it can step

no_stop : (stop : Option Stop) → is_none stop ≡ true → stop ≡ None
no_stop None h = refl
no_stop (Some stop) h = absurd (false≢true h)

tested : (b : Bool) (after : Option State) (next : State) → (if b then after else None) ≡ Some next → (b ≡ true) × (after ≡ Some next)
tested true after next h = (refl, h)
tested false after next h = let bad : None ≡ Some next = h in absurd (cc)

pub may_step : StepsMay
unfolding turn_step
may_step unit classes s next k refused h =
    let can = (tested (can_step classes s k) (step_of unit classes s k refused (thread_at s k)) next h).0 in
    let parts = and_parts (is_none s.stop && is_live (thread_at s k)) (not (is_blocked classes s k)) can in
    let first = and_parts (is_none s.stop) (is_live (thread_at s k)) parts.0 in
    record { running = no_stop s.stop first.0; live = first.1; free = not-true (is_blocked classes s k) parts.1 }

-- ---- what it leaves

-- the state after a step of thread k: its own place among the threads, what is shared, and one event
record Stepped (s : State) (k : ℕ) (next : State) : Type 0 where
  shared : Shared
  thread : Thread
  event : Event
  is : next ≡ with_event (record s { shared = shared; threads = set_thread s.threads k thread }) k event

moved : (s next : State) (k : ℕ) (a : Advance) → advanced s k a ≡ Some next → Stepped s k next
moved s next k (Advances shared t event) h = record { shared = shared; thread = t; event = event; is = cc (h) }
moved s next k NoAdvance h = let bad : None ≡ Some next = h in absurd (cc)

stepped : (unit : SourceUnit) (classes : Classes) (s next : State) (k : ℕ) (refused : Bool) (o : Option Thread) → step_of unit classes s k refused o ≡ Some next → Stepped s k next
stepped unit classes s next k refused None h = let bad : None ≡ Some next = h in absurd (cc)
stepped unit classes s next k refused (Some t) h = moved s next k (thread_step unit classes (in_use s) k s.shared t refused) h

by_step : (unit : SourceUnit) (classes : Classes) (s next : State) (k : ℕ) (refused : Bool) → turn_step unit classes s k refused ≡ Some next → Stepped s k next
unfolding turn_step
by_step unit classes s next k refused h =
    stepped unit classes s next k refused (thread_at s k) (tested (can_step classes s k) (step_of unit classes s k refused (thread_at s k)) next h).1

-- what it prints
prints : (s base next : State) (k : ℕ) (event : Event) → base.printed ≡ s.printed → next ≡ with_event base k event → Prints s k next
prints s base next k Quiet same is = inl (ap (λ (x : State). x.printed) is ∙ same)
prints s base next k (PrintedNumber z) same is = inr (z, ap (λ (x : State). x.printed) is ∙ ap (λ l. l ++ record { thread = k; number = z } ∷ []) same)
prints s base next k (Trapped trap line) same is = inl (ap (λ (x : State). x.printed) is ∙ same)

pub steps_print : StepsPrint
steps_print unit classes s next k refused h =
    let step : Stepped s k next = by_step unit classes s next k refused h in
    prints s (record s { shared = step.shared; threads = set_thread s.threads k step.thread }) next k step.event refl step.is

differ : (k other : ℕ) → other ≢ k → (k == other) ≡ false
differ k other ne = go (eqb_tells k other)
  where
    go : (((k == other) ≡ true) × (k ≡ other)) ⊎ (((k == other) ≡ false) × (k ≢ other)) → (k == other) ≡ false
    go (inl same) = absurd (ne (sym same.1))
    go (inr apart) = apart.0

-- a last element that is left out
pub left_out : {X : Type 0} (p : X → Bool) (xs : List X) (x : X) → p x ≡ false → filter p (xs ++ x ∷ []) ≡ filter p xs
left_out p xs x h =
    let last : filter p (x ∷ []) ≡ [] = rw h refl in
    filter-append p xs (x ∷ []) ∙ ap (λ l. filter p xs ++ l) last ∙ append-nil (filter p xs)

module _ (s : State) (k other : ℕ) (ne : other ≢ k) where
  same_printed : (shared : Shared) (threads : List Thread) (event : Event) → printed_by (with_event (record s { shared = shared; threads = threads }) k event) other ≡ printed_by s other
  same_printed shared threads Quiet = refl
  same_printed shared threads (PrintedNumber z) =
      ap (map (λ (p : Printed). p.number)) (left_out (λ (p : Printed). p.thread == other) s.printed (record { thread = k; number = z }) (differ k other ne))
  same_printed shared threads (Trapped trap line) = refl

  same_threads : (shared : Shared) (threads : List Thread) (event : Event) → (with_event (record s { shared = shared; threads = threads }) k event).threads ≡ threads
  same_threads shared threads Quiet = refl
  same_threads shared threads (PrintedNumber z) = refl
  same_threads shared threads (Trapped trap line) = refl

abbrev thread_of : List Thread → ℕ → Option Thread
thread_of threads zero = None
thread_of threads (suc i) = slice_get threads i

same_thread : (threads : List Thread) (k other : ℕ) (t : Thread) → other ≢ k → thread_of (set_thread threads k t) other ≡ thread_of threads other
same_thread threads k zero t ne = refl
same_thread threads zero (suc i) t ne = refl
same_thread threads (suc j) (suc i) t ne = get_set_other threads j i t (λ e. ne (ap suc e))

thread_is : (s : State) (k : ℕ) → thread_at s k ≡ thread_of s.threads k
thread_is s zero = refl
thread_is s (suc i) = refl

same_account : (unit : SourceUnit) (w : World) (journal : Journal) (k : ℕ) (refused : Bool) (other : ℕ) → other ≢ k → (s next : State) → turn_step unit w.classes s k refused ≡ Some next
    → account_at (journal ++ Step k refused ∷ []) other next ≡ account_at journal other s
same_account unit w journal k refused other ne s next h =
    let step : Stepped s k next = by_step unit w.classes s next k refused h in
    let threads = set_thread s.threads k step.thread in
    let entries : entries_of (journal ++ Step k refused ∷ []) other ≡ entries_of journal other = ap length (left_out (is_step_of other) journal (Step k refused) (differ k other ne)) in
    let printed : printed_by next other ≡ printed_by s other = ap (λ (x : State). printed_by x other) step.is ∙ same_printed s k other ne step.shared threads step.event in
    let there : thread_at next other ≡ thread_at s other =
    thread_is next other ∙ ap (λ (x : State). thread_of x.threads other) step.is ∙ ap (λ (ts : List Thread). thread_of ts other) (same_threads s k other ne step.shared threads step.event)
    ∙ same_thread s.threads k other step.thread ne ∙ sym (thread_is s other) in
    let ending : ending_of next other ≡ ending_of s other = ap (λ (o : Option Thread). option_map_or (λ (t : Thread). t.ending) o Unfinished) there in
    rw (entries, printed, ending) refl

pub others_stay : OthersStay
others_stay unit w journal k refused other some ne =
    let split = replay_from-append unit w (start unit w) journal (Step k refused ∷ []) in
    ap (option_map (account_at (journal ++ Step k refused ∷ []) other)) split ∙ before (replay unit w journal) (subst (λ (o : Option State). IsSome o) split some)
  where
    last : (s : State) (o : Option State) → turn_step unit w.classes s k refused ≡ o → IsSome (option_and_then (λ s'. replay_from unit w s' []) o)
        → option_map (account_at (journal ++ Step k refused ∷ []) other) (option_and_then (λ s'. replay_from unit w s' []) o) ≡ Some (account_at journal other s)
    last s None is h = absurd (false≢true h)
    last s (Some next) is h = ap Some (same_account unit w journal k refused other ne s next is)

    before : (o : Option State) → IsSome (option_and_then (λ s. replay_from unit w s (Step k refused ∷ [])) o)
        → option_map (account_at (journal ++ Step k refused ∷ []) other) (option_and_then (λ s. replay_from unit w s (Step k refused ∷ [])) o) ≡ option_map (account_at journal other) o
    before None h = absurd (false≢true h)
    before (Some s) h = last s (turn_step unit w.classes s k refused) refl h
