-- What a turn changes of what is known of a machine.
use Rattle.std.proofs.Common.{◌≡◌, ◌≢◌, ℕ, zero, suc, ◌+◌, ◌<◌, ◌==◌, List, [], ◌∷◌, ◌++◌, length, map, Option, Some, None, Result, Ok, Err, IfOk, OnErr, true, false, refl, sym, ap, ◌∙◌, subst, ⊎_elim, arith, eq-eqb, length-append}
use Rattle.std.specs.Prelude.{slice_get, ℤ, Bool, IsSome, is_some, not, ◌||◌}
use Rattle.std.specs.List.{filter, list_all, enumerate_from}
use Rattle.std.specs.Option.{option_map, option_map_or, option_and_then}
use Rattle.std.proofs.lemmas.Bool.{false≢true, le-leb, and_left, and_right, both_ways, lt-leb}
use Rattle.std.proofs.lemmas.List.Elements.{filter-append, filter_more}
use Rattle.std.proofs.lemmas.List.{map-append}
use Rattle.std.proofs.lemmas.Option.{slice_get_past, same_Some}
use Rattle.std.proofs.Common.{take, cond, if◌then◌else◌, get_or}
use Rattle.syntax.specs.Views.{unit_tree}
use Rattle.class_rules.specs.Class.{Classes}
use Rattle.semantics.specs.declared.printed.Printed.{Printed}
use Rattle.semantics.specs.Journal.{Entry, Step, is_step_of, steps_in}
use Rattle.semantics.specs.Start.{start}
use Rattle.semantics.specs.State.{State, thread_at}
use Rattle.semantics.specs.AccountLaws.{Prints}
use Rattle.semantics.specs.Step.{can_step, is_unfinished, is_live, is_blocked, turn_step}
use Rattle.semantics.specs.declared.event.Ending.{Ending}
use Rattle.semantics.specs.declared.event.Ending.TheVariants.{Unfinished}
use Rattle.semantics.specs.Thread.{Thread}
use Rattle.semantics.specs.Run.{replay_from, account_at, entries_of, ending_of}
use Rattle.semantics.specs.WeakReferences.{with_cleared}
use Rattle.semantics.proofs.RunLaws.{replay_from-append}
use Rattle.semantics.proofs.AccountLaws.{others_stay, steps_print}
use Rattle.machine.specs.declared.turn.Turn.{Turn}
use Rattle.machine.specs.declared.turn.Turn.TheVariants.{Stopped, Ended, Blocked, Full, Short, Stepped}
use Rattle.machine.specs.Run.{Run, TurnHolds, CouldStep, replay_of, PrintedBy}
use Rattle.machine.proofs.Runs.{AddsStep, did_add, refused_add, with_entries}
use Rattle.machine.proofs.Steps.{can_parts}
use Rattle.shared_passes.specs.declared.view.Fate.{Fate}
use Rattle.shared_passes.specs.Tokens.{nothing, none, IsWithin}
use Rattle.shared_accounts.specs.Accounts.{account_of, account_view, taken, EndsSo, fate_of, fate_at, all_wait, kept_after, numbers_of, more_of, number_at}
use Rattle.shared_accounts.proofs.Clearings.{account_cleared, before_step, entries_cleared, last_entry, led_before, fate_in}

-- ---- the entry of a step

-- An answer that is no step leaves the run as it was; a step is an entry of a thread that can step, after a clearing where one is due.
pub data Change (old : Run) (k : ℕ) (new : Run) : Type 0 where
  Same : new ≡ old → Change old k new
  More : (b : Bool) → AddsStep old k b new → CouldStep old k → Change old k new

changed : (old new : Run) (k : ℕ) (answer : Turn) → TurnHolds old k new answer → Change old k new
changed old new k Stopped h = Same h.0
changed old new k Ended h = Same h.0
changed old new k (Blocked all) h = Same h.0
changed old new k Full h = Same h.0
changed old new k Short h = More true (refused_add old new k h) h.0
changed old new k Stepped h = More false (did_add old new k h) h.0

pub change : {E : Type 0} (old new : Run) (k : ℕ) (result : Result Turn E) → IfOk result (TurnHolds old k new) → OnErr result ((new ≡ old) × CouldStep old k) → Change old k new
change old new k (Ok answer) h e = changed old new k answer h
change old new k (Err x) h e = Same e.0

-- ---- the accounts

-- the run right before a step has a state
runs_before : (r new : Run) (k : ℕ) (b : Bool) (a : AddsStep r k b new) → IsSome (replay_of (before_step r new k b a))
runs_before r new k b a = rw (led_before r new k b a) refl

-- a step of a thread changes no other thread's account
account_else : (r new : Run) (k j : ℕ) (b : Bool) → AddsStep r k b new → IsSome (replay_of new) → j ≢ k → account_of new j ≡ account_of r j
account_else r new k j b a runs apart =
    let between : Run = before_step r new k b a in
    let is : new ≡ with_entries between new (Step k b ∷ []) = last_entry r new k b a in
    ap (λ (x : Run). account_of x j) is
    ∙ ap (λ o. option_map_or account_view o nothing)
    (others_stay (unit_tree r.unit) r.world between.journal k b j (subst (λ (x : Run). IsSome (replay_of x)) is runs) apart)
    ∙ account_cleared r a.cleared j (runs_before r new k b a)

pub others : (old new : Run) (k : ℕ) → Change old k new → IsSome (replay_of new) → (j : ℕ) → j ≢ k → account_of new j ≡ account_of old j
others old new k (Same e) runs j apart = ap (λ (r : Run). account_of r j) e
others old new k (More b a could) runs j apart = account_else old new k j b a runs apart

pub same_world : (old new : Run) (k : ℕ) → Change old k new → new.world ≡ old.world
same_world old new k (Same e) = ap (λ (r : Run). r.world) e
same_world old new k (More b a could) = ap (λ (r : Run). r.world) a.is

pub same_unit : (old new : Run) (k : ℕ) → Change old k new → new.unit ≡ old.unit
same_unit old new k (Same e) = ap (λ (r : Run). r.unit) e
same_unit old new k (More b a could) = ap (λ (r : Run). r.unit) a.is

-- ---- what is kept

-- one for which it doesn't hold
one_not : {A : Type 0} (p : ℕ × A → Bool) (xs : List A) (n i : ℕ) (x : A) → slice_get xs i ≡ Some x → p (n + i, x) ≡ false → list_all p (enumerate_from n xs) ≡ false
one_not p [] n i x at h = absurd (cc)
one_not p (y ∷ xs) n zero x at h =
    let same : y ≡ x = cc in
    let here : n ≡ n + 0 = omega arith in
    and_left (p (n, y)) _ (subst (λ (q : ℕ × _). p q ≡ false) (λ j. (sym here j, sym same j)) h)
one_not p (y ∷ xs) n (suc i) x at h =
    let there : n + suc i ≡ (n + 1) + i = omega arith in
    and_right (p (n, y)) _ (one_not p xs (n + 1) i x at (subst (λ m. p (m, x) ≡ false) there h))

-- where a thread can step, not all wait
not_all : (classes : Classes) (s : State) (k : ℕ) → can_step classes s k ≡ true → all_wait classes s ≡ false
not_all classes s k h = go k (can_parts classes s k h)
  where
    go : (k : ℕ) → (is_some s.stop ≡ false) × (is_live (thread_at s k) ≡ true) × (is_blocked classes s k ≡ false) → all_wait classes s ≡ false
    go zero p = absurd (false≢true p.1)
    go (suc i) p = at (slice_get s.threads i) refl p.1
      where
        at : (o : Option Thread) → slice_get s.threads i ≡ o → is_live o ≡ true → all_wait classes s ≡ false
        at None is live = absurd (false≢true live)
        at (Some t) is live =
            let e : 1 + i ≡ suc i = omega arith in
            one_not (λ (t : ℕ × Thread). not (is_unfinished t.1.ending) || is_blocked classes s t.0) s.threads 1 i t is (rw live (ap (is_blocked classes s) e ∙ p.2))

-- where a step is taken, nothing was kept that held
none_kept : (r : Run) (k : ℕ) → CouldStep r k → (kept : Fate) → IsWithin kept (fate_of r) → (any : Fate) → IsWithin kept any
none_kept r k could kept w any =
    let s = could.1.0 in
    let fate : fate_of r ≡ fate_at r s = ap (λ o. option_map_or (fate_at r) o none) could.1.1 in
    let w' = subst (IsWithin kept) fate w in (
      (λ h. absurd (both_ways _ (can_parts r.world.classes s k could.1.2).0 (w'.0 h))),
      (λ h. absurd (both_ways _ (not_all r.world.classes s k could.1.2) (w'.1 h))),
      (λ h. absurd (both_ways _ (lt-leb 1000000 (steps_in r.journal) could.0) (w'.2 h))),
    )

pub kept_on : (old new : Run) (k : ℕ) → Change old k new → (kept : Fate) → IsWithin kept (fate_of old) → IsWithin kept (fate_of new)
kept_on old new k (Same e) kept w = subst (λ (r : Run). IsWithin kept (fate_of r)) (sym e) w
kept_on old new k (More b a could) kept w = none_kept old k could kept w (fate_of new)

-- what a seat keeps of the answer holds
pub kept_now : {E : Type 0} (old new : Run) (k : ℕ) (result : Result Turn E) → IfOk result (TurnHolds old k new) → OnErr result ((new ≡ old) × CouldStep old k) → (kept : Fate) → IsWithin kept (fate_of old) → IsWithin (kept_after kept result) (fate_of new)
kept_now old new k (Ok Stopped) h e kept w =
    let w' = subst (λ (r : Run). IsWithin kept (fate_of r)) (sym h.0) w in
    ((λ _. ap (λ (r : Run). (fate_of r).stopped) h.0 ∙ ap (λ (f : Fate). f.stopped) (fate_in old h.1.0 h.1.1) ∙ h.1.2), w'.1, w'.2)
kept_now old new k (Ok (Blocked true)) h e kept w =
    let w' = subst (λ (r : Run). IsWithin kept (fate_of r)) (sym h.0) w in
    let waits = h.1.2 in
    let all : all_wait old.world.classes h.1.0 ≡ true = sym (ap (λ o. is_some o || all_wait old.world.classes h.1.0) waits.running) ∙ sym waits.others in
    (w'.0, (λ _. ap (λ (r : Run). (fate_of r).waits) h.0 ∙ ap (λ (f : Fate). f.waits) (fate_in old h.1.0 h.1.1) ∙ all), w'.2)
kept_now old new k (Ok Full) h e kept w =
    let w' = subst (λ (r : Run). IsWithin kept (fate_of r)) (sym h.0) w in
    (w'.0, w'.1, (λ _. ap (λ (r : Run). (fate_of r).full) h.0 ∙ ap (λ (f : Fate). f.full) (fate_in old h.2.0 h.2.1) ∙ le-leb 1000000 (steps_in old.journal) h.1))
kept_now old new k (Ok (Blocked false)) h e kept w = subst (λ (r : Run). IsWithin kept (fate_of r)) (sym h.0) w
kept_now old new k (Ok Ended) h e kept w = subst (λ (r : Run). IsWithin kept (fate_of r)) (sym h.0) w
kept_now old new k (Ok Short) h e kept w = kept_on old new k (changed old new k Short h) kept w
kept_now old new k (Ok Stepped) h e kept w = kept_on old new k (changed old new k Stepped h) kept w
kept_now old new k (Err x) h e kept w = subst (λ (r : Run). IsWithin kept (fate_of r)) (sym e.0) w

-- ---- what is printed

-- the state after a step, from the one right before it
after_step : (r new : Run) (k : ℕ) (b : Bool) (s s' : State) → replay_of r ≡ Some s → replay_of (with_entries r new (Step k b ∷ [])) ≡ Some s'
    → turn_step (unit_tree r.unit) r.world.classes s k b ≡ Some s'
after_step r new k b s s' h h' =
    one (turn_step (unit_tree r.unit) r.world.classes s k b)
    (sym
    (replay_from-append (unit_tree r.unit) r.world (start (unit_tree r.unit) r.world) r.journal (Step k b ∷ [])
    ∙ ap (option_and_then (λ x. replay_from (unit_tree r.unit) r.world x (Step k b ∷ []))) h)
    ∙ h')
  where
    one : (o : Option State) → option_and_then (λ x. replay_from (unit_tree r.unit) r.world x []) o ≡ Some s' → o ≡ Some s'
    one None e = absurd (cc)
    one (Some x) e = e

number_there : (xs : List Printed) (p : Printed) → slice_get (xs ++ p ∷ []) (length xs) ≡ Some p
number_there [] p = refl
number_there (x ∷ xs) p = number_there xs p

numbers_end : (xs : List Printed) (k : ℕ) (z : ℤ) → numbers_of (xs ++ record { thread = k; number = z } ∷ []) k ≡ numbers_of xs k ++ z ∷ []
numbers_end xs k z =
    let one : filter (λ (p : Printed). p.thread == k) (record { thread = k; number = z } ∷ []) ≡ record { thread = k; number = z } ∷ [] = (let e : (k == k) ≡ true = eq-eqb k k refl in rw e refl) in
    ap (map (λ (p : Printed). p.number)) (filter-append (λ (p : Printed). p.thread == k) xs _ ∙ ap (λ l. filter (λ (p : Printed). p.thread == k) xs ++ l) one) ∙ map-append (λ (p : Printed). p.number) (filter (λ (p : Printed). p.thread == k) xs) _

-- the lines after a step print, of a state and the one after it
lines_after : (s s' : State) (k : ℕ) → Prints s k s' → numbers_of s'.printed k ≡ more_of (numbers_of s.printed k) (number_at s'.printed (length s.printed))
lines_after s s' k p =
    ⊎_elim
    (λ (none : s'.printed ≡ s.printed). ap (λ l. numbers_of l k) none ∙ ap (λ o. more_of (numbers_of s.printed k) (option_map (λ (p : Printed). p.number) o)) (sym (ap (λ l. slice_get l (length s.printed)) none ∙ slice_get_past s.printed (length s.printed) (omega arith))))
    (λ (one : (z : ℤ) × (s'.printed ≡ s.printed ++ record { thread = k; number = z } ∷ [])).
    ap (λ l. numbers_of l k) one.1 ∙ numbers_end s.printed k one.0
    ∙ ap (λ o. more_of (numbers_of s.printed k) (option_map (λ (p : Printed). p.number) o)) (sym (ap (λ l. slice_get l (length s.printed)) one.1 ∙ number_there s.printed (record { thread = k; number = one.0 }))))
    p

-- a clearing prints nothing
step_prints : (old new : Run) (k : ℕ) (b : Bool) (a : AddsStep old k b new) (s' : State) → replay_of new ≡ Some s' → Prints a.state k s'
step_prints old new k b a s' h' =
    let between : Run = before_step old new k b a in
    steps_print (unit_tree old.unit) old.world.classes (with_cleared a.cleared a.state) s' k b
    (after_step between new k b (with_cleared a.cleared a.state) s' (led_before old new k b a)
    (subst (λ (r : Run). replay_of r ≡ Some s') (last_entry old new k b a) h'))

printed_more : (old new : Run) (k : ℕ) → Change old k new → (s s' : State) → replay_of old ≡ Some s → replay_of new ≡ Some s'
    → numbers_of s'.printed k ≡ more_of (numbers_of s.printed k) (number_at s'.printed (length s.printed))
printed_more old new k (Same e) s s' h h' =
    let same : s' ≡ s = same_Some s' s (sym h' ∙ ap replay_of e ∙ h) in
    ap (λ (x : State). numbers_of x.printed k) same ∙ ap (λ o. more_of (numbers_of s.printed k) (option_map (λ (p : Printed). p.number) o)) (sym (ap (λ (x : State). slice_get x.printed (length s.printed)) same ∙ slice_get_past s.printed (length s.printed) (omega arith)))
printed_more old new k (More b a could) s s' h h' =
    let same : a.state ≡ s = same_Some a.state s (sym a.replays ∙ h) in
    lines_after s s' k (subst (λ (x : State). Prints x k s') same (step_prints old new k b a s' h'))

-- what a thread has printed, by its account
pub printed_in : (r : Run) (k : ℕ) (s : State) → replay_of r ≡ Some s → (account_of r k).printed ≡ numbers_of s.printed k
printed_in r k s h = ap (λ o. (option_map_or account_view (option_map (account_at r.journal k) o) nothing).printed) h

pub lines_follow : (old new : Run) (k : ℕ) → Change old k new → (before after : List Printed) → PrintedBy old before → PrintedBy new after → (lines : List ℤ) → (account_of old k).printed ≡ lines
    → (account_of new k).printed ≡ more_of lines (number_at after (length before))
lines_follow old new k c before after p q lines h =
    printed_in new k q.0 q.1 ∙ printed_more old new k c p.0 q.0 p.1 q.1
    ∙ (λ i. more_of ((sym (printed_in old k p.0 p.1) ∙ h) i) (number_at ((sym q.2) i) (length ((sym p.2) i))))

-- ---- how many entries, and the end

entries_in : (r : Run) (k : ℕ) → IsSome (replay_of r) → (account_of r k).entries ≡ entries_of r.journal k
entries_in r k some = go (replay_of r) refl some
  where
    go : (o : Option State) → replay_of r ≡ o → IsSome o → (account_of r k).entries ≡ entries_of r.journal k
    go None h none = absurd (false≢true none)
    go (Some s) h some = ap (λ o. (option_map_or account_view (option_map (account_at r.journal k) o) nothing).entries) h

one_entry : (journal : List Entry) (k : ℕ) (b : Bool) → entries_of (journal ++ Step k b ∷ []) k ≡ entries_of journal k + 1
one_entry journal k b =
    let one : filter (is_step_of k) (Step k b ∷ []) ≡ Step k b ∷ [] = (let e : (k == k) ≡ true = eq-eqb k k refl in rw e refl) in
    ap length (filter-append (is_step_of k) journal (Step k b ∷ [])) ∙ length-append (filter (is_step_of k) journal) _ ∙ ap (λ l. entries_of journal k + length l) one

more_entries : (old new : Run) (k : ℕ) (b : Bool) → AddsStep old k b new → CouldStep old k → IsSome (replay_of new)
    → (account_of new k).entries ≡ (account_of old k).entries + 1
more_entries old new k b a could runs =
    entries_in new k runs ∙ ap (λ (r : Run). entries_of r.journal k) (last_entry old new k b a) ∙ one_entry (before_step old new k b a).journal k b
    ∙ ap (λ n. n + 1) (entries_cleared old.journal a.cleared k ∙ sym (entries_in old k (rw could.1.1 refl)))

as_many : (n m : ℕ) → n ≡ m → n ≡ m + 0
as_many n m h = omega arith

pub entries_turn : {E : Type 0} (old new : Run) (k : ℕ) (result : Result Turn E) → IfOk result (TurnHolds old k new) → OnErr result ((new ≡ old) × CouldStep old k) → IsSome (replay_of new) → (account_of new k).entries ≡ (account_of old k).entries + taken result
entries_turn old new k (Ok Stopped) h e runs = as_many _ _ (ap (λ (r : Run). (account_of r k).entries) h.0)
entries_turn old new k (Ok Ended) h e runs = as_many _ _ (ap (λ (r : Run). (account_of r k).entries) h.0)
entries_turn old new k (Ok (Blocked all)) h e runs = as_many _ _ (ap (λ (r : Run). (account_of r k).entries) h.0)
entries_turn old new k (Ok Full) h e runs = as_many _ _ (ap (λ (r : Run). (account_of r k).entries) h.0)
entries_turn old new k (Ok Short) h e runs = more_entries old new k true (refused_add old new k h) h.0 runs
entries_turn old new k (Ok Stepped) h e runs = more_entries old new k false (did_add old new k h) h.0 runs
entries_turn old new k (Err x) h e runs = as_many _ _ (ap (λ (r : Run). (account_of r k).entries) e.0)

ending_in : (r : Run) (k : ℕ) (s : State) → replay_of r ≡ Some s → (account_of r k).ending ≡ ending_of s k
ending_in r k s h = ap (λ o. (option_map_or account_view (option_map (account_at r.journal k) o) nothing).ending) h

pub ended_turn : {E : Type 0} (old new : Run) (k : ℕ) (result : Result Turn E) → IfOk result (TurnHolds old k new) → IfOk result (EndsSo (account_of new k))
ended_turn old new k (Ok Ended) h =
    let s = h.1.0 in
    let end = h.1.2 in
    let ends : ending_of s k ≡ end.thread.ending = ap (λ o. option_map_or (λ (t : Thread). t.ending) o Unfinished) end.is in
    ap (λ (r : Run). is_unfinished (account_of r k).ending) h.0 ∙ ap is_unfinished (ending_in old k s h.1.1) ∙ ap is_unfinished ends ∙ end.ended
ended_turn old new k (Ok Stopped) h = tt
ended_turn old new k (Ok (Blocked all)) h = tt
ended_turn old new k (Ok Full) h = tt
ended_turn old new k (Ok Short) h = tt
ended_turn old new k (Ok Stepped) h = tt
ended_turn old new k (Err x) h = tt
