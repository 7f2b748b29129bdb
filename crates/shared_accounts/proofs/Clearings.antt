-- A clearing of weak references changes nothing that is known of a run: no thread's account, and not whether each of them waits.
use Rattle.std.proofs.Common.{◌≡◌, ℕ, ◌+◌, Bool, List, [], ◌∷◌, ◌++◌, length, Option, Some, None, refl, sym, ap, ◌∙◌, subst, append_assoc, append-nil, ◌⊎◌, inl, inr}
use Rattle.std.specs.Prelude.{IsSome, is_some, not, ◌||◌, nat_le}
use Rattle.std.specs.List.{list_all, enumerate_from}
use Rattle.std.specs.Option.{option_map_or}
use Rattle.base.specs.Limits.{most_entries}
use Rattle.syntax.specs.Views.{unit_tree}
use Rattle.semantics.specs.Journal.{Clearing, Journal, Step, is_step_of}
use Rattle.semantics.specs.Run.{account, entries_of, replay}
use Rattle.semantics.specs.State.{State}
use Rattle.semantics.specs.Step.{is_blocked, is_unfinished}
use Rattle.semantics.specs.Thread.{Thread}
use Rattle.semantics.specs.WeakReferences.{lost, with_cleared}
use Rattle.semantics.proofs.AccountLaws.{left_out}
use Rattle.semantics.proofs.WeakLaws.{clearings_stay}
use Rattle.machine_collections.specs.Clearing.{clearing_of}
use Rattle.machine_collections.proofs.ClearedRuns.{replays_cleared, replays_with, same_state, steps_cleared}
use Rattle.machine_collections.proofs.KeptSources.{not_kept_clears}
use Rattle.machine.specs.Run.{Run, HasBlock, IsCollected, IsSliced, IsSlicedBy, MarkingEnds, replay_of}
use Rattle.machine.proofs.Runs.{AddsStep, with_entries}
use Rattle.shared_passes.specs.Tokens.{nothing, none}
use Rattle.shared_accounts.specs.Accounts.{account_of, account_view, accounts_of, fate_at, fate_of, known_of, table_of}

-- the run with a clearing more, if anything is cleared
abbrev pub with_clearing : Run → List ℕ → Run
with_clearing r names = record r { journal = r.journal ++ clearing_of names }

-- each thread's account is the one before
pub account_cleared : (r : Run) (names : List ℕ) (k : ℕ) → IsSome (replay_of (with_clearing r names)) → account_of (with_clearing r names) k ≡ account_of r k
account_cleared r [] k runs = ap (λ (j : Journal). option_map_or account_view (account (unit_tree r.unit) r.world j k) nothing) (append-nil r.journal)
account_cleared r (n ∷ names) k runs = ap (λ o. option_map_or account_view o nothing) (clearings_stay (unit_tree r.unit) r.world r.journal (n ∷ names) k runs)

-- it has as many steps
pub entries_cleared : (journal : Journal) (names : List ℕ) (k : ℕ) → entries_of (journal ++ clearing_of names) k ≡ entries_of journal k
entries_cleared journal [] k = ap (λ (j : Journal). entries_of j k) (append-nil journal)
entries_cleared journal (n ∷ names) k = ap length (left_out (is_step_of k) journal (Clearing (n ∷ names)) refl)

-- ---- before a step

-- the run as it was right before a step
abbrev pub before_step : (r new : Run) (k : ℕ) (b : Bool) → AddsStep r k b new → Run
before_step r new k b a = with_clearing r a.cleared

-- the step is the last entry
pub last_entry : (r new : Run) (k : ℕ) (b : Bool) (a : AddsStep r k b new) → new ≡ with_entries (before_step r new k b a) new (Step k b ∷ [])
last_entry r new k b a =
    a.is ∙ ap (λ (j : Journal). let x : Run = record r { journal = j; layout = new.layout; slices = new.slices } in x) (sym (append_assoc r.journal (clearing_of a.cleared) (Step k b ∷ [])))

-- and the state right before it is the one before the clearing, but for what was cleared
pub led_before : (r new : Run) (k : ℕ) (b : Bool) (a : AddsStep r k b new) → replay_of (before_step r new k b a) ≡ Some (with_cleared a.cleared a.state)
led_before r new k b a = by_which a.which
  where
    by_which : (a.cleared ≡ []) ⊎ (a.cleared ≡ lost r.world a.state) → replay_of (with_clearing r a.cleared) ≡ Some (with_cleared a.cleared a.state)
    by_which (inl e) =
        subst (λ (l : List ℕ). replay_of (with_clearing r l) ≡ Some (with_cleared l a.state)) (sym e)
        (ap (replay (unit_tree r.unit) r.world) (append-nil r.journal) ∙ a.replays ∙ ap (λ (s : State). Some s) (sym (same_state a.state)))
    by_which (inr e) =
        subst (λ (l : List ℕ). replay_of (with_clearing r l) ≡ Some (with_cleared l a.state)) (sym e)
        (replays_cleared (unit_tree r.unit) r.world r.journal a.state a.replays)

-- ---- collections

pub fate_in : (r : Run) (s : State) → replay_of r ≡ Some s → fate_of r ≡ fate_at r s
fate_in r s h = ap (λ o. option_map_or (fate_at r) o none) h

module _ (old new : Run) (s : State) (names : List ℕ) (slices : Option ℕ)
    (same : new ≡ record old { journal = old.journal ++ clearing_of names; layout = new.layout; slices = slices })
    (was : replay_of old ≡ Some s) (led : replay (unit_tree old.unit) old.world (old.journal ++ clearing_of names) ≡ Some (with_cleared names s))
    (waits : (k : ℕ) → is_blocked old.world.classes (with_cleared names s) k ≡ is_blocked old.world.classes s k) where
  abbrev left : Run
  left = record old { journal = old.journal ++ clearing_of names; layout = new.layout; slices = slices }

  there : IsSome (replay_of left)
  there = rw led refl

  same_accounts : accounts_of left ≡ accounts_of old
  same_accounts = λ i. table_of (λ k. account_cleared old names k there i) (length old.world.threads + 1)

  same_waits : (fate_at left (with_cleared names s)).waits ≡ (fate_at old s).waits
  same_waits = λ i. list_all (λ (t : ℕ × Thread). not (is_unfinished t.1.ending) || waits t.0 i) (enumerate_from 1 s.threads)

  same_full : (fate_at left (with_cleared names s)).full ≡ (fate_at old s).full
  same_full = ap (nat_le most_entries) (steps_cleared old.journal names)

  same_fate : fate_of left ≡ fate_of old
  same_fate =
      fate_in left (with_cleared names s) led
      ∙ (λ i. record { stopped = is_some s.stop; waits = same_waits i; full = same_full i })
      ∙ sym (fate_in old s was)

  -- what clears weak references and moves blocks leaves each thread's account as it was
  pub accounts_stay : accounts_of new ≡ accounts_of old
  accounts_stay = ap accounts_of same ∙ same_accounts

  pub account_stays : (k : ℕ) → account_of new k ≡ account_of old k
  account_stays k = ap (λ (r : Run). account_of r k) same ∙ account_cleared old names k there

  -- and whether the machine has stopped, each thread waits, and the journal is full, so that nothing that is known changes
  pub known_stays : known_of new ≡ known_of old
  known_stays = λ i. record { table = accounts_stay i; fate = (ap fate_of same ∙ same_fate) i }

module _ (old new : Run) (h : IsCollected old new) where
  pub account_collected : (k : ℕ) → account_of new k ≡ account_of old k
  account_collected = account_stays old new h.state (lost old.world h.state) None h.same h.replays (replays_cleared (unit_tree old.unit) old.world old.journal h.state h.replays) h.waits

  pub known_collected : known_of new ≡ known_of old
  known_collected = known_stays old new h.state (lost old.world h.state) None h.same h.replays (replays_cleared (unit_tree old.unit) old.world old.journal h.state h.replays) h.waits

-- ---- slices

module _ (old new : Run) (h : MarkingEnds old new) where
  led_ended : replay (unit_tree old.unit) old.world (old.journal ++ clearing_of h.names) ≡ Some (with_cleared h.names h.state)
  led_ended = replays_with (unit_tree old.unit) old.world old.journal h.state h.names (λ some. not_kept_clears old.world h.state (HasBlock new.layout) h.names h.holds h.cleared some) h.replays

  account_ended : (k : ℕ) → account_of new k ≡ account_of old k
  account_ended = account_stays old new h.state h.names None h.same h.replays led_ended h.waits

  known_ended : known_of new ≡ known_of old
  known_ended = known_stays old new h.state h.names None h.same h.replays led_ended h.waits

-- so does a slice
pub account_sliced : (old new : Run) → IsSliced old new → (k : ℕ) → account_of new k ≡ account_of old k
account_sliced old new h k = by_slices new.slices h
  where
    by_slices : (o : Option ℕ) → IsSlicedBy o old new → account_of new k ≡ account_of old k
    by_slices None e = account_ended old new e k
    by_slices (Some n) e = ap (λ (r : Run). account_of r k) e

pub known_sliced : (old new : Run) → IsSliced old new → known_of new ≡ known_of old
known_sliced old new h = by_slices new.slices h
  where
    by_slices : (o : Option ℕ) → IsSlicedBy o old new → known_of new ≡ known_of old
    by_slices None e = known_ended old new e
    by_slices (Some n) e = ap known_of e

pub same_parts : (old new : Run) → IsSliced old new → (new.world ≡ old.world) × (new.unit ≡ old.unit)
same_parts old new h = by_slices new.slices h
  where
    by_slices : (o : Option ℕ) → IsSlicedBy o old new → (new.world ≡ old.world) × (new.unit ≡ old.unit)
    by_slices None e = (ap (λ (r : Run). r.world) e.same, ap (λ (r : Run). r.unit) e.same)
    by_slices (Some n) e = (ap (λ (r : Run). r.world) e, ap (λ (r : Run). r.unit) e)
