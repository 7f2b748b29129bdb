-- Journals: what a run did.
use Rattle.std.specs.Prelude.{ℕ, Bool, true, false, not, ◌==◌, List, length, filter}

-- An entry of a run: a thread, counted from 1, took a step, whose allocation was refused or not; or weak global references were
-- cleared, those to the objects of these names.
pub data Entry : Type 0 where
  Step : (thread : ℕ) (refused : Bool) → Entry
  Clearing : (names : List ℕ) → Entry

-- the entries of a run
abbrev pub Journal : Type 0
Journal = List Entry

-- an entry is a step
abbrev pub is_step : Entry → Bool
is_step (Step thread refused) = true
is_step (Clearing names) = false

-- an entry is a step of this thread
abbrev pub is_step_of : ℕ → Entry → Bool
is_step_of k (Step thread refused) = thread == k
is_step_of k (Clearing names) = false

-- how many steps a journal has
abbrev pub steps_in : Journal → ℕ
steps_in journal = length (filter is_step journal)

-- and how many clearings
abbrev pub clearings_in : Journal → ℕ
clearings_in journal = length (filter (λ e. not (is_step e)) journal)
