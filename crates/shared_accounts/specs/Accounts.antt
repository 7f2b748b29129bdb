-- The accounts of all threads.
use Rattle.std.specs.Prelude.{◌≡◌, ℕ, zero, suc, ◌+◌, ◌==◌, ◌&&◌, ◌||◌, not, Bool, true, false, ℤ, List, [], ◌∷◌, ◌++◌, length, map, slice_get, Option, Some, None, Result, Ok, Err, nat_le, is_some, IsSome, IfOk, OnOk, OnErr}
use Rattle.std.specs.List.{list_any, list_all, enumerate_from, filter}
use Rattle.std.specs.Option.{unwrap_or, option_map, option_map_or}
use Rattle.base.specs.Limits.{most_entries}
use Rattle.syntax.specs.declared.unit.Item.{Item}
use Rattle.syntax.specs.Views.{unit_tree}
use Rattle.class_rules.specs.Class.{Classes}
use Rattle.semantics.specs.declared.printed.Printed.{Printed}
use Rattle.semantics.specs.Journal.{steps_in}
use Rattle.semantics.specs.World.{World}
use Rattle.semantics.specs.Thread.{Thread}
use Rattle.semantics.specs.State.{State}
use Rattle.semantics.specs.Step.{is_unfinished, is_blocked}
use Rattle.semantics.specs.Run as source
use Rattle.semantics.specs.Run.{account}
use Rattle.machine.specs.declared.turn.Turn.{Turn}
use Rattle.machine.specs.declared.turn.Turn.TheVariants.{Stopped, Ended, Blocked, Full, Short, Stepped}
use Rattle.machine.specs.Run.{CouldStep, IsCollected, IsSliced, Run, TurnHolds, replay_of}
use Rattle.shared_passes.specs.declared.view.Account.{Account}
use Rattle.shared_passes.specs.declared.view.Fate.{Fate}
use Rattle.shared_passes.specs.declared.view.Known.{Known}
use Rattle.shared_passes.specs.Tokens.{nothing, none, IsWithin}

-- ---- what is known of a run

abbrev pub account_view : source.Account → Account
account_view a = record { entries = a.entries; printed = a.printed; ending = a.ending }

-- a thread's part in a run
abbrev pub account_of : Run → ℕ → Account
account_of r k = option_map_or account_view (account (unit_tree r.unit) r.world r.journal k) nothing

-- the first values of a function
abbrev pub table_of : (ℕ → Account) → ℕ → List Account
table_of f zero = []
table_of f (suc n) = f 0 ∷ table_of (λ k. f (suc k)) n

-- of each thread, where the threads are counted from 1
abbrev pub accounts_of : Run → List Account
accounts_of r = table_of (account_of r) (length r.world.threads + 1)

-- each thread has ended or waits
abbrev pub all_wait : Classes → State → Bool
all_wait classes s = list_all (λ (t : ℕ × Thread). not (is_unfinished t.1.ending) || is_blocked classes s t.0) (enumerate_from 1 s.threads)

-- the journal has no room for another step
abbrev pub is_full : Run → Bool
is_full r = nat_le most_entries (steps_in r.journal)

-- in the state that the run has led to
abbrev pub fate_at : Run → State → Fate
fate_at r s = record { stopped = is_some s.stop; waits = all_wait r.world.classes s; full = is_full r }

abbrev pub fate_of : Run → Fate
fate_of r = option_map_or (fate_at r) (replay_of r) none

abbrev pub known_of : Run → Known
known_of r = record { table = accounts_of r; fate = fate_of r }

-- the numbers of a thread among those that were printed
abbrev pub numbers_of : List Printed → ℕ → List ℤ
numbers_of printed k = map (λ (p : Printed). p.number) (filter (λ (p : Printed). p.thread == k) printed)

-- with the number that was printed
abbrev pub more_of : List ℤ → Option ℤ → List ℤ
more_of lines None = lines
more_of lines (Some z) = lines ++ z ∷ []

-- the number at a place
abbrev pub number_at : List Printed → ℕ → Option ℤ
number_at printed place = option_map (λ (p : Printed). p.number) (slice_get printed place)

-- ---- seats

-- what a seat knows
pub record Sat : Type 0 where
  pub thread : ℕ
  pub account : Account
  pub kept : Fate

-- the account of the seat is that of the run, and what it kept holds of it
abbrev pub Agrees : Run → Sat → Type 0
Agrees r s = (s.account ≡ account_of r s.thread) × IsWithin s.kept (fate_of r)

-- the seat of a thread, by the table
abbrev pub seat_in : List Account → ℕ → Sat
seat_in table k = record { thread = k; account = unwrap_or (slice_get table k) nothing; kept = none }

-- the seats of the threads from 1 to n, by the table
abbrev pub seats_in : List Account → ℕ → List Sat
seats_in table zero = []
seats_in table (suc n) = seats_in table n ++ seat_in table (n + 1) ∷ []

-- the seats of the threads from 1 to n, each with its account in the run
abbrev pub seats_of : Run → ℕ → List Sat
seats_of r zero = []
seats_of r (suc n) = seats_of r n ++ record { thread = n + 1; account = account_of r (n + 1); kept = none } ∷ []

-- each thread up to n has a seat
abbrev pub each_sits : ℕ → List Sat → Bool
each_sits zero seats = true
each_sits (suc n) seats = each_sits n seats && list_any (λ (s : Sat). s.thread == n + 1) seats

-- the seats are one for each thread
abbrev pub is_one_each : ℕ → List Sat → Bool
is_one_each threads seats = (length seats == threads) && each_sits threads seats

-- ---- turns

-- what a seat keeps of an answer
abbrev pub kept_after : {E : Type 0} → Fate → Result Turn E → Fate
kept_after kept (Ok Stopped) = record { stopped = true; waits = kept.waits; full = kept.full }
kept_after kept (Ok (Blocked true)) = record { stopped = kept.stopped; waits = true; full = kept.full }
kept_after kept (Ok Full) = record { stopped = kept.stopped; waits = kept.waits; full = true }
kept_after kept (Ok (Blocked false)) = kept
kept_after kept (Ok Ended) = kept
kept_after kept (Ok Short) = kept
kept_after kept (Ok Stepped) = kept
kept_after kept (Err e) = kept

-- how many steps an answer adds
abbrev pub taken : {E : Type 0} → Result Turn E → ℕ
taken (Ok Stopped) = 0
taken (Ok Ended) = 0
taken (Ok (Blocked all)) = 0
taken (Ok Full) = 0
taken (Ok Short) = 1
taken (Ok Stepped) = 1
taken (Err e) = 0

-- a thread of which the answer says that it has ended, has
abbrev pub EndsSo : Account → Turn → Type 0
EndsSo a Ended = is_unfinished a.ending ≡ false
EndsSo a Stopped = Unit {0}
EndsSo a (Blocked all) = Unit {0}
EndsSo a Full = Unit {0}
EndsSo a Short = Unit {0}
EndsSo a Stepped = Unit {0}

-- What a turn of a seat was: a run has the account of the seat before, and the run after it that of the seat after.
pub record SeatTurn {E : Type 0} (unit : List Item) (world : World) (before after : Sat) (result : Result Turn E) : Type 0 where
  pub old : Run
  pub new : Run
  pub of_unit : old.unit ≡ unit
  pub on_world : old.world ≡ world
  pub same_thread : after.thread ≡ before.thread
  pub was : before.account ≡ account_of old before.thread
  pub is : after.account ≡ account_of new before.thread
  pub turn : IfOk result (TurnHolds old before.thread new)
  pub err : OnErr result ((new ≡ old) × CouldStep old before.thread)
  pub runs : IsSome (replay_of new)
  pub kept : after.kept ≡ kept_after before.kept result
  pub counted : after.account.entries ≡ before.account.entries + taken result
  pub ended : IfOk result (EndsSo after.account)

-- What the collector did behind the lock, which left a run so: each thread's account is what it was.
pub record SharedWork (Leaves : Run → Run → Type 0) {T E : Type 0} (unit : List Item) (world : World) (result : Result T E) : Type 0 where
  pub old : Run
  pub new : Run
  pub of_unit : old.unit ≡ unit
  pub on_world : old.world ≡ world
  pub ok : OnOk result (Leaves old new)
  pub err : OnErr result (new ≡ old)
  pub runs : IsSome (replay_of new)
  pub accounts : (k : ℕ) → account_of new k ≡ account_of old k

-- a collection
abbrev pub SharedCollection : {T E : Type 0} (unit : List Item) (world : World) (result : Result T E) → Type 0
SharedCollection unit world result = SharedWork IsCollected unit world result

-- a slice of a marking
abbrev pub SharedSlice : {T E : Type 0} (unit : List Item) (world : World) (result : Result T E) → Type 0
SharedSlice unit world result = SharedWork IsSliced unit world result
