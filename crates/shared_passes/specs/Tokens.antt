-- What the passes know, and the rule over all that they know.
use Rattle.std.specs.Prelude.{◌≡◌, ℕ, ◌+◌, ◌<◌, true, false, List, [], Some, slice_get}
use Rattle.std.specs.Option.{unwrap_or}
use mathlib.Core.Option.{some}
use lib.ListN.{get_elem?}
use Rattle.atomic_table.specs.Seated.{TableId}
use Rattle.shared_passes.specs.declared.view.Account.{Account}
use Rattle.shared_passes.specs.declared.view.Claim.{Claim}
use Rattle.semantics.specs.declared.event.Ending.TheVariants.{Unfinished}
use Rattle.shared_passes.specs.declared.view.Fate.{Fate}
use Rattle.shared_passes.specs.declared.view.Known.{Known}
use Rattle.shared_passes.specs.declared.view.View.{View}

-- the name of no cell
abbrev pub no_cell : TableId
no_cell = record { words = 0; slots = 0; views_name = 0; atom = 0; block = 0; offset = 0; slot_names = [] }

abbrev pub nothing : Account
nothing = record { entries = 0; printed = []; ending = Unfinished }

abbrev pub none : Fate
none = record { stopped = false; waits = false; full = false }

abbrev pub unknown : Known
unknown = record { table = []; fate = none }

abbrev pub no_claim : Claim
no_claim = record { account = nothing; kept = none }

-- what was kept holds
abbrev pub IsWithin : Fate → Fate → Type 0
IsWithin kept fate = (kept.stopped ≡ true → fate.stopped ≡ true) × (kept.waits ≡ true → fate.waits ≡ true)
    × (kept.full ≡ true → fate.full ≡ true)

-- a claim is right
abbrev pub Right : Known → ℕ → Claim → Type 0
Right known thread c = (slice_get known.table thread ≡ Some c.account) × IsWithin c.kept known.fate

-- the keeper, whose seats of threads below next are given
abbrev pub knower : Known → ℕ → View
knower table next = record { keeps = true; table = table; next = next; sits = false; thread = 0; account = no_claim }

abbrev pub sitting : ℕ → Claim → View
sitting thread account = record { keeps = false; table = unknown; next = 0; sits = true; thread = thread; account = account }

abbrev pub nobody : View
nobody = record { keeps = false; table = unknown; next = 0; sits = false; thread = 0; account = no_claim }

-- the keeper that has taken in a seat's pass
abbrev pub hosting : Known → ℕ → ℕ → Claim → View
hosting table next thread account = record { keeps = true; table = table; next = next; sits = true; thread = thread; account = account }

abbrev pub both_of : View → View → View
both_of v w = record { keeps = v.keeps; table = v.table; next = v.next; sits = w.sits; thread = w.thread; account = w.account }

-- a seat is given to the next thread
abbrev pub kept_after : View → View
kept_after v = knower v.table (v.next + 1)

abbrev pub seat_after : View → View
seat_after v = sitting v.next (record { account = unwrap_or (slice_get v.table.table v.next) nothing; kept = none })

-- what the rule says of one pass
abbrev pub Fits : ℕ → Known → ℕ → (ℕ → ℕ) → ℕ → View → Type 0
Fits keeper table given owner by v =
    (v.keeps ≡ true → (by ≡ keeper) × (v.table ≡ table) × (v.next ≡ given))
    × (v.sits ≡ true → (owner v.thread ≡ by) × (v.thread < given) × (Right table v.thread v.account))

-- One pass at most keeps, and a thread has one seat at most, whose account is the keeper's.
abbrev pub Kept : List ℕ → List View → Type 0
Kept words views =
    (keeper : ℕ) × (table : Known) × (given : ℕ) × (owner : ℕ → ℕ)
    × ((by : ℕ) (v : View) → get_elem? views by ≡ some v → Fits keeper table given owner by v)

-- the seat that was taken in was right, and has a new account
abbrev pub Settled : Known → Claim → View → List ℕ → List ℕ → View → Type 0
Settled table account v before after w = (w ≡ hosting table v.next v.thread account) × (Right v.table v.thread v.account)

-- the seat that was taken in was right
abbrev pub Checked : View → List ℕ → List ℕ → View → Type 0
Checked v before after w = (w ≡ knower v.table v.next) × (Right v.table v.thread v.account)
