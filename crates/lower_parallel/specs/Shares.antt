-- What each worker makes of a program's codes.
use Rattle.std.specs.Prelude.{◌≡◌, ◌==◌, ◌+◌, ◌%◌, ◌<◌, ◌≤◌, ℕ, List, [], ◌∷◌, length, slice_index_or, if◌then◌else◌}
use Rattle.std.specs.List.{All}
use Rattle.base.specs.Limits.{most_steps}
use Rattle.code.specs.Depth.{Listing}

-- those of these codes whose number leaves the remainder `worker` by `workers`, where the first has this number
abbrev pub share_of : (workers worker number : ℕ) → List Listing → List Listing
share_of workers worker number [] = []
share_of workers worker number (c ∷ codes) =
    (if number % workers == worker then c ∷ share_of workers worker (number + 1) codes else share_of workers worker (number + 1) codes)

-- the code of a function that isn't too long, which ends with a return
abbrev pub IsShort : Listing → Type 0
IsShort c = length c.instrs ≤ most_steps + 1

-- a worker's share of a program's codes, of which none is too long
abbrev pub IsShare : (workers worker : ℕ) (program share : List Listing) → Type 0
IsShare workers worker program share = (share ≡ share_of workers worker 0 program) × All IsShort share

-- the shares of all workers, in their order
abbrev pub AreShares : (program : List Listing) (shares : List (List Listing)) → Type 0
AreShares program shares = (w : ℕ) → w < length shares → IsShare (length shares) w program (slice_index_or shares w [])
