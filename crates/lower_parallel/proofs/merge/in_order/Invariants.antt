use Rattle.std.proofs.Common.{◌≡◌, List, [], length, map, get_or}
use Rattle.std.specs.List.{sum_by}
use Rattle.code.specs.Depth.{Listing}
use Rattle.lower_parallel.specs.Shares.{AreShares}
use Rattle.lower_parallel.proofs.Merging.{AreTaken}
use Rattle.lower_parallel.proofs.merge.in_order.Given as goal

abbrev pub decreases-loop-code : goal.decreases-loop-code
decreases-loop-code l = sum_by (λ s. length s.items) l.shares.items

abbrev pub invariant-loop-code : goal.invariant-loop-code
invariant-loop-code l = (length l.shares.items ≡ l.workers)
    × ((program : List Listing) → AreShares program (map (λ s. s.items) l.fn.shares.items) → AreTaken program l.workers (λ w. get_or (map (λ s. s.items) l.shares.items) w []) l.codes.items)
