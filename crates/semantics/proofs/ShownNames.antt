-- The objects that a report shows, by rising names, where it is known of each name whether it is reachable.
use Rattle.std.specs.Prelude.{◌≡◌, ℕ, ◌+◌, Bool, true, nat_lt, length, filter}
use Rattle.std.proofs.Common.{◌∙◌, ap}
use Rattle.std.specs.Cmp.Derive.{one_truth}
use Rattle.semantics.specs.Reachable.{from_one, is_in, IsName, Reachable, reachable}
use Rattle.semantics.specs.ReportOf.{shown}
use Rattle.semantics.specs.State.{State}
use Rattle.semantics.specs.World.{World}
use Rattle.semantics.proofs.ReachableLemmas.{reachable_lists, filter_agree_in, contains_in, to_contains}

-- ---- reachable or not

-- a name is listed exactly where it is reachable
pub is_reachable : (w : World) (s : State) (n : ℕ) → Reachable w s n → is_in (reachable w s) n ≡ true
is_reachable w s n r = contains_in (reachable w s) n ((reachable_lists w s).complete n r)

pub from_listed : (w : World) (s : State) (n : ℕ) → is_in (reachable w s) n ≡ true → Reachable w s n
from_listed w s n h = (reachable_lists w s).sound n (to_contains (reachable w s) n h)

-- a test that each reachable name passes, and no other name of the heap
pub record Tells (w : World) (s : State) (test : ℕ → Bool) : Type 0 where
  pub sound : (n : ℕ) → IsName s.shared.heap n → test n ≡ true → Reachable w s n
  pub complete : (n : ℕ) → Reachable w s n → test n ≡ true

-- the names that pass it are the reachable ones
pub reachable_are : (w : World) (s : State) (test : ℕ → Bool) → Tells w s test → reachable w s ≡ filter test (from_one (length s.shared.heap))
reachable_are w s test h =
    (reachable_lists w s).in_order
    ∙ filter_agree_in (is_in (reachable w s)) test (from_one (length s.shared.heap))
    (λ n k. one_truth (is_in (reachable w s) n) (test n) (λ e. h.complete n (from_listed w s n e)) (λ e. is_reachable w s n (h.sound n (to_contains (from_one (length s.shared.heap)) n k) e)))

-- and those above the class objects and the OutOfMemoryError object are shown
pub shown_are : (w : World) (s : State) (test : ℕ → Bool) → Tells w s test → shown w s ≡ filter (λ n. nat_lt (length w.classes + 1) n) (filter test (from_one (length s.shared.heap)))
shown_are w s test h = ap (filter (λ n. nat_lt (length w.classes + 1) n)) (reachable_are w s test h)
