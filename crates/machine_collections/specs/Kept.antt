-- What a marking keeps, by the names of its objects.
use Rattle.std.specs.Prelude.{ℕ, List, Contains}
use Rattle.std.specs.List.Sorted.{IsStrictlyIncreasing}
use Rattle.semantics.specs.Reachable.{references_of, Reachable}
use Rattle.semantics.specs.State.{State}
use Rattle.semantics.specs.WeakReferences.{weakly_held}
use Rattle.semantics.specs.World.{World}

-- Of these objects none that can be reached is lost: each that can is among them, and each that any of them refers to.
pub record HoldReachable (world : World) (s : State) (Kept : ℕ → Type 0) : Type 0 where
  pub reachable : (n : ℕ) → Reachable world s n → Kept n
  pub closed : (n m : ℕ) → Kept n → Contains (references_of s.shared.heap n) m → Kept m

-- these are the objects that are held weakly and aren't kept, in rising order
pub record AreNotKept (s : State) (Kept : ℕ → Type 0) (names : List ℕ) : Type 0 where
  pub rising : IsStrictlyIncreasing names
  pub held : (n : ℕ) → Contains names n → Contains (weakly_held s.shared.statics) n
  pub gone : (n : ℕ) → Contains names n → ¬ (Kept n)
  pub all : (n : ℕ) → Contains (weakly_held s.shared.statics) n → ¬ (Kept n) → Contains names n
