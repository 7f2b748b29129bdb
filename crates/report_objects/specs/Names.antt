-- Names of objects, and what an object refers to.
use Rattle.std.specs.Prelude.{◌≡◌, ℕ, ◌+◌, nat_lt, nat_le, ◌&&◌, if◌then◌else◌, Bool, true, List, ◌++◌, map, length, Option, Some, None, Contains}
use Rattle.class_rules.specs.Class.{Classes}
use Rattle.semantics.specs.Heap.{Heap, object_at, reference_in, values_of}
use Rattle.semantics.specs.Object.{Reference, ObjectValue}
use Rattle.semantics.specs.Reachable.{from_one, roots, Reachable, Reached}
use Rattle.semantics.specs.State.{State}
pub use Rattle.semantics.specs.Views.{IsWithin}
use Rattle.semantics.specs.World.{World}
use Rattle.reachability.specs.Marks.{is_marked}

-- a reference to one of this number of objects
abbrev pub within : (count : ℕ) → Reference → Reference
within count None = None
within count (Some n) = if nat_lt 0 n && nat_le n count then Some n else None

-- what the values of an object refer to, value by value
abbrev pub references_in : Heap → ℕ → List (Option ℕ)
references_in heap n = map (λ (v : ObjectValue). within (length heap) (reference_in v)) (values_of heap n)

-- A state has as many objects as this heap, and each that can be reached is the same in both; it made this number of objects at
-- load, and besides them has these roots, in whatever order.
pub record HasRoots (table : Classes) (objects : Heap) (loaded : ℕ) (names : List ℕ) (w : World) (s : State) : Type 0 where
  pub classes : w.classes ≡ table
  pub count : length s.shared.heap ≡ length objects
  pub same : (n : ℕ) → Reachable w s n → object_at s.shared.heap n ≡ object_at objects n
  pub sound : (n : ℕ) → Contains (roots w s) n → Contains (from_one loaded ++ names) n
  pub complete : (n : ℕ) → Contains (from_one loaded ++ names) n → Contains (roots w s) n

-- ---- marks

-- of this number of objects just the roots are marked
pub record AreRoots (count : ℕ) (IsRoot : ℕ → Type 0) (marks : List Bool) : Type 0 where
  pub counted : length marks ≡ count + 1
  pub sound : (n : ℕ) → is_marked marks n ≡ true → IsWithin count n × IsRoot n
  pub complete : (n : ℕ) → IsWithin count n → IsRoot n → is_marked marks n ≡ true

-- of a heap just the objects that are reached from these are marked
pub record MarksReached (heap : Heap) (from : List ℕ) (marks : List Bool) : Type 0 where
  pub sound : (n : ℕ) → is_marked marks n ≡ true → Reached heap from n
  pub complete : (n : ℕ) → Reached heap from n → is_marked marks n ≡ true
