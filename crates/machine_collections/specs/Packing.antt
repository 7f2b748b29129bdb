-- Where a collection puts the blocks of the objects that it keeps.
use Rattle.std.specs.Prelude.{◌≡◌, ℕ, ◌+◌, ◌<◌, ◌≤◌, [], ◌∷◌}
use Rattle.std.specs.List.{Contains}
use Rattle.heap.specs.Layout.{Extent, Layout, extent_end}
use Rattle.compact.specs.Placing.{HasLowest}

-- the extents lie by rising addresses from a cell on; none is empty, and none overlaps another
abbrev pub RiseFrom : ℕ → Layout → Type 0
RiseFrom from [] = Unit {0}
RiseFrom from (e ∷ rest) = (from ≤ e.address) × (0 < e.size) × RiseFrom (extent_end e) rest

-- the extent of an object that is kept and isn't viewed, so that it may go elsewhere
abbrev pub IsLoose : Layout → (Kept Viewed : ℕ → Type 0) → Extent → Type 0
IsLoose layout Kept Viewed e = Contains layout e × Kept e.name × ¬ (Viewed e.name)

-- of so many cells from one on some belong to an object that is viewed
pub record MeetViewed (layout : Layout) (Viewed : ℕ → Type 0) (from size : ℕ) : Type 0 where
  pub extent : Extent
  pub there : Contains layout extent
  pub viewed : Viewed extent.name
  pub above : extent.address < from + size
  pub below : from < extent_end extent

-- the extent at another address
abbrev pub moved_to : Extent → ℕ → Extent
moved_to e address = record e { address = address }

-- The second layout has just the objects of the first that are kept. Those that are viewed stay where they are, and each other has the
-- lowest cells, past those of the loose ones before it, that hold none of one that is viewed.
pub record IsPacked (Kept Viewed : ℕ → Type 0) (old new : Layout) : Type 0 where
  pub to : Extent → ℕ
  pub kept : (e : Extent) → Contains old e → Kept e.name → Contains new (moved_to e (to e))
  pub only : (e : Extent) → Contains new e → (b : Extent) × Contains old b × Kept b.name × (e ≡ moved_to b (to b))
  pub rising : RiseFrom 0 new
  pub viewed : (e : Extent) → Contains old e → Viewed e.name → to e ≡ e.address
  pub lowest : (e : Extent) → IsLoose old Kept Viewed e
      → HasLowest (λ x. x.address) (λ x. x.size) to (IsLoose old Kept Viewed) (MeetViewed old Viewed) e
