-- A slice of a marking.
use Rattle.std.specs.Prelude.{◌≡◌, ℕ, ◌+◌, ◌<◌, ◌≤◌, Bool, true, List, length, Option, Some, None, IsSome}
use Rattle.std.specs.List.{Contains}
use Rattle.heap.specs.Heap.{Space, IsAddress, pins_at}
use Rattle.heap.specs.Marks.{Marks, is_kept}
use Rattle.compact.specs.Reach.{Refers}
use Rattle.compact.specs.Same.{IsSameWeakly}

-- how many blocks a slice marks, where so many are on the list
abbrev pub slice_size : ℕ
slice_size = 64

-- just blocks are kept; what roots name and what is pinned are, and all that these refer to
pub record IsWhole (s : Space) (roots : List (Option ℕ)) (kept : List Bool) : Type 0 where
  pub count : length kept ≡ s.cells
  pub blocks : (a : ℕ) → is_kept kept a ≡ true → IsAddress s a
  pub pinned : (a : ℕ) → 0 < pins_at s a → is_kept kept a ≡ true
  pub rooted : (a : ℕ) → Contains roots (Some a) → is_kept kept a ≡ true
  pub closed : (a b : ℕ) → is_kept kept a ≡ true → Refers s a b → is_kept kept b ≡ true

-- how many blocks a marking has marked; none where there is none
abbrev pub count_of : Option Marks → ℕ
count_of None = 0
count_of (Some m) = m.marked

-- the marking that is under way keeps the block at an address
abbrev pub IsKeptBy : Option Marks → ℕ → Type 0
IsKeptBy None a = ⊥
IsKeptBy (Some m) a = is_kept m.kept a ≡ true

-- what roots name and what is pinned is kept
pub record AreNoted (s : Space) (roots : List (Option ℕ)) (kept : List Bool) : Type 0 where
  pub pinned : (a : ℕ) → 0 < pins_at s a → is_kept kept a ≡ true
  pub rooted : (a : ℕ) → Contains roots (Some a) → is_kept kept a ≡ true

-- no more blocks wait on its list than a slice marks
abbrev pub FewWait : Option Marks → Type 0
FewWait None = Unit {0}
FewWait (Some m) = length m.waiting ≤ slice_size

-- the marking that is under way marked as many as a slice does, of a list on which more wait, and nothing has moved
pub record MarksOn (s t : Space) : Type 0 where
  pub marks : Marks
  pub heap : t ≡ record s { marking = Some marks }
  pub marked : marks.marked ≡ count_of s.marking + slice_size
  pub keeps : (a : ℕ) → IsKeptBy s.marking a → is_kept marks.kept a ≡ true
  pub under_way : IsSome s.marking

-- So many blocks more are marked, and nothing has moved. What was kept is, and where the marking began, what roots name and what is pinned.
pub record HasMarked (s t : Space) (roots : List (Option ℕ)) (n : ℕ) : Type 0 where
  pub marks : Marks
  pub heap : t ≡ record s { marking = Some marks }
  pub marked : marks.marked ≡ count_of s.marking + n
  pub keeps : (a : ℕ) → IsKeptBy s.marking a → is_kept marks.kept a ≡ true
  pub begun : s.marking ≡ None → AreNoted s roots marks.kept

-- The slice marked as many as a slice does, and nothing has moved. What was kept is, and where the marking began, what roots name and what
-- is pinned.
pub record GoesOn (s t : Space) (roots after weak later : List (Option ℕ)) (m : Marks) : Type 0 where
  pub heap : t ≡ record s { marking = Some m }
  pub marked : m.marked ≡ count_of s.marking + slice_size
  pub keeps : (a : ℕ) → IsKeptBy s.marking a → is_kept m.kept a ≡ true
  pub begun : s.marking ≡ None → AreNoted s roots m.kept
  pub roots_stay : after ≡ roots
  pub weak_stay : later ≡ weak

-- The slice ended the marking: the blocks that it keeps were moved together, and all else is gone. What was kept before is, and no fewer
-- blocks are left than were marked before.
pub record HasEnded (s t : Space) (roots after weak later : List (Option ℕ)) : Type 0 where
  pub kept : List Bool
  pub whole : IsWhole s roots kept
  pub keeps : (a : ℕ) → IsKeptBy s.marking a → is_kept kept a ≡ true
  pub same : IsSameWeakly (λ a. is_kept kept a ≡ true) s t roots after weak later
  pub many : count_of s.marking ≤ length t.blocks

-- what a slice leaves, by whether a marking is under way after it
abbrev pub IsSlicedBy : Option Marks → (s t : Space) (roots after weak later : List (Option ℕ)) → Type 0
IsSlicedBy None s t roots after weak later = HasEnded s t roots after weak later
IsSlicedBy (Some m) s t roots after weak later = GoesOn s t roots after weak later m

abbrev pub IsSliced : (s t : Space) (roots after weak later : List (Option ℕ)) → Type 0
IsSliced s t roots after weak later = IsSlicedBy t.marking s t roots after weak later
