-- What a slice of a marking does to the store and the threads.
use Rattle.std.specs.Prelude.{◌≡◌, ℕ, ◌+◌, ◌≤◌, Bool, true, List, length, Option, Some, None}
use Rattle.heap.specs.Marks.{Marks, is_kept}
use Rattle.compact.specs.Slices.{AreNoted, IsKeptBy, IsWhole, count_of, slice_size}
use Rattle.machine_threads.specs.declared.thread.Thread.{Thread}
use Rattle.machine_scenes.specs.declared.store.Store.{Store}
use Rattle.machine_collections.specs.Moving.{AreMovedTogether}
use Rattle.machine_collections.specs.Roots.{root_places}

-- It marked as many blocks as a slice does, and nothing has moved. What was kept is, and where the marking began, what roots name and what
-- is pinned.
pub record GoesOn (store : Store) (threads : List Thread) (after : Store) (later : List Thread) (m : Marks) : Type 0 where
  pub same : after ≡ record store { heap = record store.heap { marking = Some m } }
  pub stay : later ≡ threads
  pub marked : m.marked ≡ count_of store.heap.marking + slice_size
  pub keeps : (a : ℕ) → IsKeptBy store.heap.marking a → is_kept m.kept a ≡ true
  pub begun : store.heap.marking ≡ None → AreNoted store.heap (root_places store threads) m.kept

-- It ended the marking, and the blocks that this kept were moved together: what roots or views lead to, what was kept before, and no fewer
-- than were marked before.
pub record HasEnded (store : Store) (threads : List Thread) (after : Store) (later : List Thread) : Type 0 where
  pub kept : List Bool
  pub whole : IsWhole store.heap (root_places store threads) kept
  pub keeps : (a : ℕ) → IsKeptBy store.heap.marking a → is_kept kept a ≡ true
  pub moved : AreMovedTogether (λ a. is_kept kept a ≡ true) store threads after later
  pub many : count_of store.heap.marking ≤ length after.heap.blocks

-- what a slice leaves, by the marking that is under way after it
abbrev pub AreSlicedBy : Option Marks → (store : Store) (threads : List Thread) (after : Store) (later : List Thread) → Type 0
AreSlicedBy None store threads after later = HasEnded store threads after later
AreSlicedBy (Some m) store threads after later = GoesOn store threads after later m

abbrev pub AreSliced : (store : Store) (threads : List Thread) (after : Store) (later : List Thread) → Type 0
AreSliced store threads after later = AreSlicedBy after.heap.marking store threads after later
