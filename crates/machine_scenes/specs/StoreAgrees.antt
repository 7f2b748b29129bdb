-- How the store stands for what all threads of the source share.
use Rattle.std.specs.Prelude.{◌≡◌, ℕ, ◌+◌, ◌≤◌, List, [], ◌∷◌, length, map, drop, Option, Some, ◌⊎◌}
use Rattle.base.specs.Bytes.{Identifier}
use Rattle.syntax.specs.Parts.{statics_of}
use Rattle.syntax.specs.Tree.{Static}
use Rattle.syntax.specs.Views.{unit_tree}
use Rattle.heap.specs.Heap.{Space, IsLaidOut, left_of, name_at}
use Rattle.heap.specs.Layout.{layout_of}
use Rattle.heap.specs.Marking.{MarkingStays}
use Rattle.semantics.specs.Heap.{Heap, next_name, object_at}
use Rattle.semantics.specs.Object.{Object, sizes}
use Rattle.semantics.specs.World.{World, loaded_objects}
use Rattle.semantics.specs.Thread.{Shared}
use Rattle.semantics.specs.Variable.{StaticReference, Empty, Live, Weakly, Cleared, Deleted, Statics, assign}
use Rattle.code_meaning.specs.Lowered.{Lowered}
use Rattle.machine_scenes.specs.declared.store.Store.{Store}
use Rattle.machine_scenes.specs.MonitorsAgree.{AreThere, MonitorsAgree}
use Rattle.machine_scenes.specs.Buffers.{Acquired, IsTaken}
use Rattle.machine_scenes.specs.HeapAgrees.{HeapAgrees, IsTable, SlotsAgree}
use Rattle.machine_scenes.specs.Layouts.{with_objects}
use Rattle.machine_scenes.specs.Statics.{HaveKeys, HaveWeakKeys, all_held}
use Rattle.tables.specs.Keys.{value_at}
use Rattle.machine_scenes.specs.declared.references.Held.{Held}
use Rattle.machine_scenes.specs.declared.references.Held.TheVariants as held

-- ---- statics and global references

-- what a static holds stands for what it holds in the source
abbrev pub HeldAgrees : Space → Held → StaticReference → Type 0
HeldAgrees space held.Empty Empty = Unit {0}
HeldAgrees space (held.At a) (Live n) = name_at space a ≡ Some n
HeldAgrees space (held.Weakly a) (Weakly n) = name_at space a ≡ Some n
HeldAgrees space held.Cleared Cleared = Unit {0}
HeldAgrees space held.Deleted Deleted = Unit {0}
HeldAgrees space h r = ⊥

-- static by static
abbrev pub StaticsAgree : Space → List Held → Statics → Type 0
StaticsAgree space [] [] = Unit {0}
StaticsAgree space [] (s ∷ statics) = ⊥
StaticsAgree space (h ∷ helds) [] = ⊥
StaticsAgree space (h ∷ helds) (s ∷ statics) = HeldAgrees space h s.1 × StaticsAgree space helds statics

-- they are those of the unit, in its order
abbrev pub AreNamed : Lowered → Shared → Type 0
AreNamed p shared = map (λ (s : Identifier × StaticReference). s.0) shared.statics ≡ map (λ (g : Static). g.name) (statics_of (unit_tree p.unit))

-- a weak reference that isn't cleared has the address of a block
abbrev pub AreWeaklyThere : Space → List (Option (Option ℕ)) → Type 0
AreWeaklyThere space weaks = (key a : ℕ) → value_at weaks key ≡ Some (Some a) → (n : ℕ) × (name_at space a ≡ Some n)

-- ---- what all threads share

-- The store stands for the shared state of the source, where the buffers of all threads take this.
pub record StoreAgrees (p : Lowered) (w : World) (store : Store) (shared : Shared) (all : Acquired) : Type 0 where
  -- blocks of objects that can't be reached any more may be gone, but those that are held weakly, with all that they lead to, are there
  pub heap : HeapAgrees store.heap shared.heap
  pub laid_out : IsLaidOut store.heap
  pub cells : store.heap.cells ≡ w.cells
  -- the objects made at load stay for ever
  pub table : IsTable store.heap store.loaded.items (length (loaded_objects w))
  pub begun : length (loaded_objects w) ≤ length shared.heap
  pub births : store.births ≡ length shared.heap
  pub statics : StaticsAgree store.heap (all_held store.globals store.weaks store.statics.items) shared.statics
  pub named : AreNamed p shared
  pub keys : HaveKeys store.globals store.statics.items
  pub weak_keys : HaveWeakKeys store.weaks store.statics.items
  pub weaks : AreWeaklyThere store.heap store.weaks
  pub globals : SlotsAgree store.heap store.globals shared.globals
  pub buffers : IsTaken store.heap store.elements store.views (length shared.heap) all
  pub monitors : MonitorsAgree store.monitors shared.monitors
  pub monitored : AreThere store.heap store.monitors

-- at most one of the statics holds something else
abbrev pub MayChange : Statics → Statics → Type 0
MayChange before after = (after ≡ before) ⊎ ((x : Identifier) × (r : StaticReference) × (after ≡ assign x r before))

-- each object that was there is there, of its class and with as many values
abbrev pub SameShapes : Heap → Heap → Type 0
SameShapes before after = (n : ℕ) (o : Object) → object_at before n ≡ Some o → (p : Object)
    × (object_at after n ≡ Some p) × (p.class ≡ o.class) × (length p.values ≡ length o.values)

-- what a step of one thread leaves as it was for the others, and what it may add
pub record Keeps (space : Space) (shared : Shared) (space' : Space) (shared' : Shared) : Type 0 where
  -- objects stay where they are
  pub names : (a n : ℕ) → name_at space a ≡ Some n → name_at space' a ≡ Some n
  pub statics : MayChange shared.statics shared'.statics
  -- none is taken out, and none takes more cells or fewer
  pub shapes : SameShapes shared.heap shared'.heap
  -- what was made had room after the highest block, where it lies now; no other block went elsewhere, and none is gone
  pub room : sizes (drop (length shared.heap) shared'.heap) ≤ left_of space
  pub laid : layout_of space' ≡ with_objects (layout_of space) (next_name shared.heap) (drop (length shared.heap) shared'.heap)
  -- a marking goes on: what it keeps it still keeps
  pub marking : MarkingStays space.marking space'.marking
  -- no step makes more than two objects
  pub few : length shared'.heap ≤ length shared.heap + 2
