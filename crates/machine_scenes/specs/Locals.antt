-- How a table of local references stands for the frames of the source, and keys in it for what its variables hold.
use Rattle.std.specs.Prelude.{◌≡◌, ℕ, is_none, List, map, slice_get, Option, Some, None}
use Rattle.std.specs.List.{AllZip}
use Rattle.heap.specs.Heap.{Space, name_at}
use Rattle.jni.specs.declared.function.JniFunction.{JniFunction}
use Rattle.jni.specs.declared.function.JniFunction.TheVariants.{PopLocalFrame}
use Rattle.semantics.specs.Object.{Reference}
use Rattle.semantics.specs.Thread as source
use Rattle.tables.specs.Locals.{LocalTable, FrameSlots, by_frame, level_of, popped}
use Rattle.tables.specs.References.{address_at}
use Rattle.machine_scenes.specs.HeapAgrees.{SlotsAgree}

-- ---- frames

-- a frame has the capacity and the references of a frame of the source
pub record FrameAgrees (space : Space) (f : FrameSlots) (g : source.Frame) : Type 0 where
  pub capacity : f.capacity ≡ g.capacity
  pub references : SlotsAgree space f.slots g.references

-- frame by frame
abbrev pub FramesAgree : Space → LocalTable → List source.Frame → Type 0
FramesAgree space locals frames = AllZip (FrameAgrees space) (by_frame locals) frames

-- the table once a function has changed its frames, before its result is put
abbrev pub locals_after : JniFunction → LocalTable → LocalTable
locals_after PopLocalFrame locals = popped locals
locals_after f locals = locals

-- ---- keys

-- the address of a key; none of NULL, and of a key that is dead
abbrev pub address_of : LocalTable → Option ℕ → Option ℕ
address_of locals None = None
address_of locals (Some key) = address_at locals.slots key

-- a key's reference is live, to the object of this name, and in the frame of this level
pub record IsKeyOf (space : Space) (locals : LocalTable) (key n level : ℕ) : Type 0 where
  pub address : ℕ
  pub there : address_at locals.slots key ≡ Some address
  pub name : name_at space address ≡ Some n
  pub of_level : level_of locals key ≡ level

-- NULL for NULL, or a key of the object of a name, in a frame of this level
abbrev pub IsKeyGiven : Space → LocalTable → (key : Option ℕ) → Reference → (level : ℕ) → Type 0
IsKeyGiven space locals None None level = Unit {0}
IsKeyGiven space locals (Some key) (Some n) level = IsKeyOf space locals key n level
IsKeyGiven space locals key r level = ⊥

-- Slot by slot, what keys stand for. Where the reference is the variable's own, at a level, its key is live, and no other such
-- slot has it; else it may be dead.
pub record KeysAgree (space : Space) (locals : LocalTable) (keys : List (Option ℕ)) (references : List Reference) (owners : List (Option ℕ)) : Type 0 where
  pub nulls : map is_none keys ≡ map is_none references
  pub own : (i key n level : ℕ) → slice_get keys i ≡ Some (Some key) → slice_get references i ≡ Some (Some n)
      → slice_get owners i ≡ Some (Some level) → IsKeyOf space locals key n level
  pub apart : (i j key level other : ℕ) → slice_get keys i ≡ Some (Some key) → slice_get keys j ≡ Some (Some key)
      → slice_get owners i ≡ Some (Some level) → slice_get owners j ≡ Some (Some other) → i ≡ j
