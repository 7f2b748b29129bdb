-- What the buffers of threads take, and how those in the slots of one stand for the source's.
use Rattle.std.specs.Prelude.{◌≡◌, ◌≢◌, ℕ, ℤ, ◌+◌, ◌<◌, ◌≤◌, Bool, true, false, List, [], ◌∷◌, ◌++◌, length, slice_get, Option, Some, FitsSigned}
use Rattle.std.specs.Int.{w32}
use Rattle.std.specs.Option.{option_to_list}
use Rattle.std.specs.List.{AllZip, AllByRecursion}
use Rattle.base.specs.declared.element.ElementType.{ElementType}
use Rattle.jni.specs.declared.mode.ReleaseMode.{ReleaseMode}
use Rattle.jni.specs.declared.mode.ReleaseMode.TheVariants as mode
use Rattle.heap.specs.Heap.{Space, name_at, pins_at}
use Rattle.semantics.specs.Heap.{Heap, values_of}
use Rattle.semantics.specs.Thread.{BuffersInUse, Thread, lengths_copied, objects_viewed}
use Rattle.semantics.specs.Variable as source
use Rattle.semantics.specs.Variable.{Variable, Elements, NoBuffer, Copy, View}
use Rattle.tables.specs.Elements.{OwnedNumbers, lengths, owned}
use Rattle.tables.specs.Keys.{value_at}
use Rattle.machine_scenes.specs.declared.buffer.Buffer.{Buffer}
use Rattle.machine_scenes.specs.declared.buffer.Buffer.TheVariants as held
use Rattle.machine_scenes.specs.HeapAgrees.{IsNamed, times}

-- ---- what buffers take

-- the lengths of copied lists together, and the objects of views
pub record Acquired : Type 0 where
  pub copied : ℕ
  pub viewed : List ℕ

-- what no buffer takes
abbrev pub nothing_acquired : Acquired
nothing_acquired = record { copied = 0; viewed = [] }

-- what a buffer takes
abbrev pub acquired_of : source.Buffer → Acquired
acquired_of NoBuffer = nothing_acquired
acquired_of (Copy n zs) = record { copied = length zs; viewed = [] }
acquired_of (View n) = record { copied = 0; viewed = n ∷ [] }

-- what those of a thread's call in progress take
abbrev pub acquired_by : Thread → Acquired
acquired_by t = record { copied = lengths_copied t.variables; viewed = objects_viewed t.variables }

-- what some take beside others
abbrev pub beside : Acquired → Acquired → Acquired
beside a b = record { copied = a.copied + b.copied; viewed = a.viewed ++ b.viewed }

-- how much that is of what there is for them
abbrev pub in_use_of : Acquired → BuffersInUse
in_use_of a = record { copied = a.copied; views = length a.viewed }

-- the same, with views in any order
pub record SameAcquired (a b : Acquired) : Type 0 where
  pub copied : a.copied ≡ b.copied
  pub many : length a.viewed ≡ length b.viewed
  pub viewed : (n : ℕ) → times n a.viewed ≡ times n b.viewed

-- This is what buffers take: the copied lists are so long together, there are so many views, each block has as many pins as its object
-- has views, and each view is of an object that has been made, and whose block is there.
pub record IsTaken (space : Space) (copies : List (Option OwnedNumbers)) (views objects : ℕ) (all : Acquired) : Type 0 where
  pub copied : lengths copies ≡ all.copied
  pub many : views ≡ length all.viewed
  pub pins : (a n : ℕ) → name_at space a ≡ Some n → pins_at space a ≡ times n all.viewed
  pub made : (n : ℕ) → objects < n → times n all.viewed ≡ 0
  pub there : (n : ℕ) → 0 < times n all.viewed → IsNamed space n

-- ---- buffers in slots

-- the buffers in a call's slots, the copied lists of all calls, and the owner that this call's lists have
pub record HeldBuffers : Type 0 where
  pub slots : List Buffer
  pub copies : List (Option OwnedNumbers)
  pub owner : ℕ

-- the same, as one writes it
abbrev pub holding : List Buffer → List (Option OwnedNumbers) → ℕ → HeldBuffers
holding slots copies owner = record { slots = slots; copies = copies; owner = owner }

-- a slot of the call with this owner stands for a buffer
pub data BufferAgrees (space : Space) (copies : List (Option OwnedNumbers)) (owner : ℕ) : Buffer → source.Buffer → Type 0 where
  null : BufferAgrees space copies owner held.Null NoBuffer
  -- the key of a list with its elements
  copy : {key n : ℕ} {zs : List ℤ} → value_at copies key ≡ Some (owned owner zs) → BufferAgrees space copies owner (held.Copy key) (Copy n zs)
  -- the address of its object
  view : {a n : ℕ} → name_at space a ≡ Some n → BufferAgrees space copies owner (held.View a) (View n)

-- slot by slot, and no two slots have one list
pub record BuffersAgree (space : Space) (copies : List (Option OwnedNumbers)) (owner : ℕ) (slots : List Buffer) (buffers : List source.Buffer) : Type 0 where
  pub agree : AllZip (BufferAgrees space copies owner) slots buffers
  pub apart : (i j key : ℕ) → slice_get slots i ≡ Some (held.Copy key) → slice_get slots j ≡ Some (held.Copy key) → i ≡ j

-- the names of the objects of views in slots
abbrev pub viewed_in : Space → List Buffer → List ℕ
viewed_in space [] = []
viewed_in space (held.Null ∷ slots) = viewed_in space slots
viewed_in space (held.Copy key ∷ slots) = viewed_in space slots
viewed_in space (held.View a ∷ slots) = option_to_list (name_at space a) ++ viewed_in space slots

-- each view in slots is one that a variable of a thread's call in progress holds
abbrev pub AreViewed : Space → List Buffer → Thread → Type 0
AreViewed space slots t = (n : ℕ) → times n (viewed_in space slots) ≤ times n (objects_viewed t.variables)

-- a variable is a buffer, and this slot stands for it
pub record HoldsBuffer (space : Space) (buffers : HeldBuffers) (slot : ℕ) (v : Option Variable) : Type 0 where
  pub type : ElementType
  pub buffer : source.Buffer
  pub is : v ≡ Some (Elements type buffer)
  pub held : Buffer
  pub there : slice_get buffers.slots slot ≡ Some held
  pub agrees : BufferAgrees space buffers.copies buffers.owner held buffer

-- a buffer is a copy of an object, of as many numbers, each in the range of a `jint`
abbrev pub IsCopyOf : Heap → ℕ → source.Buffer → Type 0
IsCopyOf heap n (Copy m zs) = AllByRecursion (FitsSigned w32) zs × (length zs ≡ length (values_of heap n))
IsCopyOf heap n b = ⊥

-- ---- a release

-- a mode by which the numbers of a copy go back
abbrev pub copies_back : ReleaseMode → Bool
copies_back mode.FreeUncopied = false
copies_back m = true

-- a mode by which the buffer is given up
abbrev pub gives_up : ReleaseMode → Bool
gives_up mode.CopyBack = false
gives_up m = true

-- ---- the copied lists of calls

-- what a call does whose lists have this owner leaves those of others
abbrev pub KeepsCopies : (owner : ℕ) → (before after : List (Option OwnedNumbers)) → Type 0
KeepsCopies owner before after = (key : ℕ) (c : OwnedNumbers) → value_at before key ≡ Some c → c.owner ≢ owner → value_at after key ≡ Some c
