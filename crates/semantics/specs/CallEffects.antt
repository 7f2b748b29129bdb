-- What calls do to frames, fields, arrays, buffers and monitors, all checks being passed.
use Rattle.std.specs.Prelude.{ℕ, ◌+◌, ◌-◌, max, Bool, true, false, ◌==◌, nat_lt, nat_le, if◌then◌else◌, ℤ, pos, negsuc, List, [], ◌∷◌, ◌++◌, map, length, take, drop, slice_get, slice_set, Option, Some, None}
use Rattle.base.specs.Limits.{most_copied, most_references, most_views}
use Rattle.base.specs.Bytes.{Identifier}
use Rattle.class_rules.specs.BuiltIns.{string_class}
use Rattle.class_rules.specs.Class.{Classes}
use Rattle.class_rules.specs.Fields.{FieldId}
use Rattle.semantics.specs.Method.{MethodId}
use Rattle.semantics.specs.Object.{Object, ObjectValue, Number, Refers, Reference}
use Rattle.semantics.specs.World.{fresh_object}
use Rattle.semantics.specs.Heap.{Heap, next_name}
use Rattle.semantics.specs.Thread.{Shared, Thread, Frame, Monitor, BuffersInUse, capacities}
use Rattle.semantics.specs.declared.trap.Trap.{Trap}
use Rattle.semantics.specs.declared.value.Value.{Value}
use Rattle.semantics.specs.declared.value.Value.TheVariants.{Int}
use Rattle.semantics.specs.Variable.{Variable, LocalRef, Elements, LocalArray, Buffer, NoBuffer, Copy, View, change}

-- what a call gives
pub data CallResult : Type 0 where
  NoResult : CallResult
  NullResult : CallResult
  ScalarResult : Value → CallResult
  ReferenceResult : Reference → CallResult
  -- a weak global reference
  WeakResult : Reference → CallResult
  FieldResult : Option FieldId → CallResult
  MethodResult : Option MethodId → CallResult
  BufferResult : Buffer → CallResult

-- what a call does: a Java exception of this class, a trap, a call of the function of this name, or new objects in their
-- order, what it leaves of the shared state and the thread, and what it gives
pub data CallEffect : Type 0 where
  Throws : (class : ℕ) → CallEffect
  Halts : Trap → CallEffect
  Enters : (function : Identifier) (arguments : List ObjectValue) → CallEffect
  Leaves : (made : List Object) → Shared → Thread → CallResult → CallEffect

-- the name of the one OutOfMemoryError object, which is made right after the class objects
abbrev pub out_of_memory : Classes → ℕ
out_of_memory classes = length classes + 1

-- ---- frames

-- a list without the first place of a name
abbrev pub without_one : ℕ → List ℕ → List ℕ
without_one n [] = []
without_one n (m ∷ rest) = let further = without_one n rest in if n == m then rest else m ∷ further

-- a local reference more in the current frame
abbrev pub with_local : ℕ → List Frame → List Frame
with_local n [] = []
with_local n (frame ∷ below) = record frame { references = n ∷ frame.references } ∷ below

-- a frame with one reference less
abbrev pub deleted_in : ℕ → Option Frame → Frame
deleted_in n None = record { capacity = 0; references = [] }
deleted_in n (Some frame) = record frame { references = without_one n frame.references }

-- one reference less in the frame of a level, counted from the lowest
abbrev pub without_local : ℕ → ℕ → List Frame → List Frame
without_local level n frames = slice_set frames (length frames - level) (deleted_in n (slice_get frames (length frames - level)))

-- the level of a local reference
abbrev pub level_of : Option Variable → ℕ
level_of (Some (LocalRef level r)) = level
level_of v = 0

-- the frames with room for n more in the current one
abbrev pub with_capacity : ℕ → List Frame → List Frame
with_capacity n [] = []
with_capacity n (frame ∷ below) = record frame { capacity = max frame.capacity (length frame.references + n) } ∷ below

-- -4, and the OutOfMemoryError object is pending: no frames are to be had
abbrev pub refuses_frames : Classes → Shared → Thread → CallEffect
refuses_frames classes s t = Leaves [] s (record t { pending = Some (out_of_memory classes) }) (ScalarResult (Int (negsuc 3)))

-- 0 and these frames, if their capacities are at most 1,024
abbrev pub frames_effect : Classes → Shared → Thread → List Frame → CallEffect
frames_effect classes s t frames =
    if nat_le (capacities frames) most_references then Leaves [] s (record t { frames = frames }) (ScalarResult (Int (pos 0)))
    else refuses_frames classes s t

-- both NULL, or one object
abbrev pub same_reference : Reference → Reference → Bool
same_reference None None = true
same_reference (Some n) (Some m) = n == m
same_reference r q = false

-- ---- what only changes the heap, and what makes one object

-- another heap, and no result
abbrev pub heap_effect : Shared → Thread → Heap → CallEffect
heap_effect s t heap = Leaves [] (record s { heap = heap }) t NoResult

-- one new object, which is the result
abbrev pub new_effect : Shared → Thread → Object → CallEffect
new_effect s t o = Leaves (o ∷ []) s t (ReferenceResult (Some (next_name s.heap)))

-- ---- arrays and strings

-- a string, one unit a byte
abbrev pub string_object : List ℕ → Object
string_object bytes = record { class = string_class; values = map (λ b. Number (pos b)) bytes }

-- a list with other elements from a place on
abbrev pub overwritten : List ℤ → ℕ → List ℤ → List ℤ
overwritten zs i new = take i zs ++ new ++ drop (i + length new) zs

-- the elements of a local array
abbrev pub local_array : Option Variable → List ℤ
local_array (Some (LocalArray kind zs)) = zs
local_array v = []

-- a local array with other first elements
abbrev pub begun_with : List ℤ → Variable → Variable
begun_with new (LocalArray kind zs) = LocalArray kind (overwritten zs 0 new)
begun_with new v = v

-- ---- buffers

-- a copy of the object's elements, or NULL where all copies together would be too long
abbrev pub copy_effect : BuffersInUse → Shared → Thread → (object : ℕ) → List ℤ → CallEffect
copy_effect in_use s t object zs = Leaves [] s t (BufferResult (if nat_le (in_use.copied + length zs) most_copied then Copy object zs else NoBuffer))

-- a view of the object, or NULL where 64 are out
abbrev pub view_effect : BuffersInUse → Shared → Thread → ℕ → CallEffect
view_effect in_use s t object = Leaves [] s t (BufferResult (if nat_lt in_use.views most_views then View object else NoBuffer))

-- the elements of a copy
abbrev pub copied_elements : Option Variable → List ℤ
copied_elements (Some (Elements kind (Copy n zs))) = zs
copied_elements v = []

-- a buffer that is given up
abbrev pub freed : Variable → Variable
freed (Elements kind b) = Elements kind NoBuffer
freed v = v

-- the thread with a buffer given up
abbrev pub with_freed : Thread → Identifier → Thread
with_freed t p = record t { variables = change p freed t.variables }

-- ---- exceptions and monitors

-- a new exception object with a message, which is its first field
abbrev pub with_message : Object → Reference → Object
with_message o r = record o { values = slice_set o.values 0 (Refers r) }

-- the message string and then the exception, which is pending
abbrev pub throw_new_effect : Classes → Shared → Thread → (class : ℕ) → List ℕ → CallEffect
throw_new_effect classes s t class text =
    Leaves (string_object text ∷ with_message (fresh_object classes class) (Some (next_name s.heap)) ∷ [])
    s (record t { pending = Some (next_name s.heap + 1) }) (ScalarResult (Int (pos 0)))

-- other monitors, and 0
abbrev pub monitors_effect : Shared → Thread → List Monitor → CallEffect
monitors_effect s t monitors = Leaves [] (record s { monitors = monitors }) t (ScalarResult (Int (pos 0)))

-- an object, its owner, and how many times
abbrev pub monitor : ℕ → ℕ → ℕ → Monitor
monitor object owner count = record { object = object; owner = owner; count = count }
