-- What the operands of a call give.
use Rattle.std.specs.Prelude.{◌≡◌, ℕ, ◌+◌, ℤ, Bool, true, false, List, [], ◌∷◌, length, slice_get, unwrap_or, Option, Some, None, IsSome, FitsSigned, ◌⊎◌}
use Rattle.std.specs.Int.{w32, cast_unsigned}
use Rattle.base.specs.Bytes.{Identifier, lookup}
use Rattle.base.specs.declared.element.ElementType.{ElementType}
use Rattle.base.specs.declared.element.ElementType.TheVariants.{Int as JInt}
use Rattle.syntax.specs.Tree.{SourceUnit}
use Rattle.class_rules.specs.Class.{Classes, NumberField, assignable}
use Rattle.class_rules.specs.Fields.{FieldId}
use Rattle.classes.specs.FieldViews.{field_of}
use Rattle.classes.specs.declared.class.FieldHandle.{FieldHandle}
use Rattle.code.specs.declared.instr.LocalArray.{LocalArray as ArraySlots}
use Rattle.code.specs.declared.instr.Operand.{Operand}
use Rattle.code.specs.declared.instr.Operand.TheVariants as operand
use Rattle.code_meaning.specs.Coding.{mode_code}
use Rattle.code_meaning.specs.Fits.{IsReferenceKind, TakesNull, TakesLocal, TakesGlobal}
use Rattle.heap.specs.Heap.{Space, IsAddress, class_at, name_at}
use Rattle.jni.specs.declared.access.Access.{Access}
use Rattle.jni.specs.declared.kinds.ParameterKind.{ParameterKind}
use Rattle.jni.specs.declared.kinds.ParameterKind.TheVariants.{FieldID, MethodID, IntNumber, Passed, TextBytes, ArrayVariable, BufferVariable, Mode, IsCopy}
use Rattle.jni.specs.declared.mode.ReleaseMode.{ReleaseMode}
use Rattle.semantics.specs.Arguments.{Actual, ReferenceActual, FieldActual, MethodActual, NumberActual, TextActual, VariableActual, ModeActual, NothingActual}
use Rattle.semantics.specs.Method.{MethodId}
use Rattle.semantics.specs.Object.{Reference}
use Rattle.semantics.specs.Variable.{Variable, LocalArray, Variables, StaticReference, Empty, as_static}
use Rattle.machine_scenes.specs.Buffers.{HeldBuffers, HoldsBuffer}
use Rattle.machine_scenes.specs.FieldIds.{FieldAgrees, MethodAgrees, field_held, method_held}
use Rattle.machine_scenes.specs.declared.handle.Handle.{Handle}
use Rattle.machine_scenes.specs.declared.handle.MethodHandle.{MethodHandle}
use Rattle.machine_scenes.specs.StoreAgrees.{HeldAgrees}
use Rattle.machine_scenes.specs.HeapAgrees.{ReferenceAgrees}
use Rattle.machine_scenes.specs.Locals.{address_of}
use Rattle.machine_scenes.specs.Statics.{References, held_address, held_argument, static_at}

-- what a slot holds; NULL where there is none
abbrev pub held_in : {A : Type 0} → Option (Option A) → Option A
held_in None = None
held_in (Some a) = a

-- the address that an operand gives
abbrev pub operand_at : References → Operand → Option ℕ
operand_at references (operand.Local i) = address_of references.locals (held_in (slice_get references.keys i))
operand_at references (operand.Static i) = held_address (static_at references i)
operand_at references o = None

-- the key of the local reference that an operand gives; none of NULL, and of what is no local reference
abbrev pub key_at : References → Operand → Option ℕ
key_at references (operand.Local i) = held_in (slice_get references.keys i)
key_at references o = None

-- the field ID that an operand gives
abbrev pub field_at : List (Option Handle) → Operand → Option FieldHandle
field_at fields (operand.FieldId i) = field_held (held_in (slice_get fields i))
field_at fields o = None

-- the method ID that an operand gives
abbrev pub method_at : List (Option Handle) → Operand → Option MethodHandle
method_at fields (operand.MethodId i) = method_held (held_in (slice_get fields i))
method_at fields o = None

-- an operand gives the reference that an argument of the source is: NULL, the object of a local reference, or what a static holds
pub data ReferenceIsGiven (space : Space) (references : References) (p : ParameterKind) : Operand → StaticReference → Type 0 where
  null : TakesNull p → ReferenceIsGiven space references p operand.Null Empty
  local : {i : ℕ} (r : Reference) → TakesLocal p → ReferenceAgrees space (operand_at references (operand.Local i)) r
      → ReferenceIsGiven space references p (operand.Local i) (as_static r)
  static : {i : ℕ} {r : StaticReference} → TakesGlobal p → HeldAgrees space (held_argument (static_at references i)) r
      → ReferenceIsGiven space references p (operand.Static i) r

-- an argument of the source is what its parameter asks for, and an operand gives it; a number is on the stack, a text among the call's, and a
-- variable itself in its slots
pub data IsGiven (unit : SourceUnit) (classes : Classes) (space : Space) (references : References) (fields : List (Option Handle)) :
    ParameterKind → Operand → Actual → Type 0 where
  number : {z : ℤ} → FitsSigned w32 z → IsGiven unit classes space references fields IntNumber operand.Number (NumberActual z)
  passed : {z : ℤ} → FitsSigned w32 z → IsGiven unit classes space references fields Passed operand.Number (NumberActual z)
  text : {bytes : List ℕ} → IsGiven unit classes space references fields TextBytes operand.Text (TextActual bytes)
  reference : {p : ParameterKind} {o : Operand} {x : Identifier} {r : StaticReference} → IsReferenceKind p
      → ReferenceIsGiven space references p o r → IsGiven unit classes space references fields p o (ReferenceActual x r)
  null_field : IsGiven unit classes space references fields FieldID operand.Null (FieldActual None)
  field : {i : ℕ} {f : Option FieldId} → FieldAgrees classes (field_at fields (operand.FieldId i)) f
      → IsGiven unit classes space references fields FieldID (operand.FieldId i) (FieldActual f)
  null_method : IsGiven unit classes space references fields MethodID operand.Null (MethodActual None)
  method : {i : ℕ} {m : Option MethodId} → MethodAgrees unit classes (method_at fields (operand.MethodId i)) m
      → IsGiven unit classes space references fields MethodID (operand.MethodId i) (MethodActual m)
  array : {t : ElementType} {slots : ArraySlots} {x : Identifier}
      → IsGiven unit classes space references fields (ArrayVariable t) (operand.Array slots) (VariableActual x)
  buffer : {access : Access} {i : ℕ} {x : Identifier}
      → IsGiven unit classes space references fields (BufferVariable access) (operand.Buffer i) (VariableActual x)
  mode : {m : ReleaseMode} → IsGiven unit classes space references fields Mode (operand.Mode (mode_code m)) (ModeActual m)
  not_told : IsGiven unit classes space references fields IsCopy operand.Null NothingActual
  told : {i : ℕ} {x : Identifier} → IsGiven unit classes space references fields IsCopy (operand.IsCopy i) (VariableActual x)

-- a local array has these elements, each in its slot as a word
pub record HasElements (numbers : List ℕ) (array : ArraySlots) (v : Option Variable) : Type 0 where
  pub type : ElementType
  pub elements : List ℤ
  pub is : v ≡ Some (LocalArray type elements)
  pub count : length elements ≡ array.len
  pub words : (i : ℕ) (z : ℤ) → slice_get elements i ≡ Some z
      → FitsSigned w32 z × (slice_get numbers (array.start + i) ≡ Some (cast_unsigned w32 z))

-- an operand that is a local array has the elements of the variable that is named
abbrev pub HasArray : (numbers : List ℕ) → Variables → Operand → Actual → Type 0
HasArray numbers vs (operand.Array slots) actual = (x : Identifier) × (actual ≡ VariableActual x) × HasElements numbers slots (lookup x vs)
HasArray numbers vs o actual = Unit {0}

-- an operand that is a buffer stands for the variable that is named
abbrev pub HasBuffer : Space → HeldBuffers → Variables → Operand → Actual → Type 0
HasBuffer space buffers vs (operand.Buffer i) actual = (x : Identifier) × (actual ≡ VariableActual x) × HoldsBuffer space buffers i (lookup x vs)
HasBuffer space buffers vs o actual = Unit {0}

-- a reference is NULL or the address of a block
abbrev pub ReferenceIsThere : Space → Option ℕ → Type 0
ReferenceIsThere space r = (a : ℕ) → r ≡ Some a → IsAddress space a

-- each operand gives NULL or the address of a block
abbrev pub AreAddresses : Space → References → List Operand → Type 0
AreAddresses space references [] = Unit {0}
AreAddresses space references (o ∷ operands) = ReferenceIsThere space (operand_at references o) × AreAddresses space references operands

-- an operand, and NULL where there is none
abbrev pub operand_or_null : Option Operand → Operand
operand_or_null None = operand.Null
operand_or_null (Some o) = o

-- the operand at a place
abbrev pub operand_of : List Operand → ℕ → Operand
operand_of operands i = operand_or_null (slice_get operands i)

-- ---- what is there

-- the class of the object at an address, and 0 where there is none
abbrev pub class_there : Space → ℕ → ℕ
class_there space a = unwrap_or (class_at space a) 0

-- the same, and 0 for NULL
abbrev pub class_of_given : Space → Option ℕ → ℕ
class_of_given space None = 0
class_of_given space (Some a) = class_there space a

-- the name of the object at an address, and 0 where there is none
abbrev pub object_there : Space → ℕ → ℕ
object_there space a = unwrap_or (name_at space a) 0

-- the same, and 0 for NULL
abbrev pub name_there : Space → Option ℕ → ℕ
name_there space None = 0
name_there space (Some a) = object_there space a

-- NULL fits every class
abbrev pub fits_there : Classes → Space → Option ℕ → (class : ℕ) → Bool
fits_there classes space None class = true
fits_there classes space (Some a) class = assignable classes (class_there space a) class

-- the field of no handle
abbrev pub no_field : FieldId
no_field = record { class = 0; is_static = false; field = record { name = []; type = NumberField JInt } }

-- the field of a handle
abbrev pub field_there : Classes → Option FieldHandle → FieldId
field_there classes None = no_field
field_there classes (Some h) = unwrap_or (field_of classes h) no_field

-- a field ID is NULL or a handle of a field
abbrev pub FieldIsThere : Classes → Option FieldHandle → Type 0
FieldIsThere classes field_id = (h : FieldHandle) → field_id ≡ Some h → IsSome (field_of classes h)

-- each operand that is a field ID gives NULL or a handle of a field
abbrev pub AreHandles : Classes → List (Option Handle) → List Operand → Type 0
AreHandles classes fields [] = Unit {0}
AreHandles classes fields (o ∷ operands) = FieldIsThere classes (field_at fields o) × AreHandles classes fields operands
