-- What the slots of an activation hold of what can be seen.
use Rattle.std.specs.Prelude.{◌≡◌, ◌≢◌, ℕ, suc, ◌+◌, ◌^◌, ◌<◌, ◌≤◌, Bool, true, false, ℤ, pos, List, [], ◌∷◌, ◌++◌, length, filter_map, replicate, is_none, slice_get, slice_set, if◌then◌else◌, Option, Some, None, FitsSigned}
use Rattle.std.specs.Int.{w32, cast_unsigned}
use Rattle.std.specs.Option.{option_map}
use Rattle.std.specs.Str.{bytes_eq}
use Rattle.base.specs.Limits.{most_elements}
use Rattle.base.specs.Bytes.{Identifier, lookup}
use Rattle.base.specs.declared.element.ElementType.{ElementType}
use Rattle.syntax.specs.declared.declared_type.ParameterType.{ParameterType}
use Rattle.syntax.specs.declared.declared_type.ParameterType.TheVariants.{Jint as IntParameter, Reference as ReferenceParameter}
use Rattle.syntax.specs.Tree.{Parameter}
use Rattle.type_rules.specs.declared.ty.ExprType.{ExprType}
use Rattle.type_rules.specs.declared.ty.ExprType.TheVariants.{Jint, Ref, Global, Weak, FieldId, MethodId, Buffer, Array}
use Rattle.type_rules.specs.declared.ty.ExprType.TheVariants as types
use Rattle.class_rules.specs.Fields as source
use Rattle.semantics.specs.Heap.{numbers_of}
use Rattle.semantics.specs.Method as method
use Rattle.semantics.specs.Object.{ObjectValue, Number, Refers, Reference}
use Rattle.semantics.specs.Sight.{Sight, in_range}
use Rattle.semantics.specs.declared.variable_kind.VariableKind.{VariableKind}
use Rattle.semantics.specs.declared.variable_kind.VariableKind.TheVariants as kinds
use Rattle.semantics.specs.Thread.{Shared, Thread, sight_of}
use Rattle.semantics.specs.declared.trap.Trap.TheVariants.{OutOfRange}
use Rattle.semantics.specs.declared.value.Value.{Value}
use Rattle.semantics.specs.declared.value.Value.TheVariants.{Word, Int, Flag, Truth}
use Rattle.semantics.specs.Value.{Outcome, Gives, Traps, Stuck, convert}
use Rattle.semantics.specs.Variable as variable
use Rattle.semantics.specs.Variable.{Variable, Scalar, LocalRef, FieldHandle, MethodHandle, Elements, LocalArray, NoBuffer, Copy, View, StaticReference, Empty, Live, Weakly, Cleared, Deleted, Statics, as_static, as_argument, assign}
use Rattle.code.specs.declared.instr.NullableVariable.{NullableVariable}
use Rattle.code.specs.declared.instr.NullableVariable.TheVariants as nullable
use Rattle.code.specs.Depth.{Listing}
use Rattle.code.specs.Effect.{truth_word}
use Rattle.code_meaning.specs.Layout.{Slot, Known}

-- ---- values as words

-- the word of a value; a `jint` is kept as its two's complement, and a truth as 1 or 0
abbrev pub word_of : Value → ℕ
word_of (Word n) = n
word_of (Int z) = cast_unsigned w32 z
word_of (Flag b) = truth_word b
word_of (Truth b) = truth_word b

-- a value of this type, in its range
pub data ValueHasType : Value → ExprType → Type 0 where
  word : {n : ℕ} → n < 2 ^ 32 → ValueHasType (Word n) types.Word
  int : {z : ℤ} → FitsSigned w32 z → ValueHasType (Int z) Jint
  flag : {b : Bool} → ValueHasType (Flag b) types.Flag
  truth : {b : Bool} → ValueHasType (Truth b) types.Truth

-- ---- what can be seen

-- what can be seen, the element types of local arrays, of what kind the other variables are declared, the levels of the references
-- that are variables' own, what buffers hold, what the statics do, in the unit's order, and the numbers of objects, by their names
pub record Visible : Type 0 where
  pub sight : Sight
  pub array_type : Identifier → Option ElementType
  pub kind : Identifier → Option VariableKind
  pub owner : Identifier → Option ℕ
  pub buffer : Identifier → variable.Buffer
  pub statics : Statics
  pub numbers : ℕ → List ℤ

-- the element type of a local array
abbrev pub type_of_array : Option Variable → Option ElementType
type_of_array (Some (LocalArray t zs)) = Some t
type_of_array v = None

-- the kind of a variable that is no array
abbrev pub kind_of_variable : Option Variable → Option VariableKind
kind_of_variable (Some (Scalar v)) = Some kinds.Number
kind_of_variable (Some (LocalRef level r)) = Some kinds.Reference
kind_of_variable (Some (FieldHandle f)) = Some kinds.Field
kind_of_variable (Some (MethodHandle m)) = Some kinds.Method
kind_of_variable (Some (Elements t b)) = Some (kinds.Buffer t)
kind_of_variable (Some (LocalArray t zs)) = None
kind_of_variable None = None

-- what a variable holds that is a buffer
abbrev pub held_buffer : Option Variable → variable.Buffer
held_buffer (Some (Elements t b)) = b
held_buffer v = NoBuffer

-- what a thread can see, whose variables have these references of their own
abbrev pub visible_to : (Identifier → Option ℕ) → Shared → Thread → Visible
visible_to own s t = record {
  sight = sight_of s t;
  array_type = λ x. type_of_array (lookup x t.variables);
  kind = λ x. kind_of_variable (lookup x t.variables);
  owner = own;
  buffer = λ x. held_buffer (lookup x t.variables);
  statics = s.statics;
  numbers = numbers_of s.heap;
}

-- a name shows what it did; a buffer holds what it did, of which the elements may be others
pub record IsAsBefore (old new : Visible) (x : Identifier) : Type 0 where
  pub number : new.sight.number x ≡ old.sight.number x
  pub is_null : new.sight.is_null x ≡ old.sight.is_null x
  pub element : (t : ElementType) (i : ℕ) → old.array_type x ≡ Some t → new.sight.element x i ≡ old.sight.element x i
  pub reference : new.sight.reference x ≡ old.sight.reference x
  pub field : new.sight.field x ≡ old.sight.field x
  pub method : new.sight.method x ≡ old.sight.method x
  pub buffer : new.buffer x ≡ old.buffer x
  pub array_type : new.array_type x ≡ old.array_type x
  pub kind : new.kind x ≡ old.kind x
  pub owner : new.owner x ≡ old.owner x

-- each other name shows what it did
abbrev pub OthersStay : (old new : Visible) → Identifier → Type 0
OthersStay old new x = (y : Identifier) → y ≢ x → IsAsBefore old new y

-- a number variable has this value
pub record IsSet (old : Visible) (x : Identifier) (v : Value) (new : Visible) : Type 0 where
  pub is : new.sight.number x ≡ Gives v
  pub kind : new.kind x ≡ Some kinds.Number
  pub statics : new.statics ≡ old.statics
  pub others : OthersStay old new x

-- the statics once NULL is stored in a name: they stay where it is a variable of some kind
abbrev pub nulled_statics : Option VariableKind → Identifier → Statics → Statics
nulled_statics (Some kind) x statics = statics
nulled_statics None x statics = assign x Empty statics

-- a variable that can be NULL, declared as of this kind, is NULL, or a static is, which has none
pub record IsNulled (old : Visible) (kind : Option VariableKind) (x : Identifier) (new : Visible) : Type 0 where
  pub number : new.sight.number x ≡ Stuck
  pub is_null : new.sight.is_null x ≡ Gives true
  pub reference : new.sight.reference x ≡ Empty
  pub field : new.sight.field x ≡ None
  pub method : new.sight.method x ≡ None
  pub buffer : new.buffer x ≡ NoBuffer
  pub array_type : new.array_type x ≡ None
  pub same_kind : new.kind x ≡ kind
  pub statics : new.statics ≡ nulled_statics kind x old.statics
  pub others : OthersStay old new x

-- a local reference is NULL or refers to this object
pub record IsReferred (old : Visible) (x : Identifier) (r : Reference) (new : Visible) : Type 0 where
  pub number : new.sight.number x ≡ Stuck
  pub is_null : new.sight.is_null x ≡ Gives (is_none r)
  pub reference : new.sight.reference x ≡ as_static r
  pub kind : new.kind x ≡ Some kinds.Reference
  pub statics : new.statics ≡ old.statics
  pub others : OthersStay old new x

-- whether a static holds NULL; one that is deleted doesn't, nor one that was cleared
abbrev pub is_empty : StaticReference → Bool
is_empty Empty = true
is_empty (Live n) = false
is_empty (Weakly n) = false
is_empty Cleared = false
is_empty Deleted = false

-- no variable has this name
pub record HasNoVariable (visible : Visible) (x : Identifier) : Type 0 where
  pub number : visible.sight.number x ≡ Stuck
  pub array_type : visible.array_type x ≡ None
  pub kind : visible.kind x ≡ None

-- a static, whose name no variable has, holds this
pub record IsHeld (old : Visible) (x : Identifier) (h : StaticReference) (new : Visible) : Type 0 where
  pub before : HasNoVariable old x
  pub after : HasNoVariable new x
  pub is_null : new.sight.is_null x ≡ Gives (is_empty h)
  pub reference : new.sight.reference x ≡ as_argument h
  pub statics : new.statics ≡ assign x h old.statics
  pub others : OthersStay old new x

-- a field ID is NULL or that of this field
pub record IsFieldSet (old : Visible) (x : Identifier) (f : Option source.FieldId) (new : Visible) : Type 0 where
  pub number : new.sight.number x ≡ Stuck
  pub is_null : new.sight.is_null x ≡ Gives (is_none f)
  pub field : new.sight.field x ≡ f
  pub kind : new.kind x ≡ Some kinds.Field
  pub statics : new.statics ≡ old.statics
  pub others : OthersStay old new x

-- a method ID is NULL or that of this method
pub record IsMethodSet (old : Visible) (x : Identifier) (m : Option method.MethodId) (new : Visible) : Type 0 where
  pub number : new.sight.number x ≡ Stuck
  pub is_null : new.sight.is_null x ≡ Gives (is_none m)
  pub method : new.sight.method x ≡ m
  pub kind : new.kind x ≡ Some kinds.Method
  pub statics : new.statics ≡ old.statics
  pub others : OthersStay old new x

-- whether a buffer is NULL
abbrev pub is_no_buffer : variable.Buffer → Bool
is_no_buffer NoBuffer = true
is_no_buffer b = false

-- a buffer with elements of this type holds this
pub record IsBufferSet (old : Visible) (t : ElementType) (x : Identifier) (b : variable.Buffer) (new : Visible) : Type 0 where
  pub buffer : new.buffer x ≡ b
  pub is_null : new.sight.is_null x ≡ Gives (is_no_buffer b)
  pub kind : new.kind x ≡ Some (kinds.Buffer t)
  pub statics : new.statics ≡ old.statics
  pub others : OthersStay old new x

-- a local array has this number of zeros
pub record IsMade (old : Visible) (t : ElementType) (x : Identifier) (size : ℕ) (new : Visible) : Type 0 where
  pub array_type : new.array_type x ≡ Some t
  pub zeros : (i : ℕ) → i < size → new.sight.element x i ≡ Gives (pos 0)
  pub past : (i : ℕ) → size ≤ i → new.sight.element x i ≡ Traps OutOfRange
  pub statics : new.statics ≡ old.statics
  pub others : OthersStay old new x

-- an element of a local array of this type is this number, converted
pub record IsElementSet (old : Visible) (t : ElementType) (x : Identifier) (index : ℕ) (z : ℤ) (new : Visible) : Type 0 where
  pub array_type : new.array_type x ≡ old.array_type x
  pub is : new.sight.element x index ≡ Gives (convert t z)
  pub elements : (i : ℕ) → i ≢ index → new.sight.element x i ≡ old.sight.element x i
  pub statics : new.statics ≡ old.statics
  pub others : OthersStay old new x

-- ---- slots

-- the ID of a field or that of a method, which share their slots
pub data Handle : Type 0 where
  OfField : source.FieldId → Handle
  OfMethod : method.MethodId → Handle

-- The words of the number variables and the elements of arrays, what the local references hold, and what the field IDs, the method
-- IDs beside them, and the buffers do: a copy has its elements, and a view the name of its object alone. The owners are the levels of
-- those local references that are variables' own.
pub record Slots : Type 0 where
  pub numbers : List ℕ
  pub references : List Reference
  pub owners : List (Option ℕ)
  pub fields : List (Option Handle)
  pub buffers : List variable.Buffer

-- a number variable has a value of its type, whose word is in its slot
pub record ShowsNumber (visible : Visible) (x : Identifier) (numbers : List ℕ) (s : Slot) : Type 0 where
  pub value : Value
  pub is : visible.sight.number x ≡ Gives value
  pub kind : visible.kind x ≡ Some kinds.Number
  pub ty : ValueHasType value s.ty
  pub word : slice_get numbers s.index ≡ Some (word_of value)

-- what a local reference holds is in its slot, and so is its level where it is an object and the variable's own
pub record ShowsReference (visible : Visible) (x : Identifier) (slots : Slots) (i : ℕ) : Type 0 where
  pub reference : Reference
  pub is : visible.sight.reference x ≡ as_static reference
  pub is_null : visible.sight.is_null x ≡ Gives (is_none reference)
  pub no_number : visible.sight.number x ≡ Stuck
  pub kind : visible.kind x ≡ Some kinds.Reference
  pub there : slice_get slots.references i ≡ Some reference
  pub owner : (n level : ℕ) → reference ≡ Some n → visible.owner x ≡ Some level → slice_get slots.owners i ≡ Some (Some level)

-- what a field ID holds is in its slot
pub record ShowsField (visible : Visible) (x : Identifier) (fields : List (Option Handle)) (i : ℕ) : Type 0 where
  pub field : Option source.FieldId
  pub is : visible.sight.field x ≡ field
  pub is_null : visible.sight.is_null x ≡ Gives (is_none field)
  pub no_number : visible.sight.number x ≡ Stuck
  pub kind : visible.kind x ≡ Some kinds.Field
  pub there : slice_get fields i ≡ Some (option_map OfField field)

-- what a method ID holds is in its slot
pub record ShowsMethod (visible : Visible) (x : Identifier) (fields : List (Option Handle)) (i : ℕ) : Type 0 where
  pub method : Option method.MethodId
  pub is : visible.sight.method x ≡ method
  pub is_null : visible.sight.is_null x ≡ Gives (is_none method)
  pub no_number : visible.sight.number x ≡ Stuck
  pub kind : visible.kind x ≡ Some kinds.Method
  pub there : slice_get fields i ≡ Some (option_map OfMethod method)

-- an element is in its slot, as a `jint`
pub record ShowsElement (given : Outcome ℤ) (numbers : List ℕ) (i : ℕ) : Type 0 where
  pub number : ℤ
  pub is : given ≡ Gives number
  pub fits : FitsSigned w32 number
  pub word : slice_get numbers i ≡ Some (cast_unsigned w32 number)

-- the elements of an array are in their slots
pub record ShowsArray (visible : Visible) (x : Identifier) (numbers : List ℕ) (t : ElementType) (size start : ℕ) : Type 0 where
  pub few : size ≤ most_elements
  pub array_type : visible.array_type x ≡ Some t
  pub elements : (i : ℕ) → i < size → ShowsElement (visible.sight.element x i) numbers (start + i)
  pub past : (i : ℕ) → size ≤ i → visible.sight.element x i ≡ Traps OutOfRange

-- the place of a name among the statics
abbrev pub static_index : Identifier → Statics → Option ℕ
static_index x [] = None
static_index x ((y, h) ∷ rest) = let further = static_index x rest in if bytes_eq x y then Some 0 else option_map suc further

-- a static is at this place among them
pub record IsStaticAt (statics : Statics) (x : Identifier) (i : ℕ) : Type 0 where
  pub place : static_index x statics ≡ Some i
  pub held : StaticReference
  pub there : lookup x statics ≡ Some held

-- a static, which no slot has, is seen as it is
pub record ShowsStatic (visible : Visible) (x : Identifier) (i : ℕ) : Type 0 where
  pub static : IsStaticAt visible.statics x i
  pub no_variable : HasNoVariable visible x
  pub is_null : visible.sight.is_null x ≡ Gives (is_empty static.held)
  pub reference : visible.sight.reference x ≡ as_argument static.held

-- what a buffer holds is in its slot
pub record ShowsBuffer (visible : Visible) (x : Identifier) (buffers : List variable.Buffer) (t : ElementType) (i : ℕ) : Type 0 where
  pub buffer : variable.Buffer
  pub is : visible.buffer x ≡ buffer
  pub is_null : visible.sight.is_null x ≡ Gives (is_no_buffer buffer)
  pub kind : visible.kind x ≡ Some (kinds.Buffer t)
  pub there : slice_get buffers i ≡ Some buffer

-- what the slots show of a name with a slot of this type
abbrev pub ShowsSlot : Visible → Identifier → Slots → Slot → ExprType → Type 0
ShowsSlot visible x slots s types.Word = ShowsNumber visible x slots.numbers s
ShowsSlot visible x slots s Jint = ShowsNumber visible x slots.numbers s
ShowsSlot visible x slots s types.Flag = ShowsNumber visible x slots.numbers s
ShowsSlot visible x slots s types.Truth = Unit {0}
ShowsSlot visible x slots s Ref = ShowsReference visible x slots s.index
ShowsSlot visible x slots s Global = ShowsStatic visible x s.index
ShowsSlot visible x slots s Weak = ShowsStatic visible x s.index
ShowsSlot visible x slots s FieldId = ShowsField visible x slots.fields s.index
ShowsSlot visible x slots s MethodId = ShowsMethod visible x slots.fields s.index
ShowsSlot visible x slots s (Buffer t writable) = ShowsBuffer visible x slots.buffers t s.index
ShowsSlot visible x slots s (Array t size) = ShowsArray visible x slots.numbers t size s.index

-- the slots show each known name, and there are as many of each kind as the code wants
pub record Shows (code : Listing) (known : Known) (visible : Visible) (slots : Slots) : Type 0 where
  pub numbers : length slots.numbers ≡ code.slots.numbers
  pub references : length slots.references ≡ code.slots.references
  pub owners : length slots.owners ≡ code.slots.references
  pub fields : length slots.fields ≡ code.slots.field_ids
  pub buffers : length slots.buffers ≡ code.slots.buffers
  pub each : (x : Identifier) (s : Slot) → lookup x known ≡ Some s → ShowsSlot visible x slots s s.ty

-- ---- the elements of buffers

-- the elements of a buffer, by the numbers of objects; NULL has none
abbrev pub elements_in : variable.Buffer → (numbers : ℕ → List ℤ) → List ℤ
elements_in NoBuffer numbers = []
elements_in (Copy n zs) numbers = zs
elements_in (View n) numbers = numbers n

-- what is seen of one
abbrev pub seen_element : variable.Buffer → (numbers : ℕ → List ℤ) → ℕ → Outcome ℤ
seen_element b numbers i = if is_no_buffer b then Stuck else in_range (slice_get (elements_in b numbers) i)

-- What is seen of a buffer are the elements of what it holds, and those of each buffer in a slot are `jint`s, at indices that are.
pub record SeesBuffers (visible : Visible) (buffers : List variable.Buffer) : Type 0 where
  pub seen : (x : Identifier) (t : ElementType) (i : ℕ) → visible.kind x ≡ Some (kinds.Buffer t)
      → visible.sight.element x i ≡ seen_element (visible.buffer x) visible.numbers i
  pub fit : (slot i : ℕ) (b : variable.Buffer) (z : ℤ) → slice_get buffers slot ≡ Some b → slice_get (elements_in b visible.numbers) i ≡ Some z
      → (i < 2 ^ 31) × FitsSigned w32 z

-- a buffer with an element of it written, converted; a view stays, as its object has the element
abbrev pub with_element : ElementType → (index : ℕ) → ℤ → variable.Buffer → variable.Buffer
with_element t index z (Copy n zs) = Copy n (slice_set zs index (convert t z))
with_element t index z b = b

-- the elements of what is in a slot
abbrev pub slot_elements : Visible → Slots → ℕ → Option (List ℤ)
slot_elements visible slots i = option_map (λ b. elements_in b visible.numbers) (slice_get slots.buffers i)

-- ---- NULL

-- whether a variable is NULL
abbrev pub holds_null : Visible → Slots → NullableVariable → Option Bool
holds_null visible slots (nullable.Local i) = option_map is_none (slice_get slots.references i)
holds_null visible slots (nullable.Static i) = option_map (λ (named : Identifier × StaticReference). is_empty named.1) (slice_get visible.statics i)
holds_null visible slots (nullable.FieldId i) = option_map is_none (slice_get slots.fields i)
holds_null visible slots (nullable.Buffer i) = option_map is_no_buffer (slice_get slots.buffers i)

-- the slots with NULL in a variable; a static has none
abbrev pub with_null : NullableVariable → Slots → Slots
with_null (nullable.Local i) slots = record slots { references = slice_set slots.references i None }
with_null (nullable.FieldId i) slots = record slots { fields = slice_set slots.fields i None }
with_null (nullable.Buffer i) slots = record slots { buffers = slice_set slots.buffers i NoBuffer }
with_null v slots = slots

-- ---- the entry of a function

-- a number in range, or a reference
abbrev pub ArgumentFits : ParameterType → ObjectValue → Type 0
ArgumentFits IntParameter (Number z) = FitsSigned w32 z
ArgumentFits (ReferenceParameter type) (Refers r) = Unit {0}
ArgumentFits type v = ⊥

-- as many arguments as parameters, each of its kind
abbrev pub ArgumentsFit : List Parameter → List ObjectValue → Type 0
ArgumentsFit [] [] = Unit {0}
ArgumentsFit [] (v ∷ vs) = ⊥
ArgumentsFit (p ∷ ps) [] = ⊥
ArgumentsFit (p ∷ ps) (v ∷ vs) = ArgumentFits p.type v × ArgumentsFit ps vs

-- the word of a number
abbrev pub argument_word : ObjectValue → Option ℕ
argument_word (Number z) = Some (cast_unsigned w32 z)
argument_word (Refers r) = None

-- the reference that an argument is
abbrev pub argument_reference : ObjectValue → Option Reference
argument_reference (Number z) = None
argument_reference (Refers r) = Some r

-- variables' own references are all of the lowest frame
abbrev pub AreOfLowest : (Identifier → Option ℕ) → Type 0
AreOfLowest own = (x : Identifier) (level : ℕ) → own x ≡ Some level → level ≡ 1

-- The slots at the entry: the words of the numbers, and the class and then the references, each kind in order. What comes
-- after them is arbitrary. Each is the variable's own then, in the one frame that there is.
pub record EntrySlots (code : Listing) (class : ℕ) (arguments : List ObjectValue) (slots : Slots) : Type 0 where
  pub numbers : length slots.numbers ≡ code.slots.numbers
  pub more_numbers : List ℕ
  pub words : slots.numbers ≡ filter_map argument_word arguments ++ more_numbers
  pub fields : length slots.fields ≡ code.slots.field_ids
  pub buffers : length slots.buffers ≡ code.slots.buffers
  pub references : length slots.references ≡ code.slots.references
  pub more_references : List Reference
  pub given : slots.references ≡ Some class ∷ filter_map argument_reference arguments ++ more_references
  pub owners : slots.owners ≡ replicate code.slots.references (Some 1)

-- the code has slots for the class and these arguments
pub record HasRoom (code : Listing) (arguments : List ObjectValue) : Type 0 where
  pub numbers : length (filter_map argument_word arguments) ≤ code.slots.numbers
  pub references : length (filter_map argument_reference arguments) < code.slots.references

-- each of these statics is among those shared, at the place that is its slot's
abbrev pub AreShared : (statics : Known) → Shared → Type 0
AreShared statics shared = (x : Identifier) (s : Slot) → lookup x statics ≡ Some s → IsStaticAt shared.statics x s.index
