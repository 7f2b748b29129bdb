-- What each object is made of, and what variables hold of objects.
use Rattle.std.specs.Prelude.{◌≡◌, ℕ, ◌<◌, ◌≤◌, ◌==◌, ℤ, List, length, slice_get, Option, Some, None, IsTrue, if◌then◌else◌}
use Rattle.std.specs.List.{AllByRecursion}
use Rattle.std.specs.Option.{option_map}
use Rattle.base.specs.Bytes.{Identifier}
use Rattle.base.specs.declared.element.ElementType.{ElementType}
use Rattle.base.specs.declared.element.ElementType.TheVariants.{Char as JChar}
use Rattle.class_rules.specs.BuiltIns.{class_class, string_class}
use Rattle.class_rules.specs.Class.{FieldType, NumberField, ReferenceField, ClassKind, Plain, ArrayOfNumbers, ArrayOfObjects, Classes, class_kind, assignable}
use Rattle.class_rules.specs.Fields.{FieldId, layout, own_statics}
use Rattle.semantics.specs.Heap.{Heap, object_at, values_of}
use Rattle.semantics.specs.Object.{ObjectValue, Number, Refers, Reference, Object}
use Rattle.semantics.specs.State.{State}
use Rattle.semantics.specs.Thread.{Caller, Thread}
use Rattle.semantics.specs.Variable.{Variable, FieldHandle, Elements, LocalArray, Copy, View, Variables}
use Rattle.world_values.specs.DeclaredFields.{IsDeclared}
use Rattle.world_values.specs.WorldRules.{is_in_range}

-- ---- the place of a value

-- NULL, or an object of a class that is assignable to this one
abbrev pub ReferenceFits : Classes → Heap → (class : ℕ) → Reference → Type 0
ReferenceFits classes heap class None = Unit {0}
ReferenceFits classes heap class (Some n) = (o : Object) × (object_at heap n ≡ Some o) × IsTrue (assignable classes o.class class)

-- a number in the range of its type, or such a reference
abbrev pub ValueFits : Classes → Heap → FieldType → ObjectValue → Type 0
ValueFits classes heap (NumberField t) (Number z) = IsTrue (is_in_range t z)
ValueFits classes heap (ReferenceField class) (Refers r) = ReferenceFits classes heap class r
ValueFits classes heap t v = ⊥

-- there is such a place, and the value fits it
abbrev pub PlaceFits : Classes → Heap → Option FieldType → ObjectValue → Type 0
PlaceFits classes heap None v = ⊥
PlaceFits classes heap (Some t) v = ValueFits classes heap t v

-- ---- the values of an object

-- the type of the elements of an array, by its kind, or of the units of a string; other objects have fields
abbrev pub elements_by_kind : (class : ℕ) → ClassKind → Option FieldType
elements_by_kind class Plain = if class == string_class then Some (NumberField JChar) else None
elements_by_kind class (ArrayOfNumbers t) = Some (NumberField t)
elements_by_kind class (ArrayOfObjects element) = Some (ReferenceField element)

-- the same by its class
abbrev pub element_type_of : Classes → (class : ℕ) → Option FieldType
element_type_of classes class = elements_by_kind class (class_kind classes class)

-- the fields of an object of this name and class; those of a class object are the statics that the class declares
abbrev pub fields_of : Classes → (name class : ℕ) → List FieldId
fields_of classes n class = if class == class_class then own_statics classes n else layout classes class

-- the type of a place, where all have this one or else each that of its field
abbrev pub type_in : Option FieldType → List FieldId → (place : ℕ) → Option FieldType
type_in (Some t) fields i = Some t
type_in None fields i = option_map (λ (f : FieldId). f.field.type) (slice_get fields i)

-- the type of a place of an object of this name and class
abbrev pub type_at : Classes → (name class place : ℕ) → Option FieldType
type_at classes n class i = type_in (element_type_of classes class) (fields_of classes n class) i

-- an object of this name is of a class of the table, where this is Class it is one of the class objects, which are the first, and its
-- values fit their places, of which it has as many as fields, or any number of elements
pub record IsTypedObject (classes : Classes) (heap : Heap) (n : ℕ) (o : Object) : Type 0 where
  pub low : 0 < o.class
  pub high : o.class ≤ length classes
  pub of_class : o.class ≡ class_class → n ≤ length classes
  pub count : element_type_of classes o.class ≡ None → length o.values ≡ length (fields_of classes n o.class)
  pub values : (i : ℕ) (v : ObjectValue) → slice_get o.values i ≡ Some v → PlaceFits classes heap (type_at classes n o.class i) v

-- object by object, and the class objects are the first
pub record AreTypedObjects (classes : Classes) (heap : Heap) : Type 0 where
  pub objects : (n : ℕ) (o : Object) → object_at heap n ≡ Some o → IsTypedObject classes heap n o
  pub class_objects : (n : ℕ) → 0 < n → n ≤ length classes → (o : Object) × (object_at heap n ≡ Some o) × (o.class ≡ class_class)

-- ---- variables

-- numbers in the range of a type
abbrev pub AreInRange : ElementType → List ℤ → Type 0
AreInRange t zs = AllByRecursion (λ z. IsTrue (is_in_range t z)) zs

-- the object is an array or a string of numbers of this type
abbrev pub HasNumbers : Classes → Heap → ElementType → ℕ → Type 0
HasNumbers classes heap t n = (o : Object) × (object_at heap n ≡ Some o) × (element_type_of classes o.class ≡ Some (NumberField t))

-- a local array and a copy have numbers of their types, a copy as many as the object that it is of, and copies and views are of objects that have such
abbrev pub IsTypedVariable : Classes → Heap → Variable → Type 0
IsTypedVariable classes heap (LocalArray t zs) = AreInRange t zs
IsTypedVariable classes heap (Elements t (Copy n zs)) = HasNumbers classes heap t n × AreInRange t zs × (length zs ≡ length (values_of heap n))
IsTypedVariable classes heap (Elements t (View n)) = HasNumbers classes heap t n
IsTypedVariable classes heap (FieldHandle (Some f)) = IsDeclared classes f
IsTypedVariable classes heap v = Unit {0}

-- variable by variable
abbrev pub AreTypedVariables : Classes → Heap → Variables → Type 0
AreTypedVariables classes heap vs = AllByRecursion (λ (v : Identifier × Variable). IsTypedVariable classes heap v.1) vs

-- ---- a thread

-- of its call in progress, and of its callers
abbrev pub IsTypedThread : Classes → Heap → Thread → Type 0
IsTypedThread classes heap t =
    AreTypedVariables classes heap t.variables × AllByRecursion (λ (c : Caller). AreTypedVariables classes heap c.variables) t.callers

-- ---- a state

-- objects are typed, and so are the variables of all threads
pub record IsTyped (classes : Classes) (s : State) : Type 0 where
  pub heap : AreTypedObjects classes s.shared.heap
  pub variables : AllByRecursion (IsTypedThread classes s.shared.heap) s.threads

-- each object is there yet, with its class and its number of values
abbrev pub ShapesStay : Heap → Heap → Type 0
ShapesStay before after = (n : ℕ) (o : Object) → object_at before n ≡ Some o → (p : Object)
    × (object_at after n ≡ Some p) × (p.class ≡ o.class) × (length p.values ≡ length o.values)
