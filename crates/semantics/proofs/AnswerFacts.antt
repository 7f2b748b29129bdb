-- What is known of the answers of a call: what is given, what is written, made and raised, by what the call sees and what its checks let through.
use Rattle.std.specs.Prelude.{◌≡◌, ℕ, ◌+◌, ◌≤◌, ℤ, pos, Bool, true, false, List, length, replicate, slice_get, Some}
use Rattle.std.specs.Option.{option_map_or}
use Rattle.base.specs.declared.element.ElementType.{ElementType}
use Rattle.base.specs.declared.element.ElementType.TheVariants.{Char as JChar}
use Rattle.syntax.specs.Tree.{SourceUnit}
use Rattle.class_rules.specs.BuiltIns.{array_index_out_of_bounds, array_store_exception, has_own_making, illegal_monitor_state, negative_array_size, no_class_def_found_error, no_such_field_error, no_such_method_error, number_array, string_index_out_of_bounds}
use Rattle.class_rules.specs.Class.{Classes, array_class_of, class_kind, element_class, is_plain}
use Rattle.class_rules.specs.Fields.{FieldId, find_field, find_static, layout}
use Rattle.jni.specs.declared.function.JniFunction.{JniFunction}
use Rattle.jni.specs.declared.function.JniFunction.TheVariants.{GetStaticMethodID}
use Rattle.jni.specs.JniFunction.{parameters_for}
use Rattle.jni.specs.declared.kinds.ParameterKind.{ParameterKind}
use Rattle.jni.specs.declared.kinds.ParameterKind.TheVariants.{ArrayVariable, ClassObject, FieldID, NumberArray, ObjectArray, StringObject, TextBytes}
use Rattle.jni.specs.declared.kinds.ResultKind.{ResultKind}
use Rattle.jni.specs.declared.kinds.ResultKind.TheVariants.{NewLocal, NewWeak, GivesFlag, GivesInt, GivesField, GivesMethod, GivesNothing}
use Rattle.semantics.specs.Answer.{Region}
use Rattle.semantics.specs.AnswerTable.{fits}
use Rattle.semantics.specs.CallSight.{CallSight, name_of_first, name_of_second}
use Rattle.semantics.specs.Checks.{fits_field, has_field, has_static}
use Rattle.jni.specs.declared.mode.ReleaseMode.{ReleaseMode}
use Rattle.jni.specs.declared.mode.ReleaseMode.TheVariants.{CopyBackAndFree, CopyBack, FreeUncopied}
use Rattle.semantics.specs.CallEffects.{CallResult, NoResult, ScalarResult, ReferenceResult, WeakResult, FieldResult, MethodResult, string_object}
use Rattle.semantics.specs.Heap.{holds_number, place_in, static_place}
use Rattle.semantics.specs.Method.{MethodId, find_method}
use Rattle.semantics.specs.Object.{Object, ObjectValue, Number, Reference, Refers}
use Rattle.semantics.specs.declared.value.Value.TheVariants.{Flag, Int}
use Rattle.semantics.specs.Value.{convert}
use Rattle.semantics.specs.World.{fresh_object}

-- ---- what is given

-- a field or a static that was looked for
pub data IsFound (classes : Classes) (f : FieldId) : Type 0 where
  AsField : (class : ℕ) (name text : List ℕ) → find_field classes class name text ≡ Some f → IsFound classes f
  AsStatic : (class : ℕ) (name text : List ℕ) → find_static classes class name text ≡ Some f → IsFound classes f

-- what is given is of a kind, and was found, where it is a field or a method
pub data IsOfKind (unit : SourceUnit) (classes : Classes) : ResultKind → CallResult → Type 0 where
  OfReference : (r : Reference) → IsOfKind unit classes NewLocal (ReferenceResult r)
  OfWeak : (r : Reference) → IsOfKind unit classes NewWeak (WeakResult r)
  OfFlag : (b : Bool) → IsOfKind unit classes GivesFlag (ScalarResult (Flag b))
  OfInt : (z : ℤ) → IsOfKind unit classes GivesInt (ScalarResult (Int z))
  OfField : (f : FieldId) → IsFound classes f → IsOfKind unit classes GivesField (FieldResult (Some f))
  OfMethod : (m : MethodId) (class : ℕ) (name text : List ℕ) → find_method unit classes class name text ≡ Some m
      → IsOfKind unit classes GivesMethod (MethodResult (Some m))
  OfNothing : IsOfKind unit classes GivesNothing NoResult

-- ---- what the arguments are

-- an argument of a function is of a kind, counted from 0
abbrev pub Takes : JniFunction → (argument : ℕ) → ParameterKind → Type 0
Takes f i kind = (n : ℕ) → slice_get (parameters_for f n) i ≡ Some kind

-- the first argument is an array or a string of such numbers
pub data TakesNumbers (f : JniFunction) : ElementType → Type 0 where
  OfArray : (T : ElementType) → Takes f 0 (NumberArray T) → TakesNumbers f T
  OfString : Takes f 0 StringObject → TakesNumbers f JChar

-- a release in this mode gives the buffer up
abbrev pub frees_in : ReleaseMode → Bool
frees_in CopyBackAndFree = true
frees_in CopyBack = false
frees_in FreeUncopied = true

-- ---- what is raised

-- the classes of which a function raises an exception by itself
pub data IsRaised (f : JniFunction) : (class : ℕ) → Type 0 where
  NoClass : IsRaised f no_class_def_found_error
  NoField : IsRaised f no_such_field_error
  NoMethod : f ≡ GetStaticMethodID → IsRaised f no_such_method_error
  NoElement : IsRaised f array_index_out_of_bounds
  NoUnit : IsRaised f string_index_out_of_bounds
  NoStore : IsRaised f array_store_exception
  NoSize : IsRaised f negative_array_size
  NoOwner : IsRaised f illegal_monitor_state

-- a call of a function that sees this
module _ (classes : Classes) (sight : CallSight) where
  -- ---- what is written

  -- a value fits the field of the second argument
  pub data FitsField : ObjectValue → Type 0 where
    AsNumber : (T : ElementType) (z : ℤ) → holds_number T sight.second.field.field.type ≡ true → FitsField (Number (convert T z))
    AsReference : fits_field classes sight.third sight.second.field.field.type ≡ true → FitsField (Refers sight.third.reference)

  -- a value fits the place where it is written
  pub data IsWrite (f : JniFunction) : (object place : ℕ) → ObjectValue → Type 0 where
    ToField : (v : ObjectValue) → Takes f 1 FieldID → has_field classes sight ≡ true → FitsField v
        → IsWrite f (name_of_first sight) (place_in sight.second.field (layout classes sight.first.object.class)) v
    ToStatic : (v : ObjectValue) → Takes f 1 FieldID → has_static classes sight ≡ true → FitsField v
        → IsWrite f sight.second.field.class (static_place classes sight.second.field) v
    ToElement : (i : ℕ) → Takes f 0 ObjectArray → fits classes sight.third (element_class (class_kind classes sight.first.object.class)) ≡ true
        → IsWrite f (name_of_first sight) i (Refers sight.third.reference)

  -- a region of the first argument, whose numbers are of the type of the local array
  pub record IsRegion (f : JniFunction) (r : Region) : Type 0 where
    pub object : r.object ≡ name_of_first sight
    pub within : r.start + r.count ≤ length sight.first.object.values
    pub few : r.count ≤ sight.elements
    pub element : ElementType
    pub numbers : TakesNumbers f element
    pub array : Takes f 3 (ArrayVariable element)

  -- ---- what is made

  -- an object of a class that has no making of its own, an array of a class that is there, or a string
  pub data IsMade (f : JniFunction) : Object → Type 0 where
    OfClass : Takes f 0 ClassObject → has_own_making classes (name_of_first sight) ≡ false → IsMade f (fresh_object classes (name_of_first sight))
    OfNumbers : (T : ElementType) (n : ℕ) → IsMade f (record { class = number_array T; values = replicate n (Number (pos 0)) })
    OfReferences : (n : ℕ) → Takes f 1 ClassObject → is_plain (class_kind classes (name_of_second sight)) ≡ true
        → fits classes sight.third (name_of_second sight) ≡ true
        → IsMade f (record { class = option_map_or (λ c. c) (array_class_of classes (name_of_second sight)) 0; values = replicate n (Refers sight.third.reference) })
    OfText : Takes f 0 TextBytes → IsMade f (string_object sight.first.text)
