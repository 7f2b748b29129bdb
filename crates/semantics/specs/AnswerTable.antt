-- What each JNI function answers, all checks being passed, by what its call asks (JNI Specification, chapter 4), and what that does.
use Rattle.std.specs.Prelude.{ℕ, ◌+◌, ◌-◌, ◌==◌, nat_le, nat_lt, if◌then◌else◌, Bool, true, false, ℤ, pos, negsuc, List, length, replicate, slice_get, is_some, Option, Some, None}
use Rattle.std.specs.Option.{option_map_or}
use Rattle.base.specs.Limits.{most_monitor_entries}
use Rattle.syntax.specs.Tree.{SourceUnit}
use Rattle.class_rules.specs.BuiltIns.{array_index_out_of_bounds, array_store_exception, illegal_monitor_state, negative_array_size, no_class_def_found_error, no_such_field_error, no_such_method_error, number_array, string_index_out_of_bounds}
use Rattle.class_rules.specs.Class.{Classes, array_class_of, assignable, class_kind, class_named, element_class, superclass}
use Rattle.class_rules.specs.Fields.{FieldId, find_field, find_static, layout}
use Rattle.jni.specs.declared.access.Access.TheVariants.{ElementsCopy, ArrayView, CharsCopy, CharsView}
use Rattle.jni.specs.declared.function.JniFunction.{JniFunction}
use Rattle.jni.specs.declared.function.JniFunction.TheVariants.{FindClass, GetSuperclass, GetObjectClass, IsInstanceOf, IsAssignableFrom, AllocObject, NewLocalRef, NewGlobalRef, NewWeakGlobalRef, DeleteLocalRef, DeleteGlobalRef, DeleteWeakGlobalRef, IsSameObject, EnsureLocalCapacity, PushLocalFrame, PopLocalFrame, GetFieldID, GetStaticFieldID, GetField, SetField, GetStaticField, SetStaticField, GetObjectField, SetObjectField, GetStaticObjectField, SetStaticObjectField, GetArrayLength, NewObjectArray, GetObjectArrayElement, SetObjectArrayElement, NewArray, GetArrayRegion, SetArrayRegion, NewStringUTF, GetStringLength, GetStringRegion, Throw, ThrowNew, ExceptionOccurred, ExceptionCheck, ExceptionClear, FatalError, MonitorEnter, MonitorExit, GetBuffer, ReleaseBuffer, GetStaticMethodID, CallStaticVoidMethod, CallStaticIntMethod, CallStaticObjectMethod}
use Rattle.semantics.specs.Answer.{Answer, Calls, Copies, CopiesBack, DeletesGlobal, DeletesLocal, DeletesWeak, Disowns, Ensures, Frees, GetsRegion, Gives, Halts, Makes, MakesGlobal, Owns, Pends, Pops, Pushes, Raises, RaisesWith, RefusesFrames, Region, SetsRegion, Views, Writes, effect_of}
use Rattle.jni.specs.declared.mode.ReleaseMode.{ReleaseMode}
use Rattle.jni.specs.declared.mode.ReleaseMode.TheVariants.{CopyBackAndFree, CopyBack, FreeUncopied}
use Rattle.semantics.specs.Arguments.{Actual}
use Rattle.semantics.specs.CallEffects.{CallEffect, NoResult, ScalarResult, ReferenceResult, WeakResult, FieldResult, MethodResult, same_reference, string_object}
use Rattle.semantics.specs.CallSight.{ArgumentSight, CallSight, name_of_first, name_of_second, sight_of_call}
use Rattle.semantics.specs.Heap.{number_in, place_in, reference_in, static_place, value_or_zero}
use Rattle.semantics.specs.Method.{MethodId, find_method}
use Rattle.semantics.specs.Object.{Number, Object, ObjectValue, Reference, Refers}
use Rattle.semantics.specs.Thread.{BuffersInUse, Monitor, Shared, Thread}
use Rattle.semantics.specs.declared.trap.Trap.TheVariants.{Fatal, NullReference, OutOfRange}
use Rattle.semantics.specs.declared.value.Value.TheVariants.{Flag, Int}
use Rattle.semantics.specs.Value.{convert}
use Rattle.semantics.specs.Variable.{StaticReference, Live, Weakly, Cleared}
use Rattle.semantics.specs.World.{fresh_object}

-- ---- what is given

-- a `jint`
abbrev pub gives_int : ℤ → Answer
gives_int z = Gives (ScalarResult (Int z))

-- a `jboolean`
abbrev pub gives_flag : Bool → Answer
gives_flag b = Gives (ScalarResult (Flag b))

-- a reference
abbrev pub gives_reference : Reference → Answer
gives_reference r = Gives (ReferenceResult r)

-- a class that was found, or else an exception
abbrev pub found_class : Option ℕ → Answer
found_class None = Raises no_class_def_found_error
found_class (Some c) = gives_reference (Some c)

-- a field that was found, or else an exception
abbrev pub found_field : Option FieldId → Answer
found_field None = Raises no_such_field_error
found_field (Some f) = Gives (FieldResult (Some f))

-- a method that was found, or else an exception
abbrev pub found_method : Option MethodId → Answer
found_method None = Raises no_such_method_error
found_method (Some m) = Gives (MethodResult (Some m))

-- a method is called; no call without one passes its checks
abbrev pub method_called : Option MethodId → Answer
method_called None = Halts NullReference
method_called (Some m) = Calls m

-- ---- references and frames

-- a local reference ends; nothing does for NULL
abbrev pub local_deleted : Reference → Answer
local_deleted None = Gives NoResult
local_deleted (Some n) = DeletesLocal 0 n

-- the global reference ends that a static holds, if it holds one
abbrev pub global_deleted : Option StaticReference → Answer
global_deleted (Some (Live n)) = DeletesGlobal 0 n
global_deleted r = Gives NoResult

-- the weak global reference ends that a static holds, cleared or not, if it holds one
abbrev pub weak_deleted : Option StaticReference → Answer
weak_deleted (Some (Weakly n)) = DeletesWeak 0
weak_deleted (Some Cleared) = DeletesWeak 0
weak_deleted r = Gives NoResult

-- room for this number of references more
abbrev pub ensured : ℤ → Answer
ensured (pos n) = Ensures n
ensured (negsuc n) = RefusesFrames

-- a frame of this capacity
abbrev pub pushed : ℤ → Answer
pushed (pos n) = Pushes n
pushed (negsuc n) = RefusesFrames

-- ---- arrays, strings and regions

-- an array of this class with this many equal values; with fewer than none an exception
abbrev pub new_array : (class : ℕ) → (count : ℤ) → ObjectValue → Answer
new_array class (pos n) v = Makes (record { class = class; values = replicate n v })
new_array class (negsuc n) v = Raises negative_array_size

-- an index, where so many values have it
abbrev pub index_within : (count : ℕ) → ℤ → Option ℕ
index_within count (pos i) = if nat_lt i count then Some i else None
index_within count (negsuc i) = None

-- an element of an array of objects is given; where there is none of the index an exception
abbrev pub element_given : List ObjectValue → (index : Option ℕ) → Answer
element_given values None = Raises array_index_out_of_bounds
element_given values (Some i) = gives_reference (reference_in (value_or_zero (slice_get values i)))

-- an element of an array of objects becomes a reference, if it fits; where there is none of the index an exception
abbrev pub element_set : (fits : Bool) → (object : ℕ) → Reference → (index : Option ℕ) → Answer
element_set fits n r None = Raises array_index_out_of_bounds
element_set fits n r (Some i) = if fits then Writes n i (Refers r) else Raises array_store_exception

-- a part of so many values, where it lies within them
abbrev pub region_within : (object count : ℕ) → (start length : ℤ) → Option Region
region_within n count (pos start) (pos length) =
    if nat_le (start + length) count then Some (record { object = n; start = start; count = length }) else None
region_within n count start length = None

-- a region takes part with a local array of so many elements: an exception where there is no region, and a trap where the array hasn't so many
abbrev pub region_with : (Region → Answer) → (exception elements : ℕ) → Option Region → Answer
region_with go exception elements None = Raises exception
region_with go exception elements (Some r) = if nat_le r.count elements then go r else Halts OutOfRange

-- ---- buffers and monitors

-- a buffer of copied elements is released by its mode
abbrev pub released : (object : ℕ) → ReleaseMode → Answer
released n CopyBackAndFree = CopiesBack n 1 true
released n CopyBack = CopiesBack n 1 false
released n FreeUncopied = Frees 1

-- one entry more of an object with this monitor, which no other thread owns; after 255 of them -1
abbrev pub monitor_entered : (object : ℕ) → Option Monitor → Answer
monitor_entered n None = Owns n 1
monitor_entered n (Some m) = if nat_lt m.count most_monitor_entries then Owns n (m.count + 1) else gives_int (negsuc 0)

-- one entry less of a monitor that thread k owns; with the last one nobody owns the object
abbrev pub monitor_left : (k object : ℕ) → Option Monitor → Answer
monitor_left k n None = Raises illegal_monitor_state
monitor_left k n (Some m) =
    if m.owner == k then (if m.count == 1 then Disowns n else Owns n (m.count - 1)) else Raises illegal_monitor_state

-- ---- what a call asks

-- NULL fits every class
abbrev pub fits : Classes → ArgumentSight → (class : ℕ) → Bool
fits classes a c = option_map_or (λ (n : ℕ). assignable classes a.object.class c) a.reference true

-- a value of an object, and 0 past the end
abbrev pub value_in : Object → (place : ℕ) → ObjectValue
value_in o i = value_or_zero (slice_get o.values i)

-- thread k calls a function of a unit, which sees this
module _ (unit : SourceUnit) (classes : Classes) (k : ℕ) (sight : CallSight) where
  -- the object of the first argument
  abbrev pub object : ℕ
  object = name_of_first sight

  -- that of the second
  abbrev pub second_object : ℕ
  second_object = name_of_second sight

  -- how many values the first has
  abbrev pub count : ℕ
  count = length sight.first.object.values

  -- the place of the field of the second argument in the object of the first
  abbrev pub place : ℕ
  place = place_in sight.second.field (layout classes sight.first.object.class)

  -- the value of that field
  abbrev pub field_value : ObjectValue
  field_value = value_in sight.first.object place

  -- the place of the static of the second argument in the class object that declares it
  abbrev pub place_of_static : ℕ
  place_of_static = static_place classes sight.second.field

  -- the value of that static
  abbrev pub static_value : ObjectValue
  static_value = value_in sight.declaring place_of_static

  -- the region of the first argument that the second and the third tell
  abbrev pub region : Option Region
  region = region_within object count sight.second.number sight.third.number

  -- what a function answers
  unfoldable pub call_answer : JniFunction → Answer
  call_answer FindClass = found_class (class_named classes sight.first.text)
  call_answer GetSuperclass = gives_reference (superclass classes object)
  call_answer GetObjectClass = gives_reference (Some sight.first.object.class)
  call_answer IsInstanceOf = gives_flag (fits classes sight.first second_object)
  call_answer IsAssignableFrom = gives_flag (assignable classes object second_object)
  call_answer AllocObject = Makes (fresh_object classes object)
  call_answer NewLocalRef = gives_reference sight.first.reference
  call_answer NewGlobalRef = MakesGlobal sight.first.reference
  call_answer NewWeakGlobalRef = Gives (WeakResult sight.first.reference)
  call_answer DeleteLocalRef = local_deleted sight.first.reference
  call_answer DeleteGlobalRef = global_deleted sight.held
  call_answer DeleteWeakGlobalRef = weak_deleted sight.held
  call_answer IsSameObject = gives_flag (same_reference sight.first.reference sight.second.reference)
  call_answer EnsureLocalCapacity = ensured sight.first.number
  call_answer PushLocalFrame = pushed sight.first.number
  call_answer PopLocalFrame = Pops sight.first.reference
  call_answer GetFieldID = found_field (find_field classes object sight.second.text sight.third.text)
  call_answer GetStaticFieldID = found_field (find_static classes object sight.second.text sight.third.text)
  call_answer (GetField T) = gives_int (number_in field_value)
  call_answer (SetField T) = Writes object place (Number (convert T sight.third.number))
  call_answer GetObjectField = gives_reference (reference_in field_value)
  call_answer SetObjectField = Writes object place (Refers sight.third.reference)
  call_answer (GetStaticField T) = gives_int (number_in static_value)
  call_answer (SetStaticField T) = Writes sight.second.field.class place_of_static (Number (convert T sight.third.number))
  call_answer GetStaticObjectField = gives_reference (reference_in static_value)
  call_answer SetStaticObjectField = Writes sight.second.field.class place_of_static (Refers sight.third.reference)
  call_answer GetArrayLength = gives_int (pos count)
  call_answer (NewArray T) = new_array (number_array T) sight.first.number (Number (pos 0))
  call_answer NewObjectArray =
      new_array (option_map_or (λ c. c) (array_class_of classes second_object) 0) sight.first.number (Refers sight.third.reference)
  call_answer GetObjectArrayElement = element_given sight.first.object.values (index_within count sight.second.number)
  call_answer SetObjectArrayElement =
      element_set (fits classes sight.third (element_class (class_kind classes sight.first.object.class)))
      object sight.third.reference (index_within count sight.second.number)
  call_answer (GetArrayRegion T) = region_with GetsRegion array_index_out_of_bounds sight.elements region
  call_answer (SetArrayRegion T) = region_with SetsRegion array_index_out_of_bounds sight.elements region
  call_answer GetStringRegion = region_with GetsRegion string_index_out_of_bounds sight.elements region
  call_answer (GetBuffer (ElementsCopy T)) = Copies object
  call_answer (GetBuffer ArrayView) = Views object
  call_answer (GetBuffer CharsCopy) = Copies object
  call_answer (GetBuffer CharsView) = Views object
  call_answer (ReleaseBuffer (ElementsCopy T)) = released object sight.third.mode
  call_answer (ReleaseBuffer ArrayView) = Frees 1
  call_answer (ReleaseBuffer CharsCopy) = Frees 1
  call_answer (ReleaseBuffer CharsView) = Frees 1
  call_answer NewStringUTF = Makes (string_object sight.first.text)
  call_answer GetStringLength = gives_int (pos count)
  call_answer Throw = Pends sight.first.reference (ScalarResult (Int (pos 0)))
  call_answer ThrowNew = RaisesWith object sight.second.text
  call_answer ExceptionOccurred = gives_reference sight.pending
  call_answer ExceptionCheck = gives_flag (is_some sight.pending)
  call_answer ExceptionClear = Pends None NoResult
  call_answer FatalError = Halts Fatal
  call_answer MonitorEnter = monitor_entered object sight.monitor
  call_answer MonitorExit = monitor_left k object sight.monitor
  call_answer GetStaticMethodID = found_method (find_method unit classes object sight.second.text sight.third.text)
  call_answer CallStaticVoidMethod = method_called sight.second.method
  call_answer CallStaticIntMethod = method_called sight.second.method
  call_answer CallStaticObjectMethod = method_called sight.second.method

-- thread k calls a function of a unit with these arguments, all checks being passed
module _ (unit : SourceUnit) (classes : Classes) (in_use : BuffersInUse) (k : ℕ) (s : Shared) (t : Thread) (args : List Actual) where
  -- what that does
  abbrev pub call_effect : JniFunction → CallEffect
  call_effect f = effect_of classes in_use k s t args (call_answer unit classes k (sight_of_call s t f args) f)
