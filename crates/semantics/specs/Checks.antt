-- What is checked before a call of a JNI function does anything, in which order, and which trap stops it, by what the call asks.
use Rattle.std.specs.Prelude.{ℕ, ◌+◌, Bool, true, false, not, ◌&&◌, ◌||◌, ◌==◌, nat_le, List, [], ◌∷◌, drop, length, zip, is_some, Option, Some, None}
use Rattle.std.specs.List.{list_any}
use Rattle.base.specs.declared.element.ElementType.{ElementType}
use Rattle.base.specs.Limits.{most_activations}
use Rattle.syntax.specs.declared.declared_type.ParameterType.{ParameterType}
use Rattle.syntax.specs.declared.declared_type.ParameterType.TheVariants.{Jint as IntParameter, Reference as ReferenceParameter}
use Rattle.syntax.specs.declared.unit.ResultType.{ResultType}
use Rattle.syntax.specs.declared.unit.ResultType.TheVariants.{Void, Jint as IntResult, Reference as ReferenceResult}
use Rattle.syntax.specs.Tree.{Parameter}
use Rattle.class_rules.specs.BuiltIns.{class_class, has_own_making, number_array, string_class, throwable_class}
use Rattle.class_rules.specs.Class.{Classes, FieldType, NumberField, ReferenceField, assignable, class_kind, is_object_array, is_plain}
use Rattle.jni.specs.declared.access.Access.TheVariants.{ArrayView}
use Rattle.jni.specs.declared.function.JniFunction.{JniFunction}
use Rattle.jni.specs.declared.function.JniFunction.TheVariants.{AllocObject, CallStaticIntMethod, CallStaticObjectMethod, CallStaticVoidMethod, GetBuffer, GetField, GetObjectField, GetStaticField, GetStaticObjectField, NewObjectArray, PopLocalFrame, SetField, SetObjectField, SetStaticField, SetStaticObjectField, Throw, ThrowNew}
use Rattle.jni.specs.JniFunction.{calls_method, is_allowed_pending, parameters_for, prototype}
use Rattle.jni.specs.declared.kinds.ParameterKind.{ParameterKind}
use Rattle.jni.specs.declared.kinds.ParameterKind.TheVariants.{Nullable, AnyReference, LocalVariable, StaticVariable, WeakVariable, Passed, ClassObject, NumberArray, AnyArray, ObjectArray, StringObject}
use Rattle.jni.specs.declared.kinds.ResultKind.{ResultKind}
use Rattle.jni.specs.declared.kinds.ResultKind.TheVariants.{NewLocal}
use Rattle.semantics.specs.AnswerTable.{fits}
use Rattle.semantics.specs.CallSight.{ArgumentSight, CallSight, name_of_first, name_of_second}
use Rattle.semantics.specs.Heap.{holds_number, holds_reference}
use Rattle.semantics.specs.Method.{MethodId}
use Rattle.semantics.specs.Thread.{Frame}
use Rattle.semantics.specs.declared.trap.Trap.{Trap}
use Rattle.semantics.specs.declared.trap.Trap.TheVariants.{NullReference, ExceptionPending, WrongObject, DeletedReference, NoCapacity, CallsTooDeep}

-- ---- single arguments

-- a parameter may be given NULL
abbrev pub may_be_null : ParameterKind → Bool
may_be_null Nullable = true
may_be_null AnyReference = true
may_be_null LocalVariable = true
may_be_null StaticVariable = true
may_be_null WeakVariable = true
may_be_null Passed = true
may_be_null p = false

-- NULL where an object, a field ID or a method ID is asked for
abbrev pub misses : ParameterKind × ArgumentSight → Bool
misses (p, a) = not (may_be_null p) && a.is_null

-- an object of this class is of another kind than is asked for
abbrev pub misfits_class : Classes → ParameterKind → (class : ℕ) → Bool
misfits_class classes ClassObject c = not (c == class_class)
misfits_class classes (NumberArray T) c = not (c == number_array T)
misfits_class classes AnyArray c = is_plain (class_kind classes c)
misfits_class classes ObjectArray c = not (is_object_array (class_kind classes c))
misfits_class classes StringObject c = not (c == string_class)
misfits_class classes p c = false

-- an argument is an object of another kind
abbrev pub misfits : Classes → ParameterKind × ArgumentSight → Bool
misfits classes (p, a) = is_some a.reference && misfits_class classes p a.object.class

-- what is passed to a parameter is a number, or a reference, as it asks
abbrev pub passes : ParameterType → ArgumentSight → Bool
passes IntParameter a = a.is_number
passes (ReferenceParameter type) a = a.is_reference

-- as many are passed as there are parameters, each of its kind
abbrev pub all_pass : List Parameter → List ArgumentSight → Bool
all_pass [] [] = true
all_pass (p ∷ parameters) (a ∷ more) = passes p.type a && all_pass parameters more
all_pass parameters more = false

-- ---- arguments together

-- the results that the functions that call methods ask for
abbrev pub is_void : ResultType → Bool
is_void Void = true
is_void type = false

abbrev pub is_int : ResultType → Bool
is_int IntResult = true
is_int type = false

abbrev pub is_reference_result : ResultType → Bool
is_reference_result (ReferenceResult r) = true
is_reference_result type = false

-- a reference may be stored in such a field
abbrev pub fits_field : Classes → ArgumentSight → FieldType → Bool
fits_field classes a (NumberField T) = false
fits_field classes a (ReferenceField c) = fits classes a c

-- ---- the order

-- the frames that are there when a result is put into the current one
abbrev pub frames_after : JniFunction → List Frame → List Frame
frames_after PopLocalFrame frames = drop 1 frames
frames_after f frames = frames

-- the trap of the first check that fails
abbrev pub first_trap : List (Bool × Trap) → Option Trap
first_trap [] = None
first_trap ((true, trap) ∷ rest) = Some trap
first_trap ((false, trap) ∷ rest) = first_trap rest

-- the call of a function that sees this
module _ (classes : Classes) (sight : CallSight) where
  -- the first argument is an object that has the field of the second
  abbrev pub has_field : Bool
  has_field = not sight.second.field.is_static && assignable classes sight.first.object.class sight.second.field.class

  -- the first argument is a class that has the static of the second
  abbrev pub has_static : Bool
  has_static = sight.second.field.is_static && assignable classes (name_of_first sight) sight.second.field.class

  -- the method was got from the class of the first argument, returns such a result, and takes what it is passed
  abbrev pub calls_well : (ResultType → Bool) → Option MethodId → Bool
  calls_well returns None = false
  calls_well returns (Some m) =
      m.class == name_of_first sight && returns m.function.result && all_pass m.function.parameters (drop 2 sight.arguments)

  -- the arguments with the kinds of their parameters
  abbrev pub with_kinds : JniFunction → List (ParameterKind × ArgumentSight)
  with_kinds f = zip (parameters_for f (length sight.arguments)) sight.arguments

  -- the frame into which a result goes holds as many references as it may
  abbrev pub has_no_room : JniFunction → Bool
  has_no_room PopLocalFrame = sight.is_full_below
  has_no_room f = sight.is_full

  -- a call of this kind of result puts a local reference into a frame that can hold no more, whatever its result
  abbrev pub lacks_room : JniFunction → ResultKind → Bool
  lacks_room f NewLocal = has_no_room f
  lacks_room f kind = false

  -- where it is to fill a buffer of this element type, if it fills one
  module _ (element : ElementType) where
    -- the arguments of a function, each of its kind, go together
    unfoldable pub go_together : JniFunction → Bool
    go_together AllocObject = not (has_own_making classes (name_of_first sight))
    go_together (GetField T) = has_field && holds_number T sight.second.field.field.type
    go_together (SetField T) = has_field && holds_number T sight.second.field.field.type
    go_together GetObjectField = has_field && holds_reference sight.second.field.field.type
    go_together SetObjectField = has_field && fits_field classes sight.third sight.second.field.field.type
    go_together (GetStaticField T) = has_static && holds_number T sight.second.field.field.type
    go_together (SetStaticField T) = has_static && holds_number T sight.second.field.field.type
    go_together GetStaticObjectField = has_static && holds_reference sight.second.field.field.type
    go_together SetStaticObjectField = has_static && fits_field classes sight.third sight.second.field.field.type
    go_together NewObjectArray = is_plain (class_kind classes (name_of_second sight)) && fits classes sight.third (name_of_second sight)
    go_together (GetBuffer ArrayView) = sight.first.object.class == number_array element
    go_together Throw = assignable classes sight.first.object.class throwable_class
    go_together ThrowNew = assignable classes (name_of_first sight) throwable_class
    go_together CallStaticVoidMethod = calls_well is_void sight.second.method
    go_together CallStaticIntMethod = calls_well is_int sight.second.method
    go_together CallStaticObjectMethod = calls_well is_reference_result sight.second.method
    go_together f = true

    -- the trap of a call, by the order of the checks
    unfoldable pub trap_of : JniFunction → Option Trap
    trap_of f =
        first_trap (
        (is_some sight.pending && not (is_allowed_pending f), ExceptionPending)
        ∷ (list_any (λ (a : ArgumentSight). a.is_deleted) sight.arguments, DeletedReference)
        ∷ (list_any misses (with_kinds f), NullReference)
        ∷ (list_any (misfits classes) (with_kinds f) || not (go_together f), WrongObject)
        ∷ (lacks_room f (prototype f).result, NoCapacity)
        ∷ (calls_method f && nat_le most_activations (sight.callers + 1), CallsTooDeep)
        ∷ [])
