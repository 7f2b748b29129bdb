-- What a call of a JNI function asks of its arguments and of what is around it: all that its checks and its answer go by.
use Rattle.std.specs.Prelude.{ℕ, ℤ, Bool, true, false, List, drop, length, map, nat_le, slice_get, Option, Some, None}
use Rattle.std.specs.Option.{option_map_or}
use Rattle.base.specs.Bytes.{Identifier, lookup}
use Rattle.class_rules.specs.Fields.{FieldId}
use Rattle.jni.specs.declared.function.JniFunction.{JniFunction}
use Rattle.jni.specs.declared.function.JniFunction.TheVariants.{DeleteGlobalRef, DeleteWeakGlobalRef}
use Rattle.jni.specs.JniFunction.{prototype}
use Rattle.jni.specs.declared.kinds.ParameterKind.{ParameterKind}
use Rattle.jni.specs.declared.kinds.ParameterKind.TheVariants.{ArrayVariable}
use Rattle.jni.specs.declared.mode.ReleaseMode.{ReleaseMode}
use Rattle.semantics.specs.Arguments.{Actual, ReferenceActual, FieldActual, MethodActual, NumberActual, field_in_actual, method_in_actual, mode_in_actual, name_or_zero, number_in_actual, reference_in_actual, text_in_actual, variable_given}
use Rattle.semantics.specs.CallEffects.{local_array}
use Rattle.semantics.specs.Heap.{Heap, class_of, values_of}
use Rattle.semantics.specs.Method.{MethodId}
use Rattle.semantics.specs.Object.{Object, Reference}
use Rattle.semantics.specs.Thread.{Frame, Monitor, Shared, Thread, monitor_of}
use Rattle.semantics.specs.Variable.{StaticReference, Deleted, Empty, Variables, Statics}

-- what is asked of one argument; what it is not of its kind is NULL, 0 or nothing
pub record ArgumentSight : Type 0 where
  -- the object that it refers to
  pub reference : Reference
  -- the class and the values of that object
  pub object : Object
  pub number : ℤ
  pub text : List ℕ
  pub field : FieldId
  pub method : Option MethodId
  pub mode : ReleaseMode
  -- a static that is marked as deleted
  pub is_deleted : Bool
  -- NULL, where a reference, a field ID or a method ID is given
  pub is_null : Bool
  -- what a method may be passed
  pub is_number : Bool
  pub is_reference : Bool

-- what is asked of a call
pub record CallSight : Type 0 where
  -- its arguments after `env`, and the first three of them
  pub arguments : List ArgumentSight
  pub first : ArgumentSight
  pub second : ArgumentSight
  pub third : ArgumentSight
  -- the class object that declares the field or static of the second
  pub declaring : Object
  -- the monitor of the object of the first
  pub monitor : Option Monitor
  -- how many elements the local array has that the fourth names, where the function takes one
  pub elements : ℕ
  -- what the static holds that the first names, where the function deletes it
  pub held : Option StaticReference
  -- the pending exception
  pub pending : Reference
  -- whether the current frame holds as many references as it may, and the one below it
  pub is_full : Bool
  pub is_full_below : Bool
  -- how many calls wait for this one
  pub callers : ℕ

-- the object of the first argument, and 0 for NULL: of a class object this is its class
abbrev pub name_of_first : CallSight → ℕ
name_of_first sight = name_or_zero sight.first.reference

-- that of the second
abbrev pub name_of_second : CallSight → ℕ
name_of_second sight = name_or_zero sight.second.reference

-- ---- what the source gives to see

-- the object of a name; of no object one of no values
abbrev pub object_seen : Heap → ℕ → Object
object_seen heap n = record { class = class_of heap n; values = values_of heap n }

-- a static that is marked as deleted
abbrev pub is_deleted : Actual → Bool
is_deleted (ReferenceActual x Deleted) = true
is_deleted a = false

-- NULL for a reference, a field ID or a method ID
abbrev pub is_null_actual : Option Actual → Bool
is_null_actual (Some (ReferenceActual x Empty)) = true
is_null_actual (Some (FieldActual None)) = true
is_null_actual (Some (MethodActual None)) = true
is_null_actual a = false

-- a number
abbrev pub is_number_actual : Option Actual → Bool
is_number_actual (Some (NumberActual z)) = true
is_number_actual a = false

-- a reference, NULL or not
abbrev pub is_reference_actual : Option Actual → Bool
is_reference_actual (Some (ReferenceActual x r)) = true
is_reference_actual a = false

-- what is seen of an argument
abbrev pub argument_seen : Heap → Option Actual → ArgumentSight
argument_seen heap a = record {
  reference = reference_in_actual a;
  object = object_seen heap (name_or_zero (reference_in_actual a));
  number = number_in_actual a;
  text = text_in_actual a;
  field = field_in_actual a;
  method = method_in_actual a;
  mode = mode_in_actual a;
  is_deleted = option_map_or is_deleted a false;
  is_null = is_null_actual a;
  is_number = is_number_actual a;
  is_reference = is_reference_actual a;
}

-- the frame holds as many references as it may
abbrev pub is_full : Option Frame → Bool
is_full None = true
is_full (Some frame) = nat_le frame.capacity (length frame.references)

-- how many elements a local array has, where the parameter is one
abbrev pub elements_seen : Variables → Option ParameterKind → Identifier → ℕ
elements_seen vs (Some (ArrayVariable T)) x = length (local_array (lookup x vs))
elements_seen vs p x = 0

-- what the static holds that a call deletes
abbrev pub held_seen : Statics → JniFunction → Identifier → Option StaticReference
held_seen ss DeleteGlobalRef x = lookup x ss
held_seen ss DeleteWeakGlobalRef x = lookup x ss
held_seen ss f x = None

-- A call of a function by a thread with these variables and frames, so many calls that wait for this one, and this pending exception.
module _ (s : Shared) (vs : Variables) (frames : List Frame) (callers : ℕ) (pending : Reference) where
  -- what is seen of it with these arguments
  abbrev pub call_seen : JniFunction → List Actual → CallSight
  call_seen f args =
      let at = λ (i : ℕ). argument_seen s.heap (slice_get args i) in
      record {
        arguments = map (λ (a : Actual). argument_seen s.heap (Some a)) args;
        first = at 0;
        second = at 1;
        third = at 2;
        declaring = object_seen s.heap (field_in_actual (slice_get args 1)).class;
        monitor = monitor_of s.monitors (name_or_zero (reference_in_actual (slice_get args 0)));
        elements = elements_seen vs (slice_get (prototype f).parameters 3) (variable_given args 3);
        held = held_seen s.statics f (variable_given args 0);
        pending = pending;
        is_full = is_full (slice_get frames 0);
        is_full_below = is_full (slice_get (drop 1 frames) 0);
        callers = callers;
      }

-- what is seen of a call of a thread
abbrev pub sight_of_call : Shared → Thread → JniFunction → List Actual → CallSight
sight_of_call s t f args = call_seen s t.variables t.frames (length t.callers) t.pending f args
