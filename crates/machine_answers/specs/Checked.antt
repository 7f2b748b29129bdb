-- What is checked of a call before it does anything, by what is in memory.
use Rattle.std.specs.Prelude.{◌≡◌, ℕ, if◌then◌else◌, drop, slice_get, Bool, true, false, not, ◌&&◌, ◌||◌, ◌==◌, List, [], ◌∷◌, ◌++◌, is_some, Option, Some, None}
use Rattle.std.specs.List.{list_any}
use Rattle.base.specs.declared.element.ElementType.{ElementType}
use Rattle.syntax.specs.declared.declared_type.ParameterType.{ParameterType}
use Rattle.syntax.specs.declared.declared_type.ParameterType.TheVariants.{Jint as IntParameter, Reference as ReferenceParameter}
use Rattle.syntax.specs.declared.unit.ResultType.{ResultType}
use Rattle.syntax.specs.Tree.{Function, FunctionItem, Item, Parameter, SourceUnit}
use Rattle.class_queries.specs.Kinds.{class_misfits}
use Rattle.class_rules.specs.BuiltIns.{has_own_making, throwable_class, number_array}
use Rattle.class_rules.specs.Class.{Classes, FieldType, NumberField, ReferenceField, class_kind, is_plain, assignable}
use Rattle.class_rules.specs.Fields.{FieldId}
use Rattle.code.specs.Call.{Call}
use Rattle.code.specs.declared.instr.Operand.{Operand}
use Rattle.code.specs.declared.instr.Operand.TheVariants as operand
use Rattle.heap.specs.Heap.{Space}
use Rattle.jni.specs.declared.access.Access.TheVariants.{ArrayView}
use Rattle.jni.specs.declared.function.JniFunction.{JniFunction}
use Rattle.jni.specs.declared.function.JniFunction.TheVariants.{GetBuffer, AllocObject, GetField, SetField, GetStaticField, SetStaticField, GetObjectField, SetObjectField, GetStaticObjectField, SetStaticObjectField, NewObjectArray, Throw, ThrowNew, CallStaticVoidMethod, CallStaticIntMethod, CallStaticObjectMethod}
use Rattle.jni.specs.JniFunction.{is_allowed_pending, prototype}
use Rattle.jni.specs.declared.kinds.ParameterKind.{ParameterKind}
use Rattle.jni.specs.declared.kinds.ParameterKind.TheVariants.{Nullable, AnyReference, LocalVariable, StaticVariable, WeakVariable, IsCopy, Passed}
use Rattle.jni.specs.declared.kinds.ResultKind.{ResultKind}
use Rattle.jni.specs.declared.kinds.ResultKind.TheVariants.{NewLocal}
use Rattle.semantics.specs.Checks.{is_int, is_reference_result, is_void, first_trap}
use Rattle.semantics.specs.Heap.{holds_number, holds_reference}
use Rattle.semantics.specs.declared.trap.Trap.{Trap}
use Rattle.semantics.specs.declared.trap.Trap.TheVariants.{NullReference, ExceptionPending, WrongObject, DeletedReference, NoCapacity}
use Rattle.machine_scenes.specs.declared.handle.Handle.{Handle}
use Rattle.machine_scenes.specs.declared.handle.MethodHandle.{MethodHandle}
use Rattle.machine_scenes.specs.Given.{operand_at, field_at, method_at, operand_of, class_there, class_of_given, name_there, fits_there, field_there}
use Rattle.machine_scenes.specs.Scenes.{Scene}
use Rattle.machine_scenes.specs.Statics.{References}
use Rattle.machine_answers.specs.Sights.{element_wanted, gives_deleted, gives_null}

-- a parameter may be NULL
abbrev pub may_be_null : ParameterKind → Bool
may_be_null Nullable = true
may_be_null AnyReference = true
may_be_null LocalVariable = true
may_be_null StaticVariable = true
may_be_null WeakVariable = true
may_be_null IsCopy = true
may_be_null Passed = true
may_be_null p = false

-- some operand gives NULL where that isn't allowed
abbrev pub some_missing : References → List (Option Handle) → List ParameterKind → List Operand → Bool
some_missing references fields (p ∷ parameters) (o ∷ operands) = (not (may_be_null p) && gives_null references fields o)
    || some_missing references fields parameters operands
some_missing references fields parameters operands = false

-- the object at an address is of another kind than the parameter
abbrev pub misfits : Classes → Space → ParameterKind → Option ℕ → Bool
misfits classes space p None = false
misfits classes space p (Some a) = class_misfits classes p (class_there space a)

-- some operand gives an object of another kind than its parameter
abbrev pub some_misfit : Classes → Space → References → List ParameterKind → List Operand → Bool
some_misfit classes space references (p ∷ parameters) (o ∷ operands) = misfits classes space p (operand_at references o)
    || some_misfit classes space references parameters operands
some_misfit classes space references parameters operands = false

-- the reference may be stored in a field of this type
abbrev pub fits_type_there : Classes → Space → Option ℕ → FieldType → Bool
fits_type_there classes space r (NumberField T) = false
fits_type_there classes space r (ReferenceField c) = fits_there classes space r c

-- ---- calls of methods

-- the function that an item is
abbrev pub function_in : Option Item → Option Function
function_in (Some (FunctionItem f)) = Some f
function_in item = None

-- a method with this result gives what a function that calls methods asks for
abbrev pub returns : JniFunction → ResultType → Bool
returns CallStaticVoidMethod result = is_void result
returns CallStaticIntMethod result = is_int result
returns f result = is_reference_result result

-- what an operand gives may be passed to a parameter: a number, or a reference, as it asks
abbrev pub takes : ParameterType → Operand → Bool
takes IntParameter operand.Number = true
takes (ReferenceParameter type) operand.Null = true
takes (ReferenceParameter type) (operand.Local i) = true
takes (ReferenceParameter type) (operand.Static i) = true
takes type o = false

-- there are as many operands as parameters, and each may be passed to its own
abbrev pub takes_all : List Parameter → List Operand → Bool
takes_all [] [] = true
takes_all (p ∷ parameters) (o ∷ operands) = takes p.type o && takes_all parameters operands
takes_all parameters operands = false

-- ---- arguments together

-- a call with these operands, of a unit
module _ (unit : SourceUnit) (classes : Classes) (space : Space) (references : References) (fields : List (Option Handle)) (operands : List Operand) where
  -- the reference of an operand
  abbrev pub reference : ℕ → Option ℕ
  reference i = operand_at references (operand_of operands i)

  -- the field or static of operand 1
  abbrev pub field : FieldId
  field = field_there classes (field_at fields (operand_of operands 1))

  -- operand 0 is an object that has the field
  abbrev pub has_field : Bool
  has_field = not field.is_static && assignable classes (class_of_given space (reference 0)) field.class

  -- operand 0 is a class that has the static
  abbrev pub has_static : Bool
  has_static = field.is_static && assignable classes (name_there space (reference 0)) field.class

  -- the method ID of operand 1
  abbrev pub method : Option MethodHandle
  method = method_at fields (operand_of operands 1)

  -- the function of a method ID, where the ID was got from the class of operand 0
  abbrev pub called : Option MethodHandle → Option Function
  called None = None
  called (Some h) = if h.class.number == name_there space (reference 0) then function_in (slice_get unit.items h.item) else None

  -- it gives what is asked for, and takes what it is passed
  abbrev pub calls_well : JniFunction → Option Function → Bool
  calls_well f None = false
  calls_well f (Some method) = returns f method.result && takes_all method.parameters (drop 2 operands)

  -- the arguments of a function, each of its kind, go together; a critical buffer has the element type of its variable
  abbrev pub fit_together : (wanted : ElementType) → JniFunction → Bool
  fit_together wanted AllocObject = not (has_own_making classes (name_there space (reference 0)))
  fit_together wanted (GetField T) = has_field && holds_number T field.field.type
  fit_together wanted (SetField T) = has_field && holds_number T field.field.type
  fit_together wanted GetObjectField = has_field && holds_reference field.field.type
  fit_together wanted SetObjectField = has_field && fits_type_there classes space (reference 2) field.field.type
  fit_together wanted (GetStaticField T) = has_static && holds_number T field.field.type
  fit_together wanted (SetStaticField T) = has_static && holds_number T field.field.type
  fit_together wanted GetStaticObjectField = has_static && holds_reference field.field.type
  fit_together wanted SetStaticObjectField = has_static && fits_type_there classes space (reference 2) field.field.type
  fit_together wanted NewObjectArray = is_plain (class_kind classes (name_there space (reference 1)))
      && fits_there classes space (reference 2) (name_there space (reference 1))
  fit_together wanted (GetBuffer ArrayView) = class_of_given space (reference 0) == number_array wanted
  fit_together wanted Throw = assignable classes (class_of_given space (reference 0)) throwable_class
  fit_together wanted ThrowNew = assignable classes (name_there space (reference 0)) throwable_class
  fit_together wanted CallStaticVoidMethod = calls_well CallStaticVoidMethod (called method)
  fit_together wanted CallStaticIntMethod = calls_well CallStaticIntMethod (called method)
  fit_together wanted CallStaticObjectMethod = calls_well CallStaticObjectMethod (called method)
  fit_together wanted f = true

-- the arguments of a call that sees this go together
abbrev pub arguments_fit : Scene → List Operand → (wanted : ElementType) → JniFunction → Bool
arguments_fit scene operands wanted f = fit_together scene.unit scene.classes scene.space scene.references scene.fields operands wanted f

-- a call of this kind of result puts a local reference into the frame
abbrev pub puts_local : ResultKind → Bool
puts_local NewLocal = true
puts_local kind = false

-- what is asked of a call's arguments, in this order, each with the trap where it isn't so
abbrev pub arguments_asked : SourceUnit → Classes → Space → References → List (Option Handle) → (wanted : ElementType) → JniFunction
    → List Operand → List (Bool × Trap)
arguments_asked unit classes space references fields wanted f operands =
    (list_any (gives_deleted references) operands, DeletedReference)
    ∷ (some_missing references fields (prototype f).parameters operands, NullReference)
    ∷ (
      some_misfit classes space references (prototype f).parameters operands
          || not (fit_together unit classes space references fields operands wanted f),
      WrongObject,
    )
    ∷ []

-- what is asked of a call's arguments doesn't hold, and this is the trap, whatever is asked after it
abbrev pub ArgumentsTrap : Scene → Call → Trap → Type 0
ArgumentsTrap scene call trap = (rest : List (Bool × Trap)) → first_trap (arguments_asked scene.unit scene.classes scene.space
    scene.references scene.fields (element_wanted call.target) call.function call.operands ++ rest) ≡ Some trap

-- it holds, so the trap is that of what is asked after it
abbrev pub ArgumentsPass : Scene → Call → Type 0
ArgumentsPass scene call = (rest : List (Bool × Trap)) → first_trap (arguments_asked scene.unit scene.classes scene.space
    scene.references scene.fields (element_wanted call.target) call.function call.operands ++ rest) ≡ first_trap rest

-- the trap of a call that sees this, before it does anything, but for that of how deep calls are; a buffer that it fills has elements
-- of this type
abbrev pub trap_found : Scene → (has_room : Bool) → (wanted : ElementType) → JniFunction → List Operand → Option Trap
trap_found scene has_room wanted f operands =
    first_trap (
    (is_some scene.pending && not (is_allowed_pending f), ExceptionPending)
    ∷ arguments_asked scene.unit scene.classes scene.space scene.references scene.fields wanted f operands
    ++ (puts_local (prototype f).result && not has_room, NoCapacity)
    ∷ [])
