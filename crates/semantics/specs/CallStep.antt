-- A call of a JNI function in its own step: checks, effect, and where the result goes.
use Rattle.std.specs.Prelude.{ℕ, Bool, true, false, not, ◌&&◌, ◌==◌, pos, negsuc, List, [], ◌∷◌, ◌++◌, length, is_none, Option, Some, None}
use Rattle.std.specs.Ordering.{int_eq}
use Rattle.base.specs.Bytes.{Identifier, lookup}
use Rattle.base.specs.declared.element.ElementType.{ElementType}
use Rattle.base.specs.declared.element.ElementType.TheVariants.{Int as JInt}
use Rattle.syntax.specs.Tree.{SourceUnit}
use Rattle.class_rules.specs.Class.{Classes}
use Rattle.jni.specs.declared.function.JniFunction.{JniFunction}
use Rattle.jni.specs.declared.function.JniFunction.TheVariants.{MonitorEnter}
use Rattle.jni.specs.JniFunction.{prototype}
use Rattle.jni.specs.declared.kinds.ResultKind.{ResultKind}
use Rattle.jni.specs.declared.kinds.ResultKind.TheVariants.{NewLocal, NewGlobal, NewWeak, GivesFlag, GivesInt, GivesField, GivesMethod, GivesBuffer, GivesNothing}
use Rattle.semantics.specs.Object.{Object}
use Rattle.semantics.specs.World.{Invocation, fresh_object}
use Rattle.semantics.specs.AnswerTable.{call_effect}
use Rattle.semantics.specs.CallSight.{sight_of_call}
use Rattle.semantics.specs.Checks.{trap_of}
use Rattle.semantics.specs.Arguments.{Actual, address_given, object_given}
use Rattle.semantics.specs.CallEffects.{CallResult, NoResult, NullResult, ScalarResult, ReferenceResult, WeakResult, FieldResult, MethodResult, BufferResult, CallEffect, Throws, Leaves, out_of_memory, with_local, Halts, Enters}
use Rattle.semantics.specs.Effect.{Effect, Calls, tasks_after}
use Rattle.semantics.specs.Heap.{next_name}
use Rattle.semantics.specs.declared.variable_kind.VariableKind.{VariableKind}
use Rattle.semantics.specs.declared.variable_kind.VariableKind.TheVariants as kinds
use Rattle.semantics.specs.Task.{Task, Target, Declared, Assigned}
use Rattle.semantics.specs.declared.event.Event.TheVariants.{Quiet, Trapped}
use Rattle.semantics.specs.Thread.{Thread, Monitor, Shared, BuffersInUse, Advance, Advances, NoAdvance, monitor_of}
use Rattle.semantics.specs.declared.trap.Trap.{Trap}
use Rattle.semantics.specs.declared.value.Value.TheVariants.{Int, Flag}
use Rattle.semantics.specs.Variable.{Variable, Scalar, LocalRef, FieldHandle, MethodHandle, Elements, NoBuffer, Copy, View, StaticReference, Empty, Variables, as_static, as_weak, assign}

-- ---- where a result goes

-- a variable as its declaration makes it, at a number of frames
abbrev pub blank : VariableKind → ℕ → Variable
blank kinds.Number frames = Scalar (Int (pos 0))
blank kinds.Reference frames = LocalRef frames None
blank kinds.Field frames = FieldHandle None
blank kinds.Method frames = MethodHandle None
blank (kinds.Buffer T) frames = Elements T NoBuffer

-- a variable with what a call gave
abbrev pub filled : Variable → CallResult → Variable
filled (Scalar w) (ScalarResult v) = Scalar v
filled (LocalRef level r) (ReferenceResult q) = LocalRef level q
filled (LocalRef level r) NullResult = LocalRef level None
filled (FieldHandle f) (FieldResult g) = FieldHandle g
filled (FieldHandle f) NullResult = FieldHandle None
filled (MethodHandle m) (MethodResult n) = MethodHandle n
filled (MethodHandle m) NullResult = MethodHandle None
filled (Elements T b) (BufferResult c) = Elements T c
filled (Elements T b) NullResult = Elements T NoBuffer
filled v given = v

-- what a static holds of a result
abbrev pub static_result : CallResult → StaticReference
static_result (ReferenceResult r) = as_static r
static_result (WeakResult r) = as_weak r
static_result given = Empty

-- whether a call gave 0
abbrev pub is_zero : CallResult → Bool
is_zero (ScalarResult (Int z)) = int_eq z (pos 0)
is_zero given = false

-- the result is assigned to a variable of the thread, or else to a static
abbrev pub put_assigned : Identifier → CallResult → Shared → Thread → Option Variable → Advance
put_assigned x given s t (Some v) = Advances s (record t { variables = assign x (filled v given) t.variables }) Quiet
put_assigned x given s t None = Advances (record s { statics = assign x (static_result given) s.statics }) t Quiet

-- the result is put into a variable or a static; for the test of an `if` it is among the tasks
abbrev pub put : Target → CallResult → Shared → Thread → Advance
put (Declared kind x) given s t = Advances s (record t { variables = assign x (filled (blank kind (length t.frames)) given) t.variables }) Quiet
put (Assigned x) given s t = put_assigned x given s t (lookup x t.variables)
put target given s t = Advances s t Quiet

-- a local reference that isn't NULL is put into the current frame
abbrev pub received : ResultKind → CallResult → Thread → Thread
received NewLocal (ReferenceResult (Some n)) t = record t { frames = with_local n t.frames }
received kind given t = t

-- `isCopy`, if it isn't NULL, tells a copy from a view
abbrev pub tell_copy : Option Identifier → CallResult → Variables → Variables
tell_copy (Some x) (BufferResult (Copy n zs)) vs = assign x (Scalar (Flag true)) vs
tell_copy (Some x) (BufferResult (View n)) vs = assign x (Scalar (Flag false)) vs
tell_copy x given vs = vs

-- what a failing call gives: NULL, -1 or nothing
abbrev pub failure : ResultKind → CallResult
failure NewLocal = NullResult
failure NewGlobal = NullResult
failure NewWeak = NullResult
failure GivesField = NullResult
failure GivesMethod = NullResult
failure (GivesBuffer access) = NullResult
failure GivesInt = ScalarResult (Int (negsuc 0))
failure GivesFlag = ScalarResult (Flag false)
failure GivesNothing = NoResult

-- the element type of the buffer that a call is to fill
abbrev pub element_type : Option Variable → ElementType
element_type (Some (Elements T b)) = T
element_type v = JInt

-- the same, of a declaration or an assignment
abbrev pub target_element : Variables → Target → ElementType
target_element vs (Declared (kinds.Buffer T) x) = T
target_element vs (Assigned x) = element_type (lookup x vs)
target_element vs target = JInt

-- ---- the call

-- the trap that stops a call before its effect
abbrev pub trap_of_call : Classes → Shared → Thread → Target → JniFunction → List Actual → Option Trap
trap_of_call classes s t target f args = trap_of classes (sight_of_call s t f args) (target_element t.variables target) f

-- the trap that a check found, or else the effect
abbrev pub checked : Option Trap → CallEffect → CallEffect
checked (Some trap) e = Halts trap
checked None e = e

-- whether there is an allocation to refuse
abbrev pub makes_objects : CallEffect → Bool
makes_objects (Throws c) = true
makes_objects (Leaves (o ∷ made) s t given) = true
makes_objects e = false

-- Thread k calls a function, for this target and with these arguments, and goes on with the rest.
module _ (unit : SourceUnit) (classes : Classes) (in_use : BuffersInUse) (k : ℕ) (s : Shared) (t : Thread) (line : ℕ) (target : Target)
    (f : JniFunction) (args : List Actual) (rest : List Task) where
  -- what the call does
  abbrev pub effect_of_call : CallEffect
  effect_of_call = checked (trap_of_call classes s t target f args) (call_effect unit classes in_use k s t args f)

  -- the thread with the call's result: in its frame, in `isCopy`, and in the test of an `if`
  abbrev pub resumed : Thread → CallResult → Thread
  resumed t' given =
      record (received (prototype f).result given t') {
        tasks = Some (tasks_after line target (is_zero given) ++ rest);
        variables = tell_copy (address_given args 1) given t'.variables;
      }

  -- the new objects are made, and the result goes where it belongs
  abbrev pub completed : List Object → Shared → Thread → CallResult → Advance
  completed made s' t' given = put target given (record s' { heap = s'.heap ++ made }) (resumed t' given)

  -- the thread waits in this call for that of a function, which is its next one
  abbrev pub calling : Invocation → Thread
  calling call = record t {
    calls = call ∷ t.calls;
    callers = record { target = target; result = (prototype f).result; tasks = rest; variables = t.variables; frames = t.frames } ∷ t.callers;
    tasks = None;
    variables = [];
    frames = [];
  }

  -- what an effect leaves; an exception object that the call makes is pending
  abbrev pub after_call : CallEffect → Advance
  after_call (Throws c) = completed (fresh_object classes c ∷ []) s (record t { pending = Some (next_name s.heap) }) (failure (prototype f).result)
  after_call (Halts trap) = Advances s t (Trapped trap line)
  after_call (Enters function arguments) = Advances s (calling (record { line = line; function = function; arguments = arguments })) Quiet
  after_call (Leaves made s' t' given) = completed made s' t' given

  -- the call made no object, since the allocation was refused
  abbrev pub after_refusal : Bool → Advance
  after_refusal true = completed [] s (record t { pending = Some (out_of_memory classes) }) (failure (prototype f).result)
  after_refusal false = NoAdvance

  -- the call's own step; its allocation can be refused only where it makes objects
  abbrev pub call_step : (refused : Bool) → Advance
  call_step false = after_call effect_of_call
  call_step true = after_refusal (makes_objects effect_of_call)

-- ---- waiting for a monitor

-- the monitor is held by a thread other than k
abbrev pub is_owned_by_other : ℕ → Option Monitor → Bool
is_owned_by_other k None = false
is_owned_by_other k (Some m) = not (m.owner == k)

-- the effect is a MonitorEnter that all checks let through, on an object that another thread owns
abbrev pub waits_with : Classes → (k : ℕ) → Shared → Thread → Effect → Bool
waits_with classes k s t (Calls line target MonitorEnter args) =
    is_none (trap_of_call classes s t target MonitorEnter args) && is_owned_by_other k (monitor_of s.monitors (object_given args 0))
waits_with classes k s t e = false
