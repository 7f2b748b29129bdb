-- What is known of buffers, references and frames at a point of a function, and the state that a statement leaves.
use Rattle.std.specs.Prelude.{ℕ, ◌-◌, Bool, true, false, ◌&&◌, List, [], ◌∷◌, map, Option, Some, None, bytes_eq, nat_lt, if◌then◌else◌, filter_map}
use Rattle.std.specs.Option.{option_and_then, option_map, unwrap_or}
use Rattle.base.specs.Bytes.{Identifier, ByName, lookup}
use Rattle.syntax.specs.declared.declared_type.ParameterType.TheVariants.{Jint as IntParameter, Reference as ReferenceParameter}
use Rattle.syntax.specs.declared.declared_type.VariableType.TheVariants.{Reference as ReferenceVariable}
use Rattle.syntax.specs.declared.expr.Constant.TheVariants.{Commit}
use Rattle.syntax.specs.Parts.{own_call, call_of_right_side}
use Rattle.syntax.specs.declared.declared_type.DeclaredType.TheVariants.{Simple, Pointer, ConstChars}
use Rattle.syntax.specs.Tree.{Named, Variable, Argument, Value, Call, RightSide, Stmt, Plain, Declare, Assign, Parameter, Function}
use Rattle.jni.specs.declared.access.Access.{Access}
use Rattle.jni.specs.declared.function.JniFunction.{JniFunction}
use Rattle.jni.specs.declared.function.JniFunction.TheVariants.{GetBuffer, ReleaseBuffer, DeleteLocalRef, PopLocalFrame}
use Rattle.jni.specs.JniFunction.{function_named}

-- ---- what is known

-- a buffer that is not free has an access, and the variable of the array or string that it is of
pub data BufferState : Type 0 where
  Free : BufferState
  Untested Usable : Access → Identifier → BufferState

-- a reference has a level, the number of frames at its declaration, and is live or dead
pub data VariableState : Type 0 where
  ReferenceAt : (level : ℕ) (live : Bool) → VariableState
  BufferIn : BufferState → VariableState

-- the references and buffers in scope, the youngest first, and the number of frames
pub record RegionState : Type 0 where
  pub variables : ByName VariableState
  pub frames : ℕ

-- what is known of a variable
abbrev pub state_of : RegionState → Identifier → Option VariableState
state_of state x = lookup x state.variables

-- the state with what is known of each variable changed
abbrev pub with_each : RegionState → (Identifier → VariableState → VariableState) → RegionState
with_each state change = record state { variables = map (λ v. (v.0, change v.0 v.1)) state.variables }

-- the state with what is known of one variable changed
abbrev pub with_changed : RegionState → Identifier → (VariableState → VariableState) → RegionState
with_changed state x change = with_each state (λ y old. if bytes_eq x y then change old else old)

-- the state with one more variable
abbrev pub with_new : RegionState → Identifier → VariableState → RegionState
with_new state x new = record state { variables = (x, new) ∷ state.variables }

-- the buffer that a variable is
abbrev pub buffer_of : VariableState → Option BufferState
buffer_of (ReferenceAt level live) = None
buffer_of (BufferIn b) = Some b

-- a held buffer's access, and the variable of its array or string
abbrev pub held_by : BufferState → Option (Access × Identifier)
held_by Free = None
held_by (Untested access array) = Some (access, array)
held_by (Usable access array) = Some (access, array)

-- the buffers that are not free
abbrev pub held_buffers : RegionState → List (Access × Identifier)
held_buffers state = filter_map (λ v. option_and_then held_by (buffer_of v.1)) state.variables

-- ---- what a statement does

-- a call of a function, with its arguments
abbrev pub FunctionCall : Type 0
FunctionCall = JniFunction × List Argument

-- the function of a call, and its arguments
abbrev pub call_of : Option Call → Option FunctionCall
call_of call = option_and_then (λ c. option_map (λ f. (f, c.arguments)) (function_named c.function)) call

-- the call that a statement makes
abbrev pub function_called : Stmt → Option FunctionCall
function_called s = call_of (own_call s)

-- the bare name that an argument is, and that the first one is
abbrev pub argument_name : Argument → Option Identifier
argument_name (Value (Variable x)) = Some x
argument_name a = None

-- the bare name that the first argument is
abbrev pub first_name : List Argument → Option Identifier
first_name [] = None
first_name (a ∷ rest) = argument_name a

-- a Get's access, and the variable of its array or string
abbrev pub get_of : Option FunctionCall → Option (Access × Option Identifier)
get_of (Some (GetBuffer access, arguments)) = Some (access, first_name arguments)
get_of call = None

-- whether a mode is JNI_COMMIT
abbrev pub has_commit : List Argument → Bool
has_commit [] = false
has_commit (Value (Named Commit) ∷ rest) = true
has_commit (a ∷ rest) = has_commit rest

-- a release's access, the variables of its object and its buffer, and whether its mode is JNI_COMMIT
pub record Release : Type 0 where
  pub access : Access
  pub object : Option Identifier
  pub buffer : Option Identifier
  pub commits : Bool

-- what a call releases
abbrev pub release_of : Option FunctionCall → Option Release
release_of (Some (ReleaseBuffer access, object ∷ buffer ∷ modes)) =
    Some (record { access = access; object = argument_name object; buffer = argument_name buffer; commits = has_commit modes })
release_of call = None

-- the variable that a call deletes, and whether it pops a frame
abbrev pub deleted_name : Option FunctionCall → Option Identifier
deleted_name (Some (DeleteLocalRef, arguments)) = first_name arguments
deleted_name call = None

-- whether a call pops a frame
abbrev pub pops : Option FunctionCall → Bool
pops (Some (PopLocalFrame, arguments)) = true
pops call = false

-- the number of frames after the call
abbrev pub frame_count_after : RegionState → Stmt → ℕ
frame_count_after state s = if pops (function_called s) then state.frames - 1 else state.frames

-- ---- the state after a statement that has no block

-- a buffer becomes free: it is released, or on the path where it is NULL
abbrev pub made_free : VariableState → VariableState
made_free (ReferenceAt level live) = ReferenceAt level live
made_free (BufferIn b) = BufferIn Free

-- a reference becomes dead
abbrev pub killed : VariableState → VariableState
killed (ReferenceAt level live) = ReferenceAt level false
killed (BufferIn b) = BufferIn b

-- references of the ended level die
abbrev pub killed_from : ℕ → VariableState → VariableState
killed_from level' (ReferenceAt level live) = ReferenceAt level (live && nat_lt level level')
killed_from level' (BufferIn b) = BufferIn b

-- a change of one variable, where there is one
abbrev pub with_some_changed : RegionState → Option Identifier → (VariableState → VariableState) → RegionState
with_some_changed state None change = state
with_some_changed state (Some x) change = with_changed state x change

-- a release frees its buffer, but not a copy that is committed
abbrev pub after_release : RegionState → Option Release → RegionState
after_release state None = state
after_release state (Some release) = if release.commits then state else with_some_changed state release.buffer made_free

-- a frame ends, with its references
abbrev pub after_pop : RegionState → RegionState
after_pop state = record (with_each state (λ x old. killed_from state.frames old)) { frames = state.frames - 1 }

-- a buffer is released, a reference deleted, or a frame popped
abbrev pub after_call : RegionState → Option FunctionCall → RegionState
after_call state call =
    if pops call then after_pop state
    else with_some_changed (after_release state (release_of call)) (deleted_name call) killed

-- a buffer after NULL or a Get
abbrev pub buffer_from : Option (Access × Option Identifier) → BufferState
buffer_from None = Free
buffer_from (Some get) = Untested get.0 (unwrap_or get.1 [])

-- a buffer after it is set
abbrev pub buffer_set_to : RightSide → BufferState
buffer_set_to r = buffer_from (get_of (call_of (call_of_right_side (Some r))))

-- a variable that is set: a reference becomes live
abbrev pub set_to : RightSide → VariableState → VariableState
set_to r (ReferenceAt level live) = ReferenceAt level true
set_to r (BufferIn b) = BufferIn (buffer_set_to r)

-- after a variable is set or declared; a reference's level is the number of frames at its declaration
abbrev pub with_set : RegionState → Stmt → RegionState
with_set state (Plain line (Declare (Simple (ReferenceVariable t)) x r)) = with_new state x (ReferenceAt state.frames true)
with_set state (Plain line (Declare (Pointer t) x r)) = with_new state x (BufferIn (buffer_set_to r))
with_set state (Plain line (Declare ConstChars x r)) = with_new state x (BufferIn (buffer_set_to r))
with_set state (Plain line (Assign x r)) = with_changed state x (set_to r)
with_set state s = state

-- the state after a statement without blocks
abbrev pub state_after : RegionState → Stmt → RegionState
state_after state s = with_set (after_call state (function_called s)) s

-- ---- the state at the beginning of a function

-- a reference parameter is live, at level 1
abbrev pub parameter_state : Parameter → Option (Identifier × VariableState)
parameter_state p = elim p.type [ IntParameter ↦ None | ReferenceParameter r ↦ Some (p.name, ReferenceAt 1 true) ]

-- the class and the reference parameters, in one frame
abbrev pub state_at_entry : Function → RegionState
state_at_entry f = record { variables = (f.class_name, ReferenceAt 1 true) ∷ filter_map parameter_state f.parameters; frames = 1 }
