-- What a step of a task does.
use Rattle.std.specs.Prelude.{◌≡◌, ◌+◌, ℕ, Bool, if◌then◌else◌, nat_le, List, [], ◌∷◌, ◌++◌, drop, length, map, Option, Some, None}
use Rattle.base.specs.Bytes.{Identifier}
use Rattle.base.specs.Limits.{most_activations}
use Rattle.jni.specs.declared.function.JniFunction.{JniFunction}
use Rattle.jni.specs.JniFunction.{prototype}
use Rattle.syntax.specs.Tree.{SourceUnit}
use Rattle.syntax.specs.Views.{block_tree, unit_tree}
use Rattle.class_rules.specs.Class.{Classes}
use Rattle.semantics.specs.Arguments.{actuals, passed_value}
use Rattle.semantics.specs.Return.{return_step}
use Rattle.semantics.specs.Object.{ObjectValue, Reference}
use Rattle.semantics.specs.Sight.{Sight}
use Rattle.semantics.specs.Task.{Task, Branch, Invoke, Operand}
use Rattle.semantics.specs.Term.{Done}
use Rattle.semantics.specs.declared.trap.Trap.TheVariants.{CallsTooDeep}
use Rattle.semantics.specs.declared.value.Value.TheVariants.{Truth}
use Rattle.semantics.specs.World.{Invocation}
use Rattle.semantics.specs.Thread.{Caller, Frame, Thread, Shared, BuffersInUse, Advance, Advances, NoAdvance, sight_of}
use Rattle.semantics.specs.declared.event.Event.TheVariants.{Quiet, PrintedNumber, Trapped}
use Rattle.semantics.specs.ThreadStep.{step_within, with_tasks}
use Rattle.replay_arguments.specs.Shares.{shared_view}
use Rattle.replay_arguments.specs.declared.scene.Locals.{Locals}
use Rattle.replay_arguments.specs.declared.scene.Turn.{Turn}
use Rattle.replay_arguments.specs.declared.shared.Shared.{Shared as SharedInMemory}
use Rattle.replay_terms.specs.Views.{in_use_view}
use Rattle.replay_tasks.specs.declared.outcome.Outcome.{Outcome}
use Rattle.replay_tasks.specs.declared.outcome.Outcome.TheVariants as outcome
use Rattle.replay_tasks.specs.declared.task.Task.{Task as TaskInMemory}
use Rattle.replay_tasks.specs.Outcomes.{else_tree, result_view, variable_step}
use Rattle.replay_tasks.specs.Tasks.{task_view, end_view, statements_in, tasks_of_statements}
use Rattle.semantics.specs.Views.{name_of}
use Rattle.semantics.specs.declared.object_id.ObjectId.{ObjectId}
use Rattle.replay_terms.specs.Views.{Contents, variables_view}

-- what a step of a call in progress depends on, but its tasks: it is this thread's of this unit, and the buffers of all threads
-- together take what is in use
pub record Scene : Type 0 where
  pub unit : SourceUnit
  pub classes : Classes
  pub in_use : BuffersInUse
  pub thread : ℕ
  pub shared : Shared
  pub variables : Contents
  pub frames : List Frame
  pub pending : Reference

abbrev pub scene_with : SourceUnit → Classes → BuffersInUse → (thread : ℕ) → Shared → Contents → List Frame → Reference → Scene
scene_with unit classes in_use thread s vs frames pending = record {
  unit = unit;
  classes = classes;
  in_use = in_use;
  thread = thread;
  shared = s;
  variables = vs;
  frames = frames;
  pending = pending;
}

-- the same at a turn
abbrev pub scene_of : Turn → Shared → Locals → Option ObjectId → Scene
scene_of turn s locals pending =
    scene_with (unit_tree turn.unit.now) turn.classes.now (in_use_view turn.in_use) turn.thread s locals.variables locals.frames (name_of pending)

-- the same by what threads share in memory
abbrev pub scene_at : Turn → SharedInMemory → Locals → Option ObjectId → Scene
scene_at turn shared locals pending = scene_of turn (shared_view shared) locals pending

-- a thread has these variables, these frames and this pending exception
pub record Sees (scene : Scene) (t : Thread) : Type 0 where
  pub variables : t.variables ≡ variables_view scene.variables
  pub frames : t.frames ≡ scene.frames
  pub pending : t.pending ≡ scene.pending

-- a thread so that it has them
abbrev pub in_scene : Thread → Scene → Thread
in_scene t scene =
    record t { variables = variables_view scene.variables; frames = scene.frames; pending = scene.pending }

-- the thread whose call in progress waits, as this caller, for this call, which is to be entered
abbrev pub waiting : Thread → Caller → Invocation → Thread
waiting t caller call = record t { calls = call ∷ t.calls; callers = caller ∷ t.callers; tasks = None; variables = []; frames = [] }

-- what a method is given that a function calls with these arguments
abbrev pub values_passed : Sight → JniFunction → List Operand → List ObjectValue
values_passed sight f operands = map passed_value (drop 2 (actuals sight f operands))

-- the thread's call in progress waits for the function of this name, which it calls in this line, if few enough calls wait
abbrev pub calling_by : Shared → Thread → (line : ℕ) → Identifier → Option (List Task) → Advance
calling_by s t line x (Some (Invoke at target f operands ∷ rest)) =
    if nat_le most_activations (length t.callers + 1) then Advances s t (Trapped CallsTooDeep line)
    else Advances s (waiting t
    (record { target = target; result = (prototype f).result; tasks = rest; variables = t.variables; frames = t.frames })
    (record { line = line; function = x; arguments = values_passed (sight_of s t) f operands })) Quiet
calling_by s t line x tasks = NoAdvance

-- what a step leaves of thread k that has this task and then the rest to do
abbrev pub left_by : (k : ℕ) → Shared → Thread → List Task → Outcome → TaskInMemory → Advance
left_by k s t rest outcome.Stays new = Advances s (with_tasks t (task_view new ∷ rest)) Quiet
left_by k s t rest (outcome.Printed z) new = Advances s (with_tasks t rest) (PrintedNumber z)
left_by k s t rest (outcome.Enters block e) new = Advances s
    (with_tasks t ((tasks_of_statements (statements_in block) ++ end_view e ∷ []) ++ rest)) Quiet
left_by k s t rest outcome.Ends new = Advances s (with_tasks t rest) Quiet
left_by k s t rest (outcome.Tests line zero b other) new = Advances s
    (with_tasks t (Branch line (Done (Truth zero)) (block_tree b.now) (else_tree line other) ∷ rest)) Quiet
left_by k s t rest (outcome.Returned given) new = return_step k s t (result_view given)
left_by k s t rest (outcome.Calls line x) new = calling_by s (with_tasks t (task_view new ∷ rest)) line x.now (Some (task_view new ∷ rest))
left_by k s t rest (outcome.Trapped trap line) new = Advances s
    (with_tasks t (task_view new ∷ rest)) (Trapped trap line)
left_by k s t rest outcome.Impossible new = NoAdvance
left_by k s t rest took new = variable_step took s (with_tasks t rest)

-- What a step in memory did is what the task's step does to each thread whose first task it is, or what it does with
-- its object refused.
abbrev pub Does : (refused : Bool) → Scene → TaskInMemory → Outcome → Scene → TaskInMemory → Type 0
Does refused before old took after new =
    (t : Thread) (rest : List Task) → Sees before t → t.tasks ≡ Some (task_view old ∷ rest)
    → step_within before.unit before.classes before.in_use before.thread before.shared t refused (Some (task_view old ∷ rest))
    ≡ left_by before.thread after.shared (in_scene t after) rest took new
