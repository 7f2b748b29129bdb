-- Calls that take their step at once, whatever all buffers take.
use Rattle.std.specs.Prelude.{◌≡◌, Bool, true, false, List, ◌∷◌, Option, Some}
use Rattle.semantics.specs.Arguments.{Actual, actuals}
use Rattle.semantics.specs.CallStep.{call_step}
use Rattle.semantics.specs.Task.{Task}
use Rattle.semantics.specs.Thread.{BuffersInUse, Shared, Thread}
use Rattle.semantics.specs.Thread as thread
use Rattle.semantics.specs.declared.event.Event.TheVariants.{Quiet}
use Rattle.semantics.specs.ThreadStep.{step_within}
use Rattle.semantics.specs.Views.{name_of}
use Rattle.semantics.specs.declared.object_id.ObjectId.{ObjectId}
use Rattle.syntax.specs.Views.{unit_tree}
use Rattle.replay_arguments.specs.Shares.{sight_in}
use Rattle.replay_arguments.specs.declared.scene.Locals.{Locals}
use Rattle.replay_arguments.specs.declared.scene.Turn.{Turn}
use Rattle.replay_steps.specs.declared.activation.Activation.{Activation}
use Rattle.replay_steps.specs.Activations.{Advances, thread_in}
use Rattle.replay_steps.specs.Steps.{Scene, Sees, scene_with}
use Rattle.replay_tasks.specs.declared.outcome.Outcome.TheVariants as outcome
use Rattle.replay_tasks.specs.declared.task.Invocation.{Invocation}
use Rattle.replay_tasks.specs.declared.task.Task.TheVariants as task
use Rattle.replay_tasks.specs.Outcomes.{purpose_view}
use Rattle.replay_tasks.specs.Tasks.{task_view}
use Rattle.replay_terms.specs.Views.{operands_view}

-- the scene of a turn where all buffers take this
abbrev pub scene_in : BuffersInUse → Turn → Shared → Locals → Option ObjectId → Scene
scene_in in_use turn s locals pending =
    scene_with (unit_tree turn.unit.now) turn.classes.now in_use turn.thread s locals.variables locals.frames (name_of pending)

-- A call with these arguments, which are its own, was made: whatever all buffers take, it is over, and leaves this. Or it wasn't, and all is as it was.
abbrev pub MakesAtOnce : Turn → Invocation → List Actual → (took : Bool) → Shared → Locals → Option ObjectId → Shared → Locals → Option ObjectId → Type 0
MakesAtOnce turn i args true s locals pending s' locals' pending' =
    (in_use : BuffersInUse) (t : Thread) (rest : List Task) → Sees (scene_in in_use turn s locals pending) t → t.tasks ≡ Some (task_view (task.Invoke i) ∷ rest)
    → args ≡ actuals (sight_in s locals.variables) i.function (operands_view i.operands)
    → call_step (unit_tree turn.unit.now) turn.classes.now in_use turn.thread s t i.line (purpose_view i.line i.purpose) i.function args rest false
    ≡ thread.Advances s' (thread_in t rest (scene_in in_use turn s' locals' pending')) Quiet
MakesAtOnce turn i args false s locals pending s' locals' pending' = (s' ≡ s) × (locals' ≡ locals) × (pending' ≡ pending)

-- the same of the step of a task that is a call
abbrev pub TriesInvocation : Turn → Invocation → (took : Bool) → Shared → Locals → Option ObjectId → Shared → Locals → Option ObjectId → Type 0
TriesInvocation turn i true s locals pending s' locals' pending' =
    (in_use : BuffersInUse) (t : Thread) (rest : List Task) → Sees (scene_in in_use turn s locals pending) t → t.tasks ≡ Some (task_view (task.Invoke i) ∷ rest)
    → step_within (unit_tree turn.unit.now) turn.classes.now in_use turn.thread s t false (Some (task_view (task.Invoke i) ∷ rest))
    ≡ thread.Advances s' (thread_in t rest (scene_in in_use turn s' locals' pending')) Quiet
TriesInvocation turn i false s locals pending s' locals' pending' = (s' ≡ s) × (locals' ≡ locals) × (pending' ≡ pending)

-- the same of a call in progress
abbrev pub AttemptsInvocation : Turn → Shared → Activation → Option ObjectId → (took : Bool) → Shared → Activation → Option ObjectId → Type 0
AttemptsInvocation turn s old pending true s' new pending' =
    (in_use : BuffersInUse) → Advances false (scene_in in_use turn s old.locals pending) old.work outcome.Stays
    (scene_in in_use turn s' new.locals pending') new.work
AttemptsInvocation turn s old pending false s' new pending' = (s' ≡ s) × (new ≡ old) × (pending' ≡ pending)
