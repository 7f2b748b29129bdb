-- Whether a thread waits for a monitor, by the task that is begun.
use Rattle.std.specs.Prelude.{◌≡◌, ℕ, Bool, false, ◌&&◌, List, Option, Some, is_none}
use Rattle.base.specs.declared.element.ElementType.TheVariants.{Int as JInt}
use Rattle.class_rules.specs.Class.{Classes}
use Rattle.jni.specs.declared.function.JniFunction.{JniFunction}
use Rattle.jni.specs.declared.function.JniFunction.TheVariants.{MonitorEnter}
use Rattle.semantics.specs.Arguments.{Actual, actuals, object_given}
use Rattle.semantics.specs.CallStep.{is_owned_by_other}
use Rattle.semantics.specs.Effect.{is_ready}
use Rattle.semantics.specs.Object.{Reference}
use Rattle.semantics.specs.Task.{Operand}
use Rattle.semantics.specs.Thread.{Frame, Shared, Thread, monitor_of}
use Rattle.semantics.specs.ThreadStep.{waits}
use Rattle.semantics.specs.CallSight.{call_seen}
use Rattle.semantics.specs.Checks.{trap_of}
use Rattle.replay_arguments.specs.Shares.{sight_in}
use Rattle.replay_steps.specs.Activations.{IsAtStatement, tasks_left}
use Rattle.replay_steps.specs.Steps.{Scene, Sees}
use Rattle.replay_steps.specs.declared.activation.Work.{Work}
use Rattle.replay_tasks.specs.declared.task.Task.{Task as TaskInMemory}
use Rattle.replay_tasks.specs.declared.task.Task.TheVariants as task
use Rattle.replay_terms.specs.Views.{Contents, operands_view, variables_view}

-- a call of MonitorEnter passes all checks, and another thread than k owns its object
abbrev pub is_kept_out : Classes → (k : ℕ) → Shared → Contents → List Frame → Reference → List Actual → Bool
is_kept_out classes k s vs frames pending args =
    is_none (trap_of classes (call_seen s (variables_view vs) frames 0 pending MonitorEnter args) JInt MonitorEnter)
    && is_owned_by_other k (monitor_of s.monitors (object_given args 0))

-- Thread k, with these variables, frames and pending exception.
module _ (classes : Classes) (k : ℕ) (s : Shared) (vs : Contents) (frames : List Frame) (pending : Reference) where
  -- the same of one whose arguments are still to be looked up, or whose numbers still to be worked out
  abbrev pub waits_to_enter : List Operand → Bool
  waits_to_enter operands =
      is_ready (sight_in s vs).number operands && is_kept_out classes k s vs frames pending (actuals (sight_in s vs) MonitorEnter operands)

  -- the same of a call of any function
  abbrev pub call_waits : JniFunction → List Operand → Bool
  call_waits MonitorEnter operands = waits_to_enter operands
  call_waits f operands = false

  -- the task that is begun is such a call
  abbrev pub task_waits : Option TaskInMemory → Bool
  task_waits (Some (task.Invoke i)) = call_waits i.function (operands_view i.operands)
  task_waits o = false

-- whether each thread of this scene with this work waits
abbrev pub WaitsIn : Scene → Work → Bool → Type 0
WaitsIn scene w answer =
    IsAtStatement w → (t : Thread) → Sees scene t → t.tasks ≡ Some (tasks_left w)
    → answer ≡ waits scene.classes scene.thread scene.shared t
