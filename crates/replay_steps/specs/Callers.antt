-- Calls in memory that wait for one that they made, and go on once it has returned.
use Rattle.std.specs.Prelude.{◌≡◌, ◌+◌, if◌then◌else◌, nat_le, ℕ, List, length, map, Option, Some, None}
use Rattle.base.specs.Bytes.{Identifier}
use Rattle.base.specs.Limits.{most_activations}
use Rattle.jni.specs.JniFunction.{prototype}
use Rattle.semantics.specs.CallEffects.{CallResult}
use Rattle.semantics.specs.Object.{Reference}
use Rattle.semantics.specs.Return.{given_back, return_into}
use Rattle.semantics.specs.declared.event.Event.TheVariants.{Quiet, Trapped}
use Rattle.semantics.specs.Thread.{Advance, Advances, Caller, NoAdvance, Shared, Thread}
use Rattle.semantics.specs.declared.trap.Trap.TheVariants.{CallsTooDeep}
use Rattle.semantics.specs.Views.{object_value_view}
use Rattle.semantics.specs.World.{Invocation}
use Rattle.replay_steps.specs.Activations.{IsInRange, tasks_after, tasks_left}
use Rattle.replay_steps.specs.declared.activation.Activation.{Activation}
use Rattle.replay_steps.specs.declared.activation.Work.{Work}
use Rattle.replay_steps.specs.declared.callers.Entering.{Entering}
use Rattle.replay_steps.specs.Steps.{calling_by, waiting}
use Rattle.replay_tasks.specs.Outcomes.{purpose_view}
use Rattle.replay_tasks.specs.declared.task.Task.{Task as TaskInMemory}
use Rattle.replay_tasks.specs.declared.task.Task.TheVariants as task
use Rattle.replay_terms.specs.Views.{variables_view}

-- the task that is begun is a call
abbrev pub IsCall : Option TaskInMemory → Type 0
IsCall (Some (task.Invoke i)) = Unit {0}
IsCall o = ⊥

-- what is known of a call that waits for one that it made, as it stands in an accepted program
pub record IsCalling (w : Work) : Type 0 where
  pub call : IsCall w.task
  pub range : IsInRange w

-- the task that is begun is the call whose result a caller waits for
abbrev pub CallStands : Option TaskInMemory → Caller → Type 0
CallStands (Some (task.Invoke i)) c =
    (c.target ≡ purpose_view i.line i.purpose) × (c.result ≡ (prototype i.function).result)
CallStands o c = ⊥

-- a call in memory stands for a caller: what is to do once the other is over comes after the task that is begun
pub record CallerStands (a : Activation) (c : Caller) : Type 0 where
  pub call : CallStands a.work.task c
  pub tasks : c.tasks ≡ tasks_after a.work.rest a.work.outer.items
  pub variables : c.variables ≡ variables_view a.locals.variables
  pub frames : c.frames ≡ a.locals.frames

-- a thread at this call in progress, with these callers
abbrev pub thread_at : Thread → List Caller → Activation → Thread
thread_at t callers a = record t {
  callers = callers;
  tasks = Some (tasks_left a.work);
  variables = variables_view a.locals.variables;
  frames = a.locals.frames;
}

-- What was done to a call in memory is a return into each caller that it stands for, with this exception pending, of a call
-- that gives this.
abbrev pub Resumes : Shared → Reference → CallResult → (old : Activation) → Shared → (new : Activation) → Type 0
Resumes s pending given old s' new =
    (t : Thread) (c : Caller) (callers : List Caller) → t.pending ≡ pending → CallerStands old c
    → return_into s t (given_back pending c.result given) c callers ≡ Advances s' (thread_at t callers new) Quiet

-- a call that is to be entered
abbrev pub entering_view : Entering → Invocation
entering_view e = record { line = e.line; function = e.function.now; arguments = map object_value_view e.arguments.items }

-- what is left of a thread whose call in progress is to wait, as this caller, for this call, if few enough calls wait
abbrev pub called_by : Shared → Thread → (line : ℕ) → Caller → Invocation → Advance
called_by s t line caller call =
    if nat_le most_activations (length t.callers + 1) then Advances s t (Trapped CallsTooDeep line)
    else Advances s (waiting t caller call) Quiet

-- each thread at this call in memory, whose tasks these are, waits for the call of a function as a caller for which the call stands
pub record CallsFrom (s : Shared) (a : Activation) (line : ℕ) (x : Identifier) (call : Invocation) : Type 0 where
  pub calling : IsCalling a.work
  pub caller : Caller
  pub stands : CallerStands a caller
  pub calls : (t : Thread) → t.variables ≡ variables_view a.locals.variables → t.frames ≡ a.locals.frames
      → calling_by s t line x (Some (tasks_left a.work)) ≡ called_by s t line caller call

-- The call in memory makes this one, of the function of this name. Where it makes none, no thread at it can step so.
abbrev pub MakesCaller : Shared → Activation → (line : ℕ) → Identifier → Option Entering → Type 0
MakesCaller s a line x (Some e) = CallsFrom s a line x (entering_view e)
MakesCaller s a line x None = (t : Thread) → calling_by s t line x (Some (tasks_left a.work)) ≡ NoAdvance
