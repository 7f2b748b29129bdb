-- Steps of terms are steps of their tasks, and of the call in progress.
use Rattle.std.proofs.Common.{◌≡◌, ℕ, false, List, ◌∷◌, Option, None, Some, sym, ap, ◌∙◌}
use Rattle.syntax.specs.Tree.{SourceUnit}
use Rattle.class_rules.specs.Class.{Classes}
use Rattle.semantics.specs.Object.{Reference}
use Rattle.semantics.specs.Thread.{BuffersInUse, Shared}
use Rattle.semantics.specs.Sight.{Sight}
use Rattle.semantics.specs.Task.{Task}
use Rattle.semantics.specs.ThreadStep.{step_within}
use Rattle.replay_arguments.specs.Shares.{sight_in}
use Rattle.replay_steps.specs.declared.activation.Activation.{Activation}
use Rattle.replay_steps.specs.declared.activation.Work.{Work}
use Rattle.replay_steps.specs.declared.attempt.Attempt.{Attempt}
use Rattle.replay_steps.specs.declared.attempt.Attempt.TheVariants as attempt
use Rattle.replay_steps.specs.Activations.{Advances, IsAtStatement, tasks_after, tasks_from, tasks_left}
use Rattle.replay_steps.specs.Attempts.{AttemptsCall, AttemptsTask, AttemptsTerm, IsOpen, attempt_for}
use Rattle.replay_steps.specs.Steps.{Does, Scene, scene_with}
use Rattle.replay_steps.specs.Calls.{ReducesFirst}
use Rattle.replay_steps.proofs.Invocations.{number_reduces}
use Rattle.replay_steps.proofs.TaskLemmas.{does}
use Rattle.replay_tasks.specs.declared.outcome.Outcome.TheVariants as outcome
use Rattle.replay_tasks.specs.declared.task.Invocation.{Invocation}
use Rattle.replay_tasks.specs.declared.task.Task.{Task as TaskInMemory}
use Rattle.replay_tasks.specs.declared.task.Task.TheVariants as task
use Rattle.replay_tasks.specs.Effects.{HasEffect, reduced}
use Rattle.replay_tasks.specs.Tasks.{TaskInRange, task_view}
use Rattle.replay_terms.specs.declared.reduction.Reduction.{Reduction}
use Rattle.replay_terms.specs.declared.reduction.Reduction.TheVariants as reduction
use Rattle.replay_terms.specs.declared.term.Term.{Term}
use Rattle.replay_terms.specs.Views.{Reduces}

-- a task takes the step of its term
pub task_attempted : (sight : Sight) (line : ℕ) (at : Term → TaskInMemory)
    → ((old new : Term) (took : Reduction) → IsOpen old → Reduces sight old took new → HasEffect sight (at old) (reduced line took) (at new))
    → (old new : Term) (r : Attempt) → AttemptsTerm sight old r new → AttemptsTask sight (at old) r (at new)
task_attempted sight line at steps old new attempt.Reduced h = steps old new reduction.Reduced h.0 h.1
task_attempted sight line at steps old new attempt.Stuck h = steps old new reduction.Stuck h.0 h.1
task_attempted sight line at steps old new attempt.Left h = ap at h

-- a call's first number that isn't worked out takes its step
pub number_attempted : (sight : Sight) (i new : Invocation) → new.line ≡ i.line → new.purpose ≡ i.purpose → new.function ≡ i.function → (new.operands ≡ i.operands → new ≡ i)
    → (took : Option Reduction) → ReducesFirst sight i.operands took new.operands → AttemptsTask sight (task.Invoke i) (attempt_for took) (task.Invoke new)
number_attempted sight i new line purpose function same None h = ap (λ (x : Invocation). let t : TaskInMemory = task.Invoke x in t) (same h.1)
number_attempted sight i new line purpose function same (Some reduction.Reduced) h = number_reduces sight i new line purpose function reduction.Reduced h
number_attempted sight i new line purpose function same (Some (reduction.Trapped trap)) h = ap (λ (x : Invocation). let t : TaskInMemory = task.Invoke x in t) (same h.2)
number_attempted sight i new line purpose function same (Some reduction.Stuck) h = number_reduces sight i new line purpose function reduction.Stuck h

-- the work with another task in the place of the one that is begun
abbrev pub with_task : Work → TaskInMemory → Work
with_task w task = record w { task = Some task }

module _ (scene : Scene) (old : Work) (begun left : TaskInMemory) (is : old.task ≡ Some begun) where
  abbrev rest : List Task
  rest = tasks_after old.rest old.outer.items

  first : tasks_left old ≡ task_view begun ∷ rest
  first = ap (λ (o : Option TaskInMemory). tasks_from o rest) is

  pub stays : Does false scene begun outcome.Stays scene left → Advances false scene old outcome.Stays scene (with_task old left)
  stays steps = λ t sees has.
      ap (λ (ts : List Task). step_within scene.unit scene.classes scene.in_use scene.thread scene.shared t false (Some ts)) first
      ∙ steps t rest sees (has ∙ ap (λ (ts : List Task). let o : Option (List Task) = Some ts in o) first)

  pub stops : Does false scene begun outcome.Impossible scene left → Advances false scene old outcome.Impossible scene (with_task old left)
  stops steps = λ t sees has.
      ap (λ (ts : List Task). step_within scene.unit scene.classes scene.in_use scene.thread scene.shared t false (Some ts)) first
      ∙ steps t rest sees (has ∙ ap (λ (ts : List Task). let o : Option (List Task) = Some ts in o) first)

module _ (s : Shared) (old : Activation) (begun left : TaskInMemory) (is : old.work.task ≡ Some begun) where
  -- the scene of whatever turn it is
  abbrev scene_of_any : SourceUnit → Classes → BuffersInUse → ℕ → Reference → Scene
  scene_of_any unit classes in_use thread pending = scene_with unit classes in_use thread s old.locals.variables old.locals.frames pending

  -- a call in progress takes the step of its task
  pub call_attempted : (r : Attempt) → AttemptsTask (sight_in s old.locals.variables) begun r left → AttemptsCall s old r (record old { work = with_task old.work left })
  call_attempted attempt.Reduced h = λ unit classes in_use thread pending.
      let scene = scene_of_any unit classes in_use thread pending in stays scene old.work begun left is (does scene begun left outcome.Stays h)
  call_attempted attempt.Stuck h = λ unit classes in_use thread pending.
      let scene = scene_of_any unit classes in_use thread pending in stops scene old.work begun left is (does scene begun left outcome.Impossible h)
  call_attempted attempt.Left h =
      ap (λ (task : TaskInMemory). let a : Activation = record old { work = with_task old.work task } in a) h
      ∙ ap (λ (o : Option TaskInMemory). let a : Activation = record old { work = record old.work { task = o } } in a) (sym is)

-- what is known stays so
pub range_kept : (w : Work) (left : TaskInMemory) → IsAtStatement w → TaskInRange left → IsAtStatement (with_task w left)
range_kept w left known task = record {
  range = record { begun = task; rest = known.range.rest; outer = known.range.outer };
  next = λ none. absurd (cc);
}
