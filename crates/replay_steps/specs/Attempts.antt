-- Steps of terms, which are most steps of tasks.
use Rattle.std.specs.Prelude.{◌≡◌, ℕ, false, Option, Some}
use Rattle.syntax.specs.Tree.{SourceUnit}
use Rattle.class_rules.specs.Class.{Classes}
use Rattle.semantics.specs.Object.{Reference}
use Rattle.semantics.specs.Sight.{Sight}
use Rattle.semantics.specs.declared.value.Value.{Value}
use Rattle.semantics.specs.Thread.{BuffersInUse, Shared}
use Rattle.replay_steps.specs.declared.activation.Activation.{Activation}
use Rattle.replay_steps.specs.declared.attempt.Attempt.{Attempt}
use Rattle.replay_steps.specs.declared.attempt.Attempt.TheVariants as attempt
use Rattle.replay_steps.specs.Activations.{Advances}
use Rattle.replay_steps.specs.Steps.{scene_with}
use Rattle.replay_tasks.specs.declared.outcome.Outcome.{Outcome}
use Rattle.replay_tasks.specs.declared.outcome.Outcome.TheVariants as outcome
use Rattle.replay_tasks.specs.declared.task.Task.{Task}
use Rattle.replay_tasks.specs.Effects.{HasEffect}
use Rattle.replay_terms.specs.declared.reduction.Reduction.{Reduction}
use Rattle.replay_terms.specs.declared.reduction.Reduction.TheVariants as reduction
use Rattle.replay_terms.specs.declared.term.Term.{Term}
use Rattle.replay_terms.specs.declared.term.Term.TheVariants as term
use Rattle.replay_terms.specs.Views.{Reduces}

-- a term has no value yet
abbrev pub IsOpen : Term → Type 0
IsOpen t = (v : Value) → t ≡ term.Done v → ⊥

-- where this can be seen, a term took a step, can't, or is as it was
abbrev pub AttemptsTerm : Sight → Term → Attempt → Term → Type 0
AttemptsTerm sight old attempt.Reduced new = IsOpen old × Reduces sight old reduction.Reduced new
AttemptsTerm sight old attempt.Stuck new = IsOpen old × Reduces sight old reduction.Stuck new
AttemptsTerm sight old attempt.Left new = new ≡ old

-- what became of the first number of a call that isn't worked out, if there is one
abbrev pub attempt_for : Option Reduction → Attempt
attempt_for (Some reduction.Reduced) = attempt.Reduced
attempt_for (Some reduction.Stuck) = attempt.Stuck
attempt_for took = attempt.Left

-- where this can be seen, a task took that step, which is its own, can't, or is as it was
abbrev pub AttemptsTask : Sight → Task → Attempt → Task → Type 0
AttemptsTask sight old attempt.Reduced new = HasEffect sight old outcome.Stays new
AttemptsTask sight old attempt.Stuck new = HasEffect sight old outcome.Impossible new
AttemptsTask sight old attempt.Left new = new ≡ old

-- where threads share this, the same is the step of a call in progress, whose turn ever it is, with nothing refused
abbrev pub AdvancesAnywhere : Shared → Activation → Outcome → Activation → Type 0
AdvancesAnywhere s old took new =
    (unit : SourceUnit) (classes : Classes) (in_use : BuffersInUse) (thread : ℕ) (pending : Reference)
    → Advances false (scene_with unit classes in_use thread s old.locals.variables old.locals.frames pending) old.work took
    (scene_with unit classes in_use thread s new.locals.variables new.locals.frames pending) new.work

-- the same of a call in progress
abbrev pub AttemptsCall : Shared → Activation → Attempt → Activation → Type 0
AttemptsCall s old attempt.Reduced new = AdvancesAnywhere s old outcome.Stays new
AttemptsCall s old attempt.Stuck new = AdvancesAnywhere s old outcome.Impossible new
AttemptsCall s old attempt.Left new = new ≡ old
