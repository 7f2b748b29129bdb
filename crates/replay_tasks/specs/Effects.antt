-- What a step of a task that is no call does.
use Rattle.std.specs.Prelude.{◌≡◌, ℕ, [], ◌∷◌, ◌++◌}
use Rattle.semantics.specs.Effect.{Effect, Becomes, Sets, SetsNull, SetsElement, MakesArray, Prints, Returns, TrapsAt, NoEffect, effect_of}
use Rattle.semantics.specs.Sight.{Sight}
use Rattle.replay_tasks.specs.declared.outcome.Outcome.{Outcome}
use Rattle.replay_tasks.specs.declared.outcome.Outcome.TheVariants as outcome
use Rattle.replay_terms.specs.declared.reduction.Reduction.{Reduction as ReductionInMemory}
use Rattle.replay_terms.specs.declared.reduction.Reduction.TheVariants as reduction
use Rattle.replay_tasks.specs.declared.task.Task.{Task as TaskInMemory}
use Rattle.replay_tasks.specs.declared.task.Task.TheVariants as task
use Rattle.replay_tasks.specs.Outcomes.{result_view, target_view}
use Rattle.replay_tasks.specs.Tasks.{task_view, end_view, statements_in, tasks_of_statements}

-- what a step does that reduces a term, which has no value yet
abbrev pub reduced : ℕ → ReductionInMemory → Outcome
reduced line reduction.Reduced = outcome.Stays
reduced line (reduction.Trapped trap) = outcome.Trapped trap line
reduced line reduction.Stuck = outcome.Impossible

-- the effect of a step that left this task
abbrev pub effect_by : Outcome → TaskInMemory → Effect
effect_by outcome.Stays new = Becomes (task_view new ∷ [])
effect_by (outcome.Printed z) new = Prints z
effect_by (outcome.Sets x v) new = Sets x.now v
effect_by (outcome.SetsNull to) new = SetsNull (target_view to)
effect_by (outcome.Gives to g) new = NoEffect
effect_by (outcome.Lends to b) new = NoEffect
effect_by (outcome.Tests line zero b other) new = NoEffect
effect_by (outcome.SetsElement x i z) new = SetsElement x.now i z
effect_by (outcome.Makes T x n) new = MakesArray T x.now n
effect_by (outcome.Enters block e) new = Becomes (tasks_of_statements (statements_in block) ++ end_view e ∷ [])
effect_by outcome.Ends new = Becomes []
effect_by (outcome.Returned given) new = Returns (result_view given)
effect_by (outcome.Calls line x) new = NoEffect
effect_by (outcome.Trapped trap line) new = TrapsAt trap line
effect_by outcome.Impossible new = NoEffect

-- it sets a variable or an element to a value
abbrev pub IsAssignment : TaskInMemory → Type 0
IsAssignment (task.Set a) = Unit {0}
IsAssignment (task.SetElement a) = Unit {0}
IsAssignment t = ⊥

-- it is an `if` or a loop
abbrev pub HasBranches : TaskInMemory → Type 0
HasBranches (task.Branch c) = Unit {0}
HasBranches (task.Loop i) = Unit {0}
HasBranches t = ⊥

-- it prints a value or returns it
abbrev pub IsEvaluation : TaskInMemory → Type 0
IsEvaluation (task.Print e) = Unit {0}
IsEvaluation (task.ReturnValue e) = Unit {0}
IsEvaluation t = ⊥

-- where this can be seen, what a step in memory did is the effect of the task, which is no call
abbrev pub HasEffect : Sight → TaskInMemory → Outcome → TaskInMemory → Type 0
HasEffect sight old (outcome.Gives to g) new = ⊥
HasEffect sight old (outcome.Lends to b) new = ⊥
HasEffect sight old (outcome.Tests line zero b other) new = ⊥
HasEffect sight old (outcome.Calls line x) new = ⊥
HasEffect sight old (outcome.Trapped trap line) new = (effect_of sight (task_view old) ≡ TrapsAt trap line) × (task_view new ≡ task_view old)
HasEffect sight old took new = effect_of sight (task_view old) ≡ effect_by took new
