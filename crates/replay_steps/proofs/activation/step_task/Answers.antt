use Rattle.std.proofs.Common.{Result, Ok, Err, IfOk, refl, subst}
use Rattle.replay_tasks.specs.Tasks.{BegunInRange}
use Rattle.replay_steps.proofs.activation.step_task.Goals as goal

-- what holds of an answer, by two things that do
both_ok : {A E : Type 0} {P Q R : A → Type 0} → (r : Result A E) → ((a : A) → P a → Q a → R a) → IfOk r P → IfOk r Q → IfOk r R
both_ok (Ok a) f h k = f a h k
both_ok (Err e) f h k = tt

pub step-requires-clause-range : goal.step-requires-clause-range
step-requires-clause-range c = subst BegunInRange c.in-Some.is c.requires.range.begun

pub returns-clause-step : goal.returns-clause-step
returns-clause-step c = both_ok c.step.result (λ o does range. record {
  task = c.in-Some.task;
  begun = c.in-Some.is;
  left = c.step.new.task;
  is = refl;
  does = does;
  range = range;
}) c.step.ensures.step c.step.ensures.task
