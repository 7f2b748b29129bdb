use Rattle.std.proofs.Common.{◌≡◌, Bool, true, false, Option, Some, ap, subst, ◌∙◌}
use Rattle.replay_steps.specs.Activations.{Leaves}
use Rattle.replay_steps.specs.Steps.{scene_with}
use Rattle.replay_tasks.specs.declared.task.Task.{Task}
use Rattle.replay_tasks.specs.declared.task.Task.TheVariants as task
use Rattle.replay_terms.specs.declared.term.Term.{Term}
use Rattle.replay_terms.specs.declared.term.Term.TheVariants as term
use Rattle.semantics.specs.declared.value.Value.TheVariants as value
use Rattle.replay_steps.proofs.FinishedTasks.{branch_settled, else_settled, turn_settled}
use Rattle.replay_steps.proofs.activation.finish.Goals as goal

pub returns-then-branch-clause-step : goal.returns-then-branch-clause-step
returns-then-branch-clause-step c = λ s unit classes in_use thread pending.
    let scene = scene_with unit classes in_use thread s c.args.activation.now.locals.variables c.args.activation.now.locals.frames pending in
    subst (λ (b : Bool). Leaves scene c.args.activation.now.work b c.finish_block.new.work) c.if-branch.true (c.in_ok-finish_block.ensures.step scene)

pub returns-in_default-clause-step : goal.returns-in_default-clause-step
returns-in_default-clause-step c = λ s unit classes in_use thread pending.
    let scene = scene_with unit classes in_use thread s c.args.activation.now.locals.variables c.args.activation.now.locals.frames pending in
    subst (λ (b : Bool). Leaves scene c.args.activation.now.work b c.finish_block.new.work) c.if-branch.false (c.in_ok-finish_block.ensures.step scene)

pub finish_test-requires-clause-settled : goal.finish_test-requires-clause-settled
finish_test-requires-clause-settled c =
    let shape : c.in-Loop.i.term ≡ term.Done (value.Truth true) = c.in-Some-truth_of.ensures ∙ ap (λ (b : Bool). let t : Term = term.Done (value.Truth b) in t) c.if-goes.true in
    record {
      task = task.Loop c.in-Loop.i;
      begun = c.in-Some.is ∙ ap (λ (t : Task). let o : Option Task = Some t in o) c.in-Loop.is;
      does = λ sight. turn_settled sight c.in-Loop.i shape;
    }

pub finish_test-requires-then-taken-clause-settled : goal.finish_test-requires-then-taken-clause-settled
finish_test-requires-then-taken-clause-settled c =
    let shape : c.in-Branch.choice.test ≡ term.Done (value.Truth true) = c.in-Some-truth_of-2.ensures ∙ ap (λ (b : Bool). let t : Term = term.Done (value.Truth b) in t) c.if-taken.true in
    record {
      task = task.Branch c.in-Branch.choice;
      begun = c.in-Some.is ∙ ap (λ (t : Task). let o : Option Task = Some t in o) c.in-Branch.is;
      does = λ sight. branch_settled sight c.in-Branch.choice shape;
    }

pub finish_test-requires-else-taken-clause-settled : goal.finish_test-requires-else-taken-clause-settled
finish_test-requires-else-taken-clause-settled c =
    let shape : c.in-Branch.choice.test ≡ term.Done (value.Truth false) = c.in-Some-truth_of-2.ensures ∙ ap (λ (b : Bool). let t : Term = term.Done (value.Truth b) in t) c.if-taken.false in
    record {
      task = task.Branch c.in-Branch.choice;
      begun = c.in-Some.is ∙ ap (λ (t : Task). let o : Option Task = Some t in o) c.in-Branch.is;
      does = λ sight. else_settled sight c.in-Branch.choice shape;
    }

pub returns-in_ok-finish_test-in-Loop-clause-step : goal.returns-in_ok-finish_test-in-Loop-clause-step
returns-in_ok-finish_test-in-Loop-clause-step c = λ s unit classes in_use thread pending.
    c.in_ok-finish_test-in-Loop.ensures.step (scene_with unit classes in_use thread s c.args.activation.now.locals.variables c.args.activation.now.locals.frames pending)

pub returns-in_ok-finish_loop-in-Loop-clause-step : goal.returns-in_ok-finish_loop-in-Loop-clause-step
returns-in_ok-finish_loop-in-Loop-clause-step c = λ s unit classes in_use thread pending.
    c.in_ok-finish_loop-in-Loop.ensures.step (scene_with unit classes in_use thread s c.args.activation.now.locals.variables c.args.activation.now.locals.frames pending)

pub returns-in_ok-finish_test-in-Branch-clause-step : goal.returns-in_ok-finish_test-in-Branch-clause-step
returns-in_ok-finish_test-in-Branch-clause-step c = λ s unit classes in_use thread pending.
    c.in_ok-finish_test-in-Branch.ensures.step (scene_with unit classes in_use thread s c.args.activation.now.locals.variables c.args.activation.now.locals.frames pending)

pub returns-in_ok-finish_test-in-Branch-2-clause-step : goal.returns-in_ok-finish_test-in-Branch-2-clause-step
returns-in_ok-finish_test-in-Branch-2-clause-step c = λ s unit classes in_use thread pending.
    c.in_ok-finish_test-in-Branch-2.ensures.step (scene_with unit classes in_use thread s c.args.activation.now.locals.variables c.args.activation.now.locals.frames pending)
