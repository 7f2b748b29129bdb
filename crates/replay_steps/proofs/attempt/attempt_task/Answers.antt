use Rattle.std.proofs.Common.{◌≡◌, sym, subst, rules}
use Rattle.replay_arguments.specs.Shares.{shared_view, sight_in}
use Rattle.replay_tasks.specs.declared.task.Task.{Task}
use Rattle.replay_tasks.specs.declared.task.Task.TheVariants as task
use Rattle.replay_tasks.specs.Tasks.{branch_task, loop_task, value_task}
use Rattle.replay_tasks.proofs.EffectLemmas.{branch_reduces, loop_reduces, set_reduces}
use Rattle.replay_steps.specs.Attempts.{AttemptsTask}
use Rattle.replay_steps.proofs.AttemptLemmas.{task_attempted}
use Rattle.replay_steps.proofs.attempt.attempt_task.Goals as goal

pub returns-in-Set-clause-step : goal.returns-in-Set-clause-step
returns-in-Set-clause-step c =
    let it = c.in-Set.a in
    let sight = sight_in (shared_view c.args.shared.now) c.args.variables.now in
    let same : c.args.task.now ≡ task.Set it = search rules in
    subst (λ (u : Task). AttemptsTask sight u c.attempt_term.result (value_task it.line it.name c.attempt_term.new.term)) (sym same)
    (task_attempted sight it.line (λ t. value_task it.line it.name t) (λ old new took none step. set_reduces sight it.line old new took none step it.name) it.term c.attempt_term.new.term c.attempt_term.result c.attempt_term.ensures.step)

pub returns-in-Branch-clause-step : goal.returns-in-Branch-clause-step
returns-in-Branch-clause-step c =
    let it = c.in-Branch.choice in
    let sight = sight_in (shared_view c.args.shared.now) c.args.variables.now in
    let same : c.args.task.now ≡ task.Branch it = search rules in
    subst (λ (u : Task). AttemptsTask sight u c.attempt_term-in-Branch.result (branch_task it.line c.attempt_term-in-Branch.new.term it.block it.otherwise)) (sym same)
    (task_attempted sight it.line (λ t. branch_task it.line t it.block it.otherwise) (λ old new took none step. branch_reduces sight it.line old new took none step it.block it.otherwise) it.test c.attempt_term-in-Branch.new.term c.attempt_term-in-Branch.result c.attempt_term-in-Branch.ensures.step)

pub returns-in-Loop-clause-step : goal.returns-in-Loop-clause-step
returns-in-Loop-clause-step c =
    let it = c.in-Loop.i in
    let sight = sight_in (shared_view c.args.shared.now) c.args.variables.now in
    let same : c.args.task.now ≡ task.Loop it = search rules in
    subst (λ (u : Task). AttemptsTask sight u c.attempt_term-in-Loop.result (loop_task it.line it.test c.attempt_term-in-Loop.new.term it.body)) (sym same)
    (task_attempted sight it.line (λ t. loop_task it.line it.test t it.body) (λ old new took none step. loop_reduces sight it.line old new took none step it.test it.body) it.term c.attempt_term-in-Loop.new.term c.attempt_term-in-Loop.result c.attempt_term-in-Loop.ensures.step)
