use Rattle.std.proofs.Common.{◌≡◌, Some, refl, sym, subst, ap}
use Rattle.replay_arguments.specs.Shares.{shared_view, sight_in}
use Rattle.replay_tasks.specs.declared.task.Task.{Task}
use Rattle.replay_tasks.specs.declared.task.Task.TheVariants as task
use Rattle.replay_tasks.specs.declared.task.Invocation.{Invocation}
use Rattle.replay_terms.specs.declared.operand.Operands.{Operands}
use Rattle.replay_terms.specs.declared.operand.Operands.TheVariants as all
use Rattle.replay_terms.specs.declared.term.Term.{Term}
use Rattle.replay_steps.specs.Attempts.{AttemptsTask}
use Rattle.replay_steps.proofs.AttemptLemmas.{task_attempted}
use Rattle.replay_steps.proofs.Invocations.{last_steps, number_reduces, takes_first}
use Rattle.replay_steps.proofs.attempt.attempt_number.Goals as goal

pub returns-in-Last-clause-step : goal.returns-in-Last-clause-step
returns-in-Last-clause-step c =
    let sight = sight_in (shared_view c.args.shared.now) c.args.variables.now in
    let i = c.args.i.now in
    let given = c.in-Last.field-0 in
    let with : Operands → Invocation = λ os. record i { operands = os } in
    let at : Term → Task = λ t. task.Invoke (with (all.Last given t)) in
    let same : task.Invoke i ≡ at c.in-Last.number = ap (λ (os : Operands). let t : Task = task.Invoke (with os) in t) c.in-Last.is in
    subst (λ (u : Task). AttemptsTask sight u c.attempt_term.result (at c.attempt_term.new.term)) (sym same)
    (task_attempted sight i.line at
    (λ old new took open' step. number_reduces sight (with (all.Last given old)) (with (all.Last given new)) refl refl refl took
    (last_steps sight given old new (Some took) (λ rest. takes_first sight old new rest took open' step)))
    c.in-Last.number c.attempt_term.new.term c.attempt_term.result c.attempt_term.ensures.step)
