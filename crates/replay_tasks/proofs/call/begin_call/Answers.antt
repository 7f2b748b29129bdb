use Rattle.std.proofs.Common.{List, subst}
use Rattle.semantics.specs.Task.{Invoke, Operand}
use Rattle.replay_tasks.specs.Outcomes.{purpose_view}
use Rattle.replay_tasks.specs.Tasks.{Begins}
use Rattle.replay_tasks.proofs.NumberLemmas.{given_are}
use Rattle.replay_tasks.proofs.call.begin_call.Goals as goal

pub returns-in-Nowhere-clause-view : goal.returns-in-Nowhere-clause-view
returns-in-Nowhere-clause-view c =
    let f = c.args.function in
    subst (λ (os : List Operand). Begins (Invoke c.args.line (purpose_view c.args.line c.args.purpose) f os) c.given_task.new.place)
    (given_are f c.args.arguments.now c.in-Nowhere.ensures) c.given_task.ensures.view
