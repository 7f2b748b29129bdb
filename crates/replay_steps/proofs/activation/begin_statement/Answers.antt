use Rattle.syntax.specs.Views.{stmt_tree}
use Rattle.semantics.specs.Task.{task_of}
use Rattle.replay_steps.proofs.ActivationLemmas.{begun_as}
use Rattle.replay_steps.proofs.activation.begin_statement.Goals as goal

pub returns : goal.returns
returns c = begun_as (task_of (stmt_tree c.args.statement.now)) c.task_of.new.place c.in_ok-task_of.ensures.view c.in_ok-task_of.ensures.range
