use Rattle.std.proofs.Common.{subst}
use Rattle.std.specs.Prelude.{IsTrue}
use Rattle.syntax.specs.Views.{form_tree}
use Rattle.replay_tasks.specs.Tasks.{has_numbers_in_range, calls_known}
use Rattle.replay_tasks.proofs.task.task_of.Goals as goal

pub returns-in-Plain : goal.returns-in-Plain
returns-in-Plain c = record { view = rw c.in-Plain.is c.plain_task.ensures.view; range = c.plain_task.ensures.range }

pub plain_task-requires-clause-numbers : goal.plain_task-requires-clause-numbers
plain_task-requires-clause-numbers c = subst (λ f. IsTrue (has_numbers_in_range (form_tree c.args.s.now.line f))) c.in-Plain.is c.requires.numbers

pub plain_task-requires-clause-known : goal.plain_task-requires-clause-known
plain_task-requires-clause-known c = subst (λ f. IsTrue (calls_known (form_tree c.args.s.now.line f))) c.in-Plain.is c.requires.known

pub returns-in-Nothing : goal.returns-in-Nothing
returns-in-Nothing c = record { view = rw (c.in-If.is, c.in-Nothing.is) c.if_task.ensures.view; range = c.if_task.ensures.range }

pub returns-in-Block : goal.returns-in-Block
returns-in-Block c = record { view = rw (c.in-If.is, c.in-Block.is) c.if_task-in-Block.ensures.view; range = c.if_task-in-Block.ensures.range }

pub returns-in-While : goal.returns-in-While
returns-in-While c = record { view = rw c.in-While.is c.begin_loop.ensures.view; range = c.begin_loop.ensures.range }
