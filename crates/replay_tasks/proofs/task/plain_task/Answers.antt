use Rattle.replay_tasks.proofs.task.plain_task.Goals as goal

pub returns-in-Declare : goal.returns-in-Declare
returns-in-Declare c = record { view = rw (c.in-Declare.is, ← c.kind_of.ensures) c.set_task.ensures.view; range = c.set_task.ensures.range }

pub returns-in-Assign : goal.returns-in-Assign
returns-in-Assign c = record { view = rw c.in-Assign.is c.set_task-in-Assign.ensures.view; range = c.set_task-in-Assign.ensures.range }

pub returns-in-AssignElement : goal.returns-in-AssignElement
returns-in-AssignElement c = record { view = rw c.in-AssignElement.is c.element_task.ensures.view; range = c.element_task.ensures.range }

pub returns-in-Perform : goal.returns-in-Perform
returns-in-Perform c = record { view = rw c.in-Perform.is c.call_task.ensures.view; range = c.call_task.ensures.range }

pub returns-in-PutJint : goal.returns-in-PutJint
returns-in-PutJint c = record { view = rw c.in-PutJint.is c.print_task.ensures.view; range = c.print_task.ensures.range }
