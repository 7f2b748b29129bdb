use Rattle.machine_steps.proofs.invoke.call_at_once.Goals as goal

pub change_at_once-requires-clause-at_call : goal.change_at_once-requires-clause-at_call
change_at_once-requires-clause-at_call c = (c.args.owner, c.requires.at_call (c.could_wait.ensures c.if-could_wait.false))

pub call_seen-requires : goal.call_seen-requires
call_seen-requires c = record {
  may = record { at_call = c.requires.at_call (c.could_wait.ensures c.if-could_wait.false); place = c.requires.place; few = c.requires.few; prepared = c.requires.prepared };
}

pub returns-then-is_of_monitors-clause-free : goal.returns-then-is_of_monitors-clause-free
returns-then-is_of_monitors-clause-free c is = c.could_wait.ensures c.if-could_wait.false

pub returns-then-is_of_monitors-clause-done : goal.returns-then-is_of_monitors-clause-done
returns-then-is_of_monitors-clause-done c is = c.change_at_once.ensures.done is c.args.owner

pub returns-clause-free : goal.returns-clause-free
returns-clause-free c is = c.could_wait.ensures c.if-could_wait.false
