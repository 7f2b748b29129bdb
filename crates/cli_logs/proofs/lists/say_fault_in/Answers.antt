use Rattle.cli_logs.proofs.lists.say_fault_in.Goals as goal

pub returns-then-several : goal.returns-then-several
returns-then-several g c = rw c.if-several.true c.say_fault_of.ensures.text

pub returns : goal.returns
returns g c = rw c.if-several.false c.say_fault.ensures.text
