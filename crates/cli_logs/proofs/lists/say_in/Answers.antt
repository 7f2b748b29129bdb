use Rattle.cli_logs.proofs.lists.say_in.Goals as goal

pub returns-then-several-clause-text : goal.returns-then-several-clause-text
returns-then-several-clause-text g c = rw c.if-several.true c.say_of.ensures.text

pub returns-clause-text : goal.returns-clause-text
returns-clause-text g c = rw c.if-several.false c.say.ensures.text
