use Rattle.world_lines.proofs.rules.class_rule.Goals as goal

pub returns-in-None : goal.returns-in-None
returns-in-None c = rw c.in-None.is c.class_rule-in-None.ensures
