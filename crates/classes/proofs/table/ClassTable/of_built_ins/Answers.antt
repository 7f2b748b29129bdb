use Rattle.class_rules.specs.BuiltIns.{built_ins}
use Rattle.classes.proofs.table.ClassTable.of_built_ins.Goals as goal

pub returns : goal.returns
unfolding built_ins
returns c = c.new.ensures
