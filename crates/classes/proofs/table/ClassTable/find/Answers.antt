use Rattle.std.proofs.Common.{◌∙◌, ap}
use Rattle.class_rules.specs.Class.{class_named}
use Rattle.classes.proofs.table.ClassTable.find.Goals as goal

pub returns : goal.returns
returns c = c.find.ensures ∙ ap (λ t. class_named t c.args.name.now) c.self.view_is
