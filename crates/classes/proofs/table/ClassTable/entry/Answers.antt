use Rattle.std.proofs.Common.{◌<◌, ◌∙◌, sym, ap, arith}
use Rattle.class_rules.specs.Class.{class_at}
use Rattle.classes.proofs.Places.{class_at-place}
use Rattle.classes.proofs.table.ClassTable.entry.Goals as goal

pub returns : goal.returns
returns c =
    let some : 0 < c.args.class.number = omega arith in
    c.get.ensures ∙ sym (class_at-place c.self.inside.classes c.args.class.number some) ∙ ap (λ t. class_at t c.args.class.number) c.self.view_is
