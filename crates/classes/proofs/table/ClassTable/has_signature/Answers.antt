use Rattle.std.proofs.Common.{◌∙◌, sym, ap}
use Rattle.std.specs.Str.{bytes_eq}
use Rattle.class_rules.specs.Fields.{signature}
use Rattle.classes.specs.Views.{field_type_view}
use Rattle.classes.proofs.table.ClassTable.has_signature.Goals as goal

pub returns-in-Number : goal.returns-in-Number
returns-in-Number c =
    c.is_number_signature.ensures c.args.self.now
    ∙ ap (λ t. bytes_eq (signature c.args.self.now (field_type_view t)) c.args.text.now) (sym c.in-Number.is)
