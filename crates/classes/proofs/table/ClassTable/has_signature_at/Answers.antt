use Rattle.std.proofs.Common.{◌≡◌, ◌∙◌, ap, Some, None}
use Rattle.std.specs.Str.{bytes_eq}
use Rattle.class_rules.specs.Class.{Field}
use Rattle.class_rules.specs.Fields.{signature}
use Rattle.classes.specs.Views.{field_view}
use Rattle.classes.proofs.table.ClassTable.has_signature_at.Goals as goal

pub returns-in-Some : goal.returns-in-Some
returns-in-Some c = λ f at.
    let same : ◌≡◌ {A = _} (Some (field_view c.in-Some.field)) (Some f) = c.in-Some.ensures ∙ at in
    let is : field_view c.in-Some.field ≡ f = cc in
    c.has_signature.ensures ∙ ap (λ (g : Field). bytes_eq (signature c.args.self.now g.type) c.args.text.now) is

pub returns-in-None : goal.returns-in-None
returns-in-None c = λ f at. let none : ◌≡◌ {A = _} None (Some f) = c.in-None.ensures ∙ at in absurd (cc)
