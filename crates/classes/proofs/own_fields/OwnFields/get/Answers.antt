use Rattle.std.proofs.Common.{◌∙◌, sym, ap, slice_get, Some}
use Rattle.std.specs.Option.{option_map}
use Rattle.std.proofs.lemmas.Option.{slice_get-map}
use Rattle.class_rules.specs.Class.{Field}
use Rattle.classes.specs.HeldFields.{field_type_view, own_field}
use Rattle.classes.proofs.own_fields.OwnFields.get.Goals as goal

pub returns-in-Some : goal.returns-in-Some
returns-in-Some c =
    ap (λ n. let f : Field = record { name = n; type = field_type_view c.in-Some.field_type.now } in Some f) c.deref.ensures.value
    ∙ ap (option_map own_field) c.in-Some.ensures.entry
    ∙ sym (slice_get-map own_field c.self.inside.types.entries c.args.place)
    ∙ ap (λ fs. slice_get fs c.args.place) c.self.view_is

pub returns-in-None : goal.returns-in-None
returns-in-None c =
    ap (option_map own_field) c.in-None.ensures.entry
    ∙ sym (slice_get-map own_field c.self.inside.types.entries c.args.place)
    ∙ ap (λ fs. slice_get fs c.args.place) c.self.view_is
