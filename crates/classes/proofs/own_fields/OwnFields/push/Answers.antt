use Rattle.std.proofs.Common.{◌++◌, ◌∷◌, [], ◌∙◌, ap}
use Rattle.std.proofs.lemmas.List.{map-append}
use Rattle.indexmap.proofs.CallerLemmas.{insert_entry-new}
use Rattle.class_rules.specs.Class.{Field}
use Rattle.classes.specs.HeldFields.{field_type_view, own_field, own_view}
use Rattle.classes.proofs.NamedFields.{has_field, unkeyed}
use Rattle.classes.proofs.own_fields.OwnFields.push.Goals as goal

pub returns : goal.returns
returns c =
    let es = c.self.inside.types.entries in
    let absent = (λ i. has_field (c.self.view_is i) (c.in_ok-name.ensures.items i)) ∙ c.requires in
    ap own_view (c.in_ok-insert.ensures.entries ∙ insert_entry-new _ c.self.inside.types c.in_ok-name.name c.args.field_type (unkeyed c.in_ok-name.name.items es absent))
    ∙ map-append own_field es ((c.in_ok-name.name, c.args.field_type) ∷ [])
    ∙ (λ i. let f : Field = record { name = c.in_ok-name.ensures.items i; type = field_type_view c.args.field_type } in c.self.view_is i ++ f ∷ [])
