use Rattle.std.proofs.Common.{◌+◌, ◌∙◌, sym, ap, Some, true, false}
use Rattle.std.specs.Prelude.{is_ok, if◌then◌else◌}
use Rattle.class_rules.specs.Class.{Field}
use Rattle.classes.specs.FieldViews.{declared_as, with_declared}
use Rattle.classes.specs.Views.{field_type_view}
use Rattle.classes.proofs.ChangedClasses.{static_put, field_put, own_of}
use Rattle.classes.proofs.NamedFields.{has_field}
use Rattle.classes.proofs.entries.Entries.put_field.Goals as goal

pub push-requires : goal.push-requires
push-requires c =
    let es = c.self.inside.classes.entries in
    ap (λ fs. has_field fs c.args.name.now) (sym (own_of es c.args.place c.index_mut-entry.result.now true c.index_mut-entry.ensures.value) ∙ (λ i. declared_as (c.self.view_is i) (c.args.place + 1) (sym c.if-is_static.true i)))
    ∙ c.requires.new

pub push-requires-2 : goal.push-requires-2
push-requires-2 c =
    let es = c.self.inside.classes.entries in
    ap (λ fs. has_field fs c.args.name.now) (sym (own_of es c.args.place c.index_mut-entry.result.now false c.index_mut-entry.ensures.value) ∙ (λ i. declared_as (c.self.view_is i) (c.args.place + 1) (sym c.if-is_static.false i)))
    ∙ c.requires.new

pub returns-then-is_static : goal.returns-then-is_static
returns-then-is_static c =
    let es = c.self.inside.classes.entries in
    let field : Field = record { name = c.args.name.now; type = field_type_view c.args.field_type } in
    let pushed = is_ok c.push.result in
    static_put es c.args.place c.index_mut-entry.result.now c.push.new.self field pushed c.index_mut-entry.ensures.value c.push.ensures
    ∙ (λ i. if pushed then with_declared (c.self.view_is i) (Some (c.args.place + 1)) field (sym c.if-is_static.true i) else c.self.view_is i)

pub returns : goal.returns
returns c =
    let es = c.self.inside.classes.entries in
    let field : Field = record { name = c.args.name.now; type = field_type_view c.args.field_type } in
    let pushed = is_ok c.push-2.result in
    field_put es c.args.place c.index_mut-entry.result.now c.push-2.new.self field pushed c.index_mut-entry.ensures.value c.push-2.ensures
    ∙ (λ i. if pushed then with_declared (c.self.view_is i) (Some (c.args.place + 1)) field (sym c.if-is_static.false i) else c.self.view_is i)
