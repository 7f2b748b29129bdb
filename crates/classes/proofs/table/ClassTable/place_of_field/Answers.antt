use Rattle.std.proofs.Common.{false, refl}
use Rattle.class_rules.specs.Fields.{layout}
use Rattle.classes.specs.declared.class.FieldHandle.{FieldHandle}
use Rattle.classes.specs.FieldViews.{field_id_view}
use Rattle.classes.proofs.HandledFields.{place_there}
use Rattle.classes.proofs.table.ClassTable.place_of_field.Goals as goal

pub returns-then-is_at : goal.returns-then-is_at
returns-then-is_at c =
    let h : FieldHandle = record { class = c.args.field.class; place = c.args.field.place; is_static = false } in
    place_there c.args.self.now h (field_id_view c.args.field) (layout c.args.self.now c.args.class.number) c.field_place.result refl (c.is_at.ensures c.if-is_at.true) c.field_place.ensures
