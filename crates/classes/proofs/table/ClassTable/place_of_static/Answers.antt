use Rattle.std.proofs.Common.{true, refl}
use Rattle.classes.specs.declared.class.FieldHandle.{FieldHandle}
use Rattle.classes.specs.FieldViews.{field_id_view}
use Rattle.classes.proofs.HandledFields.{static_there}
use Rattle.classes.proofs.table.ClassTable.place_of_static.Goals as goal

pub returns-then-is_at : goal.returns-then-is_at
returns-then-is_at c =
    let h : FieldHandle = record { class = c.args.field.class; place = c.args.field.place; is_static = true } in
    static_there c.args.self.now h (field_id_view c.args.field) c.static_place.result refl (c.is_at.ensures c.if-is_at.true) (λ g there. c.static_place.ensures g there refl)
