use Rattle.std.proofs.Common.{◌∙◌, sym, ap, subst}
use Rattle.std.specs.Option.{option_map}
use Rattle.class_rules.specs.Class.{ReferenceField}
use Rattle.classes.specs.Tables.{IsTable}
use Rattle.classes.proofs.FieldTypes.{found-class, found-array}
use Rattle.classes.proofs.table.ClassTable.reference_type.Goals as goal

pub returns-in-Some : goal.returns-in-Some
returns-in-Some c =
    c.reference_to.ensures
    ∙ ap (option_map ReferenceField) c.plain_class.ensures
    ∙ sym (found-class c.args.self.now (subst IsTable c.self.view_is c.self.invariant) c.args.text.now c.in-Some.name.now c.in-Some.ensures)

pub returns-in-None : goal.returns-in-None
returns-in-None c =
    c.reference_to-in-None.ensures
    ∙ ap (option_map ReferenceField) c.array_class.ensures
    ∙ sym (found-array c.args.self.now (subst IsTable c.self.view_is c.self.invariant) c.args.text.now c.in-None.ensures)
