use Rattle.std.proofs.Common.{◌+◌, ◌∙◌, length, ap, sym, subst, arith}
use Rattle.std.specs.Option.{option_map_or}
use Rattle.class_rules.proofs.GrownTables.{grown_is_ordered}
use Rattle.class_rules.specs.Fields.{layout}
use Rattle.classes.specs.Tables.{IsTable}
use Rattle.classes.proofs.FieldPlaces.{field_missing, field_placed, place_small}
use Rattle.classes.proofs.table.ClassTable.field_place.Goals as goal

pub returns-then-not-is_subclass : goal.returns-then-not-is_subclass
returns-then-not-is_subclass c = λ f there. field_missing c.args.self.now c.args.handle f c.args.class.number (grown_is_ordered c.args.self.now c.requires.grown) there c.requires.field (sym c.is_subclass.ensures ∙ c.if-not-is_subclass.true)

pub overflow_add-result : goal.overflow_add-result
overflow_add-result c = omega (arith, c.layout_len.ensures.small, place_small c.args.self.now c.args.handle (subst IsTable c.self.view_is c.self.invariant).few_fields c.requires.there c.requires.field)

pub returns-in-Some : goal.returns-in-Some
returns-in-Some c = λ f there.
    let T = c.args.self.now in
    ap (λ n. n + c.args.handle.place) (c.layout_len.ensures.len ∙ ap (λ o. option_map_or (λ s. length (layout T s)) o 0) (c.in-Some.ensures))
    ∙ field_placed T c.args.handle f c.args.class.number (grown_is_ordered T c.requires.grown) (subst IsTable c.self.view_is c.self.invariant).declared_once there c.requires.field (sym c.is_subclass.ensures ∙ c.if-not-is_subclass.false)

pub returns-in-None : goal.returns-in-None
returns-in-None c = λ f there.
    let T = c.args.self.now in
    let none = ap (λ o. option_map_or (λ s. length (layout T s)) o 0) (c.in-None.ensures) in
    let placed = field_placed T c.args.handle f c.args.class.number (grown_is_ordered T c.requires.grown) (subst IsTable c.self.view_is c.self.invariant).declared_once there c.requires.field (sym c.is_subclass.ensures ∙ c.if-not-is_subclass.false) in
    omega (arith, none, placed)
