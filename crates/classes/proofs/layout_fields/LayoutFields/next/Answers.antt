use Rattle.std.proofs.Common.{sym, ap, length, ◌∙◌, arith}
use Rattle.classes.specs.LayoutsLeft.{rest_from}
use Rattle.classes.proofs.Walks.{none_first, next_own}
use Rattle.classes.specs.FieldViews.{field_id_view}
use Rattle.classes.proofs.layout_fields.LayoutFields.next.Goals as goal

pub returns-in_err-field : goal.returns-in_err-field
returns-in_err-field c =
    let none = none_first (rest_from c.self.inside.classes.now c.first_field.new.position) c.in_err-field.ensures.first in
    rw c.from_residual.ensures (sym c.self.view_is ∙ sym c.first_field.ensures.rest ∙ none, none)

pub invariant_of-self-2 : goal.invariant_of-self-2
invariant_of-self-2 c =
    let at = c.first_field.new.position in
    let next = next_own c.self.inside.classes.now at.class.number at.place at.below (field_id_view c.in_ok-field.field) c.in_ok-field.ensures.own in
    let many = ap length (sym c.first_field.ensures.rest ∙ next) in
    (omega (arith, c.self.invariant.0, many), omega (arith, c.self.invariant.0, c.self.invariant.1, c.first_field.ensures.place, many))

pub returns : goal.returns
returns c =
    let at = c.first_field.new.position in
    sym c.self.view_is
    ∙ sym c.first_field.ensures.rest
    ∙ next_own c.self.inside.classes.now at.class.number at.place at.below (field_id_view c.in_ok-field.field) c.in_ok-field.ensures.own
