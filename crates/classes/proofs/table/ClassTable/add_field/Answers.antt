use Rattle.class_rules.specs.ClassIds.{number_of}
use Rattle.std.proofs.Common.{◌≡◌, ◌+◌, ◌-◌, ◌<◌, ◌∙◌, Some, Option, ℕ, ap, sym, subst, refl, arith}
use Rattle.std.specs.Prelude.{is_ok}
use Rattle.class_rules.specs.Additions.{field_breaks}
use Rattle.class_rules.specs.Class.{Classes}
use Rattle.class_rules.specs.Grown.{IsGrown}
use Rattle.classes.specs.Refusals.{first_broken}
use Rattle.classes.specs.Tables.{IsTable}
use Rattle.classes.specs.Views.{field_type_view}
use Rattle.classes.proofs.ChangedClasses.{after_either}
use Rattle.classes.proofs.KeptTables.{is_absent, declared-table, grown-declared, named-low}
use Rattle.classes.proofs.table.ClassTable.add_field.Goals as goal

pub put_field-requires-clause-new : goal.put_field-requires-clause-new
put_field-requires-clause-new c =
    let T = c.self.inside.classes in
    let low : 0 < c.in-Some.class.number = named-low _ c.in-Some.class.number (sym c.in-Some.ensures) in
    let place : (c.in-Some.class.number - 1) + 1 ≡ c.in-Some.class.number = omega arith in
    let broken = λ (t : Classes) (o : Option ℕ). first_broken (λ rule. field_breaks rule t o c.args.name.now c.args.signature.now) in
    let right = ap (λ t. broken t (Some ((c.in-Some.class.number - 1) + 1))) c.self.view_is ∙ ap (λ n. broken c.args.self.now (Some n)) place ∙ ap (λ o. broken c.args.self.now (number_of o)) (sym c.in-Some.is) ∙ c.in_ok-field_type.ensures.0 in
    is_absent T ((c.in-Some.class.number - 1) + 1) c.args.name.now c.args.signature.now c.args.is_static right

pub invariant_of-self : goal.invariant_of-self
invariant_of-self c =
    let T = c.self.inside.classes in
    let low : 0 < c.in-Some.class.number = named-low _ c.in-Some.class.number (sym c.in-Some.ensures) in
    let place : (c.in-Some.class.number - 1) + 1 ≡ c.in-Some.class.number = omega arith in
    let broken = λ (t : Classes) (o : Option ℕ). first_broken (λ rule. field_breaks rule t o c.args.name.now c.args.signature.now) in
    let right = ap (λ t. broken t (Some ((c.in-Some.class.number - 1) + 1))) c.self.view_is ∙ ap (λ n. broken c.args.self.now (Some n)) place ∙ ap (λ o. broken c.args.self.now (number_of o)) (sym c.in-Some.is) ∙ c.in_ok-field_type.ensures.0 in
    subst IsTable (sym c.put_field.ensures)
    (after_either IsTable (is_ok c.put_field.result) _ T
    (declared-table T ((c.in-Some.class.number - 1) + 1) (record { name = c.args.name.now; type = field_type_view c.in_ok-field_type.field_type }) c.args.name.now c.args.signature.now c.args.is_static (omega arith) refl right c.self.invariant)
    c.self.invariant)

pub returns-clause-grown : goal.returns-clause-grown
returns-clause-grown c = λ g.
    let before = subst IsGrown (sym c.self.view_is) g in
    subst IsGrown (sym c.put_field.ensures)
    (after_either IsGrown (is_ok c.put_field.result) _ c.self.inside.classes
    (grown-declared c.self.inside.classes (Some ((c.in-Some.class.number - 1) + 1)) (record { name = c.args.name.now; type = field_type_view c.in_ok-field_type.field_type }) c.args.is_static before)
    before)
