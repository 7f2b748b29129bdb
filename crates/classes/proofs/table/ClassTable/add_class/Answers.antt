use Rattle.std.proofs.Common.{◌≡◌, ◌∙◌, ap, sym, subst, None}
use Rattle.std.specs.Prelude.{is_ok}
use Rattle.class_rules.specs.Class.{class_named}
use Rattle.class_rules.specs.Additions.{class_breaks}
use Rattle.class_rules.specs.Grown.{IsGrown}
use Rattle.classes.specs.Refusals.{first_broken}
use Rattle.classes.specs.Tables.{IsTable}
use Rattle.classes.proofs.AddedClasses.{not_taken, new-array}
use Rattle.classes.proofs.ChangedClasses.{after_either}
use Rattle.classes.proofs.KeptTables.{added-table, grown-added}
use Rattle.classes.proofs.table.ClassTable.add_class.Goals as goal

pub put_class-requires-clause-new_arrays : goal.put_class-requires-clause-new_arrays
put_class-requires-clause-new_arrays c =
    let T = c.self.inside.classes in
    let new : class_named T c.args.name.now ≡ None = ap (λ t. class_named t c.args.name.now) c.self.view_is ∙ not_taken _ _ c.in_ok-above.ensures.0 in
    new-array T c.args.name.now new c.self.invariant.elements

pub invariant_of-self : goal.invariant_of-self
invariant_of-self c =
    let T = c.self.inside.classes in
    let right = ap (λ t. first_broken (λ rule. class_breaks rule t c.args.name.now c.args.superclass.now)) c.self.view_is ∙ c.in_ok-above.ensures.0 in
    subst IsTable (sym c.put_class.ensures)
    (after_either IsTable (is_ok c.put_class.result) _ T (added-table T c.args.name.now c.args.superclass.now c.in_ok-above.above.number c.requires right c.self.invariant) c.self.invariant)

pub returns-clause-grown : goal.returns-clause-grown
returns-clause-grown c = λ g.
    let T = c.self.inside.classes in
    let right = ap (λ t. first_broken (λ rule. class_breaks rule t c.args.name.now c.args.superclass.now)) c.self.view_is ∙ c.in_ok-above.ensures.0 in
    let above = ap (λ t. class_named t c.args.superclass.now) c.self.view_is ∙ c.in_ok-above.ensures.1 in
    let before = subst IsGrown (sym c.self.view_is) g in
    subst IsGrown (sym c.put_class.ensures)
    (after_either IsGrown (is_ok c.put_class.result) _ T (grown-added T c.args.name.now c.args.superclass.now c.in_ok-above.above.number right above before) before)
