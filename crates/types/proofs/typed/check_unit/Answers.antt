use Rattle.std.proofs.Common.{◌≡◌, subst, ap, ap₂, ◌∙◌, List, [], ◌++◌, map}
use Rattle.base.specs.Bytes.{Identifier, ByName}
use Rattle.syntax.specs.Views.{item_tree, unit_tree}
use Rattle.type_rules.specs.declared.ty.ExprType.{ExprType}
use Rattle.type_rules.specs.TypeRules.{item_places}
use Rattle.types.specs.AllFaults.{typing_faults}
use Rattle.types.specs.Faults.{Faults, Kept, fault_of, found, kept}
use Rattle.types.proofs.PlaceLemmas.{found-is}
use Rattle.types.proofs.typed.check_unit.Goals as goal

pub returns : goal.returns
returns c =
    let before = c.new-check.result in
    let told = c.check_items.new.self.faults.faults in
    let unit = c.args.unit.now in
    ap (λ items. kept c.args.all (map fault_of items)) c.into_faults.ensures
    ∙ subst (λ (none : Kept). kept none.all (map fault_of told) ≡ kept none.all (map fault_of none.faults ++ typing_faults (unit_tree unit))) c.new-check.ensures.faults
    (subst (λ (all : Faults). kept before.faults.all (map fault_of told) ≡ kept before.faults.all (map fault_of before.faults.faults ++ all))
    (ap₂ (λ (names : List Identifier) (statics : ByName ExprType). found (item_places names statics (map item_tree c.items.result.now))) c.new-check.ensures.names c.new-check.ensures.known
    ∙ ap (λ items. found (item_places [] [] (map item_tree items))) c.items.ensures.same
    ∙ found-is (item_places [] [] (map item_tree unit)))
    c.in_ok-check_items.ensures.1)
