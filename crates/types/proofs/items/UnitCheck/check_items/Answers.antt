use Rattle.std.proofs.Common.{◌+◌, ◌++◌, map, drop, sym, ap, ap₂, ◌∙◌}
use Rattle.std.proofs.lemmas.List.{drop_all}
use Rattle.syntax.specs.Views.{item_tree}
use Rattle.type_rules.specs.TypeRules.{item_places}
use Rattle.types.specs.Faults.{found, own_places}
use Rattle.types.proofs.KeptLemmas.{left-next, left-none}
use Rattle.types.proofs.PlaceLemmas.{found-none}
use Rattle.types.proofs.ItemLemmas.{found-item}
use Rattle.types.proofs.items.UnitCheck.check_items.Goals as goal

pub loop-item-preserved : goal.loop-item-preserved
loop-item-preserved c =
    let i = c.loop-item.item-index in
    let item = c.item-item.result in
    let rest = map item_tree (drop (i + 1) c.args.items.now) in
    let names = c.loop-item.self.names.items in
    let statics = c.loop-item.self.known in
    left-next c.args.self.now.faults c.loop-item.self.faults c.check_item.new.self.faults _ _ _ _ c.loop-item.invariant
    (found-item names statics c.args.items.now i item c.loop-item-test.true c.item-item.is
    ∙ ap₂ (λ all shared. found (own_places names statics (item_tree item)) ++ found (item_places all shared rest)) (sym c.in_ok-check_item.ensures.names) (sym c.in_ok-check_item.ensures.known))
    c.in_ok-check_item.ensures.tells

pub returns : goal.returns
returns c =
    left-none c.args.self.now.faults c.loop-item.self.faults _ _ c.loop-item.invariant
    (ap (λ items. found (item_places c.loop-item.self.names.items c.loop-item.self.known (map item_tree items))) (drop_all c.loop-item.item-index c.args.items.now c.loop-item-test.false)
    ∙ found-none)
