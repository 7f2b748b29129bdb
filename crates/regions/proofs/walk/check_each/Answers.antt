use Rattle.std.proofs.Common.{◌+◌, List, Option, drop, map, subst, sym, ap, ◌∙◌}
use Rattle.std.specs.List.{AllByRecursion}
use Rattle.std.specs.Option.{option_or}
use Rattle.syntax.specs.declared.unit.Item.{Item as ItemInMemory}
use Rattle.syntax.specs.Views.{item_tree}
use Rattle.regions.specs.Findings.{items_fault}
use Rattle.region_states.specs.NewNames.{ItemOnce}
use Rattle.regions.specs.Paths.{Found}
use Rattle.regions.proofs.PathLemmas.{item_next}
use Rattle.regions.proofs.walk.check_each.Goals as goal

pub check_item-requires : goal.check_item-requires
check_item-requires c =
    let items = c.args.items.now in
    (subst (λ (xs : List ItemInMemory). AllByRecursion ItemOnce (map item_tree xs)) (item_next items c.loop-item.item-index c.item-item.result c.loop-item-test.true c.item-item.is) c.loop-item.invariant.once).0

pub loop-item-preserved : goal.loop-item-preserved
loop-item-preserved c =
    let items = c.args.items.now in
    let i = c.loop-item.item-index in
    let item = c.item-item.result in
    let next = item_next items i item c.loop-item-test.true c.item-item.is in
    let rest = map item_tree (drop (i + 1) items) in
    record {
      once = (subst (λ (xs : List ItemInMemory). AllByRecursion ItemOnce (map item_tree xs)) next c.loop-item.invariant.once).1;
      finds =
          sym (ap (λ (xs : List ItemInMemory). items_fault (map item_tree xs)) next ∙ ap (λ (o : Option Found). option_or o (items_fault rest)) c.in_ok-check_item.ensures)
          ∙ c.loop-item.invariant.finds;
    }
