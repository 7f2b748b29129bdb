use Rattle.std.proofs.Common.{map}
use Rattle.syntax.specs.Views.{item_tree}
use Rattle.step_counts.proofs.FewNames.{few_items, few_at}
use Rattle.step_counts.proofs.length.has_long_function.Goals as goal

pub is_long-requires : goal.is_long-requires
is_long-requires c =
    let items = c.items-item-items.result.now in
    few_at items c.loop-item.item-index c.item-item.result c.loop-item-test.true c.item-item.is (few_items (map item_tree items) c.items-item-items.ensures.tree.few_names)
