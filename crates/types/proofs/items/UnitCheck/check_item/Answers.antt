use Rattle.std.proofs.Common.{sym, ap, subst, ◌∙◌}
use Rattle.std.proofs.lemmas.Result.{on_ok_weaker}
use Rattle.syntax.specs.Views.{item_tree}
use Rattle.types.specs.Faults.{Tells, found, own_places}
use Rattle.types.proofs.ItemLemmas.{found-static}
use Rattle.types.proofs.items.UnitCheck.check_item.Goals as goal

pub returns-in-Static-clause-tells : goal.returns-in-Static-clause-tells
returns-in-Static-clause-tells c =
    let before = c.args.self.now in
    on_ok_weaker c.check_static.result
    (λ e.
    subst (Tells before.faults c.check_static.new.self.faults)
    (sym (ap (λ item. found (own_places before.names.items before.known (item_tree item))) c.in-Static.is ∙ found-static before.names.items before.known c.in-Static.s))
    e)
    c.check_static.ensures.tells
