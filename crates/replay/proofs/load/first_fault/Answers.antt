use Rattle.std.proofs.Common.{◌≡◌, List, true, sym, ap, ◌∙◌}
use Rattle.std.proofs.lemmas.Result.{IfOk-weaker}
use Rattle.syntax.specs.declared.unit.Item.{Item}
use Rattle.syntax.specs.Views.{unit_tree}
use Rattle.semantics.specs.Load.{methods_load}
use Rattle.replay.proofs.LoadLemmas.{methods_allowed}
use Rattle.replay.proofs.load.first_fault.Goals as goal

pub returns : goal.returns
returns c =
    let w = c.args.world.now in
    let allowed : methods_load (unit_tree c.args.functions.now) w ≡ true = ap (λ (items : List Item). methods_load (unit_tree items) w) (sym c.items.ensures) ∙ sym c.methods_load.ensures ∙ c.if-not-methods_load.false in
    IfOk-weaker c.first_misfit.result _ _ (λ line is. is ∙ sym (methods_allowed (unit_tree c.args.functions.now) w allowed)) c.first_misfit.ensures
