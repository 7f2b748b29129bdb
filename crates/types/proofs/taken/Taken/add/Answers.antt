use Rattle.std.proofs.Common.{List, [], ◌∷◌, ◌++◌, ap, ◌∙◌}
use Rattle.std.proofs.lemmas.Result.{on_ok_weaker}
use Rattle.base.specs.Bytes.{Identifier}
use Rattle.types.proofs.TakenLemmas.{in_order, one_more}
use Rattle.types.proofs.taken.Taken.add.Goals as goal

pub returns : goal.returns
returns c =
    on_ok_weaker c.declare.result
    (λ e. ap in_order e ∙ one_more c.args.name.now _ c.self.inside.names ∙ ap (λ (names : List Identifier). names ++ c.args.name.now ∷ []) c.self.view_is)
    c.declare.ensures
