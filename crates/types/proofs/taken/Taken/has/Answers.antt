use Rattle.std.proofs.Common.{List, is_some, ap, ◌∙◌}
use Rattle.base.specs.Bytes.{Identifier}
use Rattle.type_rules.specs.TypeRules.{has_name}
use Rattle.types.proofs.TakenLemmas.{is_found}
use Rattle.types.proofs.taken.Taken.has.Goals as goal

pub returns : goal.returns
returns c =
    c.is_some.ensures ∙ ap is_some c.get.ensures ∙ is_found c.args.name.now c.self.inside.names
    ∙ ap (λ (names : List Identifier). has_name names c.args.name.now) c.self.view_is
