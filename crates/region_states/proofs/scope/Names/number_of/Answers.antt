use Rattle.std.proofs.Common.{List, position, bytes_eq, ap, ◌∙◌}
use Rattle.base.specs.Bytes.{Identifier}
use Rattle.region_states.proofs.StateLemmas.{number_is}
use Rattle.region_states.proofs.scope.Names.number_of.Goals as goal

pub returns : goal.returns
returns c =
    c.get_index_of.ensures.index ∙ number_is (bytes_eq c.args.name.now) c.self.inside.places.keys ∙ ap (λ (names : List Identifier). position (bytes_eq c.args.name.now) names) c.self.view_is
