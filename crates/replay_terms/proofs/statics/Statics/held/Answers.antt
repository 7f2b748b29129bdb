use Rattle.std.proofs.Common.{ap, ◌∙◌}
use Rattle.std.specs.Option.{option_map}
use Rattle.base.specs.Bytes.{Identifier, lookup}
use Rattle.replay_terms.specs.Views.{held_view}
use Rattle.replay_terms.proofs.ByNameLemmas.{looked_up, values}
use Rattle.replay_terms.proofs.statics.Statics.held.Goals as goal

pub returns : goal.returns
returns c =
    let es = c.self.inside.held.entries in
    ap (option_map held_view) (c.copied.ensures ∙ c.get.ensures.value)
    ∙ looked_up held_view c.as_bytes.result.now es
    ∙ ap (λ (x : Identifier). lookup x (values held_view es)) c.as_bytes.ensures
    ∙ ap (lookup c.args.name.now) c.self.view_is
