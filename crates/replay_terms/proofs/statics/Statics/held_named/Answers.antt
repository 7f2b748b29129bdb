use Rattle.std.proofs.Common.{ap, ◌∙◌}
use Rattle.std.specs.Option.{option_map}
use Rattle.base.specs.Bytes.{lookup}
use Rattle.replay_terms.specs.Views.{held_view}
use Rattle.replay_terms.proofs.ByNameLemmas.{looked_up}
use Rattle.replay_terms.proofs.statics.Statics.held_named.Goals as goal

pub returns : goal.returns
returns c =
    let es = c.self.inside.held.entries in
    ap (option_map held_view) (c.copied.ensures ∙ c.get.ensures.value)
    ∙ looked_up held_view c.args.name.now es
    ∙ ap (lookup c.args.name.now) c.self.view_is
