use Rattle.std.proofs.Common.{ap, sym, ◌∙◌}
use Rattle.base.proofs.Results.{on_ok}
use Rattle.semantics.specs.Variable.{Statics, assign}
use Rattle.replay_terms.specs.Views.{held_view}
use Rattle.replay_terms.proofs.ByNameLemmas.{inserted, values}
use Rattle.replay_terms.proofs.statics.Statics.set.Goals as goal

pub returns : goal.returns
returns c =
    ap (values held_view) (on_ok c.insert.result _ c.insert.ensures.entries (sym c.is_err.ensures.value ∙ c.if-is_err.false))
    ∙ inserted held_view c.args.name c.args.held c.self.inside.held.entries
    ∙ ap (λ (ss : Statics). assign c.args.name.now (held_view c.args.held) ss) c.self.view_is
