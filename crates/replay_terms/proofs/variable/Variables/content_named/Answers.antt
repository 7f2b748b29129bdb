use Rattle.std.proofs.Common.{ap, sym, ◌∙◌}
use Rattle.base.specs.Bytes.{lookup}
use Rattle.replay_terms.specs.Views.{Contents, content_view, variables_view}
use Rattle.replay_terms.proofs.ByNameLemmas.{missing}
use Rattle.replay_terms.proofs.VariableLemmas.{content_there}
use Rattle.replay_terms.proofs.variable.Variables.content_named.Goals as goal

pub returns-in-Some : goal.returns-in-Some
returns-in-Some c = sym (content_there c.args.name c.self.inside.contents.entries c.args.self.now _ c.index.result.now c.self.view_is c.in-Some.ensures.value c.index.ensures)

pub returns-in-None : goal.returns-in-None
returns-in-None c =
    sym (missing content_view c.args.name.now c.self.inside.contents.entries (sym c.in-None.ensures.found))
    ∙ ap (λ (vs : Contents). lookup c.args.name.now (variables_view vs)) c.self.view_is
