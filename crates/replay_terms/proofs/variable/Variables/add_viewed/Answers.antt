use Rattle.std.proofs.Common.{◌++◌, ℕ, List, ap, ◌∙◌}
use Rattle.std.specs.Prelude.{flat_map}
use Rattle.std.proofs.lemmas.Result.{IfOk-weaker}
use Rattle.base.specs.Bytes.{Identifier}
use Rattle.semantics.specs.Variable.{Variable, viewed}
use Rattle.semantics.specs.Views.{names_of}
use Rattle.replay_terms.specs.Views.{Contents, variables_view}
use Rattle.replay_terms.proofs.BufferLemmas.{viewed_same}
use Rattle.replay_terms.proofs.variable.Variables.add_viewed.Goals as goal

pub returns : goal.returns
returns c =
    IfOk-weaker c.add_viewed.result _ _ (λ _ added. added
    ∙ ap (λ (l : List ℕ). names_of c.args.names.now.items ++ l) (viewed_same c.self.inside.contents.entries
    ∙ ap (λ (vs : Contents). flat_map (λ (v : Identifier × Variable). viewed v.1) (variables_view vs)) c.self.view_is)) c.add_viewed.ensures
