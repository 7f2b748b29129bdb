use Rattle.std.proofs.Common.{◌≡◌, Some, sym, ap, ◌∙◌}
use Rattle.base.specs.Bytes.{lookup}
use Rattle.semantics.specs.CallStep.{filled}
use Rattle.semantics.specs.Variable.{Variable, assign}
use Rattle.replay_terms.specs.Views.{given_view, content_view, variables_view}
use Rattle.replay_terms.proofs.VariableLemmas.{assigned_again}
use Rattle.replay_tasks.proofs.PutLemmas.{assigned_leaves}
use Rattle.replay_tasks.proofs.put.put_given.Goals as goal

pub returns-in-None-filled : goal.returns-in-None-filled
returns-in-None-filled c = λ heap s t h.
    let x = c.in-Assigned.name.now in
    let old = c.args.variables.now in
    let v = content_view c.in-Some.content.now in
    let there : lookup x (variables_view old) ≡ Some v = sym c.in-Some.ensures in
    let kept : filled v (given_view c.args.given) ≡ v = c.in-None-filled.ensures.none in
    rw c.in-Assigned.is (assigned_leaves c.args.frames c.args.statics.now heap old old x v (given_view c.args.given) there
    (sym (ap (λ (w : Variable). assign x w (variables_view old)) kept ∙ assigned_again x v (variables_view old) there))
    s t h)
