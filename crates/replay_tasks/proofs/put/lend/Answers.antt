use Rattle.std.proofs.Common.{◌≡◌, Some, sym, ap, ◌∙◌}
use Rattle.base.specs.Bytes.{lookup}
use Rattle.semantics.specs.CallEffects.{BufferResult}
use Rattle.semantics.specs.CallStep.{filled}
use Rattle.semantics.specs.Variable.{Variable, assign}
use Rattle.replay_terms.specs.Views.{content_view, variables_view}
use Rattle.replay_terms.proofs.VariableLemmas.{assigned_again}
use Rattle.replay_tasks.specs.Outcomes.{loan_view}
use Rattle.replay_tasks.proofs.PutLemmas.{assigned_leaves}
use Rattle.replay_tasks.proofs.put.lend.Goals as goal

pub returns-in-None-buffer_type : goal.returns-in-None-buffer_type
returns-in-None-buffer_type c = λ s t h.
    let x = c.in-Assigned.name.now in
    let old = c.args.variables.now in
    let heap = c.args.loan.store.now in
    let v = content_view c.in-Some.content.now in
    let given = BufferResult (loan_view c.args.loan) in
    let there : lookup x (variables_view old) ≡ Some v = sym c.in-Some.ensures in
    let kept : filled v given ≡ v = c.in-None-buffer_type.ensures.none (loan_view c.args.loan) in
    rw c.in-Assigned.is (assigned_leaves c.args.frames c.args.statics.now heap old old x v given there
    (sym (ap (λ (w : Variable). assign x w (variables_view old)) kept ∙ assigned_again x v (variables_view old) there))
    s t h)
