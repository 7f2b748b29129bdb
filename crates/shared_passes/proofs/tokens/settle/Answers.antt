use Rattle.std.proofs.Common.{sym, ap, ◌∙◌, subst}
use Rattle.shared_passes.specs.declared.view.View.{View}
use Rattle.shared_passes.specs.Tokens.{Right}
use Rattle.shared_passes.proofs.tokens.settle.Goals as goal

pub hear-requires-clause-others : goal.hear-requires-clause-others
hear-requires-clause-others g c j q apart r =
    let is = c.take_in.ensures.hosts in
    c.requires.others j q (λ same. apart (same ∙ sym (ap (λ (v : View). v.thread) is))) (subst (λ (v : View). Right v.table j q) is r)
