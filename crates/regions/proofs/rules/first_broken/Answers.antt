use Rattle.std.proofs.Common.{sym, ap, ◌∙◌}
use Rattle.syntax.specs.Views.{form_tree}
use Rattle.region_states.specs.Judgements.{first_judged}
use Rattle.region_states.proofs.JudgementLemmas.{first_is}
use Rattle.regions.proofs.rules.first_broken.Goals as goal

pub returns : goal.returns
returns c = λ line.
    let state = c.args.state.now in
    let s = form_tree line c.args.form.now in
    c.first_judged.ensures line ∙ ap (first_judged state s) (c.called.ensures line) ∙ sym (first_is state s)
