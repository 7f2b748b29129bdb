use Rattle.std.proofs.Common.{Option, ap, refl, sym, ◌∙◌}
use Rattle.semantics.specs.Sight.{seen}
use Rattle.semantics.specs.Value.{Gives}
use Rattle.replay_terms.specs.declared.term.Term.TheVariants as term
use Rattle.replay_terms.specs.declared.value.Evaluated.{Evaluated}
use Rattle.replay_terms.specs.Views.{term_view, variables_view, decided, right_side}
use Rattle.replay_terms.proofs.TermLemmas.{replaced}
use Rattle.replay_terms.proofs.reduction.settle.Goals as goal

pub returns-in-Some-clause-step : goal.returns-in-Some-clause-step
returns-in-Some-clause-step g c =
    replaced (seen (variables_view c.args.variables.now) c.args.statics.now (g.O.Objects.heap c.args.objects.now)) term_view term.Done (λ v. refl)
    c.args.term.now c.replace.new.term c.in-Some.value c.replace.result c.replace.ensures
    (c.value_of.ensures c.requires.values ∙ ap (λ (o : Option Evaluated). decided o (right_side (term_view c.args.term.now))) c.in-Some.is)

pub returns-in-None-clause-step : goal.returns-in-None-clause-step
returns-in-None-clause-step g c =
    c.value_of.ensures c.requires.values ∙ ap (λ (o : Option Evaluated). decided o (right_side (term_view c.args.term.now))) c.in-None.is
    ∙ ap Gives (sym c.replace_by_right.ensures.view)
