use Rattle.std.proofs.Common.{refl}
use Rattle.semantics.specs.Sight.{seen}
use Rattle.replay_terms.specs.declared.term.Part.TheVariants as part
use Rattle.replay_terms.specs.Views.{part_view, variables_view}
use Rattle.replay_terms.proofs.TermLemmas.{replaced}
use Rattle.replay_terms.proofs.reduction.replace_small.Goals as goal

pub returns-clause-step : goal.returns-clause-step
returns-clause-step c = λ statics heap.
    replaced (seen (variables_view c.args.variables.now) statics heap) part_view part.Done (λ v. refl)
    c.args.part.now c.replace_part.new.part c.part_value-value.result c.replace_part.result c.replace_part.ensures
    (c.part_value-value.ensures c.requires.small statics heap)
