use Rattle.std.proofs.Common.{refl, ap, ◌∙◌, rules}
use Rattle.semantics.specs.Effect.{SetsElement, at_line}
use Rattle.replay_terms.specs.declared.sight.Indexed.{Indexed}
use Rattle.replay_terms.specs.Views.{indexed_view, variables_view}
use Rattle.replay_tasks.proofs.EffectLemmas.{written_at}
use Rattle.replay_tasks.proofs.step.write.Goals as goal

pub returns-in-At-clause-step : goal.returns-in-At-clause-step
returns-in-At-clause-step g c =
    let heap = g.O.Objects.heap c.args.objects.now in
    λ statics. written_at (variables_view c.args.variables.now) statics heap c.args.a.now.line c.args.a.now.name.now c.args.index c.args.number c.in-Int.z c.place_in.result c.in-Int.is c.place_in.ensures
    ∙ ap (λ (place : Indexed). at_line c.args.a.now.line (λ n. SetsElement c.args.a.now.name.now n c.in-Int.z) (indexed_view place)) c.in-At.is
    ∙ search rules

pub returns-in-Traps-clause-step : goal.returns-in-Traps-clause-step
returns-in-Traps-clause-step g c =
    let heap = g.O.Objects.heap c.args.objects.now in
    λ statics. (
      written_at (variables_view c.args.variables.now) statics heap c.args.a.now.line c.args.a.now.name.now c.args.index c.args.number c.in-Int.z c.place_in.result c.in-Int.is c.place_in.ensures
          ∙ ap (λ (place : Indexed). at_line c.args.a.now.line (λ n. SetsElement c.args.a.now.name.now n c.in-Int.z) (indexed_view place)) c.in-Traps.is,
      refl,
    )

pub returns-in-Stuck-clause-step : goal.returns-in-Stuck-clause-step
returns-in-Stuck-clause-step g c =
    let heap = g.O.Objects.heap c.args.objects.now in
    λ statics. written_at (variables_view c.args.variables.now) statics heap c.args.a.now.line c.args.a.now.name.now c.args.index c.args.number c.in-Int.z c.place_in.result c.in-Int.is c.place_in.ensures
    ∙ ap (λ (place : Indexed). at_line c.args.a.now.line (λ n. SetsElement c.args.a.now.name.now n c.in-Int.z) (indexed_view place)) c.in-Stuck.is
