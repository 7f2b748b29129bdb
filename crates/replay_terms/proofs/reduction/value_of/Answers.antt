use Rattle.std.proofs.Common.{◌≡◌, ap, sym, ◌∙◌, rules}
use Rattle.semantics.specs.Sight.{seen}
use Rattle.semantics.specs.Term as tree
use Rattle.semantics.specs.Term.{done}
use Rattle.replay_terms.specs.Views.{term_view, variables_view}
use Rattle.replay_terms.proofs.reduction.value_of.Goals as goal

pub returns-in-Some : goal.returns-in-Some
returns-in-Some g c = λ values.
    let ss = c.args.statics.now in
    let heap = g.O.Objects.heap c.args.objects.now in
    let shape : term_view c.args.term.now ≡ tree.Element c.in-Element.name.now (tree.Done c.in-Some.v) =
    ap term_view c.in-Element.is ∙ ap (tree.Element c.in-Element.name.now) c.in-Some.ensures.some in
    ap (tree.reduce (seen (variables_view c.args.variables.now) ss heap)) shape ∙ ap done (sym (c.element_in.ensures ss))

pub returns-in-Done : goal.returns-in-Done
returns-in-Done g c = λ values. c.leaf_value.ensures (search rules) (g.O.Objects.heap c.args.objects.now)
