use Rattle.std.proofs.Common.{sym, ap, ◌∙◌}
use Rattle.syntax.specs.NullTests.{null_test_of}
use Rattle.syntax.specs.Views.{expr_tree, test_tree}
use Rattle.region_states.specs.Changes.{taught_false}
use Rattle.region_rules.specs.Regions.{where_false}
use Rattle.region_states.proofs.ChangeLemmas.{false_is}
use Rattle.region_states.proofs.states.FlowState.take_false.Goals as goal

pub returns-in-Expr : goal.returns-in-Expr
returns-in-Expr c =
    let old = c.args.self.now in
    c.learn_false.ensures ∙ ap (taught_false old) (c.null_test.ensures.test ∙ ap null_test_of c.whole.ensures) ∙ sym (false_is old (expr_tree c.in-Expr.e)) ∙ ap (λ t. where_false old (test_tree t)) (sym c.in-Expr.is)
