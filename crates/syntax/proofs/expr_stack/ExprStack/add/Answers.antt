use Rattle.std.proofs.Common.{[], ap, ◌∙◌}
use Rattle.std.specs.Prelude.{is_ok}
use Rattle.std.proofs.Math.Logic.{∥∥₁_map}
use Rattle.syntax.specs.Nodes.{trees_after}
use Rattle.syntax.specs.Stacks.{stacked}
use Rattle.syntax.proofs.NodeLemmas.{after_one, kept_whole}
use Rattle.syntax.proofs.expr_stack.ExprStack.add.Goals as goal

pub invariant_of-self : goal.invariant_of-self
unfolding stacked
invariant_of-self c = record {
  whole = ∥∥₁_map c.args.self.now.whole (kept_whole (is_ok c.push.result) c.args.self.now.nodes.items c.push.new.self.items c.args.node c.push.ensures.items c.requires);
}

pub returns : goal.returns
unfolding stacked
returns c = ap (trees_after []) c.in_ok-push.ensures.items ∙ after_one [] c.args.self.now.nodes.items c.args.node
