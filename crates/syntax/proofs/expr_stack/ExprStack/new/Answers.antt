use Rattle.std.proofs.Common.{[], sym, ap, subst}
use Rattle.std.proofs.lemmas.Grind.{merely}
use Rattle.syntax.specs.Nodes.{trees_after, none, AreWhole}
use Rattle.syntax.specs.Stacks.{stacked}
use Rattle.syntax.proofs.NodeLemmas.{all_whole}
use Rattle.syntax.proofs.expr_stack.ExprStack.new.Goals as goal

pub invariant_of-result : goal.invariant_of-result
invariant_of-result c = record { whole = merely (subst AreWhole (sym c.new.ensures.items) (all_whole none)) }

pub returns : goal.returns
unfolding stacked trees_after
returns c = ap (trees_after []) c.new.ensures.items
