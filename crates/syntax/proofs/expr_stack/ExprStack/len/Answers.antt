use Rattle.std.proofs.Common.{arith}
use Rattle.syntax.specs.Stacks.{stacked}
use Rattle.syntax.proofs.NodeLemmas.{stack_size}
use Rattle.syntax.proofs.expr_stack.ExprStack.len.Goals as goal

pub returns : goal.returns
unfolding stacked
returns c = omega (arith, c.len.ensures, c.args.self.now.nodes.ok.0, stack_size _ c.args.self.now.whole)
