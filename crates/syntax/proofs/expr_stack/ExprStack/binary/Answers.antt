use Rattle.std.proofs.Common.{arith}
use Rattle.syntax.specs.Stacks.{stacked}
use Rattle.syntax.proofs.NodeLemmas.{stack_size, top_size}
use Rattle.syntax.proofs.expr_stack.ExprStack.binary.Goals as goal

pub overflow_sub-right : goal.overflow_sub-right
unfolding stacked
overflow_sub-right c =
    omega (arith, c.requires.two, c.requires.start, c.len.ensures, c.args.self.now.nodes.ok.0, stack_size _ c.args.self.now.whole, top_size (stacked c.args.self.now) (omega (arith, c.requires.two)))

pub add-requires : goal.add-requires
unfolding stacked
add-requires c = (
  c.requires.two,
  omega (arith, c.requires.two, c.requires.start, c.len.ensures, c.args.self.now.nodes.ok.0, stack_size _ c.args.self.now.whole, top_size (stacked c.args.self.now) (omega (arith, c.requires.two))),
)
