-- The trees on a stack of expressions.
use Rattle.std.specs.Prelude.{List, []}
use Rattle.syntax.specs.declared.expr_stack.ExprStack.{ExprStack}
use Rattle.syntax.specs.Nodes.{trees_after}
use Rattle.syntax.specs.Tree.{Expr}

-- the trees, the last first
unfoldable pub stacked : ExprStack → List Expr
stacked s = trees_after [] s.nodes.items
