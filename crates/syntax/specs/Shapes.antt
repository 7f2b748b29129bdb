-- What the passes see of an expression: its tree, one level at a time.
use Rattle.std.specs.Prelude.{ℕ, ◌<◌}
use Rattle.syntax.specs.declared.expr_ref.ExprRef.{ExprRef}
use Rattle.syntax.specs.declared.expr_ref.Shape.{Shape}
use Rattle.syntax.specs.declared.expr_ref.Shape.TheVariants as shape
use Rattle.syntax.specs.Tree.{Expr, Number, Named, Variable, Element, Prefix, Binary, Paren}
use Rattle.syntax.specs.Nodes.{size, tree_of}

-- the tree of a part of an expression
unfoldable pub ref_tree : ExprRef → Expr
ref_tree r = tree_of r.nodes.now

-- what is at the top, over what is inside
abbrev pub shape_tree : Shape → Expr
shape_tree (shape.Number value unsigned) = Number value unsigned
shape_tree (shape.Named c) = Named c
shape_tree (shape.Variable x) = Variable x.now
shape_tree (shape.Element x i) = Element x.now (ref_tree i)
shape_tree (shape.Prefix op a) = Prefix op (ref_tree a)
shape_tree (shape.Binary op a b) = Binary op (ref_tree a) (ref_tree b)
shape_tree (shape.Paren a) = Paren (ref_tree a)

-- what is inside is smaller than this
abbrev pub PartsBelow : ℕ → Shape → Type 0
PartsBelow n (shape.Element x i) = size (ref_tree i) < n
PartsBelow n (shape.Prefix op a) = size (ref_tree a) < n
PartsBelow n (shape.Binary op a b) = (size (ref_tree a) < n) × (size (ref_tree b) < n)
PartsBelow n (shape.Paren a) = size (ref_tree a) < n
PartsBelow n s = Unit {0}
