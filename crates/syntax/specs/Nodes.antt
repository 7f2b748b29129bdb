-- How the nodes of expressions lie in memory, and which trees they spell.
use Rattle.std.specs.Prelude.{◌≡◌, ℕ, ◌+◌, Bool, true, List, [], ◌∷◌, ◌++◌, length, ◌≤◌}
use Rattle.base.specs.Bytes.{Identifier}
use Rattle.syntax.specs.declared.node.Node.{Node}
use Rattle.syntax.specs.declared.node.Node.TheVariants as node
use Rattle.syntax.specs.declared.node.Held.{Held}
use Rattle.syntax.specs.declared.node.Held.TheVariants as held
use Rattle.syntax.specs.declared.expr.Constant.{Constant}
use Rattle.syntax.specs.declared.expr.PrefixOp.{PrefixOp}
use Rattle.syntax.specs.declared.expr.BinaryOp.{BinaryOp}
use Rattle.syntax.specs.Tree.{Expr, Number, Named, Variable, Element, Prefix, Binary, Paren}

-- how many numbers, names, constants, operators and parentheses an expression has
unfoldable pub size : Expr → ℕ
size (Number n unsigned) = 1
size (Named c) = 1
size (Variable x) = 1
size (Element x i) = 1 + size i
size (Prefix op a) = 1 + size a
size (Binary op a b) = 1 + size a + size b
size (Paren a) = 1 + size a

-- ---- postfix notation, with the last tree first

-- the last tree
abbrev pub top : List Expr → Expr
top [] = Number 0 true
top (e ∷ before) = e

-- the trees before the last
abbrev pub before_top : List Expr → List Expr
before_top [] = []
before_top (e ∷ before) = before

-- what a node makes of the last tree
abbrev pub on_top : (Expr → Expr) → List Expr → List Expr
on_top f [] = []
on_top f (a ∷ before) = f a ∷ before

-- what a node makes of the last two trees
abbrev pub on_two : (Expr → Expr → Expr) → List Expr → List Expr
on_two f [] = []
on_two f (b ∷ []) = []
on_two f (b ∷ a ∷ before) = f a b ∷ before

-- the trees after one more node
abbrev pub onto : List Expr → Node → List Expr
onto before (node.Number value unsigned) = Number value unsigned ∷ before
onto before (node.Named c) = Named c ∷ before
onto before (node.Variable x) = Variable x ∷ before
onto before (node.Element x) = on_top (Element x) before
onto before (node.Prefix op) = on_top (Prefix op) before
onto before (node.Binary op right) = on_two (Binary op) before
onto before node.Paren = on_top Paren before

-- whether the trees so far are what a node needs: its operands, the right one with as many nodes as it says
abbrev pub HasOperands : List Expr → Node → Type 0
HasOperands before (node.Element x) = 1 ≤ length before
HasOperands before (node.Prefix op) = 1 ≤ length before
HasOperands before (node.Binary op right) = (2 ≤ length before) × (right ≡ size (top before))
HasOperands before node.Paren = 1 ≤ length before
HasOperands before n = Unit {0}

-- the trees after more nodes
unfoldable pub trees_after : List Expr → List Node → List Expr
trees_after before [] = before
trees_after before (n ∷ rest) = trees_after (onto before n) rest

-- the tree that nodes spell
abbrev pub tree_of : List Node → Expr
tree_of nodes = top (trees_after [] nodes)

-- ---- which nodes spell a tree

-- nodes that spell this tree, each after those of its operands, and an operator with the number of those of its right one
pub data Spells : List Node → Expr → Type 0 where
  number : (value : ℕ) (unsigned : Bool) → Spells (node.Number value unsigned ∷ []) (Number value unsigned)
  named : (c : Constant) → Spells (node.Named c ∷ []) (Named c)
  variable : (x : Identifier) → Spells (node.Variable x ∷ []) (Variable x)
  element : (x : Identifier) (before : List Node) (i : Expr) → Spells before i → Spells (before ++ node.Element x ∷ []) (Element x i)
  prefix : (op : PrefixOp) (before : List Node) (a : Expr) → Spells before a → Spells (before ++ node.Prefix op ∷ []) (Prefix op a)
  binary : (op : BinaryOp) (left right : List Node) (a b : Expr) → Spells left a → Spells right b
      → Spells ((left ++ right) ++ node.Binary op (length right) ∷ []) (Binary op a b)
  paren : (before : List Node) (a : Expr) → Spells before a → Spells (before ++ node.Paren ∷ []) (Paren a)

-- nodes that spell a tree, with nothing beside it
abbrev pub IsWhole : List Node → Type 0
IsWhole nodes = Spells nodes (tree_of nodes)

-- nodes that spell these trees one after another, the last first
pub data SpellAll : List Node → List Expr → Type 0 where
  none : SpellAll [] []
  more : (before own : List Node) (trees : List Expr) (e : Expr) → SpellAll before trees → Spells own e → SpellAll (before ++ own) (e ∷ trees)

-- nodes that spell trees, with nothing beside these
abbrev pub AreWhole : List Node → Type 0
AreWhole nodes = SpellAll nodes (trees_after [] nodes)

-- the nodes of an expression
abbrev pub held_nodes : Held → List Node
held_nodes (held.One n) = n ∷ []
held_nodes (held.Many nodes) = nodes.items
