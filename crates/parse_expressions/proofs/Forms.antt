-- Which expressions and calls are read: levelled, and no higher than there is room.
use Rattle.std.proofs.Common.{ℕ, ◌+◌, ◌≤◌, List, [], ◌∷◌}
use Rattle.syntax.specs.Tree.{Expr, Number, Named, Variable, Element, Prefix, Binary, Paren, Argument, Value, Text, AddressOf, RightSide, FromExpr, FromCall, Test, TestExpr, TestCall}
use Rattle.syntax.specs.Limits.{operator_level, prefix_level, height}

-- The expression may be where operators of this level or tighter may. All associate to the left.
abbrev pub IsLevelled : ℕ → Expr → Type 0
IsLevelled least (Number value unsigned) = Unit {0}
IsLevelled least (Named c) = Unit {0}
IsLevelled least (Variable x) = Unit {0}
IsLevelled least (Element x i) = IsLevelled 0 i
IsLevelled least (Prefix op e) = IsLevelled prefix_level e
IsLevelled least (Binary op a b) = (least ≤ operator_level op) × IsLevelled (operator_level op) a × IsLevelled (operator_level op + 1) b
IsLevelled least (Paren e) = IsLevelled 0 e

-- levelled, and no higher than there is room
pub record IsExpr (room : ℕ) (e : Expr) : Type 0 where
  pub levelled : IsLevelled 0 e
  pub low : height e ≤ room

abbrev pub IsArgument : ℕ → Argument → Type 0
IsArgument room (Value e) = IsExpr room e
IsArgument room (Text bytes) = Unit {0}
IsArgument room (AddressOf x) = Unit {0}

abbrev pub AreArguments : ℕ → List Argument → Type 0
AreArguments room [] = Unit {0}
AreArguments room (a ∷ more) = IsArgument room a × AreArguments room more

abbrev pub IsRight : ℕ → RightSide → Type 0
IsRight room (FromExpr e) = IsExpr room e
IsRight room (FromCall c) = AreArguments room c.arguments

abbrev pub IsTest : ℕ → Test → Type 0
IsTest room (TestExpr e) = IsExpr room e
IsTest room (TestCall c) = AreArguments room c.arguments
