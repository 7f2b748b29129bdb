-- The types of values, which each expression has that has a type, but for bare names.
use Rattle.std.specs.Prelude.{Option, Some, None}
use Rattle.syntax.specs.Tree.{Expr, Variable, Paren}
use Rattle.type_rules.specs.declared.ty.ExprType.{ExprType}
use Rattle.type_rules.specs.declared.ty.ExprType.TheVariants.{Word, Jint, Flag, Truth}
use Rattle.type_rules.specs.ExprTypes.{Scope, type_in}
use Rattle.types.specs.declared.expressions.ValueType.{ValueType}
use Rattle.types.specs.declared.expressions.ValueType.TheVariants as values

-- the type of the definitions
abbrev pub value_type : ValueType → ExprType
value_type values.Word = Word
value_type values.Jint = Jint
value_type values.Flag = Flag
value_type values.Truth = Truth

-- a type, where it is that of a value
abbrev pub of_value : Option ExprType → Option ExprType
of_value (Some Word) = Some Word
of_value (Some Jint) = Some Jint
of_value (Some Flag) = Some Flag
of_value (Some Truth) = Some Truth
of_value s = None

-- the type of a name, which may be in parentheses
abbrev pub bare_type : Scope → Expr → Option ExprType
bare_type scope (Variable x) = type_in scope x
bare_type scope (Paren e) = bare_type scope e
bare_type scope e = None
