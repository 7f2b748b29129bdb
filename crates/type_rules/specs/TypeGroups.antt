-- Types by what can be done with their values.
use Rattle.std.specs.Prelude.{◌≡◌}
use Rattle.type_rules.specs.declared.ty.ExprType.{ExprType}
use Rattle.type_rules.specs.declared.ty.ExprType.TheVariants.{Word, Jint, Flag, Truth}
use Rattle.type_rules.specs.ExprTypes.{OperatorGroup, Logic, Equality, Order, OnWords}

-- the types whose values are numbers
abbrev pub IsNumberType : ExprType → Type 0
IsNumberType Word = Unit {0}
IsNumberType Jint = Unit {0}
IsNumberType Flag = Unit {0}
IsNumberType s = ⊥

-- the types of an index
abbrev pub IsIndexType : ExprType → Type 0
IsIndexType Word = Unit {0}
IsIndexType Jint = Unit {0}
IsIndexType s = ⊥

-- the type of both operands of an operator, and that of its result
abbrev pub OperatorFits : OperatorGroup → (operands result : ExprType) → Type 0
OperatorFits Logic r s = ⊥
OperatorFits Equality r s = IsNumberType r × (s ≡ Truth)
OperatorFits Order r s = IsIndexType r × (s ≡ Truth)
OperatorFits OnWords r s = (r ≡ Word) × (s ≡ Word)
