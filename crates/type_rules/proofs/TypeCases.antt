-- Which types the parts of an expression that has a type can have.
use Rattle.std.proofs.Common.{◌≡◌, ◌⊎◌, inl, inr, Bool, true, false, Option, Some, None, refl, if◌then◌else◌}
use Rattle.std.specs.Option.{option_or}
use Rattle.base.specs.Bytes.{Identifier}
use Rattle.syntax.specs.Parts.{null_tested}
use Rattle.syntax.specs.declared.expr.BinaryOp.{BinaryOp}
use Rattle.syntax.specs.declared.expr.BinaryOp.TheVariants.{Equal, NotEqual}
use Rattle.syntax.specs.declared.expr.Constant.TheVariants.{Null}
use Rattle.syntax.specs.Tree.{Expr, Named, Variable, Binary}
use Rattle.type_rules.specs.declared.ty.ExprType.{ExprType}
use Rattle.type_rules.specs.declared.ty.ExprType.TheVariants.{Word, Jint, Flag, Truth}
use Rattle.type_rules.specs.ExprTypes.{OperatorGroup, Logic, Equality, Order, OnWords, binary_type, is_castable, is_index}
use Rattle.type_rules.specs.TypeGroups.{IsNumberType, IsIndexType, OperatorFits}

-- the types that an expression is worked out to
abbrev pub IsValueType : ExprType → Type 0
IsValueType Word = Unit {0}
IsValueType Jint = Unit {0}
IsValueType Flag = Unit {0}
IsValueType Truth = Unit {0}
IsValueType s = ⊥

-- ---- the rules of types, turned round

pub given : {A : Type 0} (b : Bool) (a s : A) → (if b then Some a else None) ≡ Some s → (b ≡ true) × (s ≡ a)
given true a s h = (refl, cc)
given false a s h = absurd (cc)

pub castable : (o : Option ExprType) → is_castable o ≡ true → (r : ExprType) × (o ≡ Some r) × IsNumberType r
castable (Some Word) h = (Word, refl, tt)
castable (Some Jint) h = (Jint, refl, tt)
castable (Some Flag) h = (Flag, refl, tt)
castable o h = absurd (cc)

pub indexed : (o : Option ExprType) → is_index o ≡ true → (r : ExprType) × (o ≡ Some r) × IsIndexType r
indexed (Some Word) h = (Word, refl, tt)
indexed (Some Jint) h = (Jint, refl, tt)
indexed o h = absurd (cc)

pub operands : (g : OperatorGroup) (a b : Option ExprType) (s : ExprType) → binary_type g a b ≡ Some s → (r : ExprType) × (a ≡ Some r) × (b ≡ Some r) × IsValueType r × (s ≡ Truth ⊎ s ≡ Word) × ((g ≡ Logic) × (r ≡ Truth) × (s ≡ Truth) ⊎ OperatorFits g r s)
operands Logic (Some Truth) (Some Truth) s h = (Truth, refl, refl, tt, inl (cc), inl (refl, refl, cc))
operands Equality (Some Word) (Some Word) s h = (Word, refl, refl, tt, inl (cc), inr (tt, cc))
operands Equality (Some Jint) (Some Jint) s h = (Jint, refl, refl, tt, inl (cc), inr (tt, cc))
operands Equality (Some Flag) (Some Flag) s h = (Flag, refl, refl, tt, inl (cc), inr (tt, cc))
operands Order (Some Word) (Some Word) s h = (Word, refl, refl, tt, inl (cc), inr (tt, cc))
operands Order (Some Jint) (Some Jint) s h = (Jint, refl, refl, tt, inl (cc), inr (tt, cc))
operands OnWords (Some Word) (Some Word) s h = (Word, refl, refl, tt, inr (cc), inr (refl, cc))
operands g a b s h = absurd (cc)

pub number_is_value : (s : ExprType) → IsNumberType s → IsValueType s
number_is_value Word h = tt
number_is_value Jint h = tt
number_is_value Flag h = tt
number_is_value s h = absurd h

pub index_is_value : (s : ExprType) → IsIndexType s → IsValueType s
index_is_value Word h = tt
index_is_value Jint h = tt
index_is_value s h = absurd h

-- no null test, or one of a name
pub null_cases : (op : BinaryOp) (a b : Expr) → (null_tested (Binary op a b) ≡ None) ⊎ ((x : Identifier) × (a ≡ Variable x) × (b ≡ Named Null) × ((op ≡ Equal) ⊎ (op ≡ NotEqual)))
null_cases Equal (Variable x) (Named Null) = inr (x, refl, refl, inl refl)
null_cases NotEqual (Variable x) (Named Null) = inr (x, refl, refl, inr refl)
null_cases op a b = inl refl

pub none_right : (g : OperatorGroup) (o : Option ExprType) → binary_type g o None ≡ None
none_right Logic (Some Truth) = refl
none_right Equality (Some Word) = refl
none_right Equality (Some Jint) = refl
none_right Equality (Some Flag) = refl
none_right Order (Some Word) = refl
none_right Order (Some Jint) = refl
none_right OnWords (Some Word) = refl
none_right g o = refl

pub or_none : (o : Option ExprType) → option_or o None ≡ o
or_none None = refl
or_none (Some s) = refl
