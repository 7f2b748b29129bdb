-- The type of an operator that compares nothing with NULL, and the types of values.
use Rattle.std.proofs.Common.{◌≡◌, Bool, true, false, ◌&&◌, Option, Some, None, refl, sym, ◌∙◌, if◌then◌else◌}
use Rattle.std.specs.Option.{is_some, option_or}
use Rattle.syntax.specs.Parts.{null_tested}
use Rattle.syntax.specs.declared.expr.PrefixOp.{PrefixOp}
use Rattle.syntax.specs.declared.expr.PrefixOp.TheVariants.{LogicalNot, Complement, ToWord, ToInt}
use Rattle.syntax.specs.declared.expr.BinaryOp.{BinaryOp}
use Rattle.syntax.specs.declared.expr.Constant.{Constant}
use Rattle.syntax.specs.declared.expr.Constant.TheVariants.{True, False}
use Rattle.syntax.specs.Tree.{Expr, Number, Named, Variable, Element, Prefix, Binary, Paren}
use Rattle.base.specs.Bytes.{Identifier}
use Rattle.type_rules.specs.declared.ty.ExprType.{ExprType}
use Rattle.type_rules.specs.declared.ty.ExprType.TheVariants.{Word, Jint, Flag, Truth}
use Rattle.type_rules.specs.ExprTypes.{OperatorGroup, Logic, Equality, Order, OnWords, Scope, type_of, type_in, binary_type, prefix_type, constant_type, group, null_test_type, is_nullable, is_index, has_elements}
use Rattle.types.specs.ValueTypes.{of_value, bare_type}

without : (o d : Option ExprType) → is_some o ≡ false → option_or o d ≡ d
without None d e = refl
without (Some s) d e = absurd cc

pub not-null : (scope : Scope) (op : BinaryOp) (a b : Expr) → is_some (null_test_type scope (null_tested (Binary op a b))) ≡ false → type_of scope (Binary op a b) ≡ binary_type (group op) (type_of scope a) (type_of scope b)
not-null scope op a b e = without (null_test_type scope (null_tested (Binary op a b))) (binary_type (group op) (type_of scope a) (type_of scope b)) e

-- ---- types of values

-- an operator works on values
pub binary-of_value : (g : OperatorGroup) (a b : Option ExprType) → binary_type g (of_value a) (of_value b) ≡ of_value (binary_type g a b)
binary-of_value Logic (Some Truth) (Some Truth) = refl
binary-of_value Equality (Some Word) (Some Word) = refl
binary-of_value Equality (Some Jint) (Some Jint) = refl
binary-of_value Equality (Some Flag) (Some Flag) = refl
binary-of_value Order (Some Word) (Some Word) = refl
binary-of_value Order (Some Jint) (Some Jint) = refl
binary-of_value OnWords (Some Word) (Some Word) = refl
binary-of_value g a b = refl

-- and gives one
binary_gives : (g : OperatorGroup) (a b : Option ExprType) → of_value (binary_type g a b) ≡ binary_type g a b
binary_gives Logic (Some Truth) (Some Truth) = refl
binary_gives Equality (Some Word) (Some Word) = refl
binary_gives Equality (Some Jint) (Some Jint) = refl
binary_gives Equality (Some Flag) (Some Flag) = refl
binary_gives Order (Some Word) (Some Word) = refl
binary_gives Order (Some Jint) (Some Jint) = refl
binary_gives OnWords (Some Word) (Some Word) = refl
binary_gives g a b = refl

prefix_gives : (op : PrefixOp) (a : Option ExprType) → of_value (prefix_type op a) ≡ prefix_type op a
prefix_gives LogicalNot (Some Truth) = refl
prefix_gives Complement (Some Word) = refl
prefix_gives ToWord (Some Word) = refl
prefix_gives ToWord (Some Jint) = refl
prefix_gives ToWord (Some Flag) = refl
prefix_gives ToInt (Some Word) = refl
prefix_gives ToInt (Some Jint) = refl
prefix_gives ToInt (Some Flag) = refl
prefix_gives op a = refl

pub element-of_value : (b : Bool) → of_value (if b then Some Jint else None) ≡ (if b then Some Jint else None)
element-of_value true = refl
element-of_value false = refl

pub constant-of_value : (c : Constant) → of_value (constant_type c) ≡ constant_type c
constant-of_value True = refl
constant-of_value False = refl
constant-of_value c = refl

number-of_value : (unsigned : Bool) → of_value (Some (if unsigned then Word else Jint)) ≡ Some (if unsigned then Word else Jint)
number-of_value true = refl
number-of_value false = refl

null_gives : (scope : Scope) (tested : Option Identifier) (d : Option ExprType) → of_value d ≡ d → of_value (option_or (null_test_type scope tested) d) ≡ option_or (null_test_type scope tested) d
null_gives scope None d e = e
null_gives scope (Some x) d e = on_bool (is_nullable (type_in scope x))
  where
    on_bool : (b : Bool) → of_value (option_or (if b then Some Truth else None) d) ≡ option_or (if b then Some Truth else None) d
    on_bool true = refl
    on_bool false = e

-- a type that is a value's
pub value-is : (o : Option ExprType) (t : ExprType) → of_value o ≡ Some t → o ≡ Some t
value-is (Some Word) t h = h
value-is (Some Jint) t h = h
value-is (Some Flag) t h = h
value-is (Some Truth) t h = h
value-is o t h = absurd cc

-- no type, or that of a name
pub bare-is : (scope : Scope) (e : Expr) → of_value (type_of scope e) ≡ None → type_of scope e ≡ bare_type scope e
bare-is scope (Number n unsigned) h = sym (number-of_value unsigned) ∙ h
bare-is scope (Named c) h = sym (constant-of_value c) ∙ h
bare-is scope (Variable x) h = refl
bare-is scope (Element x i) h = sym (element-of_value (has_elements (type_in scope x) && is_index (type_of scope i))) ∙ h
bare-is scope (Prefix op a) h = sym (prefix_gives op (type_of scope a)) ∙ h
bare-is scope (Binary op a b) h = sym (null_gives scope (null_tested (Binary op a b)) _ (binary_gives (group op) (type_of scope a) (type_of scope b))) ∙ h
bare-is scope (Paren a) h = bare-is scope a h
