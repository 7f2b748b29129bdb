-- What a test says that passed.
use Rattle.std.proofs.Common.{◌≡◌, ℕ, Bool, true, false, ◌||◌, Option, Some, refl, sym, ap, ◌∙◌}
use Rattle.base.specs.declared.element.ElementType.{ElementType}
use Rattle.base.specs.declared.element.ElementType.TheVariants.{Int as JInt, Short as JShort, Byte as JByte, Char as JChar}
use Rattle.base.specs.Element.{same_element}
use Rattle.syntax.specs.declared.expr.Constant.TheVariants.{Null}
use Rattle.syntax.specs.Tree.{Expr, Named}
use Rattle.type_rules.specs.declared.ty.ExprType.{ExprType}
use Rattle.type_rules.specs.declared.ty.ExprType.TheVariants.{Word, Jint, Flag, Truth, Ref, Global, Weak, FieldId, MethodId, Array}
use Rattle.type_rules.specs.ExprTypes.{is_word, is_jint, is_flag, is_truth, is_ref, is_global, is_weak, is_field, is_method, is_array_of, is_null}

pub word_is : (o : Option ExprType) → is_word o ≡ true → o ≡ Some Word
word_is (Some Word) h = refl
word_is o h = absurd (cc)

pub jint_is : (o : Option ExprType) → is_jint o ≡ true → o ≡ Some Jint
jint_is (Some Jint) h = refl
jint_is o h = absurd (cc)

pub flag_is : (o : Option ExprType) → is_flag o ≡ true → o ≡ Some Flag
flag_is (Some Flag) h = refl
flag_is o h = absurd (cc)

pub truth_is : (o : Option ExprType) → is_truth o ≡ true → o ≡ Some Truth
truth_is (Some Truth) h = refl
truth_is o h = absurd (cc)

pub ref_is : (o : Option ExprType) → is_ref o ≡ true → o ≡ Some Ref
ref_is (Some Ref) h = refl
ref_is o h = absurd (cc)

pub global_is : (o : Option ExprType) → is_global o ≡ true → o ≡ Some Global
global_is (Some Global) h = refl
global_is o h = absurd (cc)

pub weak_is : (o : Option ExprType) → is_weak o ≡ true → o ≡ Some Weak
weak_is (Some Weak) h = refl
weak_is o h = absurd (cc)

pub field_is : (o : Option ExprType) → is_field o ≡ true → o ≡ Some FieldId
field_is (Some FieldId) h = refl
field_is o h = absurd (cc)

pub method_is : (o : Option ExprType) → is_method o ≡ true → o ≡ Some MethodId
method_is (Some MethodId) h = refl
method_is o h = absurd (cc)

pub same_types : (t u : ElementType) → same_element t u ≡ true → u ≡ t
same_types JInt JInt h = refl
same_types JShort JShort h = refl
same_types JByte JByte h = refl
same_types JChar JChar h = refl
same_types t u h = absurd (cc)

pub array_is : (t : ElementType) (o : Option ExprType) → is_array_of t o ≡ true → (size : ℕ) × (o ≡ Some (Array t size))
array_is t (Some (Array u size)) h = (size, ap (λ (e : ElementType). Some (Array e size)) (same_types t u h))
array_is t o h = absurd (cc)

pub null_is : (e : Expr) → is_null e ≡ true → e ≡ Named Null
null_is (Named Null) h = refl
null_is e h = absurd (cc)

-- of two tests one passed, and not the second
pub first_passed : (a b : Bool) → (a || b) ≡ true → b ≡ false → a ≡ true
first_passed true b h none = refl
first_passed false b h none = absurd (let c : true ≡ false = sym h ∙ none in cc)
