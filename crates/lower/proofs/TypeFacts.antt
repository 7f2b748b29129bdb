-- An expression that has a type is a term with that type.
use Rattle.std.proofs.Common.{◌≡◌, ℕ, ◌+◌, ◌≤◌, ◌^◌, ◌⊎◌, inl, inr, Bool, true, false, ◌&&◌, max, [], ◌∷◌, map, nat_lt, Option, Some, None, refl, sym, ap, ◌∙◌, subst, arith, if◌then◌else◌}
use Rattle.std.specs.Option.{option_or}
use Rattle.std.specs.Str.{bytes_eq}
use Rattle.std.proofs.lemmas.Bool.{ltb-true, and_parts}
use Rattle.base.specs.Bytes.{Identifier, lookup}
use Rattle.syntax.specs.Limits.{height, number_limit, numbers_in_range}
use Rattle.syntax.specs.Parts.{null_tested}
use Rattle.syntax.specs.declared.expr.PrefixOp.{PrefixOp}
use Rattle.syntax.specs.declared.expr.PrefixOp.TheVariants.{LogicalNot, Complement, ToWord, ToInt}
use Rattle.syntax.specs.declared.expr.BinaryOp.{BinaryOp}
use Rattle.syntax.specs.declared.expr.BinaryOp.TheVariants.{LogicalOr, LogicalAnd, Equal, NotEqual}
use Rattle.syntax.specs.declared.expr.Constant.{Constant}
use Rattle.syntax.specs.declared.expr.Constant.TheVariants.{True, False, Null}
use Rattle.syntax.specs.Tree.{Expr, Number, Named, Variable, Element, Prefix, Binary, Paren}
use Rattle.type_rules.specs.declared.ty.ExprType.{ExprType}
use Rattle.type_rules.specs.declared.ty.ExprType.TheVariants.{Word, Jint, Flag, Truth, Ref, Global, FieldId, MethodId, Buffer, Array}
use Rattle.type_rules.specs.ExprTypes.{Scope, OperatorGroup, Logic, Equality, group, binary_type, prefix_type, is_castable, is_index, has_elements, is_nullable, constant_type, null_test_type, type_in, type_of}
use Rattle.type_rules.specs.TypeGroups.{OperatorFits}
use Rattle.type_rules.proofs.TypeCases.{IsValueType, given, castable, indexed, operands, number_is_value, index_is_value, null_cases, none_right, or_none}
use Rattle.semantics.specs.Term as term
use Rattle.semantics.specs.Term.{Term, binary_term, term_of}
use Rattle.code_meaning.specs.Layout.{Slot, Known}
use Rattle.code_meaning.specs.Fits as rule
use Rattle.code_meaning.specs.Fits.{IsVariable, IsNullable, HasElements, TermHasType, IsUntouched, term_height, NumberFits}

-- the types of the known names
abbrev pub scope_of : Known → Scope
scope_of known = map (λ k. (k.0, k.1.ty)) known

-- a name of a type has a slot of that type
pub slot_of_name : (x : Identifier) (known : Known) (s : ExprType) → lookup x (scope_of known) ≡ Some s → (i : ℕ) × (lookup x known ≡ Some (record { ty = s; index = i }))
slot_of_name x [] s h = absurd cc
slot_of_name x ((y, slot) ∷ rest) s h =
    elim (bytes_eq x y) as (λ b. (if b then Some slot.ty else lookup x (scope_of rest)) ≡ Some s → (i : ℕ) × ((if b then Some slot else lookup x rest) ≡ Some (record { ty = s; index = i }))) [
      | true ↦ λ e. let same : slot.ty ≡ s = cc in (slot.index, ap (λ (r : ExprType). Some (record { ty = r; index = slot.index })) same)
      | false ↦ λ e. slot_of_name x rest s e
    ] h

-- ---- what is given of the names

-- no variable is a truth
abbrev pub HasNoTruth : Known → Type 0
HasNoTruth known = (x : Identifier) (s : Slot) → lookup x known ≡ Some s → s.ty ≡ Truth → ⊥

-- ---- what can be NULL, and what has elements

nullable : (o : Option ExprType) → is_nullable o ≡ true → (r : ExprType) × (o ≡ Some r) × IsNullable r
nullable (Some Ref) h = (Ref, refl, tt)
nullable (Some Global) h = (Global, refl, tt)
nullable (Some FieldId) h = (FieldId, refl, tt)
nullable (Some MethodId) h = (MethodId, refl, tt)
nullable (Some (Buffer t w)) h = (Buffer t w, refl, tt)
nullable o h = absurd (cc)

pub elements : (o : Option ExprType) → has_elements o ≡ true → (r : ExprType) × (o ≡ Some r) × HasElements r
elements (Some (Buffer t w)) h = (Buffer t w, refl, tt)
elements (Some (Array t n)) h = (Array t n, refl, tt)
elements o h = absurd (cc)

-- ---- terms

-- a term has each value type that its expression has
abbrev HasTypes : Known → Term → Option ExprType → Type 0
HasTypes known t o = (r : ExprType) → o ≡ Some r → IsValueType r → TermHasType known t r

of_type : {known : Known} {t : Term} {r s : ExprType} → TermHasType known t r → s ≡ r → TermHasType known t s
of_type {known = known} {t = t} h e = subst (TermHasType known t) (sym e) h

number_typed : (known : Known) (n : ℕ) (u : Bool) (s : ExprType) → Some (if u then Word else Jint) ≡ Some s → nat_lt n (number_limit u) ≡ true → TermHasType known (term.Number n u) s
number_typed known n true s h range = of_type (rule.word (ltb-true n (2 ^ 32) range)) cc
number_typed known n false s h range = of_type (rule.int (ltb-true n (2 ^ 31) range)) cc

constant_typed : (known : Known) (c : Constant) (s : ExprType) → constant_type c ≡ Some s → TermHasType known (term.Named c) s
constant_typed known True s h = of_type rule.true_flag cc
constant_typed known False s h = of_type rule.false_flag cc
constant_typed known c s h = absurd (cc)

null_typed : (known : Known) (x : Identifier) (s : ExprType) (g : OperatorGroup) (equal : Bool) → option_or (if is_nullable (type_in (scope_of known) x) then Some Truth else None) (binary_type g (type_in (scope_of known) x) None) ≡ Some s
    → TermHasType known (term.IsNull equal x) s
null_typed known x s g equal h =
    let o : Option ExprType = type_in (scope_of known) x in
    let test : Option ExprType = if is_nullable o then Some Truth else None in
    let e : (if is_nullable o then Some Truth else None) ≡ Some s = sym (or_none test) ∙ ap (option_or test) (sym (none_right g o)) ∙ h in
    let passed = given (is_nullable o) Truth s e in
    let r = nullable o passed.0 in
    let at = slot_of_name x known r.0 r.1 in
    of_type (rule.null_test at.1 r.2) passed.1

null_test_typed : (known : Known) (x : Identifier) (op : BinaryOp) (s : ExprType) → (op ≡ Equal) ⊎ (op ≡ NotEqual) → type_of (scope_of known) (Binary op (Variable x) (Named Null)) ≡ Some s → TermHasType known (term_of (Binary op (Variable x) (Named Null))) s
null_test_typed known x op s (inl e) =
    subst (λ (o : BinaryOp). type_of (scope_of known) (Binary o (Variable x) (Named Null)) ≡ Some s → TermHasType known (term_of (Binary o (Variable x) (Named Null))) s) (sym e) (null_typed known x s Equality true)
null_test_typed known x op s (inr e) =
    subst (λ (o : BinaryOp). type_of (scope_of known) (Binary o (Variable x) (Named Null)) ≡ Some s → TermHasType known (term_of (Binary o (Variable x) (Named Null))) s) (sym e) (null_typed known x s Equality false)

prefix_typed : (known : Known) (op : PrefixOp) (o : Option ExprType) (s : ExprType) (t : Term) → prefix_type op o ≡ Some s → HasTypes known t o → TermHasType known (term.Prefix op t) s
prefix_typed known LogicalNot (Some Truth) s t h types = of_type (rule.logical_not (types Truth refl tt)) cc
prefix_typed known Complement (Some Word) s t h types = of_type (rule.complement (types Word refl tt)) cc
prefix_typed known ToWord o s t h types =
    let passed = given (is_castable o) Word s h in
    let r = castable o passed.0 in
    of_type (rule.to_word r.2 (types r.0 r.1 (number_is_value r.0 r.2))) passed.1
prefix_typed known ToInt o s t h types =
    let passed = given (is_castable o) Jint s h in
    let r = castable o passed.0 in
    of_type (rule.to_int r.2 (types r.0 r.1 (number_is_value r.0 r.2))) passed.1
prefix_typed known op o s t h types = absurd (cc)

element_typed : (known : Known) (x : Identifier) (o : Option ExprType) (s : ExprType) (t : Term) → (if has_elements (type_in (scope_of known) x) && is_index o then Some Jint else None) ≡ Some s → HasTypes known t o → TermHasType known (term.Element x t) s
element_typed known x o s t h types =
    let passed = given (has_elements (type_in (scope_of known) x) && is_index o) Jint s h in
    let both = and_parts (has_elements (type_in (scope_of known) x)) (is_index o) passed.0 in
    let r = indexed o both.1 in
    let e = elements (type_in (scope_of known) x) both.0 in
    let at = slot_of_name x known e.0 e.1 in
    of_type (rule.element at.1 e.2 r.2 (types r.0 r.1 (index_is_value r.0 r.2))) passed.1

operator_typed : (known : Known) (op : BinaryOp) (r s : ExprType) (a b : Term) → TermHasType known a r → TermHasType known b r → ((group op ≡ Logic) × (r ≡ Truth) × (s ≡ Truth) ⊎ OperatorFits (group op) r s) → TermHasType known (binary_term op None a b) s
operator_typed known LogicalOr r s a b h k (inl l) = of_type (rule.either (subst (TermHasType known a) l.1 h) (subst (TermHasType known b) l.1 k)) l.2
operator_typed known LogicalOr r s a b h k (inr fits) = absurd fits
operator_typed known LogicalAnd r s a b h k (inl l) = of_type (rule.both (subst (TermHasType known a) l.1 h) (subst (TermHasType known b) l.1 k)) l.2
operator_typed known LogicalAnd r s a b h k (inr fits) = absurd fits
operator_typed known op r s a b h k (inl l) = absurd (let e = l.0 in cc)
operator_typed known op r s a b h k (inr fits) = rule.operator fits h k

binary_typed : (known : Known) (op : BinaryOp) (o o' : Option ExprType) (s : ExprType) (a b : Term) → binary_type (group op) o o' ≡ Some s → HasTypes known a o → HasTypes known b o' → TermHasType known (binary_term op None a b) s
binary_typed known op o o' s a b h types types' =
    let r = operands (group op) o o' s h in
    operator_typed known op r.0 s a b (types r.0 r.1 r.3) (types' r.0 r.2 r.3) r.5

-- what has operands, by whether it is a null test
operation_typed : (known : Known) (op : BinaryOp) (a b : Expr) (s : ExprType) → type_of (scope_of known) (Binary op a b) ≡ Some s → HasTypes known (term_of a) (type_of (scope_of known) a) → HasTypes known (term_of b) (type_of (scope_of known) b) → TermHasType known (term_of (Binary op a b)) s
operation_typed known op a b s h types types' =
    let scope = scope_of known in
    elim (null_cases op a b) [
      | inl none ↦
          let plain : binary_type (group op) (type_of scope a) (type_of scope b) ≡ Some s = sym (ap (λ (n : Option Identifier). option_or (null_test_type scope n) (binary_type (group op) (type_of scope a) (type_of scope b))) none) ∙ h in
          subst (λ (n : Option Identifier). TermHasType known (binary_term op n (term_of a) (term_of b)) s) (sym none) (binary_typed known op (type_of scope a) (type_of scope b) s (term_of a) (term_of b) plain types types')
      | inr test ↦
          subst (λ (c : Expr). type_of scope (Binary op c b) ≡ Some s → TermHasType known (term_of (Binary op c b)) s) (sym test.1)
          (subst (λ (d : Expr). type_of scope (Binary op (Variable test.0) d) ≡ Some s → TermHasType known (term_of (Binary op (Variable test.0) d)) s) (sym test.2) (null_test_typed known test.0 op s test.3)) h
    ]

variable_well_typed : (known : Known) (x : Identifier) (s : ExprType) → HasNoTruth known → lookup x (scope_of known) ≡ Some s → IsValueType s → IsVariable known x s
variable_well_typed known x Word no_truth h v = let at = slot_of_name x known Word h in (at.0, at.1, tt)
variable_well_typed known x Jint no_truth h v = let at = slot_of_name x known Jint h in (at.0, at.1, tt)
variable_well_typed known x Flag no_truth h v = let at = slot_of_name x known Flag h in (at.0, at.1, tt)
variable_well_typed known x Truth no_truth h v = let at = slot_of_name x known Truth h in absurd (no_truth x (record { ty = Truth; index = at.0 }) at.1 refl)
variable_well_typed known x s no_truth h v = absurd v

term_type : (e : Expr) (known : Known) (s : ExprType) → HasNoTruth known → numbers_in_range e ≡ true → type_of (scope_of known) e ≡ Some s → IsValueType s → TermHasType known (term_of e) s
term_type (Number n u) known s no_truth range h v = number_typed known n u s h range
term_type (Named c) known s no_truth range h v = constant_typed known c s h
term_type (Variable x) known s no_truth range h v = rule.read (variable_well_typed known x s no_truth h v)
term_type (Element x i) known s no_truth range h v = element_typed known x (type_of (scope_of known) i) s (term_of i) h (λ r e w. term_type i known r no_truth range e w)
term_type (Prefix op a) known s no_truth range h v = prefix_typed known op (type_of (scope_of known) a) s (term_of a) h (λ r e w. term_type a known r no_truth range e w)
term_type (Binary op a b) known s no_truth range h v =
    let both = and_parts (numbers_in_range a) (numbers_in_range b) range in
    operation_typed known op a b s h (λ r e w. term_type a known r no_truth both.0 e w) (λ r e w. term_type b known r no_truth both.1 e w)
term_type (Paren a) known s no_truth range h v = term_type a known s no_truth range h v

-- ---- heights, and no values

untouched_binary : (op : BinaryOp) (o : Option Identifier) (a b : Term) → IsUntouched a → IsUntouched b → IsUntouched (binary_term op o a b)
untouched_binary LogicalAnd o a b h k = (h, k)
untouched_binary LogicalOr o a b h k = (h, k)
untouched_binary Equal (Some x) a b h k = tt
untouched_binary NotEqual (Some x) a b h k = tt
untouched_binary op o a b h k = (h, k)

untouched : (e : Expr) → IsUntouched (term_of e)
untouched (Number n u) = tt
untouched (Named c) = tt
untouched (Variable x) = tt
untouched (Element x i) = untouched i
untouched (Prefix op a) = untouched a
untouched (Binary op a b) = untouched_binary op (null_tested (Binary op a b)) (term_of a) (term_of b) (untouched a) (untouched b)
untouched (Paren a) = untouched a

binary_low : (op : BinaryOp) (o : Option Identifier) (a b : Term) → term_height (binary_term op o a b) ≤ 1 + max (term_height a) (term_height b)
binary_low LogicalAnd o a b = omega arith
binary_low LogicalOr o a b = omega arith
binary_low Equal (Some x) a b = omega arith
binary_low NotEqual (Some x) a b = omega arith
binary_low op o a b = omega arith

low : (e : Expr) → term_height (term_of e) ≤ height e
low (Number n u) = omega arith
low (Named c) = omega arith
low (Variable x) = omega arith
low (Element x i) = let h = low i in omega (arith, h)
low (Prefix op a) = let h = low a in omega (arith, h)
low (Binary op a b) =
    let h = low a in
    let k = low b in
    let whole = binary_low op (null_tested (Binary op a b)) (term_of a) (term_of b) in
    omega (arith, h, k, whole)
low (Paren a) = let h = low a in omega (arith, h)

-- ---- expressions

-- its numbers are in range, and it isn't nested too deep
pub record IsFine (e : Expr) : Type 0 where
  pub range : numbers_in_range e ≡ true
  pub low : height e ≤ 32

pub number_fits : (known : Known) (e : Expr) (s : ExprType) → HasNoTruth known → IsFine e → type_of (scope_of known) e ≡ Some s → IsValueType s → NumberFits known (term_of e) s
number_fits known e s no_truth fine h v =
    let few = low e in
    record { ty = term_type e known s no_truth fine.range h v; untouched = untouched e; low = omega (arith, few, fine.low) }
