-- An expression that has a type, and whose names are neither dead, free nor untested, is a term with that type.
use Rattle.std.proofs.Common.{◌≡◌, ℕ, ◌⊎◌, inl, inr, Bool, true, false, ◌&&◌, List, ◌++◌, Option, Some, None, refl, sym, ap, ◌∙◌, subst, if◌then◌else◌}
use Rattle.std.specs.List.{list_any}
use Rattle.std.specs.Option.{option_or}
use Rattle.std.proofs.lemmas.Bool.{and_parts, or_parts}
use Rattle.std.proofs.lemmas.List.Folds.{list_any-append}
use Rattle.base.specs.Bytes.{Identifier}
use Rattle.base.specs.declared.element.ElementType.{ElementType}
use Rattle.syntax.specs.Parts.{names_in, elements_in}
use Rattle.syntax.specs.declared.expr.PrefixOp.{PrefixOp}
use Rattle.syntax.specs.declared.expr.PrefixOp.TheVariants.{LogicalNot, Complement, ToWord, ToInt}
use Rattle.syntax.specs.declared.expr.BinaryOp.{BinaryOp}
use Rattle.syntax.specs.declared.expr.BinaryOp.TheVariants.{LogicalOr, LogicalAnd, Equal, NotEqual}
use Rattle.syntax.specs.declared.expr.Constant.{Constant}
use Rattle.syntax.specs.declared.expr.Constant.TheVariants.{True, False, Null}
use Rattle.syntax.specs.Tree.{Expr, Number, Named, Variable, Element, Prefix, Binary, Paren}
use Rattle.type_rules.specs.declared.ty.ExprType.{ExprType}
use Rattle.type_rules.specs.declared.ty.ExprType.TheVariants.{Word, Jint, Flag, Truth, Ref, Global, Buffer, Array}
use Rattle.type_rules.specs.ExprTypes.{OperatorGroup, Logic, Equality, group, binary_type, prefix_type, is_castable, is_index, has_elements, is_nullable, constant_type, null_test_type, type_in, type_of}
use Rattle.type_rules.specs.declared.ty.ExprType.TheVariants as types
use Rattle.type_rules.specs.TypeGroups.{IsNumberType, OperatorFits}
use Rattle.type_rules.proofs.TypeCases.{IsValueType, given, castable, indexed, operands, number_is_value, index_is_value, null_cases, none_right, or_none}
use Rattle.region_rules.specs.RegionRules.{is_dead, is_untested, is_free}
use Rattle.region_rules.specs.RegionStates.{RegionState, BufferState, Free, Untested, Usable, ReferenceAt, BufferIn, state_of}
use Rattle.semantics.specs.Term as term
use Rattle.semantics.specs.Term.{Term, binary_term, term_of}
use Rattle.semantics_safety.specs.Points.{Point, IsLive, IsUsable, NullTestFits, ElementsFit, HasType}

-- ---- what is given of the names

-- a reference and a buffer have a state, and no name is a truth
pub record AreStated (p : Point) : Type 0 where
  pub no_truth : (x : Identifier) → type_in p.names x ≡ Some Truth → ⊥
  pub reference : (x : Identifier) → type_in p.names x ≡ Some Ref → (level : ℕ) × (live : Bool) × (state_of p.regions x ≡ Some (ReferenceAt level live))
  pub buffer : (x : Identifier) (t : ElementType) (writable : Bool) → type_in p.names x ≡ Some (Buffer t writable) → (b : BufferState) × (state_of p.regions x ≡ Some (BufferIn b))

-- an expression uses no dead reference and no free buffer, and reads an element of no untested one
pub record MayRead (regions : RegionState) (e : Expr) : Type 0 where
  pub alive : list_any (λ x. is_dead (state_of regions x)) (names_in e) ≡ false
  pub unfree : list_any (λ x. is_free (state_of regions x)) (names_in e) ≡ false
  pub tested : list_any (λ x. is_untested (state_of regions x)) (elements_in e) ≡ false

-- ---- names by their states

pub none_of_both : (p : Identifier → Bool) (xs ys : List Identifier) → list_any p (xs ++ ys) ≡ false → (list_any p xs ≡ false) × (list_any p ys ≡ false)
none_of_both p xs ys h = or_parts (list_any p xs) (list_any p ys) (sym (list_any-append p xs ys) ∙ h)

-- both operands may be read
pub operands_read : (regions : RegionState) (op : BinaryOp) (a b : Expr) → MayRead regions (Binary op a b) → MayRead regions a × MayRead regions b
operands_read regions op a b h =
    let alive = none_of_both (λ x. is_dead (state_of regions x)) (names_in a) (names_in b) h.alive in
    let unfree = none_of_both (λ x. is_free (state_of regions x)) (names_in a) (names_in b) h.unfree in
    let tested = none_of_both (λ x. is_untested (state_of regions x)) (elements_in a) (elements_in b) h.tested in
    (record { alive = alive.0; unfree = unfree.0; tested = tested.0 }, record { alive = alive.1; unfree = unfree.1; tested = tested.1 })

index_read : (regions : RegionState) (x : Identifier) (i : Expr) → MayRead regions (Element x i) → MayRead regions i
index_read regions x i h = record {
  alive = (or_parts (is_dead (state_of regions x)) (list_any (λ y. is_dead (state_of regions y)) (names_in i)) h.alive).1;
  unfree = (or_parts (is_free (state_of regions x)) (list_any (λ y. is_free (state_of regions y)) (names_in i)) h.unfree).1;
  tested = (or_parts (is_untested (state_of regions x)) (list_any (λ y. is_untested (state_of regions y)) (elements_in i)) h.tested).1;
}

-- a reference that isn't dead is live
pub live_if : (regions : RegionState) (x : Identifier) (level : ℕ) (live : Bool) → state_of regions x ≡ Some (ReferenceAt level live) → is_dead (state_of regions x) ≡ false → state_of regions x ≡ Some (ReferenceAt level true)
live_if regions x level true e h = e
live_if regions x level false e h = absurd (let dead : is_dead (state_of regions x) ≡ true = ap is_dead e in let c : true ≡ false = sym dead ∙ h in cc)

-- a buffer that is neither free nor untested is usable
pub usable_if : (p : Point) (x : Identifier) (b : BufferState) → state_of p.regions x ≡ Some (BufferIn b) → is_free (state_of p.regions x) ≡ false → is_untested (state_of p.regions x) ≡ false → IsUsable p x
usable_if p x (Usable access a) e free untested = (access, a, e)
usable_if p x Free e free untested = absurd (let there : is_free (state_of p.regions x) ≡ true = ap is_free e in let c : true ≡ false = sym there ∙ free in cc)
usable_if p x (Untested access a) e free untested = absurd (let there : is_untested (state_of p.regions x) ≡ true = ap is_untested e in let c : true ≡ false = sym there ∙ untested in cc)

pub is_live : (p : Point) → AreStated p → (x : Identifier) → type_in p.names x ≡ Some Ref → is_dead (state_of p.regions x) ≡ false → IsLive p x
is_live p stated x e h = let found = stated.reference x e in (found.0, live_if p.regions x found.0 found.1 found.2 h)

-- ---- terms

module _ (p : Point) (stated : AreStated p) where
  -- a term has each value type that its expression has
  abbrev HasTypes : Term → Option ExprType → Type 0
  HasTypes t o = (r : ExprType) → o ≡ Some r → IsValueType r → HasType p t r

  constant_fits : (c : Constant) (s : ExprType) → constant_type c ≡ Some s → HasType p (term.Named c) s
  constant_fits True s h = cc
  constant_fits False s h = cc
  constant_fits c s h = absurd (cc)

  nullable_fits : (x : Identifier) (o : Option ExprType) → type_in p.names x ≡ o → is_nullable o ≡ true → is_dead (state_of p.regions x) ≡ false → NullTestFits p x o
  nullable_fits x (Some Ref) e h alive = is_live p stated x e alive
  nullable_fits x (Some Global) e h alive = tt
  nullable_fits x (Some types.FieldId) e h alive = tt
  nullable_fits x (Some types.MethodId) e h alive = tt
  nullable_fits x (Some (Buffer t writable)) e h alive = tt
  nullable_fits x o e h alive = absurd (cc)

  null_fits : (x : Identifier) (s : ExprType) (g : OperatorGroup) → option_or (if is_nullable (type_in p.names x) then Some Truth else None) (binary_type g (type_in p.names x) None) ≡ Some s → is_dead (state_of p.regions x) ≡ false
      → NullTestFits p x (type_in p.names x) × (s ≡ Truth)
  null_fits x s g h alive =
      let o : Option ExprType = type_in p.names x in
      let test : Option ExprType = if is_nullable o then Some Truth else None in
      let e : (if is_nullable o then Some Truth else None) ≡ Some s = sym (or_none test) ∙ ap (option_or test) (sym (none_right g o)) ∙ h in
      let passed = given (is_nullable o) Truth s e in
      (nullable_fits x o refl passed.0 alive, passed.1)

  null_test_fits : (x : Identifier) (op : BinaryOp) (s : ExprType) → (op ≡ Equal) ⊎ (op ≡ NotEqual) → is_dead (state_of p.regions x) ≡ false → type_of p.names (Binary op (Variable x) (Named Null)) ≡ Some s → HasType p (term_of (Binary op (Variable x) (Named Null))) s
  null_test_fits x op s (inl e) alive =
      subst (λ (o : BinaryOp). type_of p.names (Binary o (Variable x) (Named Null)) ≡ Some s → HasType p (term_of (Binary o (Variable x) (Named Null))) s) (sym e) (λ h. null_fits x s Equality h alive)
  null_test_fits x op s (inr e) alive =
      subst (λ (o : BinaryOp). type_of p.names (Binary o (Variable x) (Named Null)) ≡ Some s → HasType p (term_of (Binary o (Variable x) (Named Null))) s) (sym e) (λ h. null_fits x s Equality h alive)

  prefix_fits : (op : PrefixOp) (o : Option ExprType) (s : ExprType) (t : Term) → prefix_type op o ≡ Some s → HasTypes t o → HasType p (term.Prefix op t) s
  prefix_fits LogicalNot (Some Truth) s t h types = (Truth, (refl, cc), types Truth refl tt)
  prefix_fits Complement (Some Word) s t h types = (Word, (refl, cc), types Word refl tt)
  prefix_fits ToWord o s t h types =
      let passed = given (is_castable o) Word s h in
      let r = castable o passed.0 in
      (r.0, (r.2, passed.1), types r.0 r.1 (number_is_value r.0 r.2))
  prefix_fits ToInt o s t h types =
      let passed = given (is_castable o) Jint s h in
      let r = castable o passed.0 in
      (r.0, (r.2, passed.1), types r.0 r.1 (number_is_value r.0 r.2))
  prefix_fits op o s t h types = absurd (cc)

  -- what elements are read of, or written to
  pub elements_fit : (x : Identifier) (o : Option ExprType) → type_in p.names x ≡ o → has_elements o ≡ true → is_free (state_of p.regions x) ≡ false → is_untested (state_of p.regions x) ≡ false → ElementsFit p x o
  elements_fit x (Some (Buffer t writable)) e h free untested = let found = stated.buffer x t writable e in usable_if p x found.0 found.1 free untested
  elements_fit x (Some (Array t size)) e h free untested = tt
  elements_fit x o e h free untested = absurd (cc)

  element_fits : (x : Identifier) (o : Option ExprType) (s : ExprType) (t : Term) → (if has_elements (type_in p.names x) && is_index o then Some Jint else None) ≡ Some s → is_free (state_of p.regions x) ≡ false → is_untested (state_of p.regions x) ≡ false → HasTypes t o
      → HasType p (term.Element x t) s
  element_fits x o s t h free untested types =
      let passed = given (has_elements (type_in p.names x) && is_index o) Jint s h in
      let both = and_parts (has_elements (type_in p.names x)) (is_index o) passed.0 in
      let r = indexed o both.1 in
      (elements_fit x (type_in p.names x) refl both.0 free untested, (r.0, r.2, types r.0 r.1 (index_is_value r.0 r.2)), passed.1)

  operator_fits : (op : BinaryOp) (r s : ExprType) (a b : Term) → HasType p a r → HasType p b r → ((group op ≡ Logic) × (r ≡ Truth) × (s ≡ Truth) ⊎ OperatorFits (group op) r s) → HasType p (binary_term op None a b) s
  operator_fits LogicalOr r s a b h k (inl l) = (subst (HasType p a) l.1 h, subst (HasType p b) l.1 k, l.2)
  operator_fits LogicalOr r s a b h k (inr fits) = absurd fits
  operator_fits LogicalAnd r s a b h k (inl l) = (subst (HasType p a) l.1 h, subst (HasType p b) l.1 k, l.2)
  operator_fits LogicalAnd r s a b h k (inr fits) = absurd fits
  operator_fits op r s a b h k (inl l) = absurd (let e = l.0 in cc)
  operator_fits op r s a b h k (inr fits) = (r, fits, h, k)

  binary_fits : (op : BinaryOp) (o o' : Option ExprType) (s : ExprType) (a b : Term) → binary_type (group op) o o' ≡ Some s → HasTypes a o → HasTypes b o' → HasType p (binary_term op None a b) s
  binary_fits op o o' s a b h types types' =
      let r = operands (group op) o o' s h in
      operator_fits op r.0 s a b (types r.0 r.1 r.3) (types' r.0 r.2 r.3) r.5

  -- what has operands, by whether it is a null test
  operation_fits : (op : BinaryOp) (a b : Expr) (s : ExprType) → type_of p.names (Binary op a b) ≡ Some s → MayRead p.regions a → HasTypes (term_of a) (type_of p.names a) → HasTypes (term_of b) (type_of p.names b) → HasType p (term_of (Binary op a b)) s
  operation_fits op a b s h read types types' =
      let scope = p.names in
      elim (null_cases op a b) [
        | inl none ↦
            let plain : binary_type (group op) (type_of scope a) (type_of scope b) ≡ Some s = sym (ap (λ (n : Option Identifier). option_or (null_test_type scope n) (binary_type (group op) (type_of scope a) (type_of scope b))) none) ∙ h in
            subst (λ (n : Option Identifier). HasType p (binary_term op n (term_of a) (term_of b)) s) (sym none) (binary_fits op (type_of scope a) (type_of scope b) s (term_of a) (term_of b) plain types types')
        | inr test ↦
            let there : MayRead p.regions (Variable test.0) = subst (MayRead p.regions) test.1 read in
            let alive = (or_parts (is_dead (state_of p.regions test.0)) false there.alive).0 in
            subst (λ (c : Expr). type_of scope (Binary op c b) ≡ Some s → HasType p (term_of (Binary op c b)) s) (sym test.1)
            (subst (λ (d : Expr). type_of scope (Binary op (Variable test.0) d) ≡ Some s → HasType p (term_of (Binary op (Variable test.0) d)) s) (sym test.2) (null_test_fits test.0 op s test.3 alive)) h
      ]

  variable_fits : (x : Identifier) (s : ExprType) → type_in p.names x ≡ Some s → IsValueType s → IsNumberType s
  variable_fits x Word h v = tt
  variable_fits x Jint h v = tt
  variable_fits x Flag h v = tt
  variable_fits x Truth h v = absurd (stated.no_truth x h)
  variable_fits x s h v = absurd v

  -- an expression of a value's type is a term of that type
  pub expression_fits : (e : Expr) (s : ExprType) → MayRead p.regions e → type_of p.names e ≡ Some s → IsValueType s → HasType p (term_of e) s
  expression_fits (Number n unsigned) s read h v = cc
  expression_fits (Named c) s read h v = constant_fits c s h
  expression_fits (Variable x) s read h v = (h, variable_fits x s h v)
  expression_fits (Element x i) s read h v =
      element_fits x (type_of p.names i) s (term_of i) h (or_parts (is_free (state_of p.regions x)) (list_any (λ y. is_free (state_of p.regions y)) (names_in i)) read.unfree).0
      (or_parts (is_untested (state_of p.regions x)) (list_any (λ y. is_untested (state_of p.regions y)) (elements_in i)) read.tested).0
      (λ r e w. expression_fits i r (index_read p.regions x i read) e w)
  expression_fits (Prefix op a) s read h v =
      prefix_fits op (type_of p.names a) s (term_of a) h (λ r e w. expression_fits a r (record { alive = read.alive; unfree = read.unfree; tested = read.tested }) e w)
  expression_fits (Binary op a b) s read h v =
      let both = operands_read p.regions op a b read in
      operation_fits op a b s h both.0 (λ r e w. expression_fits a r both.0 e w) (λ r e w. expression_fits b r both.1 e w)
  expression_fits (Paren a) s read h v = expression_fits a s (record { alive = read.alive; unfree = read.unfree; tested = read.tested }) h v
