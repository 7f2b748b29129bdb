-- A step of an expression that fits leaves one that fits.
use Rattle.std.proofs.Common.{◌≡◌, ℕ, Bool, true, false, not, Some, sym, subst}
use Rattle.std.specs.Prelude.{ℤ}
use Rattle.base.specs.Bytes.{Identifier}
use Rattle.syntax.specs.declared.expr.Constant.TheVariants as constants
use Rattle.type_rules.specs.declared.ty.ExprType.{ExprType}
use Rattle.type_rules.specs.ExprTypes.{type_in}
use Rattle.type_rules.specs.declared.ty.ExprType.TheVariants as types
use Rattle.type_rules.specs.TypeGroups.{IsNumberType}
use Rattle.semantics.specs.Sight.{Sight}
use Rattle.semantics.specs.Term as term
use Rattle.semantics.specs.Term.{Term, Done, Read, IsNull, Prefix, And, Or, Binary, Reduction, done, with_part, and_then, or_else, element_value, index_of, reduce}
use Rattle.semantics.specs.declared.value.Value.{Value}
use Rattle.semantics.specs.declared.value.Value.TheVariants.{Int, Truth}
use Rattle.semantics.specs.Value.{Outcome, Gives, Traps, Stuck, outcome_map, outcome_then, prefix_value, binary_value}
use Rattle.semantics_safety.specs.Points.{Point, value_type, NullTestFits, ElementsFit, HasType}
use Rattle.semantics_safety.proofs.Values.{ValueFits, binary_fits, prefix_fits, IndexFits, index_fits}

-- an answer, or a trap
abbrev pub Answers : {A : Type 0} → Outcome A → Type 0
Answers (Gives a) = Unit {0}
Answers (Traps trap) = Unit {0}
Answers Stuck = ⊥

-- what is seen at a point has the types that are known there
pub record Sees (p : Point) (sight : Sight) : Type 0 where
  pub number : (x : Identifier) (s : ExprType) → type_in p.names x ≡ Some s → IsNumberType s → ValueFits s (sight.number x)
  pub is_null : (x : Identifier) → NullTestFits p x (type_in p.names x) → Answers (sight.is_null x)
  pub element : (x : Identifier) (i : ℕ) → ElementsFit p x (type_in p.names x) → Answers (sight.element x i)

-- an expression of this type, or a trap
abbrev pub TermFits : Point → ExprType → Reduction → Type 0
TermFits p s (Gives t) = HasType p t s
TermFits p s (Traps trap) = Unit {0}
TermFits p s Stuck = ⊥

-- no value yet
abbrev pub IsOpen : Term → Type 0
IsOpen (Done v) = ⊥
IsOpen t = Unit {0}

module _ (p : Point) (sight : Sight) (sees : Sees p sight) where
  done_fits : (s : ExprType) (o : Outcome Value) → ValueFits s o → TermFits p s (done o)
  done_fits s (Gives v) h = h
  done_fits s (Traps trap) h = tt
  done_fits s Stuck h = h

  mapped_fits : (whole : Term → Term) (r s : ExprType) (o : Reduction) → TermFits p r o → ((u : Term) → HasType p u r → HasType p (whole u) s) → TermFits p s (outcome_map whole o)
  mapped_fits whole r s (Gives u) h g = g u h
  mapped_fits whole r s (Traps trap) h g = tt
  mapped_fits whole r s Stuck h g = h

  part_fits : (use_value : Value → Reduction) (whole : Term → Term) (t : Term) (o : Reduction) (r s : ExprType) → HasType p t r → (IsOpen t → TermFits p r o) → ((v : Value) → value_type v ≡ r → TermFits p s (use_value v)) → ((u : Term) → HasType p u r → HasType p (whole u) s)
      → TermFits p s (with_part use_value whole t o)
  part_fits use_value whole (Done v) o r s h step value inside = value v h
  part_fits use_value whole t o r s h step value inside = mapped_fits whole r s o (step tt) inside

  null_fits : (o : Outcome Bool) (f : Bool → Bool) (s : ExprType) → Answers o → s ≡ types.Truth → TermFits p s (done (outcome_map (λ b. Truth (f b)) o))
  null_fits (Gives b) f s h e = sym e
  null_fits (Traps trap) f s h e = tt
  null_fits Stuck f s h e = h

  int_fits : (o : Outcome ℤ) (s : ExprType) → Answers o → s ≡ types.Jint → ValueFits s (outcome_map Int o)
  int_fits (Gives z) s h e = sym e
  int_fits (Traps trap) s h e = tt
  int_fits Stuck s h e = h

  element_fits : (x : Identifier) (o : Outcome ℕ) (s : ExprType) → ElementsFit p x (type_in p.names x) → IndexFits o → s ≡ types.Jint → ValueFits s (outcome_then (λ n. outcome_map Int (sight.element x n)) o)
  element_fits x (Gives n) s h i e = int_fits (sight.element x n) s (sees.element x n h) e
  element_fits x (Traps trap) s h i e = tt
  element_fits x Stuck s h i e = i

  and_fits : (b : Term) (s : ExprType) (v : Value) → value_type v ≡ types.Truth → HasType p b types.Truth → s ≡ types.Truth → TermFits p s (and_then b v)
  and_fits b s (Truth true) h k e = subst (HasType p b) (sym e) k
  and_fits b s (Truth false) h k e = sym e
  and_fits b s v h k e = absurd (cc)

  or_fits : (b : Term) (s : ExprType) (v : Value) → value_type v ≡ types.Truth → HasType p b types.Truth → s ≡ types.Truth → TermFits p s (or_else b v)
  or_fits b s (Truth true) h k e = sym e
  or_fits b s (Truth false) h k e = subst (HasType p b) (sym e) k
  or_fits b s v h k e = absurd (cc)

  pub reduce_fits : (t : Term) (s : ExprType) → HasType p t s → IsOpen t → TermFits p s (reduce sight t)
  reduce_fits (Done v) s h o = absurd o
  reduce_fits (term.Number n true) s h o = sym h
  reduce_fits (term.Number n false) s h o = sym h
  reduce_fits (term.Named constants.True) s h o = sym h
  reduce_fits (term.Named constants.False) s h o = sym h
  reduce_fits (term.Named c) s h o = absurd h
  reduce_fits (Read x) s h o = done_fits s (sight.number x) (sees.number x s h.0 h.1)
  reduce_fits (term.Element x t) s h o =
      part_fits _ (term.Element x) t (reduce sight t) h.1.0 s h.1.2 (reduce_fits t h.1.0 h.1.2)
      (λ v e. done_fits s (element_value sight x v) (element_fits x (index_of v) s h.0 (index_fits v h.1.0 h.1.1 e) h.2))
      (λ u k. (h.0, (h.1.0, h.1.1, k), h.2))
  reduce_fits (IsNull true x) s h o = null_fits (sight.is_null x) (λ b. b) s (sees.is_null x h.0) h.1
  reduce_fits (IsNull false x) s h o = null_fits (sight.is_null x) not s (sees.is_null x h.0) h.1
  reduce_fits (Prefix op t) s h o =
      part_fits _ (Prefix op) t (reduce sight t) h.0 s h.2 (reduce_fits t h.0 h.2) (λ v e. done_fits s (prefix_value op v) (prefix_fits op v h.0 s h.1 e)) (λ u k. (h.0, h.1, k))
  reduce_fits (And a b) s h o = part_fits _ (λ t. And t b) a (reduce sight a) types.Truth s h.0 (reduce_fits a types.Truth h.0) (λ v e. and_fits b s v e h.1 h.2) (λ u k. (k, h.1, h.2))
  reduce_fits (Or a b) s h o = part_fits _ (λ t. Or t b) a (reduce sight a) types.Truth s h.0 (reduce_fits a types.Truth h.0) (λ v e. or_fits b s v e h.1 h.2) (λ u k. (k, h.1, h.2))
  reduce_fits (Binary op a b) s h o =
      part_fits _ (λ t. Binary op t b) a (reduce sight a) h.0 s h.2 (reduce_fits a h.0 h.2)
      (λ v e. part_fits _ (Binary op (Done v)) b (reduce sight b) h.0 s h.3 (reduce_fits b h.0 h.3) (λ w f. done_fits s (binary_value op v w) (binary_fits op v w h.0 s h.1 e f)) (λ u k. (h.0, h.1, e, k)))
      (λ u k. (h.0, h.1, k, h.3))
