-- What a thread sees at the point where it is.
use Rattle.std.proofs.Common.{◌≡◌, ℕ, Bool, true, false, List, Option, Some, None, refl, sym, subst}
use Rattle.std.specs.Prelude.{ℤ, slice_get}
use Rattle.base.specs.Bytes.{Identifier, lookup}
use Rattle.jni.specs.Access.{is_critical}
use Rattle.type_rules.specs.declared.ty.ExprType.{ExprType}
use Rattle.type_rules.specs.ExprTypes.{type_in}
use Rattle.type_rules.specs.declared.ty.ExprType.TheVariants as types
use Rattle.type_rules.specs.TypeGroups.{IsNumberType}
use Rattle.semantics.specs.Heap.{Heap, numbers_of}
use Rattle.semantics.specs.Sight.{seen, scalar, variable_is_null, static_is_null, holds_null, elements_of, in_range}
use Rattle.semantics.specs.Thread.{Frame}
use Rattle.semantics.specs.Value.{Outcome, Gives, outcome_then}
use Rattle.semantics.specs.Variable.{Variable, Elements, Buffer, NoBuffer, Copy, View, StaticReference, Empty, Live, Weakly, Cleared, Deleted, Variables, Statics}
use Rattle.semantics_safety.specs.Owners.{Owners}
use Rattle.semantics_safety.specs.Points.{Point, IsUsable, NullTestFits, ElementsFit}
use Rattle.semantics_safety.specs.Stands.{VariableFits, IsOf, Stands}
use Rattle.semantics_safety.specs.WeakNames.{WeakNames}
use Rattle.semantics_safety.proofs.Values.{ValueFits}
use Rattle.semantics_safety.proofs.TermLaws.{Answers, Sees}

number_seen : (s : ExprType) (v : Option Variable) (g : Option StaticReference) → IsNumberType s → VariableFits s v g → ValueFits s (scalar v)
number_seen types.Word v g n (w, e, f) = subst (λ (o : Option Variable). ValueFits types.Word (scalar o)) (sym e) f
number_seen types.Jint v g n (w, e, f) = subst (λ (o : Option Variable). ValueFits types.Jint (scalar o)) (sym e) f
number_seen types.Flag v g n (w, e, f) = subst (λ (o : Option Variable). ValueFits types.Flag (scalar o)) (sym e) f
number_seen s v g n h = absurd n

static_seen : (r : StaticReference) → Answers (static_is_null (Some r))
static_seen Empty = tt
static_seen (Live n) = tt
static_seen (Weakly n) = tt
static_seen Cleared = tt
static_seen Deleted = tt

buffer_seen : (u : _) (b : Buffer) → Answers (variable_is_null (Elements u b))
buffer_seen u NoBuffer = tt
buffer_seen u (Copy n zs) = tt
buffer_seen u (View n) = tt

null_seen : (s : ExprType) (v : Option Variable) (g : Option StaticReference) (p : Point) (x : Identifier) → NullTestFits p x (Some s) → VariableFits s v g → Answers (holds_null v g)
null_seen types.Ref v g p x n (level, r, e) = subst (λ (o : Option Variable). Answers (holds_null o g)) (sym e) tt
null_seen types.Global v g p x n (none, (r, e)) = subst (λ (o : Option Variable). Answers (holds_null o g)) (sym none) (subst (λ (o : Option StaticReference). Answers (static_is_null o)) (sym e) (static_seen r))
null_seen types.FieldId v g p x n (f, e) = subst (λ (o : Option Variable). Answers (holds_null o g)) (sym e) tt
null_seen types.MethodId v g p x n (f, e) = subst (λ (o : Option Variable). Answers (holds_null o g)) (sym e) tt
null_seen (types.Buffer t w) v g p x n (b, e) = subst (λ (o : Option Variable). Answers (holds_null o g)) (sym e) (buffer_seen t b)
null_seen s v g p x n h = absurd n

at_range : (o : Option ℤ) → Answers (in_range o)
at_range None = tt
at_range (Some z) = tt

-- the elements of a variable, one by one
abbrev pub HasElements : Heap → Option Variable → Type 0
HasElements heap v = (zs : List ℤ) × (elements_of heap v ≡ Gives zs)

element_seen : (heap : Heap) (v : Option Variable) (i : ℕ) → HasElements heap v → Answers (outcome_then (λ (zs : List ℤ). in_range (slice_get zs i)) (elements_of heap v))
element_seen heap v i (zs, e) = subst (λ (o : Outcome (List ℤ)). Answers (outcome_then (λ (zs : List ℤ). in_range (slice_get zs i)) o)) (sym e) (at_range (slice_get zs i))

lent_elements : (heap : Heap) (u : _) (critical : Bool) (n : ℕ) (b : Buffer) → IsOf critical n b → HasElements heap (Some (Elements u b))
lent_elements heap u true n b e = subst (λ (c : Buffer). HasElements heap (Some (Elements u c))) (sym e) (numbers_of heap n, refl)
lent_elements heap u false n b (zs, e) = subst (λ (c : Buffer). HasElements heap (Some (Elements u c))) (sym e) (zs, refl)

module _ (ss : Statics) (vs : Variables) (frames : List Frame) (p : Point) (heap : Heap) {weak : WeakNames} {own : Owners} (stands : Stands weak own ss vs frames p) where
  usable_elements : (x : Identifier) → IsUsable p x → HasElements heap (lookup x vs)
  usable_elements x (access, a, known) =
      let shown = stands.shows x _ known in
      let lends = shown.3 in
      subst (HasElements heap) (sym shown.2) (lent_elements heap shown.0 (is_critical access) lends.0 shown.1 lends.3)

  elements_seen : (x : Identifier) (s : ExprType) → type_in p.names x ≡ Some s → ElementsFit p x (Some s) → HasElements heap (lookup x vs)
  elements_seen x (types.Buffer t w) e h = usable_elements x h
  elements_seen x (types.Array t n) e h = let there = stands.types x (types.Array t n) e in subst (HasElements heap) (sym there.1) (there.0, refl)
  elements_seen x s e h = absurd h

  -- a name that fits is known
  well_typed : (x : Identifier) (Fits : Option ExprType → Type 0) (o : Option ExprType) → type_in p.names x ≡ o → Fits o → (Fits None → ⊥) → (s : ExprType) × (type_in p.names x ≡ Some s) × Fits (Some s)
  well_typed x Fits None e h none = absurd (none h)
  well_typed x Fits (Some s) e h none = (s, e, h)

  pub elements_there : (x : Identifier) → ElementsFit p x (type_in p.names x) → HasElements heap (lookup x vs)
  elements_there x h = let known = well_typed x (ElementsFit p x) (type_in p.names x) refl h (λ b. b) in elements_seen x known.0 known.1 known.2

  pub sees : Sees p (seen vs ss heap)
  sees = record {
    number = λ x s e n. number_seen s (lookup x vs) (lookup x ss) n (stands.types x s e);
    is_null = λ x h. let known = well_typed x (NullTestFits p x) (type_in p.names x) refl h (λ b. b) in null_seen known.0 (lookup x vs) (lookup x ss) p x known.2 (stands.types x known.0 known.1);
    element = λ x i h. element_seen heap (lookup x vs) i (elements_there x h);
  }
