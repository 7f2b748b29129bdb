-- Each name at the entry of a function has slots of its own.
use Rattle.type_rules.specs.TypeRules.{static_type}
use Rattle.std.proofs.Common.{◌≡◌, ◌≢◌, ℕ, ◌<◌, ◌≤◌, ◌⊎◌, inl, inr, List, [], ◌∷◌, length, Some, None, refl, sym, ap, ◌∙◌, subst, arith}
use Rattle.base.specs.Bytes.{Identifier, lookup}
use Rattle.syntax.specs.declared.declared_type.ParameterType.{ParameterType}
use Rattle.syntax.specs.declared.declared_type.ParameterType.TheVariants.{Jint as IntParameter, Reference as ReferenceParameter}
use Rattle.syntax.specs.declared.declared_type.StaticType.{StaticType}
use Rattle.syntax.specs.declared.declared_type.StaticType.TheVariants.{Reference as ReferenceStatic, Weak as WeakStatic}
use Rattle.syntax.specs.Tree.{Parameter, Function, Static}
use Rattle.type_rules.specs.declared.ty.ExprType.{ExprType}
use Rattle.type_rules.specs.declared.ty.ExprType.TheVariants.{Jint, Ref, Global, Weak}
use Rattle.code.specs.declared.slots.SlotCounts.{SlotCounts}
use Rattle.code_meaning.specs.Layout.{Slot, Known, with_static, parameter_slot, parameter_slots, numbers_after, references_after, numbers_of, references_of, entry_names, entry_layout}
use Rattle.code_meaning.specs.Fits.{IndexWithin, AreApart, IsOwn, IsLaidOut, AreStatics, IsStaticType}
use Rattle.code_meaning.proofs.SlotLaws.{first_or_after}
use Rattle.lower.proofs.EntryLaws.{in_both}

-- ---- statics

pub no_statics : AreStatics []
no_statics x s at = absurd (let e = at in cc)

-- each type of a static is such a type
static_type_type : (t : StaticType) → IsStaticType (static_type t)
static_type_type (ReferenceStatic type) = tt
static_type_type WeakStatic = tt

pub one_static_more : (s : Static) (statics : Known) → AreStatics statics → AreStatics (with_static s statics)
one_static_more s statics h x slot at =
    first_or_after s.name x (record { ty = static_type s.type; index = length statics }) slot statics (IsStaticType slot.ty × (slot.index < length (with_static s statics)))
    (λ same is. subst (λ (t : Slot). IsStaticType t.ty × (t.index < length (with_static s statics))) is (static_type_type s.type, omega arith))
    (λ other found. let k = h x slot found in (k.0, omega (arith, k.1))) at

-- ---- parameters

one_more : (type : ParameterType) (n r : ℕ) → (n ≤ numbers_after type n) × (r ≤ references_after type r)
one_more IntParameter n r = (omega arith, omega arith)
one_more (ReferenceParameter t) n r = (omega arith, omega arith)

counts_grow : (ps : List Parameter) (n r : ℕ) → (n ≤ numbers_of ps n) × (r ≤ references_of ps r)
counts_grow [] n r = (omega arith, omega arith)
counts_grow (p ∷ ps) n r =
    let own = one_more p.type n r in
    let further = counts_grow ps (numbers_after p.type n) (references_after p.type r) in
    (omega arith, omega arith)

-- a number's slot or a reference's, from these places on and in front of those
abbrev Between : (n r n' r' : ℕ) → Slot → Type 0
Between n r n' r' s = ((s.ty ≡ Jint) × (n ≤ s.index) × (s.index < n')) ⊎ ((s.ty ≡ Ref) × (r ≤ s.index) × (s.index < r'))

slot_between : (type : ParameterType) (n r n' r' : ℕ) → numbers_after type n ≤ n' → references_after type r ≤ r' → Between n r n' r' (parameter_slot type n r)
slot_between IntParameter n r n' r' h k = inl (refl, omega arith, omega arith)
slot_between (ReferenceParameter t) n r n' r' h k = inr (refl, omega arith, omega arith)

earlier : (n r m q n' r' : ℕ) (s : Slot) → n ≤ m → r ≤ q → Between m q n' r' s → Between n r n' r' s
earlier n r m q n' r' s h k (inl b) = inl (b.0, omega (arith, b.1), b.2)
earlier n r m q n' r' s h k (inr b) = inr (b.0, omega (arith, b.1), b.2)

parameters_between : (ps : List Parameter) (n r : ℕ) (x : Identifier) (s : Slot) → lookup x (parameter_slots ps n r) ≡ Some s → Between n r (numbers_of ps n) (references_of ps r) s
parameters_between [] n r x s at = absurd (let e = at in cc)
parameters_between (p ∷ ps) n r x s at =
    let own = one_more p.type n r in
    let further = counts_grow ps (numbers_after p.type n) (references_after p.type r) in
    first_or_after p.name x (parameter_slot p.type n r) s (parameter_slots ps (numbers_after p.type n) (references_after p.type r)) (Between n r (numbers_of (p ∷ ps) n) (references_of (p ∷ ps) r) s)
    (λ same is. subst (Between n r (numbers_of (p ∷ ps) n) (references_of (p ∷ ps) r)) is (slot_between p.type n r (numbers_of (p ∷ ps) n) (references_of (p ∷ ps) r) further.0 further.1))
    (λ other h. earlier n r (numbers_after p.type n) (references_after p.type r) (numbers_of (p ∷ ps) n) (references_of (p ∷ ps) r) s own.0 own.1 (parameters_between ps (numbers_after p.type n) (references_after p.type r) x s h)) at

-- ---- slots apart

jint_at : (s : Slot) → s.ty ≡ Jint → s ≡ record { ty = Jint; index = s.index }
jint_at s e = ap (λ (k : ExprType). record { ty = k; index = s.index }) e

ref_at : (s : Slot) → s.ty ≡ Ref → s ≡ record { ty = Ref; index = s.index }
ref_at s e = ap (λ (k : ExprType). record { ty = k; index = s.index }) e

apart_numbers : (i j : ℕ) → i ≢ j → AreApart (record { ty = Jint; index = i }) (record { ty = Jint; index = j })
apart_numbers i j other = record { numbers = λ k p q. other (omega (arith, p.0, p.1, q.0, q.1)); references = λ e e' same. absurd (let c : Jint ≡ Ref = e in cc); fields = λ b b' same. absurd b; buffers = λ b b' same. absurd b }

apart_references : (i j : ℕ) → i ≢ j → AreApart (record { ty = Ref; index = i }) (record { ty = Ref; index = j })
apart_references i j other = record { numbers = λ k p q. absurd (omega (arith, p.0, p.1)); references = λ e e' same. other same; fields = λ b b' same. absurd b; buffers = λ b b' same. absurd b }

apart_number_reference : (i j : ℕ) → AreApart (record { ty = Jint; index = i }) (record { ty = Ref; index = j })
apart_number_reference i j = record { numbers = λ k p q. absurd (omega (arith, q.0, q.1)); references = λ e e' same. absurd (let c : Jint ≡ Ref = e in cc); fields = λ b b' same. absurd b; buffers = λ b b' same. absurd b }

apart_static : (s : Slot) (k : ExprType) (i : ℕ) → IsStaticType k → AreApart s (record { ty = k; index = i })
apart_static s Global i h = record { numbers = λ k p q. absurd (omega (arith, q.0, q.1)); references = λ e e' same. absurd (let c : Global ≡ Ref = e' in cc); fields = λ b b' same. absurd b'; buffers = λ b b' same. absurd b' }
apart_static s Weak i h = record { numbers = λ k p q. absurd (omega (arith, q.0, q.1)); references = λ e e' same. absurd (let c : Weak ≡ Ref = e' in cc); fields = λ b b' same. absurd b'; buffers = λ b b' same. absurd b' }
apart_static s k i h = absurd h

pub apart_back : (s t : Slot) → AreApart s t → AreApart t s
apart_back s t h = record { numbers = λ k p q. h.numbers k q p; references = λ e e' same. h.references e' e (sym same); fields = λ b b' same. h.fields b' b (sym same); buffers = λ b b' same. h.buffers b' b (sym same) }

-- of two slots one is at the place of its kind, and the other after
first_apart : (type : ParameterType) (n r n' r' : ℕ) (t : Slot) → Between (numbers_after type n) (references_after type r) n' r' t → AreApart (parameter_slot type n r) t
first_apart IntParameter n r n' r' t (inl b) = subst (AreApart (record { ty = Jint; index = n })) (sym (jint_at t b.0)) (apart_numbers n t.index (λ e. omega (arith, b.1, e)))
first_apart IntParameter n r n' r' t (inr b) = subst (AreApart (record { ty = Jint; index = n })) (sym (ref_at t b.0)) (apart_number_reference n t.index)
first_apart (ReferenceParameter p) n r n' r' t (inl b) = subst (AreApart (record { ty = Ref; index = r })) (sym (jint_at t b.0)) (apart_back (record { ty = Jint; index = t.index }) (record { ty = Ref; index = r }) (apart_number_reference t.index r))
first_apart (ReferenceParameter p) n r n' r' t (inr b) = subst (AreApart (record { ty = Ref; index = r })) (sym (ref_at t b.0)) (apart_references r t.index (λ e. omega (arith, b.1, e)))

-- what is in front of all others is apart from each
front_own : (y : Identifier) (slot : Slot) (known : Known) → ((z : Identifier) (t : Slot) → lookup z known ≡ Some t → AreApart slot t) → ((x : Identifier) (s : Slot) → lookup x known ≡ Some s → IsOwn known x s) → (x : Identifier) (s : Slot) → lookup x ((y, slot) ∷ known) ≡ Some s → IsOwn ((y, slot) ∷ known) x s
front_own y slot known front own x s at z t at' other =
    first_or_after y x slot s known (AreApart t s)
    (λ same is.
    first_or_after y z slot t known (AreApart t s)
    (λ same' is'. absurd (other (same' ∙ sym same)))
    (λ other' h'. subst (AreApart t) is (apart_back slot t (front z t h'))) at')
    (λ other' h.
    first_or_after y z slot t known (AreApart t s)
    (λ same' is'. subst (λ (q : Slot). AreApart q s) is' (front x s h))
    (λ other'' h'. own x s h z t h' other) at')
    at

parameters_own : (ps : List Parameter) (n r : ℕ) (x : Identifier) (s : Slot) → lookup x (parameter_slots ps n r) ≡ Some s → IsOwn (parameter_slots ps n r) x s
parameters_own [] n r x s at = absurd (let e = at in cc)
parameters_own (p ∷ ps) n r x s at =
    front_own p.name (parameter_slot p.type n r) (parameter_slots ps (numbers_after p.type n) (references_after p.type r))
    (λ z t h. first_apart p.type n r (numbers_of ps (numbers_after p.type n)) (references_of ps (references_after p.type r)) t (parameters_between ps (numbers_after p.type n) (references_after p.type r) z t h))
    (parameters_own ps (numbers_after p.type n) (references_after p.type r)) x s at

class_apart : (n' r' : ℕ) (t : Slot) → Between 0 1 n' r' t → AreApart (record { ty = Ref; index = 0 }) t
class_apart n' r' t (inl b) = subst (AreApart (record { ty = Ref; index = 0 })) (sym (jint_at t b.0)) (apart_back (record { ty = Jint; index = t.index }) (record { ty = Ref; index = 0 }) (apart_number_reference t.index 0))
class_apart n' r' t (inr b) = subst (AreApart (record { ty = Ref; index = 0 })) (sym (ref_at t b.0)) (apart_references 0 t.index (λ e. omega (arith, b.1, e)))

entry_own : (f : Function) (x : Identifier) (s : Slot) → lookup x (entry_names f) ≡ Some s → IsOwn (entry_names f) x s
entry_own f x s at =
    front_own f.class_name (record { ty = Ref; index = 0 }) (parameter_slots f.parameters 0 1)
    (λ z t h. class_apart (numbers_of f.parameters 0) (references_of f.parameters 1) t (parameters_between f.parameters 0 1 z t h))
    (parameters_own f.parameters 0 1) x s at

entry_between : (f : Function) (x : Identifier) (s : Slot) → lookup x (entry_names f) ≡ Some s → Between 0 0 (numbers_of f.parameters 0) (references_of f.parameters 1) s
entry_between f x s at =
    let further = counts_grow f.parameters 0 1 in
    first_or_after f.class_name x (record { ty = Ref; index = 0 }) s (parameter_slots f.parameters 0 1) (Between 0 0 (numbers_of f.parameters 0) (references_of f.parameters 1) s)
    (λ same is. subst (Between 0 0 (numbers_of f.parameters 0) (references_of f.parameters 1)) is (inr (refl, omega arith, omega (arith, further.1))))
    (λ other h. earlier 0 0 0 1 (numbers_of f.parameters 0) (references_of f.parameters 1) s (omega arith) (omega arith) (parameters_between f.parameters 0 1 x s h)) at

-- ---- all names

between_within : (n r n' r' : ℕ) (c : SlotCounts) (s : Slot) → n' ≤ c.numbers → r' ≤ c.references → Between n r n' r' s → IndexWithin c s.ty s.index
between_within n r n' r' c s h k (inl b) = subst (λ (t : ExprType). IndexWithin c t s.index) (sym b.0) (omega (arith, b.2, h))
between_within n r n' r' c s h k (inr b) = subst (λ (t : ExprType). IndexWithin c t s.index) (sym b.0) (omega (arith, b.2, k))

static_within : (statics : Known) (c : SlotCounts) (s : Slot) → length statics ≤ c.statics → IsStaticType s.ty × (s.index < length statics) → IndexWithin c s.ty s.index
static_within statics c s h k = on_type s.ty k.0 (omega (arith, k.1, h))
  where
    on_type : (t : ExprType) → IsStaticType t → s.index < c.statics → IndexWithin c t s.index
    on_type Global is low = low
    on_type Weak is low = low
    on_type t is low = absurd is

static_apart : (statics : Known) (s t : Slot) → IsStaticType t.ty × (t.index < length statics) → AreApart s t
static_apart statics s t h = apart_static s t.ty t.index h.0

module _ (statics : Known) (f : Function) (known : AreStatics statics) where
  one_within : (x : Identifier) (s : Slot) → (lookup x (entry_names f) ≡ Some s) ⊎ ((lookup x (entry_names f) ≡ None) × (lookup x statics ≡ Some s)) → IndexWithin (entry_layout statics f).slots s.ty s.index
  one_within x s (inl h) = between_within 0 0 (numbers_of f.parameters 0) (references_of f.parameters 1) (entry_layout statics f).slots s (omega arith) (omega arith) (entry_between f x s h)
  one_within x s (inr h) = static_within statics (entry_layout statics f).slots s (omega arith) (known x s h.1)

  two_apart : (x y : Identifier) (s t : Slot) → y ≢ x → (lookup x (entry_names f) ≡ Some s) ⊎ ((lookup x (entry_names f) ≡ None) × (lookup x statics ≡ Some s))
      → (lookup y (entry_names f) ≡ Some t) ⊎ ((lookup y (entry_names f) ≡ None) × (lookup y statics ≡ Some t)) → AreApart t s
  two_apart x y s t other (inl h) (inl k) = entry_own f x s h y t k other
  two_apart x y s t other (inr h) k = static_apart statics t s (known x s h.1)
  two_apart x y s t other (inl h) (inr k) = apart_back s t (static_apart statics s t (known y t k.1))

  pub entry_laid : IsLaidOut (entry_layout statics f).known (entry_layout statics f).slots
  entry_laid = record {
    within = λ x s at. one_within x s (in_both x (entry_names f) statics (lookup x (entry_names f)) refl s at);
    own = λ x s at y t at' other. two_apart x y s t other (in_both x (entry_names f) statics (lookup x (entry_names f)) refl s at) (in_both y (entry_names f) statics (lookup y (entry_names f)) refl t at');
  }
