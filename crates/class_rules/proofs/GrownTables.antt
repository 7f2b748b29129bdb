-- In a table that grew from the built-in classes, superclasses and the classes of elements come first and are plain.
use Rattle.std.proofs.Common.{◌≡◌, ℕ, zero, suc, ◌+◌, ◌<◌, ◌≤◌, Bool, true, false, cond, ◌⊎◌, [], ◌∷◌, ◌++◌, length, map, Option, Some, None, refl, sym, ap, ◌∙◌, inl, inr, subst, arith}
use Rattle.std.specs.Prelude.{not, ◌&&◌, ◌||◌, ◌==◌, nat_lt, slice_get}
use Rattle.std.specs.Option.{option_map_or}
use Rattle.std.specs.List.{enumerate_from}
use Rattle.std.proofs.lemmas.Bool.Decides.{nat_tests}
use Rattle.std.proofs.lemmas.Option.{slice_get_within}
use Rattle.std.proofs.lemmas.Bool.{and_parts}
use Rattle.base.specs.Bytes.{Identifier}
use Rattle.class_rules.specs.Class.{ClassKind, Plain, ArrayOfNumbers, ArrayOfObjects, Class, Classes, class_at, class_kind, is_plain}
use Rattle.class_rules.specs.BuiltIns.{built_ins, string_class, class_class, object_array_class}
use Rattle.class_rules.specs.Additions.{new_class, with_changed_class}
use Rattle.class_rules.specs.Grown.{IsGrown, BuiltIns, WithClass, WithField, WithStatic}

-- a class of the table that comes before another, and has no elements
pub record IsBelow (T : Classes) (s c : ℕ) : Type 0 where
  pub before : s < c
  pub class : Class
  pub is : class_at T s ≡ Some class
  pub plain : is_plain class.kind ≡ true

pub record IsOrdered (T : Classes) : Type 0 where
  pub root : IsBelow T 1 2
  pub superclasses : (c s : ℕ) (d : Class) → class_at T c ≡ Some d → d.superclass ≡ Some s → IsBelow T s c
  pub elements : (c a : ℕ) (d : Class) → class_at T c ≡ Some d → d.kind ≡ ArrayOfObjects a → IsBelow T a c

-- ---- the built-in classes

abbrev is_plain_at : Option Class → Bool
is_plain_at None = false
is_plain_at (Some d) = is_plain d.kind

abbrev is_below : Classes → ℕ → ℕ → Bool
is_below T s c = nat_lt s c && is_plain_at (class_at T s)

abbrev super_below : Classes → ℕ → Option ℕ → Bool
super_below T c None = true
super_below T c (Some s) = is_below T s c

abbrev element_below : Classes → ℕ → ClassKind → Bool
element_below T c Plain = true
element_below T c (ArrayOfNumbers t) = true
element_below T c (ArrayOfObjects a) = is_below T a c

abbrev each_below : Classes → ℕ → Classes → Bool
each_below T n [] = true
each_below T n (d ∷ ds) = (super_below T n d.superclass && element_below T n d.kind) && each_below T (n + 1) ds

below_at : (T : Classes) (n : ℕ) (ds : Classes) (i : ℕ) (d : Class) → each_below T n ds ≡ true → slice_get ds i ≡ Some d → (super_below T (n + i) d.superclass ≡ true) × (element_below T (n + i) d.kind ≡ true)
below_at T n [] i d h e = absurd (cc)
below_at T n (x ∷ ds) zero d h e =
    let b = and_parts (super_below T n x.superclass && element_below T n x.kind) (each_below T (n + 1) ds) h in
    let p = and_parts (super_below T n x.superclass) (element_below T n x.kind) b.0 in
    let is : x ≡ d = cc in
    let here : n ≡ n + 0 = omega arith in (
      ap (λ k. super_below T k d.superclass) (sym here) ∙ ap (λ (y : Class). super_below T n y.superclass) (sym is) ∙ p.0,
      ap (λ k. element_below T k d.kind) (sym here) ∙ ap (λ (y : Class). element_below T n y.kind) (sym is) ∙ p.1,
    )
below_at T n (x ∷ ds) (suc i) d h e =
    let b = and_parts (super_below T n x.superclass && element_below T n x.kind) (each_below T (n + 1) ds) h in
    let p = below_at T (n + 1) ds i d b.1 e in
    let here : (n + 1) + i ≡ n + suc i = omega arith in
    (ap (λ k. super_below T k d.superclass) (sym here) ∙ p.0, ap (λ k. element_below T k d.kind) (sym here) ∙ p.1)

is_below_so : (T : Classes) (s c : ℕ) → is_below T s c ≡ true → IsBelow T s c
is_below_so T s c h = by_class (class_at T s) refl ((and_parts (nat_lt s c) (is_plain_at (class_at T s)) h).1)
  where
    first : s < c
    first = let t = (and_parts (nat_lt s c) (is_plain_at (class_at T s)) h).0 in grind (arith, nat_tests, t)

    by_class : (o : Option Class) → class_at T s ≡ o → is_plain_at o ≡ true → IsBelow T s c
    by_class None e p = absurd (cc)
    by_class (Some d) e p = record { before = first; class = d; is = e; plain = p }

built_ins_below : each_below built_ins 1 built_ins ≡ true
unfolding built_ins
built_ins_below = refl

root_below : is_below built_ins 1 2 ≡ true
unfolding built_ins
root_below = refl

built_ins_at : (c : ℕ) (d : Class) → class_at built_ins c ≡ Some d → (super_below built_ins c d.superclass ≡ true) × (element_below built_ins c d.kind ≡ true)
built_ins_at zero d e = absurd (cc)
built_ins_at (suc i) d e =
    let p = below_at built_ins 1 built_ins i d built_ins_below e in
    let here : 1 + i ≡ suc i = omega arith in
    (ap (λ k. super_below built_ins k d.superclass) (sym here) ∙ p.0, ap (λ k. element_below built_ins k d.kind) (sym here) ∙ p.1)

built_ins_ordered : IsOrdered built_ins
built_ins_ordered = record {
  root = is_below_so built_ins 1 2 root_below;
  superclasses = λ c s d at is. is_below_so built_ins s c (ap (super_below built_ins c) (sym is) ∙ (built_ins_at c d at).0);
  elements = λ c a d at is. is_below_so built_ins a c (ap (element_below built_ins c) (sym is) ∙ (built_ins_at c d at).1);
}

-- ---- one more class, and its array class

get_kept : (T X : Classes) (i : ℕ) (d : Class) → slice_get T i ≡ Some d → slice_get (T ++ X) i ≡ Some d
get_kept [] X i d h = absurd (cc)
get_kept (x ∷ T) X zero d h = h
get_kept (x ∷ T) X (suc i) d h = get_kept T X i d h

pub at_kept : (T X : Classes) (c : ℕ) (d : Class) → class_at T c ≡ Some d → class_at (T ++ X) c ≡ Some d
at_kept T X zero d h = absurd (cc)
at_kept T X (suc i) d h = get_kept T X i d h

below_kept : (T X : Classes) (s c : ℕ) → IsBelow T s c → IsBelow (T ++ X) s c
below_kept T X s c b = record { before = b.before; class = b.class; is = at_kept T X s b.class b.is; plain = b.plain }

get_seam : (T X : Classes) (j : ℕ) → slice_get (T ++ X) (length T + j) ≡ slice_get X j
get_seam [] X j = ap (slice_get X) (omega arith)
get_seam (x ∷ T) X j = let e : length (x ∷ T) + j ≡ suc (length T + j) = omega arith in ap (slice_get (x ∷ (T ++ X))) e ∙ get_seam T X j

pub get_cases : (T X : Classes) (i : ℕ) (d : Class) → slice_get (T ++ X) i ≡ Some d → (slice_get T i ≡ Some d) ⊎ ((j : ℕ) × (slice_get X j ≡ Some d) × (i ≡ length T + j))
get_cases [] X i d h = inr (i, h, omega arith)
get_cases (x ∷ T) X zero d h = inl h
get_cases (x ∷ T) X (suc i) d h = elim (get_cases T X i d h) [ inl e ↦ inl e | inr q ↦ inr (q.0, q.1, omega (arith, q.2)) ]

-- the last two classes of the table
abbrev added : Classes → Class → Classes
added T new = new ∷ object_array_class (length T + 1, new) ∷ []

module _ (T : Classes) (name : Identifier) (s : ℕ) (o : IsOrdered T) (e : Class) (is : class_at T s ≡ Some e) (plain : is_plain e.kind ≡ true) where
  abbrev new : Class
  new = new_class name (Some s)

  abbrev next : Classes
  next = T ++ added T new

  at_cases : (c : ℕ) (d : Class) → class_at next c ≡ Some d → (class_at T c ≡ Some d) ⊎ (((d ≡ new) × (c ≡ length T + 1)) ⊎ ((d ≡ object_array_class (length T + 1, new)) × (c ≡ length T + 2)))
  at_cases zero d h = absurd (cc)
  at_cases (suc i) d h = elim (get_cases T (added T new) i d h) [ inl q ↦ inl q | inr q ↦ inr (by_place q.0 q.1 q.2) ]
    where
      by_place : (j : ℕ) → slice_get (added T new) j ≡ Some d → i ≡ length T + j → ((d ≡ new) × (suc i ≡ length T + 1)) ⊎ ((d ≡ object_array_class (length T + 1, new)) × (suc i ≡ length T + 2))
      by_place zero q p = inl (cc, omega (arith, p))
      by_place (suc zero) q p = inr (cc, omega (arith, p))
      by_place (suc (suc j)) q p = absurd (cc)

  within : s ≤ length T
  within = by_number s is
    where
      by_number : (n : ℕ) → class_at T n ≡ Some e → n ≤ length T
      by_number zero h = absurd (cc)
      by_number (suc i) h = omega (arith, slice_get_within T i e h)

  some : 1 ≤ length T
  some = omega (arith, slice_get_within T 0 o.root.class o.root.is)

  new_at : class_at next (length T + 1) ≡ Some new
  new_at = let e : length T + 1 ≡ suc (length T + 0) = omega arith in ap (class_at next) e ∙ get_seam T (added T new) 0

  class_ordered : IsOrdered next
  class_ordered = record {
    root = below_kept T (added T new) 1 2 o.root;
    superclasses = λ c p d at of. elim (at_cases c d at) [
      | inl h ↦ below_kept T (added T new) p c (o.superclasses c p d h of)
      | inr (inl h) ↦
          let same : s ≡ p = cc (ap (λ (x : Class). x.superclass) h.0) in
          subst (λ q. IsBelow next q c) same (record { before = omega (arith, within, h.1); class = e; is = at_kept T (added T new) s e is; plain = plain })
      | inr (inr h) ↦
          let same : 1 ≡ p = cc (ap (λ (x : Class). x.superclass) h.0) in
          subst (λ q. IsBelow next q c) same (record { before = omega (arith, h.1); class = o.root.class; is = at_kept T (added T new) 1 o.root.class o.root.is; plain = o.root.plain })
    ];
    elements = λ c a d at of. elim (at_cases c d at) [
      | inl h ↦ below_kept T (added T new) a c (o.elements c a d h of)
      | inr (inl h) ↦ absurd (cc (ap (λ (x : Class). x.kind) h.0))
      | inr (inr h) ↦
          let same : length T + 1 ≡ a = cc (ap (λ (x : Class). x.kind) h.0) in
          subst (λ q. IsBelow next q c) same (record { before = omega (arith, h.1); class = new; is = new_at; plain = refl })
    ];
  }

-- ---- one more field or static

module _ (number : ℕ) (change : Class → Class) (same_super : (d : Class) → (change d).superclass ≡ d.superclass) (same_kind : (d : Class) → (change d).kind ≡ d.kind) where
  abbrev changed : ℕ → Classes → Classes
  changed n ds = map (λ (d : ℕ × Class). cond (d.0 == number) (change d.1) d.1) (enumerate_from n ds)

  record IsLike (o : Option Class) (d : Class) : Type 0 where
    class : Class
    is : o ≡ Some class
    super : class.superclass ≡ d.superclass
    kind : class.kind ≡ d.kind

  -- each class of the changed table is one of the first table
  from_changed : (n : ℕ) (ds : Classes) (i : ℕ) (d : Class) → slice_get (changed n ds) i ≡ Some d → IsLike (slice_get ds i) d
  from_changed n [] i d h = absurd (cc)
  from_changed n (x ∷ ds) zero d h = by_test (n == number) h
    where
      by_test : (b : Bool) → Some (cond b (change x) x) ≡ Some d → IsLike (Some x) d
      by_test true q = let is : change x ≡ d = cc in record { class = x; is = refl; super = sym (same_super x) ∙ ap (λ (y : Class). y.superclass) is; kind = sym (same_kind x) ∙ ap (λ (y : Class). y.kind) is }
      by_test false q = let is : x ≡ d = cc in record { class = x; is = refl; super = ap (λ (y : Class). y.superclass) is; kind = ap (λ (y : Class). y.kind) is }
  from_changed n (x ∷ ds) (suc i) d h = from_changed (n + 1) ds i d h

  -- and the other way
  to_changed : (n : ℕ) (ds : Classes) (i : ℕ) (d : Class) → slice_get ds i ≡ Some d → IsLike (slice_get (changed n ds) i) d
  to_changed n [] i d h = absurd (cc)
  to_changed n (x ∷ ds) zero d h = by_test (n == number)
    where
      is : x ≡ d
      is = cc

      by_test : (b : Bool) → IsLike (Some (cond b (change x) x)) d
      by_test true = record { class = change x; is = refl; super = same_super x ∙ ap (λ (y : Class). y.superclass) is; kind = same_kind x ∙ ap (λ (y : Class). y.kind) is }
      by_test false = record { class = x; is = refl; super = ap (λ (y : Class). y.superclass) is; kind = ap (λ (y : Class). y.kind) is }
  to_changed n (x ∷ ds) (suc i) d h = to_changed (n + 1) ds i d h

  from_at : (T : Classes) (c : ℕ) (d : Class) → class_at (with_changed_class T number change) c ≡ Some d → IsLike (class_at T c) d
  from_at T zero d h = absurd (cc)
  from_at T (suc i) d h = from_changed 1 T i d h

  to_at : (T : Classes) (c : ℕ) (d : Class) → class_at T c ≡ Some d → IsLike (class_at (with_changed_class T number change) c) d
  to_at T zero d h = absurd (cc)
  to_at T (suc i) d h = to_changed 1 T i d h

  below_changed : (T : Classes) (s c : ℕ) → IsBelow T s c → IsBelow (with_changed_class T number change) s c
  below_changed T s c b =
      let l = to_at T s b.class b.is in
      record { before = b.before; class = l.class; is = l.is; plain = ap is_plain l.kind ∙ b.plain }

  change_ordered : (T : Classes) → IsOrdered T → IsOrdered (with_changed_class T number change)
  change_ordered T o = record {
    root = below_changed T 1 2 o.root;
    superclasses = λ c s d at of. let l = from_at T c d at in below_changed T s c (o.superclasses c s l.class l.is (l.super ∙ of));
    elements = λ c a d at of. let l = from_at T c d at in below_changed T a c (o.elements c a l.class l.is (l.kind ∙ of));
  }

-- ---- all of them

abbrev pub kind_of : Option Class → ClassKind
kind_of o = option_map_or (λ (d : Class). d.kind) o Plain

-- a class that may have subclasses is plain
not_own : (a b c : Bool) → (not a || b || c) ≡ false → a ≡ true
not_own true b c h = refl
not_own false b c h = absurd (cc)

class_there : (T : Classes) (c : ℕ) → 0 < c → c ≤ length T → (d : Class) × (class_at T c ≡ Some d)
class_there T zero low high = absurd (omega arith)
class_there [] (suc i) low high = absurd (omega arith)
class_there (x ∷ T) (suc zero) low high = (x, refl)
class_there (x ∷ T) (suc (suc i)) low high = class_there T (suc i) (omega arith) (omega (arith, high))

pub grown_is_ordered : (T : Classes) → IsGrown T → IsOrdered T
grown_is_ordered T BuiltIns = built_ins_ordered
grown_is_ordered T (WithClass classes name s g low high own) =
    let e = class_there classes s low high in
    let plain : is_plain (class_kind classes s) ≡ true = not_own (is_plain (class_kind classes s)) (s == string_class) (s == class_class) own in
    let kind : is_plain (class_kind classes s) ≡ is_plain e.0.kind = ap (λ (o : Option Class). is_plain (kind_of o)) e.1 in
    class_ordered classes name s (grown_is_ordered classes g) e.0 e.1 (sym kind ∙ plain)
grown_is_ordered T (WithField classes c field g) = change_ordered c (λ d. record d { fields = d.fields ++ field ∷ [] }) (λ d. refl) (λ d. refl) classes (grown_is_ordered classes g)
grown_is_ordered T (WithStatic classes c field g) = change_ordered c (λ d. record d { statics = d.statics ++ field ∷ [] }) (λ d. refl) (λ d. refl) classes (grown_is_ordered classes g)
