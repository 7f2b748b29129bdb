-- `assignable` is the relation, on a table in which superclasses and the classes of elements come first and are plain.
use Rattle.std.proofs.Common.{◌≡◌, ℕ, zero, suc, ◌≤◌, Bool, true, false, ◌⊎◌, List, ◌∷◌, length, Option, Some, None, refl, sym, ap, ◌∙◌, inl, inr, subst, arith}
use Rattle.std.specs.Prelude.{◌||◌, ◌==◌}
use Rattle.std.specs.Option.{option_map_or}
use Rattle.std.specs.List.{list_any}
use Rattle.std.proofs.lemmas.Bool.Decides.{nat_tests}
use Rattle.std.proofs.lemmas.Option.{slice_get_within}
use Rattle.std.proofs.lemmas.Bool.{or_cases, or_left, or_right}
use Rattle.class_rules.specs.Class.{ClassKind, Plain, ArrayOfNumbers, ArrayOfObjects, Class, Classes, class_at, class_kind, superclass, is_plain, above, ancestry_within, is_subclass, elements_fit, assignable, IsAssignable, Itself, Above, ByElements}
use Rattle.class_rules.specs.Grown.{AssignableIsTheRelation}
use Rattle.class_rules.proofs.GrownTables.{IsBelow, IsOrdered, kind_of, grown_is_ordered}

-- a superclass is that of a class of the table
record IsSuper (T : Classes) (c s : ℕ) : Type 0 where
  class : Class
  is : class_at T c ≡ Some class
  of : class.superclass ≡ Some s

abbrev super_of : Option Class → Option ℕ
super_of o = option_map_or (λ (d : Class). d.superclass) o None

super_at : (T : Classes) (c s : ℕ) → superclass T c ≡ Some s → IsSuper T c s
super_at T c s h = by_class (class_at T c) refl h
  where
    by_class : (o : Option Class) → class_at T c ≡ o → superclass T c ≡ Some s → IsSuper T c s
    by_class None e q = let none : superclass T c ≡ None = ap super_of e in absurd (cc)
    by_class (Some d) e q = let is : superclass T c ≡ d.superclass = ap super_of e in record { class = d; is = e; of = sym is ∙ q }

record IsArray (T : Classes) (c a : ℕ) : Type 0 where
  class : Class
  is : class_at T c ≡ Some class
  of : class.kind ≡ ArrayOfObjects a

array_at : (T : Classes) (c a : ℕ) → class_kind T c ≡ ArrayOfObjects a → IsArray T c a
array_at T c a h = by_class (class_at T c) refl h
  where
    by_class : (o : Option Class) → class_at T c ≡ o → class_kind T c ≡ ArrayOfObjects a → IsArray T c a
    by_class None e q = let none : class_kind T c ≡ Plain = ap kind_of e in absurd (cc)
    by_class (Some d) e q = let is : class_kind T c ≡ d.kind = ap kind_of e in record { class = d; is = e; of = sym is ∙ q }

-- what comes before another is no array of objects
no_array : (T : Classes) (s c a : ℕ) → IsBelow T s c → class_kind T s ≡ ArrayOfObjects a → ⊥
no_array T s c a b h =
    let is : class_kind T s ≡ b.class.kind = ap kind_of b.is in
    let plain : is_plain (ArrayOfObjects a) ≡ true = ap is_plain (sym h ∙ is) ∙ b.plain in
    absurd (cc)

record AreArrays (T : Classes) (k l : ClassKind) : Type 0 where
  first : ℕ
  second : ℕ
  one : k ≡ ArrayOfObjects first
  other : l ≡ ArrayOfObjects second
  fit : is_subclass T first second ≡ true

are_arrays : (T : Classes) (k l : ClassKind) → elements_fit T k l ≡ true → AreArrays T k l
are_arrays T Plain l h = absurd (cc)
are_arrays T (ArrayOfNumbers t) l h = absurd (cc)
are_arrays T (ArrayOfObjects a) Plain h = absurd (cc)
are_arrays T (ArrayOfObjects a) (ArrayOfNumbers t) h = absurd (cc)
are_arrays T (ArrayOfObjects a) (ArrayOfObjects b) h = record { first = a; second = b; one = refl; other = refl; fit = h }

-- ---- what the test finds is related

climbs : (T : Classes) (n c d : ℕ) → list_any (λ a. a == d) (ancestry_within n T c) ≡ true → IsAssignable T c d
climbs T zero c d h = absurd (cc)
climbs T (suc n) c d h = by_test (λ s. climbs T n s d) (c == d) (superclass T c) refl refl h
  where
    by_test : ((s : ℕ) → list_any (λ a. a == d) (ancestry_within n T s) ≡ true → IsAssignable T s d) → (b : Bool) (o : Option ℕ) → (c == d) ≡ b → superclass T c ≡ o → (b || list_any (λ a. a == d) (above (ancestry_within n T) o)) ≡ true → IsAssignable T c d
    by_test up true o e f q = let same : c ≡ d = grind (arith, nat_tests, e) in subst (IsAssignable T c) same (Itself c)
    by_test up false None e f q = absurd (cc)
    by_test up false (Some s) e f q = Above c s d f (up s q)

found : (T : Classes) (c d : ℕ) → assignable T c d ≡ true → IsAssignable T c d
found T c d h =
    elim (or_cases (is_subclass T c d) (elements_fit T (class_kind T c) (class_kind T d)) h) [
      | inl q ↦ climbs T (length T) c d q
      | inr q ↦ let a = are_arrays T (class_kind T c) (class_kind T d) q in ByElements c d a.first a.second a.one a.other (climbs T (length T) a.first a.second a.fit)
    ]

-- ---- what is related is found

module _ (T : Classes) (o : IsOrdered T) where
  before : (c s : ℕ) → superclass T c ≡ Some s → IsBelow T s c
  before c s h = let p = super_at T c s h in o.superclasses c s p.class p.is p.of

  within : (c : ℕ) (d : Class) → class_at T c ≡ Some d → c ≤ length T
  within zero d h = absurd (cc)
  within (suc i) d h = omega (arith, slice_get_within T i d h)

  first : (s c : ℕ) → IsBelow T s c → 1 ≤ s
  first zero c b = let none : class_at T zero ≡ Some b.class = b.is in absurd (cc)
  first (suc i) c b = omega arith

  -- the ancestry of a class is no longer than its number
  settled : (n s : ℕ) → 1 ≤ s → s ≤ n → ancestry_within (suc n) T s ≡ ancestry_within n T s
  settled zero s low high = absurd (omega (arith, low, high))
  settled (suc n) s low high = by_super (settled n) (superclass T s) refl
    where
      by_super : ((p : ℕ) → 1 ≤ p → p ≤ n → ancestry_within (suc n) T p ≡ ancestry_within n T p) → (p : Option ℕ) → superclass T s ≡ p → ancestry_within (suc (suc n)) T s ≡ ancestry_within (suc n) T s
      by_super up None e = ap (λ q. s ∷ above (ancestry_within (suc n) T) q) e ∙ sym (ap (λ q. s ∷ above (ancestry_within n T) q) e)
      by_super up (Some p) e =
          let b = before s p e in
          ap (λ q. s ∷ above (ancestry_within (suc n) T) q) e
          ∙ ap (λ (l : List ℕ). s ∷ l) (up p (first p s b) (omega (arith, b.before, high)))
          ∙ sym (ap (λ q. s ∷ above (ancestry_within n T) q) e)

  -- the table isn't empty
  long : (m : ℕ) × (length T ≡ suc m)
  long = by_length (length T) refl
    where
      by_length : (n : ℕ) → length T ≡ n → (m : ℕ) × (length T ≡ suc m)
      by_length zero e = absurd (omega (arith, e, within 1 o.root.class o.root.is))
      by_length (suc m) e = (m, e)

  itself : (c : ℕ) → is_subclass T c c ≡ true
  itself c =
      let same : (c == c) ≡ true = grind (arith, nat_tests) in
      ap (λ n. list_any (λ a. a == c) (ancestry_within n T c)) long.1 ∙ or_left (c == c) _ same

  one_up : (c s e : ℕ) → superclass T c ≡ Some s → is_subclass T s e ≡ true → is_subclass T c e ≡ true
  one_up c s e h q =
      let b = before c s h in
      let p = super_at T c s h in
      let m = long.0 in
      let low = first s c b in
      let high : s ≤ m = omega (arith, b.before, within c p.class p.is, long.1) in
      let kept : list_any (λ a. a == e) (ancestry_within m T s) ≡ true =
      sym (ap (list_any (λ a. a == e)) (settled m s low high)) ∙ sym (ap (λ n. list_any (λ a. a == e) (ancestry_within n T s)) long.1) ∙ q in
      ap (λ n. list_any (λ a. a == e) (ancestry_within n T c)) long.1
      ∙ ap (λ x. list_any (λ a. a == e) (c ∷ above (ancestry_within m T) x)) h
      ∙ or_right (c == e) (list_any (λ a. a == e) (ancestry_within m T s)) kept

  -- a class that comes before another is assignable to its ancestors alone
  plain_fit : (s c e : ℕ) → IsBelow T s c → assignable T s e ≡ true → is_subclass T s e ≡ true
  plain_fit s c e b h =
      elim (or_cases (is_subclass T s e) (elements_fit T (class_kind T s) (class_kind T e)) h) [
        | inl q ↦ q
        | inr q ↦ let a = are_arrays T (class_kind T s) (class_kind T e) q in absurd (no_array T s c a.first b a.one)
      ]

  finds : (c d : ℕ) → IsAssignable T c d → assignable T c d ≡ true
  finds c d (Itself x) = or_left (is_subclass T c c) _ (itself c)
  finds c d (Above x s y h r) = or_left (is_subclass T c d) _ (one_up c s d h (plain_fit s c d (before c s h) (finds s d r)))
  finds c d (ByElements x y a b k l r) =
      let p = array_at T c a k in
      let q = plain_fit a c b (o.elements c a p.class p.is p.of) (finds a b r) in
      let fit : elements_fit T (class_kind T c) (class_kind T d) ≡ true = ap (λ (x : ClassKind). elements_fit T x (class_kind T d)) k ∙ ap (elements_fit T (ArrayOfObjects a)) l ∙ q in
      or_right (is_subclass T c d) (elements_fit T (class_kind T c) (class_kind T d)) fit

pub assignable_meets : AssignableIsTheRelation
assignable_meets T grown c d = (found T c d, finds T (grown_is_ordered T grown) c d)
