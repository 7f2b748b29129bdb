-- Tables that grow along a list of classes whose names are declared once.
use Rattle.std.proofs.Common.{◌≡◌, ℕ, zero, suc, ◌+◌, ◌<◌, ◌≤◌, Bool, true, false, cond, List, [], ◌∷◌, ◌++◌, length, map, take, drop, get_or, Some, None, slice_get, nat_lt, refl, sym, ap, ◌∙◌, append_assoc, arith}
use Rattle.std.specs.Prelude.{not, ◌&&◌, ◌||◌}
use Rattle.std.specs.Option.{option_map}
use Rattle.std.specs.List.{list_any, enumerate_from, prefix_len}
use Rattle.std.specs.Str.{bytes_eq}
use Rattle.std.proofs.lemmas.Option.{slice_get-map, slice_get-get_or}
use Rattle.std.proofs.lemmas.Bool.Decides.{nat_tests}
use Rattle.std.proofs.lemmas.Bool.{and_parts, or_parts, not-true}
use Rattle.base.specs.Bytes.{Identifier}
use Rattle.class_rules.specs.Class.{ClassKind, Class, Classes, class_named}
use Rattle.class_rules.specs.BuiltIns.{array_class, object_array_class}
use Rattle.classes.specs.BuiltInList.{array_classes}
use Rattle.classes.specs.Tables.{names_differ}
use Rattle.classes.proofs.Places.{same_bytes}

abbrev pub has_name : Classes → Identifier → Bool
has_name T name = list_any (λ (c : Class). bytes_eq c.name name) T

-- a name that no class has names none
pub unnamed : (T : Classes) (name : Identifier) → has_name T name ≡ false → class_named T name ≡ None
unnamed T name h = ap (λ b. option_map (λ i. i + 1) (cond b (Some (prefix_len (λ (c : Class). not (bytes_eq c.name name)) T)) None)) (past (prefix_len (λ (c : Class). not (bytes_eq c.name name)) T) (length T) (whole T h))
  where
    past : (n m : ℕ) → n ≡ m → nat_lt n m ≡ false
    past n m e = grind (arith, nat_tests)

    whole : (U : Classes) → has_name U name ≡ false → prefix_len (λ (c : Class). not (bytes_eq c.name name)) U ≡ length U
    whole [] q = refl
    whole (c ∷ U) q =
        let p = or_parts (bytes_eq c.name name) (has_name U name) q in
        let rest = whole U p.1 in
        let more : 1 + prefix_len (λ (d : Class). not (bytes_eq d.name name)) U ≡ suc (length U) = omega arith in
        ap (λ b. cond (not b) (1 + prefix_len (λ (d : Class). not (bytes_eq d.name name)) U) 0) p.0 ∙ more

-- a class after others has another name than they
other_name : (U : Classes) (c : Class) (R : Classes) → names_differ (U ++ c ∷ R) ≡ true → has_name U c.name ≡ false
other_name [] c R h = refl
other_name (u ∷ U) c R h =
    let p = and_parts (not (has_name (U ++ c ∷ R) u.name)) (names_differ (U ++ c ∷ R)) h in
    let q = among U (not-true (has_name (U ++ c ∷ R) u.name) p.0) in
    ap (λ b. b || has_name U c.name) (same_bytes u.name c.name ∙ q) ∙ other_name U c R p.1
  where
    among : (V : Classes) → has_name (V ++ c ∷ R) u.name ≡ false → bytes_eq c.name u.name ≡ false
    among [] e = (or_parts (bytes_eq c.name u.name) (has_name R u.name) e).0
    among (v ∷ V) e = among V ((or_parts (bytes_eq v.name u.name) (has_name (V ++ c ∷ R) u.name) e).1)

pub differ-front : (U R : Classes) → names_differ (U ++ R) ≡ true → names_differ U ≡ true
differ-front [] R h = refl
differ-front (u ∷ U) R h =
    let p = and_parts (not (has_name (U ++ R) u.name)) (names_differ (U ++ R)) h in
    let q = front U (not-true (has_name (U ++ R) u.name) p.0) in
    ap (λ b. not b && names_differ U) q ∙ differ-front U R p.1
  where
    front : (V : Classes) → has_name (V ++ R) u.name ≡ false → has_name V u.name ≡ false
    front [] e = refl
    front (v ∷ V) e = let p = or_parts (bytes_eq v.name u.name) (has_name (V ++ R) u.name) e in ap (λ b. b || has_name V u.name) p.0 ∙ front V p.1

parts : (L : Classes) (i : ℕ) (c : Class) → slice_get L i ≡ Some c → L ≡ take i L ++ c ∷ drop (suc i) L
parts [] i c at = absurd (cc)
parts (x ∷ L) zero c at = let is : x ≡ c = cc in ap (λ y. y ∷ L) is
parts (x ∷ L) (suc i) c at = ap (λ l. x ∷ l) (parts L i c at)

take-next : (L : Classes) (i : ℕ) (c : Class) → slice_get L i ≡ Some c → take (suc i) L ≡ take i L ++ c ∷ []
take-next [] i c at = absurd (cc)
take-next (x ∷ L) zero c at = let is : x ≡ c = cc in ap (λ y. y ∷ []) is
take-next (x ∷ L) (suc i) c at = ap (λ l. x ∷ l) (take-next L i c at)

module _ (T L : Classes) (i : ℕ) (c : Class) (at : slice_get L i ≡ Some c) where
  -- the next of the list has a name that none has
  pub next_is_new : names_differ (T ++ L) ≡ true → (U : Classes) → U ≡ T ++ take i L → class_named U c.name ≡ None
  next_is_new differ U is =
      let whole : T ++ L ≡ U ++ c ∷ drop (suc i) L = ap (λ l. T ++ l) (parts L i c at) ∙ sym (append_assoc T (take i L) (c ∷ drop (suc i) L)) ∙ ap (λ l. l ++ c ∷ drop (suc i) L) (sym is) in
      unnamed U c.name (other_name U c (drop (suc i) L) (sym (ap names_differ whole) ∙ differ))

  -- with it the table is one longer
  pub next_is_last : (T ++ take i L) ++ c ∷ [] ≡ T ++ take (i + 1) L
  next_is_last = append_assoc T (take i L) (c ∷ []) ∙ ap (λ l. T ++ l) (sym (take-next L i c at)) ∙ ap (λ n. T ++ take n L) (let e : suc i ≡ i + 1 = omega arith in e)

  -- the table after the next of the list was put
  pub next_is_put : (U V : Classes) → U ≡ T ++ take i L → V ≡ U ++ c ∷ [] → V ≡ T ++ take (i + 1) L
  next_is_put U V is put = put ∙ ap (λ u. u ++ c ∷ []) is ∙ next_is_last

-- the same of a class of arrays
pub next_array : (T L : Classes) (i : ℕ) (U V : Classes) (written name : Identifier) (kind : ClassKind) → slice_get L i ≡ Some (array_class name kind) → U ≡ T ++ take i L → written ≡ name → V ≡ U ++ array_class written kind ∷ [] → V ≡ T ++ take (i + 1) L
next_array T L i U V written name kind at is same put = next_is_put T L i (array_class name kind) at U V is (put ∙ ap (λ n. U ++ array_class n kind ∷ []) same)

-- the class at a place of a list in memory
pub at-map : {A : Type 0} (f : A → Class) (xs : List A) (i : ℕ) (d : A) → i < length xs → slice_get (map f xs) i ≡ Some (f (get_or xs i d))
at-map f xs i d h = slice_get-map f xs i ∙ ap (option_map f) (slice_get-get_or xs i d h)

at-arrays : (n : ℕ) (P : Classes) (i : ℕ) (c : Class) → slice_get P i ≡ Some c → slice_get (map object_array_class (enumerate_from n P)) i ≡ Some (object_array_class (n + i, c))
at-arrays n [] i c at = absurd (cc)
at-arrays n (x ∷ P) zero c at =
    let is : x ≡ c = cc in
    let e : n ≡ n + 0 = omega arith in
    ap (λ y. Some (object_array_class (n, y))) is ∙ ap (λ m. Some (object_array_class (m, c))) e
at-arrays n (x ∷ P) (suc i) c at =
    let e : (n + 1) + i ≡ n + suc i = omega arith in
    at-arrays (n + 1) P i c at ∙ ap (λ m. Some (object_array_class (m, c))) e

pub at-array : (P : Classes) (i : ℕ) (c : Class) → slice_get P i ≡ Some c → slice_get (array_classes P) i ≡ Some (object_array_class (i + 1, c))
at-array P i c at = let e : 1 + i ≡ i + 1 = omega arith in at-arrays 1 P i c at ∙ ap (λ m. Some (object_array_class (m, c))) e

-- all of them
pub all-arrays : (n i : ℕ) (P : Classes) → length P ≤ i → take i (map object_array_class (enumerate_from n P)) ≡ map object_array_class (enumerate_from n P)
all-arrays n zero [] h = refl
all-arrays n (suc i) [] h = refl
all-arrays n zero (x ∷ P) h = absurd (omega arith)
all-arrays n (suc i) (x ∷ P) h = ap (λ l. object_array_class (n, x) ∷ l) (all-arrays (n + 1) i P (omega (arith, h)))

-- a class with another name at the end
pub differ-more : (T : Classes) (c : Class) → names_differ T ≡ true → has_name T c.name ≡ false → names_differ (T ++ c ∷ []) ≡ true
differ-more [] c h new = refl
differ-more (d ∷ T) c h new =
    let p = and_parts (not (has_name T d.name)) (names_differ T) h in
    let q = or_parts (bytes_eq d.name c.name) (has_name T c.name) new in
    (λ i. not (absent T (not-true (has_name T d.name) p.0) i) && names_differ (T ++ c ∷ [])) ∙ differ-more T c p.1 q.1
  where
    absent : (U : Classes) → has_name U d.name ≡ false → has_name (U ++ c ∷ []) d.name ≡ false
    absent [] e = ap (λ b. b || false) (same_bytes c.name d.name ∙ (or_parts (bytes_eq d.name c.name) (has_name T c.name) new).0)
    absent (u ∷ U) e = let r = or_parts (bytes_eq u.name d.name) (has_name U d.name) e in (λ i. r.0 i || has_name (U ++ c ∷ []) d.name) ∙ absent U r.1
