-- The type whose signature a text is, by the name in it.
use Rattle.std.proofs.Common.{◌≡◌, ℕ, suc, ◌+◌, Bool, true, false, cond, not, List, [], ◌∷◌, ◌++◌, map, find, Option, Some, None, slice_get, refl, sym, ap, ◌∙◌, arith}
use Rattle.std.specs.Prelude.{◌&&◌, ◌||◌, ◌==◌}
use Rattle.std.specs.Option.{option_map, option_map_or}
use Rattle.std.specs.List.{list_all, enumerate_from, position_from}
use Rattle.std.specs.Str.{bytes_eq}
use Rattle.std.proofs.Math.Bool.{and-true}
use Rattle.std.proofs.lemmas.Bool.Decides.{nat_tests}
use Rattle.std.proofs.lemmas.Iterator.Adapters.{position_from-zero}
use Rattle.std.proofs.lemmas.Slice.Eq.{bytes_eq-Decides}
use Rattle.std.proofs.lemmas.Bool.{and_parts, or_parts, not-true}
use Rattle.base.specs.Bytes.{Identifier, first_passes}
use Rattle.base.specs.Options.{option_filter}
use Rattle.class_rules.specs.Class.{FieldType, ReferenceField, ClassKind, Plain, ArrayOfNumbers, ArrayOfObjects, Class, Classes, class_at, class_kind, class_named, is_plain}
use Rattle.class_rules.specs.Fields.{reference_signature, signature}
use Rattle.classes.specs.Tables.{names_differ, is_named_by_kind, IsTable}
use Rattle.classes.proofs.DistinctNames.{has_name}
use Rattle.classes.proofs.Signatures.{same_last}

abbrev pub has_text : Classes → List ℕ → FieldType → Bool
has_text T text type = bytes_eq (signature T type) text

-- the reference type that has the signature
abbrev pub reference_found : Classes → List ℕ → Option FieldType
reference_found T text = find (has_text T text) (map (λ (c : ℕ × Class). ReferenceField c.0) (enumerate_from 1 T))

-- ---- the first class that passes a test, counted from 1

moved : (p : Class → Bool) (n : ℕ) (U : Classes) → option_map (λ i. i + 1) (position_from p n U) ≡ position_from p (n + 1) U
moved p n [] = refl
moved p n (d ∷ U) = step (p d) (moved p (n + 1) U)
  where
    step : (b : Bool) → option_map (λ i. i + 1) (position_from p (n + 1) U) ≡ position_from p ((n + 1) + 1) U → option_map (λ i. i + 1) (cond b (Some n) (position_from p (n + 1) U)) ≡ cond b (Some (n + 1)) (position_from p ((n + 1) + 1) U)
    step true e = refl
    step false e = e

named-first : (T : Classes) (name : Identifier) → class_named T name ≡ position_from (λ (c : Class). bytes_eq c.name name) 1 T
named-first T name = ap (option_map (λ i. i + 1)) (position_from-zero (λ (c : Class). bytes_eq c.name name) T) ∙ moved (λ (c : Class). bytes_eq c.name name) 0 T

-- the classes from a number on
abbrev IsRest : Classes → ℕ → Classes → Type 0
IsRest T n U = (i : ℕ) (d : Class) → slice_get U i ≡ Some d → class_at T (n + i) ≡ Some d

first_at : (T : Classes) (n : ℕ) (d : Class) (U : Classes) → IsRest T n (d ∷ U) → class_at T n ≡ Some d
first_at T n d U rest = let e : n ≡ n + 0 = omega arith in ap (class_at T) e ∙ rest 0 d refl

further : (T : Classes) (n : ℕ) (d : Class) (U : Classes) → IsRest T n (d ∷ U) → IsRest T (n + 1) U
further T n d U rest i e at = let q : (n + 1) + i ≡ n + suc i = omega arith in ap (class_at T) q ∙ rest (suc i) e at

whole : (T : Classes) → IsRest T 1 T
whole T i d at = let e : 1 + i ≡ suc i = omega arith in ap (class_at T) e ∙ at

kind_at : (T : Classes) (n : ℕ) (d : Class) → class_at T n ≡ Some d → class_kind T n ≡ d.kind
kind_at T n d e = ap (λ (o : Option Class). option_map_or (λ (c : Class). c.kind) o Plain) e

-- the first reference type by the classes
first-reference : (T : Classes) (text : List ℕ) (n : ℕ) (U : Classes) → IsRest T n U
    → find (has_text T text) (map (λ (c : ℕ × Class). ReferenceField c.0) (enumerate_from n U)) ≡ option_map ReferenceField (position_from (λ (d : Class). bytes_eq (reference_signature d.kind d.name) text) n U)
first-reference T text n [] rest = refl
first-reference T text n (d ∷ U) rest =
    let is = first_at T n d U rest in
    let same : has_text T text (ReferenceField n) ≡ bytes_eq (reference_signature d.kind d.name) text =
    ap (λ (o : Option Class). bytes_eq (reference_signature (option_map_or (λ (c : Class). c.kind) o Plain) (option_map_or (λ (c : Class). c.name) o [])) text) is in
    ap (λ b. cond b (Some (ReferenceField n)) (find (has_text T text) (map (λ (c : ℕ × Class). ReferenceField c.0) (enumerate_from (n + 1) U)))) same
    ∙ step (bytes_eq (reference_signature d.kind d.name) text) (first-reference T text (n + 1) U (further T n d U rest))
  where
    step : (b : Bool) → find (has_text T text) (map (λ (c : ℕ × Class). ReferenceField c.0) (enumerate_from (n + 1) U)) ≡ option_map ReferenceField (position_from (λ (e : Class). bytes_eq (reference_signature e.kind e.name) text) (n + 1) U)
        → cond b (Some (ReferenceField n)) (find (has_text T text) (map (λ (c : ℕ × Class). ReferenceField c.0) (enumerate_from (n + 1) U))) ≡ option_map ReferenceField (cond b (Some n) (position_from (λ (e : Class). bytes_eq (reference_signature e.kind e.name) text) (n + 1) U))
    step true e = refl
    step false e = e

-- tests that agree find the same class
same-first : (p q : Class → Bool) (n : ℕ) (U : Classes) → ((d : Class) → is_named_by_kind d ≡ true → p d ≡ q d) → list_all is_named_by_kind U ≡ true → position_from p n U ≡ position_from q n U
same-first p q n [] same h = refl
same-first p q n (d ∷ U) same h =
    let b = and_parts (is_named_by_kind d) (list_all is_named_by_kind U) h in
    λ i. cond (same d b.0 i) (Some n) (same-first p q (n + 1) U same b.1 i)

-- of one name there is one class, of the wanted kind or not
module _ (kind : ClassKind → Bool) (name : Identifier) where
  abbrev wanted : Class → Bool
  wanted d = kind d.kind && bytes_eq d.name name

  nobody : (n : ℕ) (U : Classes) → has_name U name ≡ false → position_from wanted n U ≡ None
  nobody n [] h = refl
  nobody n (d ∷ U) h =
      let p = or_parts (bytes_eq d.name name) (has_name U name) h in
      (λ i. cond (kind d.kind && p.0 i) (Some n) (position_from wanted (n + 1) U)) ∙ ap (λ b. cond b (Some n) (position_from wanted (n + 1) U)) (no (kind d.kind)) ∙ nobody (n + 1) U p.1
    where
      no : (b : Bool) → (b && false) ≡ false
      no true = refl
      no false = refl

  only : (T : Classes) (n : ℕ) (U : Classes) → IsRest T n U → names_differ U ≡ true → position_from wanted n U ≡ option_filter (λ c. kind (class_kind T c)) (position_from (λ (d : Class). bytes_eq d.name name) n U)
  only T n [] rest h = refl
  only T n (d ∷ U) rest h =
      let p = and_parts (not (has_name U d.name)) (names_differ U) h in
      by_name (bytes_eq d.name name) refl (not-true (has_name U d.name) p.0) (only T (n + 1) U (further T n d U rest) p.1)
    where
      others : bytes_eq d.name name ≡ true → has_name U d.name ≡ false → has_name U name ≡ false
      others e h = ap (has_name U) (sym ((bytes_eq-Decides d.name name).0 e)) ∙ h

      of_kind : (k : Bool) → kind (class_kind T n) ≡ k → kind d.kind ≡ k → position_from wanted (n + 1) U ≡ None
          → cond (k && true) (Some n) (position_from wanted (n + 1) U) ≡ cond (kind (class_kind T n)) (Some n) None
      of_kind true e f none = ap (λ b. cond b (Some n) None) (sym e)
      of_kind false e f none = none ∙ ap (λ b. cond b (Some n) None) (sym e)

      by_name : (b : Bool) → bytes_eq d.name name ≡ b → has_name U d.name ≡ false → position_from wanted (n + 1) U ≡ option_filter (λ c. kind (class_kind T c)) (position_from (λ (e : Class). bytes_eq e.name name) (n + 1) U)
          → cond (kind d.kind && b) (Some n) (position_from wanted (n + 1) U) ≡ option_filter (λ c. kind (class_kind T c)) (cond b (Some n) (position_from (λ (e : Class). bytes_eq e.name name) (n + 1) U))
      by_name true e h later = of_kind (kind d.kind) (ap kind (kind_at T n d (first_at T n d U rest))) refl (nobody (n + 1) U (others e h))
      by_name false e h later = ap (λ b. cond b (Some n) (position_from wanted (n + 1) U)) (no (kind d.kind)) ∙ later
        where
          no : (b : Bool) → (b && false) ≡ false
          no true = refl
          no false = refl

-- ---- the two forms of signatures

bracketed : (name rest : List ℕ) → first_passes (λ b. b == 91) name ≡ true → bytes_eq name (76 ∷ rest) ≡ false
bracketed [] rest h = refl
bracketed (b ∷ bs) rest h = let other : (b == 76) ≡ false = grind (arith, nat_tests) in ap (λ t. t && bytes_eq bs rest) other

by-class : (kind : ClassKind) (name of : List ℕ) → (is_plain kind || first_passes (λ b. b == 91) name) ≡ true → bytes_eq (reference_signature kind name) (76 ∷ (of ++ 59 ∷ [])) ≡ (is_plain kind && bytes_eq name of)
by-class Plain name of h = same_last name of 59 59 ∙ and-true (bytes_eq name of)
by-class (ArrayOfNumbers t) name of h = bracketed name (of ++ 59 ∷ []) h
by-class (ArrayOfObjects c) name of h = bracketed name (of ++ 59 ∷ []) h

by-name : (kind : ClassKind) (name text : List ℕ) → ((of : List ℕ) → bytes_eq (76 ∷ (of ++ 59 ∷ [])) text ≡ false) → bytes_eq (reference_signature kind name) text ≡ (not (is_plain kind) && bytes_eq name text)
by-name Plain name text h = h name
by-name (ArrayOfNumbers t) name text h = refl
by-name (ArrayOfObjects c) name text h = refl

module _ (T : Classes) (t : IsTable T) where
  -- the text is the signature of references to objects of a class
  pub found-class : (text of : List ℕ) → text ≡ 76 ∷ (of ++ 59 ∷ []) → reference_found T text ≡ option_map ReferenceField (option_filter (λ c. is_plain (class_kind T c)) (class_named T of))
  found-class text of e =
      ap (reference_found T) e
      ∙ first-reference T (76 ∷ (of ++ 59 ∷ [])) 1 T (whole T)
      ∙ ap (option_map ReferenceField) (same-first (λ (d : Class). bytes_eq (reference_signature d.kind d.name) (76 ∷ (of ++ 59 ∷ []))) (λ (d : Class). is_plain d.kind && bytes_eq d.name of) 1 T (λ d h. by-class d.kind d.name of h) t.named
      ∙ only is_plain of T 1 T (whole T) t.differ
      ∙ ap (option_filter (λ c. is_plain (class_kind T c))) (sym (named-first T of)))

  -- the text is none
  pub found-array : (text : List ℕ) → ((of : List ℕ) → bytes_eq (76 ∷ (of ++ 59 ∷ [])) text ≡ false) → reference_found T text ≡ option_map ReferenceField (option_filter (λ c. not (is_plain (class_kind T c))) (class_named T text))
  found-array text none =
      first-reference T text 1 T (whole T)
      ∙ ap (option_map ReferenceField) (same-first (λ (d : Class). bytes_eq (reference_signature d.kind d.name) text) (λ (d : Class). not (is_plain d.kind) && bytes_eq d.name text) 1 T (λ d h. by-name d.kind d.name text none) t.named
      ∙ only (λ k. not (is_plain k)) text T 1 T (whole T) t.differ
      ∙ ap (option_filter (λ c. not (is_plain (class_kind T c)))) (sym (named-first T text)))
