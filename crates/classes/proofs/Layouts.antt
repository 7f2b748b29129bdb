-- The layout of a class: what its superclass has, and then its own fields.
use Rattle.std.proofs.Common.{◌≡◌, ℕ, zero, suc, ◌+◌, ◌-◌, ◌*◌, ◌<◌, ◌≤◌, true, false, List, [], ◌∷◌, ◌++◌, length, map, flat_map, reverse, Option, Some, None, slice_get, refl, sym, ap, ◌∙◌, arith, length-append}
use Rattle.std.specs.Option.{option_map, option_map_or}
use Rattle.std.specs.List.{list_all}
use Rattle.std.proofs.lemmas.Bool.Decides.{nat_tests}
use Rattle.std.proofs.lemmas.Option.{slice_get-map}
use Rattle.std.proofs.lemmas.Grind.{flat_map-append}
use Rattle.std.proofs.lemmas.List.{append-nil, reverse-append, length-map}
use Rattle.std.proofs.lemmas.Bool.{and_parts}
use Rattle.base.proofs.Lists.{get_right}
use Rattle.class_rules.specs.Class.{Field, Class, Classes, class_at, superclass, above, ancestry_within}
use Rattle.class_rules.specs.Fields.{FieldId, own_fields, layout}
use Rattle.classes.specs.FieldViews.{declared_as}
use Rattle.classes.specs.Tables.{has_few_fields, IsTable}
use Rattle.classes.proofs.FoundFields.{identified}

-- the layout by at most this many ancestors
abbrev pub layout_within : ℕ → Classes → ℕ → List FieldId
layout_within n T c = flat_map (own_fields T) (reverse (ancestry_within n T c))

module _ (T : Classes) (c : ℕ) where
  first_last : (rest : List ℕ) → flat_map (own_fields T) (reverse (c ∷ rest)) ≡ flat_map (own_fields T) (reverse rest) ++ own_fields T c
  first_last rest =
      ap (flat_map (own_fields T)) (reverse-append (c ∷ []) rest)
      ∙ flat_map-append (own_fields T) (reverse rest) (c ∷ [])
      ∙ ap (λ l. flat_map (own_fields T) (reverse rest) ++ l) (append-nil (own_fields T c))

  pub layout-above : (n m s : ℕ) → n ≡ m + 1 → superclass T c ≡ Some s → layout_within n T c ≡ layout_within m T s ++ own_fields T c
  layout-above zero m s e h = absurd (omega arith)
  layout-above (suc n) m s e h =
      let same : n ≡ m = omega arith in
      first_last (above (ancestry_within n T) (superclass T c))
      ∙ ap (λ o. flat_map (own_fields T) (reverse (above (ancestry_within n T) o)) ++ own_fields T c) h
      ∙ ap (λ k. layout_within k T s ++ own_fields T c) same

  pub layout-top : (n m : ℕ) → n ≡ m + 1 → superclass T c ≡ None → layout_within n T c ≡ own_fields T c
  layout-top zero m e h = absurd (omega arith)
  layout-top (suc n) m e h =
      first_last (above (ancestry_within n T) (superclass T c))
      ∙ ap (λ o. flat_map (own_fields T) (reverse (above (ancestry_within n T) o)) ++ own_fields T c) h

-- how many fields there are

few_at : (T : Classes) (c : ℕ) → list_all has_few_fields T ≡ true → length (option_map_or (λ (d : Class). d.fields) (class_at T c) []) ≤ 64
few_at T zero h = omega arith
few_at [] (suc i) h = omega arith
few_at (d ∷ T) (suc zero) h = let p = (and_parts (has_few_fields d) (list_all has_few_fields T) h).0 in grind (arith, nat_tests)
few_at (d ∷ T) (suc (suc i)) h = few_at T (suc i) (and_parts (has_few_fields d) (list_all has_few_fields T) h).1

pub own-few : (T : Classes) (c : ℕ) → list_all has_few_fields T ≡ true → length (own_fields T c) ≤ 64
own-few T c h = omega (arith, few_at T c h, length-map (option_map_or (λ (d : Class). d.fields) (class_at T c) []) (identified false c))

pub layout-few : (T : Classes) → list_all has_few_fields T ≡ true → (n c : ℕ) → length (layout_within n T c) ≤ 64 * n
layout-few T h zero c = omega arith
layout-few T h (suc n) c = by_super (superclass T c) refl (layout-few T h n)
  where
    by_super : (o : Option ℕ) → superclass T c ≡ o → ((s : ℕ) → length (layout_within n T s) ≤ 64 * n) → length (layout_within (suc n) T c) ≤ 64 * suc n
    by_super None e up = omega (arith, ap length (layout-top T c (suc n) n (omega arith) e), own-few T c h)
    by_super (Some s) e up = omega (arith, ap length (layout-above T c (suc n) n s (omega arith) e), length-append (layout_within n T s) (own_fields T c), own-few T c h, up s)

pub layout-small : (T : Classes) → IsTable T → (c : ℕ) → length (layout T c) ≤ 16384
layout-small T t c = omega (arith, layout-few T t.few_fields (length T) c, t.few)

-- a class's own fields are part of its layout
pub own-within : (T : Classes) (n m c : ℕ) → n ≡ m + 1 → length (own_fields T c) ≤ length (layout_within n T c)
own-within T n m c e = by_super (superclass T c) refl
  where
    by_super : (o : Option ℕ) → superclass T c ≡ o → length (own_fields T c) ≤ length (layout_within n T c)
    by_super None h = omega (arith, ap length (layout-top T c n m e h))
    by_super (Some s) h = omega (arith, ap length (layout-above T c n m s e h), length-append (layout_within m T s) (own_fields T c))

-- the fields of a class in memory
pub own-length : (T : Classes) (c : ℕ) (fields : List Field) → fields ≡ declared_as T c false → length fields ≡ length (own_fields T c)
own-length T c fields e =
    ap length e
    ∙ sym (length-map (declared_as T c false) (identified false c))

-- the field at a place among a class's own
own-at : (T : Classes) (c : ℕ) (fields : List Field) (i : ℕ) → fields ≡ declared_as T c false → slice_get (own_fields T c) i ≡ option_map (identified false c) (slice_get fields i)
own-at T c fields i e =
    ap (λ fs. slice_get (map (identified false c) fs) i) (sym e)
    ∙ slice_get-map (identified false c) fields i

-- the place lies among a class's own fields
pub at-own : (T : Classes) (n m c place count : ℕ) (fields : List Field) → n ≡ m + 1 → fields ≡ declared_as T c false → count ≡ length (layout_within n T c) → place < count → count - length fields ≤ place
    → slice_get (layout_within n T c) place ≡ option_map (identified false c) (slice_get fields (place - (count - length fields)))
at-own T n m c place count fields e is counted within after = by_super (superclass T c) refl
  where
    own : length fields ≡ length (own_fields T c)
    own = own-length T c fields is

    in_whole : (front : List FieldId) → layout_within n T c ≡ front ++ own_fields T c → slice_get (layout_within n T c) place ≡ option_map (identified false c) (slice_get fields (place - (count - length fields)))
    in_whole front whole =
        let parts = ap length whole in
        let sum = length-append front (own_fields T c) in
        let low : length front ≤ place = omega (arith, own, counted, parts, sum, after, within) in
        let same : place - length front ≡ place - (count - length fields) = omega (arith, own, counted, parts, sum, after, within) in
        ap (λ w. slice_get w place) whole
        ∙ get_right front (own_fields T c) place low
        ∙ ap (slice_get (own_fields T c)) same
        ∙ own-at T c fields (place - (count - length fields)) is

    by_super : (o : Option ℕ) → superclass T c ≡ o → slice_get (layout_within n T c) place ≡ option_map (identified false c) (slice_get fields (place - (count - length fields)))
    by_super None h = in_whole [] (layout-top T c n m e h)
    by_super (Some s) h = in_whole (layout_within m T s) (layout-above T c n m s e h)
