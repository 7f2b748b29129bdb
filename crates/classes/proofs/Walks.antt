-- Going on along a layout.
use Rattle.std.proofs.Common.{◌≡◌, ℕ, zero, suc, ◌+◌, ◌<◌, ◌≤◌, false, length, subst, List, [], ◌∷◌, ◌++◌, drop, flat_map, map, reverse, Option, Some, None, slice_get, refl, sym, ap, ◌∙◌, add-one, arith, append_assoc}
use Rattle.std.specs.Prelude.{IsSome, MatchOption}
use Rattle.std.specs.Option.{option_map, option_map_or}
use Rattle.std.proofs.lemmas.List.{append-nil, map-append, reverse-append}
use Rattle.std.proofs.lemmas.Grind.{flat_map-append}
use Rattle.base.proofs.Lists.{drop_next, drop_none}
use Rattle.class_rules.specs.Class.{Class, Classes, Field, class_at, superclass, above, ancestry_within}
use Rattle.class_rules.specs.Fields.{FieldId, own_fields}
use Rattle.classes.specs.FieldViews.{field_id_view}
use Rattle.classes.specs.declared.fields.FieldId.{FieldId as InMemory}

-- the field at a place comes next
pub next_own : (T : Classes) (class place : ℕ) (below : List ℕ) (f : FieldId) → slice_get (own_fields T class) place ≡ Some f
    → drop place (own_fields T class) ++ flat_map (own_fields T) (reverse below) ≡ f ∷ (drop (place + 1) (own_fields T class) ++ flat_map (own_fields T) (reverse below))
next_own T class place below f at =
    ap (λ fs. fs ++ flat_map (own_fields T) (reverse below)) (drop_next (own_fields T class) place f at)

-- where a class has no more, its fields come next that is below it
pub next_class : (T : Classes) (class place next : ℕ) (below rest : List ℕ) → slice_get (own_fields T class) place ≡ None → below ≡ rest ++ next ∷ []
    → drop place (own_fields T class) ++ flat_map (own_fields T) (reverse below) ≡ own_fields T next ++ flat_map (own_fields T) (reverse rest)
next_class T class place next below rest none e =
    ap (λ fs. fs ++ flat_map (own_fields T) (reverse below)) (drop_none (own_fields T class) place none)
    ∙ ap (λ b. flat_map (own_fields T) (reverse b)) e
    ∙ ap (flat_map (own_fields T)) (reverse-append rest (next ∷ []))

-- and where none is below it, there are no more
pub no_class : (T : Classes) (class place : ℕ) (below : List ℕ) → slice_get (own_fields T class) place ≡ None → below ≡ [] → drop place (own_fields T class) ++ flat_map (own_fields T) (reverse below) ≡ []
no_class T class place below none e =
    ap (λ fs. fs ++ flat_map (own_fields T) (reverse below)) (drop_none (own_fields T class) place none)
    ∙ ap (λ b. flat_map (own_fields T) (reverse b)) e

-- what wasn't found isn't there
pub not_there : (o : Option InMemory) (fields : List FieldId) (i : ℕ) → option_map field_id_view o ≡ slice_get fields i → o ≡ None → slice_get fields i ≡ None
not_there o fields i e none = sym e ∙ ap (option_map field_id_view) none

-- the first of none
pub none_first : (fields : List FieldId) → None ≡ slice_get fields 0 → fields ≡ []
none_first [] e = refl
none_first (f ∷ fields) e = absurd (cc)

-- an ancestor more
pub one_more : (T : Classes) (n m a s : ℕ) (front pushed : List ℕ) → m ≡ n + 1 → pushed ≡ front ++ a ∷ [] → Some s ≡ superclass T a → pushed ++ ancestry_within n T s ≡ front ++ ancestry_within m T a
one_more T n zero a s front pushed e p h = absurd (omega (arith, e))
one_more T n (suc m) a s front pushed e p h =
    let same : n ≡ m = omega (arith, e) in
    ap (λ l. l ++ ancestry_within n T s) p
    ∙ append_assoc front (a ∷ []) (ancestry_within n T s)
    ∙ ap (λ k. front ++ (a ∷ ancestry_within k T s)) same
    ∙ ap (λ o. front ++ (a ∷ above (ancestry_within m T) o)) h

-- ---- what is done with the fields that come

-- the field that comes is at the place of which those that are left are known
pub comes_at : {A : Type 0} (xs : List A) (i : ℕ) (x : A) (rest : List A) → drop i xs ≡ x ∷ rest → (slice_get xs i ≡ Some x) × (drop (i + 1) xs ≡ rest)
comes_at {A = A} xs i x rest e = let p = at xs i e in (p.0, ap (λ k. drop k xs) (add-one i) ∙ p.1)
  where
    at : (ys : List A) (j : ℕ) → drop j ys ≡ x ∷ rest → (slice_get ys j ≡ Some x) × (drop (suc j) ys ≡ rest)
    at [] zero h = absurd (cc)
    at [] (suc j) h = absurd (cc)
    at (y ∷ ys) zero h = (let same : y ≡ x = cc in ap (λ z. Some z) same, let same : ys ≡ rest = cc in same)
    at (y ∷ ys) (suc j) h = at ys j h

-- what was made of the fields so far, and of one more
pub made_more : {A B C : Type 0} (view : A → C) (f : B → C) (made : List A) (a : A) (fields rest : List B) (x : B) (whole : List C) → fields ≡ x ∷ rest → view a ≡ f x → map view made ++ map f fields ≡ whole
    → map view (made ++ a ∷ []) ++ map f rest ≡ whole
made_more view f made a fields rest x whole e same so_far =
    ap (λ l. l ++ map f rest) (map-append view made (a ∷ []))
    ∙ append_assoc (map view made) (view a ∷ []) (map f rest)
    ∙ ap (λ c. map view made ++ c ∷ map f rest) same
    ∙ ap (λ l. map view made ++ map f l) (sym e)
    ∙ so_far

-- and of all
pub made_all : {B C : Type 0} (f : B → C) (made : List C) (fields : List B) (whole : List C) → fields ≡ [] → made ++ map f fields ≡ whole → made ≡ whole
made_all f made fields whole e so_far = sym (append-nil made) ∙ ap (λ l. made ++ map f l) (sym e) ∙ so_far

-- where the walk isn't at the end, a field comes
pub comes : {A B : Type 0} (o : Option A) (view : A → B) (xs fields new : List B) (i : ℕ) → MatchOption o ((fields ≡ []) × (new ≡ [])) (λ f. fields ≡ view f ∷ new) → drop i xs ≡ fields → i < length xs → IsSome o
comes (Some f) view xs fields new i step left less = refl
comes {B = B} None view xs fields new i step left less = absurd (at_end xs i (left ∙ step.0) less)
  where
    at_end : (ys : List B) (j : ℕ) → drop j ys ≡ [] → j < length ys → ⊥
    at_end [] j e h = omega (arith, h)
    at_end (y ∷ ys) zero e h = cc
    at_end (y ∷ ys) (suc j) e h = at_end ys j e (omega (arith, h))

-- and it is the one of the place
pub comes_next : {A B : Type 0} (o : Option A) (view : A → B) (xs fields new : List B) (i : ℕ) (f : A) → MatchOption o ((fields ≡ []) × (new ≡ [])) (λ g. fields ≡ view g ∷ new) → drop i xs ≡ fields → o ≡ Some f
    → (slice_get xs i ≡ Some (view f)) × (drop (i + 1) xs ≡ new)
comes_next o view xs fields new i f step left is = comes_at xs i (view f) new (left ∙ subst (λ p. MatchOption p ((fields ≡ []) × (new ≡ [])) (λ g. fields ≡ view g ∷ new)) is step)

-- ---- the path to a class

-- a number past those of all classes has no fields, and no class above
pub past_all : (T : Classes) (n a : ℕ) → length T < a → flat_map (own_fields T) (reverse (ancestry_within n T a)) ≡ []
past_all T zero a h = refl
past_all T (suc n) a h =
    ap (λ (o : Option Class). flat_map (own_fields T) (reverse (a ∷ above (ancestry_within n T) (option_map_or (λ (d : Class). d.superclass) o None)))) (no_class_at T a h)
    ∙ ap (λ (o : Option Class). map (λ (f : Field). record { class = a; is_static = false; field = f }) (option_map_or (λ (d : Class). d.fields) o []) ++ []) (no_class_at T a h)
  where
    past : (U : Classes) (i : ℕ) → length U ≤ i → slice_get U i ≡ None
    past [] zero l = refl
    past [] (suc i) l = refl
    past (d ∷ U) zero l = absurd (omega (arith, l))
    past (d ∷ U) (suc i) l = past U i (omega (arith, l))

    no_class_at : (U : Classes) (i : ℕ) → length U < i → class_at U i ≡ None
    no_class_at U zero l = refl
    no_class_at U (suc i) l = past U i (omega (arith, l))

-- what comes after the front has no fields
pub front_alone : (T : Classes) (front back whole : List ℕ) → front ++ back ≡ whole → flat_map (own_fields T) (reverse back) ≡ [] → flat_map (own_fields T) (reverse front) ≡ flat_map (own_fields T) (reverse whole)
front_alone T front back whole e none =
    let split = ap (flat_map (own_fields T)) (reverse-append front back) ∙ flat_map-append (own_fields T) (reverse back) (reverse front) in
    sym (sym (ap (λ w. flat_map (own_fields T) (reverse w)) e) ∙ split ∙ ap (λ l. l ++ flat_map (own_fields T) (reverse front)) none)

-- a class without superclass is the last
pub with_last : (T : Classes) (n m a : ℕ) (front pushed whole : List ℕ) → m ≡ n + 1 → pushed ≡ front ++ a ∷ [] → None ≡ superclass T a → front ++ ancestry_within m T a ≡ whole → pushed ≡ whole
with_last T n zero a front pushed whole e p h w = absurd (omega (arith, e))
with_last T n (suc m) a front pushed whole e p h w = p ∙ ap (λ o. front ++ (a ∷ above (ancestry_within m T) o)) h ∙ w
