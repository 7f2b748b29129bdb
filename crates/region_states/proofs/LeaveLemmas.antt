-- What is left of the variables where a block ends, and what is asked of its own.
use Rattle.std.proofs.Common.{◌≡◌, ℕ, Bool, true, false, not, ◌&&◌, ◌||◌, if◌then◌else◌, List, [], ◌∷◌, ◌++◌, append-nil, length, map, take, drop, filter, refl, sym, ap, ap₂, ◌∙◌, subst, arith, bytes_eq}
use Rattle.std.specs.Prelude.{reverse}
use Rattle.std.specs.List.{AllByRecursion, IsDistinct, list_any, zip}
use Rattle.std.proofs.Math.Nat.{suc_inj}
use Rattle.std.proofs.lemmas.List.{reverse-append}
use Rattle.std.proofs.lemmas.List.Elements.{filter-append}
use Rattle.std.proofs.lemmas.List.Folds.{list_any-append}
use Rattle.std.proofs.lemmas.Map.Keys.{IsDistinct-head, IsDistinct-tail}
use lib.Pointwise.{bytes_decides}
use Rattle.base.specs.Bytes.{Identifier}
use Rattle.region_rules.specs.RegionStates.{RegionState, VariableState}
use Rattle.region_rules.specs.Regions.{has_variable}
use Rattle.region_states.specs.StatesInMemory.{names_of}
use Rattle.region_states.proofs.ScopeLemmas.{any_reverse, any_map}

-- ---- lists

last_if : {A : Type 0} (b : Bool) (x : A) (ys : List A) → reverse ys ++ (if b then x ∷ [] else []) ≡ reverse (if b then x ∷ ys else ys)
last_if true x ys = sym (reverse-append (x ∷ []) ys)
last_if false x ys = append-nil (reverse ys)

filter_reverse : {A : Type 0} (p : A → Bool) (xs : List A) → filter p (reverse xs) ≡ reverse (filter p xs)
filter_reverse p [] = refl
filter_reverse p (x ∷ xs) =
    ap (filter p) (reverse-append (x ∷ []) xs) ∙ filter-append p (reverse xs) (x ∷ []) ∙ ap (λ ys. ys ++ filter p (x ∷ [])) (filter_reverse p xs) ∙ last_if (p x) x (filter p xs)

zip_append : {V : Type 0} (names own : List Identifier) (vs : List V) → length vs ≡ length (names ++ own) → zip (names ++ own) vs ≡ zip names (take (length names) vs) ++ zip own (drop (length names) vs)
zip_append [] own vs h = refl
zip_append (y ∷ names) own [] h = absurd (omega (arith, h))
zip_append (y ∷ names) own (v ∷ vs) h = ap (λ ps. (y, v) ∷ ps) (zip_append names own vs (suc_inj h))

drop_long : {V : Type 0} (names own : List Identifier) (vs : List V) → length vs ≡ length (names ++ own) → length (drop (length names) vs) ≡ length own
drop_long [] own vs h = h
drop_long (y ∷ names) own [] h = absurd (omega (arith, h))
drop_long (y ∷ names) own (v ∷ vs) h = drop_long names own vs (suc_inj h)

-- ---- which names are among others

abbrev is_in : List Identifier → Identifier → Bool
is_in names x = list_any (λ y. bytes_eq y x) names

or_true : (b : Bool) → (b || true) ≡ true
or_true true = refl
or_true false = refl

one_more : (y : Identifier) (names zs : List Identifier) → AllByRecursion (λ z. is_in names z ≡ true) zs → AllByRecursion (λ z. is_in (y ∷ names) z ≡ true) zs
one_more y names [] h = tt
one_more y names (z ∷ zs) h = (ap (λ b. bytes_eq y z || b) h.0 ∙ or_true (bytes_eq y z), one_more y names zs h.1)

-- names are among themselves
all_in : (names : List Identifier) → AllByRecursion (λ z. is_in names z ≡ true) names
all_in [] = tt
all_in (y ∷ names) = (ap (λ b. b || is_in names y) ((bytes_decides y y).1 refl), one_more y names names (all_in names))

after : (P : Identifier → Type 0) (names own : List Identifier) → AllByRecursion P (names ++ own) → AllByRecursion P own
after P [] own h = h
after P (y ∷ names) own h = after P names own h.1

neither : (y : Identifier) (names own : List Identifier) → AllByRecursion (λ z. bytes_eq y z ≡ false) own → AllByRecursion (λ z. is_in names z ≡ false) own → AllByRecursion (λ z. is_in (y ∷ names) z ≡ false) own
neither y names [] h k = tt
neither y names (z ∷ own) h k = (ap₂ (λ a b. a || b) h.0 k.0, neither y names own h.1 k.1)

all_out : (own : List Identifier) → AllByRecursion (λ z. is_in [] z ≡ false) own
all_out [] = tt
all_out (z ∷ own) = (refl, all_out own)

-- where names differ, those after others are not among them
own_out : (names own : List Identifier) → IsDistinct bytes_eq (names ++ own) → AllByRecursion (λ z. is_in names z ≡ false) own
own_out [] own d = all_out own
own_out (y ∷ names) own d =
    neither y names own (after (λ z. bytes_eq y z ≡ false) names own (IsDistinct-head bytes_eq y (names ++ own) d)) (own_out names own (IsDistinct-tail bytes_eq y (names ++ own) d))

has_is : (outer : RegionState) (x : Identifier) → has_variable outer x ≡ is_in (names_of outer) x
has_is outer x = sym (any_reverse (λ y. bytes_eq y x) (map (λ v. v.0) outer.variables) ∙ any_map (λ y. bytes_eq y x) (λ (v : Identifier × VariableState). v.0) outer.variables)

-- ---- variables whose names are asked

module _ (q : Identifier → Bool) where
  all_kept : (names : List Identifier) (vs : List VariableState) → AllByRecursion (λ y. q y ≡ true) names → filter (λ v. q v.0) (zip names vs) ≡ zip names vs
  all_kept [] vs h = refl
  all_kept (y ∷ names) [] h = refl
  all_kept (y ∷ names) (v ∷ vs) h =
      let rest = filter (λ (w : Identifier × VariableState). q w.0) (zip names vs) in
      ap (λ b. if b then (y, v) ∷ rest else rest) h.0 ∙ ap (λ ps. (y, v) ∷ ps) (all_kept names vs h.1)

  none_kept : (names : List Identifier) (vs : List VariableState) → AllByRecursion (λ y. q y ≡ false) names → filter (λ v. q v.0) (zip names vs) ≡ []
  none_kept [] vs h = refl
  none_kept (y ∷ names) [] h = refl
  none_kept (y ∷ names) (v ∷ vs) h =
      let rest = filter (λ (w : Identifier × VariableState). q w.0) (zip names vs) in
      ap (λ b. if b then (y, v) ∷ rest else rest) h.0 ∙ none_kept names vs h.1

  module _ (r : VariableState → Bool) where
    others_none : (names : List Identifier) (vs : List VariableState) → AllByRecursion (λ y. q y ≡ true) names → list_any (λ v. not (q v.0) && r v.1) (zip names vs) ≡ false
    others_none [] vs h = refl
    others_none (y ∷ names) [] h = refl
    others_none (y ∷ names) (v ∷ vs) h = ap₂ (λ a b. not a && r v || b) h.0 (others_none names vs h.1)

    own_any : (names : List Identifier) (vs : List VariableState) → length vs ≡ length names → AllByRecursion (λ y. q y ≡ false) names → list_any (λ v. not (q v.0) && r v.1) (zip names vs) ≡ list_any r vs
    own_any [] [] k h = refl
    own_any [] (v ∷ vs) k h = absurd (omega (arith, k))
    own_any (y ∷ names) [] k h = absurd (omega (arith, k))
    own_any (y ∷ names) (v ∷ vs) k h = ap₂ (λ a b. not a && r v || b) h.0 (own_any names vs (suc_inj k) h.1)

-- ---- where a block ends

module _ (outer : RegionState) (own : List Identifier) (vs : List VariableState) (distinct : IsDistinct bytes_eq (names_of outer ++ own)) (long : length vs ≡ length (names_of outer ++ own)) where
  abbrev first : List VariableState
  first = take (length (names_of outer)) vs

  abbrev later : List VariableState
  later = drop (length (names_of outer)) vs

  asked_in : (b : Bool) (names : List Identifier) → AllByRecursion (λ y. is_in (names_of outer) y ≡ b) names → AllByRecursion (λ y. has_variable outer y ≡ b) names
  asked_in b [] h = tt
  asked_in b (y ∷ names) h = (has_is outer y ∙ h.0, asked_in b names h.1)

  outside : AllByRecursion (λ y. has_variable outer y ≡ true) (names_of outer)
  outside = asked_in true (names_of outer) (all_in (names_of outer))

  inside : AllByRecursion (λ y. has_variable outer y ≡ false) own
  inside = asked_in false own (own_out (names_of outer) own distinct)

  left_parts : filter (λ v. has_variable outer v.0) (reverse (zip (names_of outer ++ own) vs)) ≡ reverse (zip (names_of outer) first)
  left_parts =
      filter_reverse (λ v. has_variable outer v.0) (zip (names_of outer ++ own) vs)
      ∙ ap reverse
      (ap (filter (λ v. has_variable outer v.0)) (zip_append (names_of outer) own vs long)
      ∙ filter-append (λ v. has_variable outer v.0) (zip (names_of outer) first) (zip own later)
      ∙ ap₂ (λ ps qs. ps ++ qs) (all_kept (has_variable outer) (names_of outer) first outside) (none_kept (has_variable outer) own later inside)
      ∙ append-nil (zip (names_of outer) first))

  own_parts : (r : VariableState → Bool) → list_any (λ v. not (has_variable outer v.0) && r v.1) (reverse (zip (names_of outer ++ own) vs)) ≡ list_any r later
  own_parts r =
      any_reverse (λ v. not (has_variable outer v.0) && r v.1) (zip (names_of outer ++ own) vs)
      ∙ ap (list_any (λ v. not (has_variable outer v.0) && r v.1)) (zip_append (names_of outer) own vs long)
      ∙ list_any-append (λ v. not (has_variable outer v.0) && r v.1) (zip (names_of outer) first) (zip own later)
      ∙ ap₂ (λ a b. a || b) (others_none (has_variable outer) r (names_of outer) first outside) (own_any (has_variable outer) r own later (drop_long (names_of outer) own vs long) inside)

module _ (outer : RegionState) (own names : List Identifier) (vs : List VariableState) (count : ℕ) (distinct : IsDistinct bytes_eq names) (long : length vs ≡ length names) (are : names ≡ names_of outer ++ own) (is : count ≡ length (names_of outer)) where
  along : IsDistinct bytes_eq (names_of outer ++ own)
  along = subst (IsDistinct bytes_eq) are distinct

  -- the variables of the outer state are the first
  pub left_is : filter (λ v. has_variable outer v.0) (reverse (zip names vs)) ≡ reverse (zip (names_of outer) (take count vs))
  left_is =
      ap (λ ns. filter (λ v. has_variable outer v.0) (reverse (zip ns vs))) are ∙ left_parts outer own vs along (long ∙ ap length are) ∙ ap (λ n. reverse (zip (names_of outer) (take n vs))) (sym is)

  -- those of the block itself come after them
  pub others_are : (r : VariableState → Bool) → list_any (λ v. not (has_variable outer v.0) && r v.1) (reverse (zip names vs)) ≡ list_any r (drop count vs)
  others_are r =
      ap (λ ns. list_any (λ v. not (has_variable outer v.0) && r v.1) (reverse (zip ns vs))) are ∙ own_parts outer own vs along (long ∙ ap length are) r ∙ ap (λ n. list_any r (drop n vs)) (sym is)
