-- Names with what is known of each: what is found of a name, and what a change leaves.
use Rattle.std.proofs.Common.{◌≡◌, ℕ, zero, suc, ◌+◌, ◌<◌, Bool, true, false, not, ◌||◌, if◌then◌else◌, cond, List, [], ◌∷◌, ◌++◌, length, map, get_or, position, Option, Some, None, refl, sym, ap, ap₂, ◌∙◌, subst, arith, nat_lt, bytes_eq}
use Rattle.std.specs.Prelude.{reverse}
use Rattle.std.specs.List.{AllByRecursion, IsDistinct, list_any, prefix_len, slice_get, zip}
use Rattle.std.specs.Option.{option_and_then, option_map, option_or}
use Rattle.std.proofs.Math.ListN.{set}
use Rattle.std.proofs.Math.Nat.{suc_inj}
use Rattle.std.proofs.lemmas.Bool.{lt-ltb, le-ltb, ltb-true, ltb-false}
use Rattle.std.proofs.lemmas.List.{map-append, reverse-append, reverse-reverse}
use Rattle.std.proofs.lemmas.List.Sorted.{IsPermutation-reverse, list_any-IsPermutation}
use Rattle.std.proofs.lemmas.Map.Keys.{IsDistinct-head, IsDistinct-tail}
use Rattle.std.proofs.lemmas.Slice.Zip.{firsts-zip}
use lib.Pointwise.{bytes_decides}
use Rattle.base.specs.Bytes.{Identifier, lookup}

-- ---- lists

pub map_reverse : {A B : Type 0} (f : A → B) (xs : List A) → map f (reverse xs) ≡ reverse (map f xs)
map_reverse f [] = refl
map_reverse f (x ∷ xs) =
    ap (map f) (reverse-append (x ∷ []) xs) ∙ map-append f (reverse xs) (x ∷ []) ∙ ap (λ ys. ys ++ f x ∷ []) (map_reverse f xs) ∙ sym (reverse-append (f x ∷ []) (map f xs))

pub any_reverse : {A : Type 0} (p : A → Bool) (xs : List A) → list_any p (reverse xs) ≡ list_any p xs
any_reverse p xs = sym (list_any-IsPermutation p xs (reverse xs) (IsPermutation-reverse xs))

pub any_map : {A B : Type 0} (p : B → Bool) (f : A → B) (xs : List A) → list_any p (map f xs) ≡ list_any (λ x. p (f x)) xs
any_map p f [] = refl
any_map p f (x ∷ xs) = ap (λ b. p (f x) || b) (any_map p f xs)

-- ---- the number of a name

abbrev place : Identifier → List Identifier → Option ℕ
place x [] = None
place x (y ∷ names) = if bytes_eq x y then Some 0 else option_map suc (place x names)

later : (b : Bool) (k : ℕ) → cond b (Some (suc k)) None ≡ option_map suc (cond b (Some k) None)
later true k = refl
later false k = refl

both_more : (k n : ℕ) → nat_lt (suc k) (suc n) ≡ nat_lt k n
both_more k n = by (nat_lt k n) refl
  where
    by : (b : Bool) → nat_lt k n ≡ b → nat_lt (suc k) (suc n) ≡ nat_lt k n
    by true e = lt-ltb (suc k) (suc n) (omega (arith, ltb-true k n e)) ∙ sym e
    by false e = le-ltb (suc k) (suc n) (omega (arith, ltb-false k n e)) ∙ sym e

next : (b : Bool) (k n : ℕ) → cond (nat_lt (cond (not b) (1 + k) 0) (suc n)) (Some (cond (not b) (1 + k) 0)) None ≡ (if b then Some 0 else option_map suc (cond (nat_lt k n) (Some k) None))
next true k n = ap (λ c. cond c (Some 0) None) (lt-ltb 0 (suc n) (omega arith))
next false k n = by_sum (1 + k) (omega arith)
  where
    by_sum : (m : ℕ) → suc k ≡ m → cond (nat_lt m (suc n)) (Some m) None ≡ option_map suc (cond (nat_lt k n) (Some k) None)
    by_sum m e = subst (λ m. cond (nat_lt m (suc n)) (Some m) None ≡ option_map suc (cond (nat_lt k n) (Some k) None)) e (ap (λ c. cond c (Some (suc k)) None) (both_more k n) ∙ later (nat_lt k n) k)

place_is : (x : Identifier) (names : List Identifier) → position (bytes_eq x) names ≡ place x names
place_is x [] = refl
place_is x (y ∷ names) =
    next (bytes_eq x y) (prefix_len (λ z. not (bytes_eq x z)) names) (length names) ∙ ap (λ (o : Option ℕ). if bytes_eq x y then Some 0 else option_map suc o) (place_is x names)

-- ---- names that differ

-- the first of two names is found, and no name after it is the same
others : (x y : Identifier) (names : List Identifier) → bytes_eq x y ≡ true → IsDistinct bytes_eq (y ∷ names) → AllByRecursion (λ z. bytes_eq x z ≡ false) names
others x y names e d = subst (λ w. AllByRecursion (λ z. bytes_eq w z ≡ false) names) (sym ((bytes_decides x y).0 e)) (IsDistinct-head bytes_eq y names d)

module _ {V : Type 0} where
  absent : (x : Identifier) (names : List Identifier) (vs : List V) → AllByRecursion (λ z. bytes_eq x z ≡ false) names → lookup x (zip names vs) ≡ None
  absent x [] vs h = refl
  absent x (y ∷ names) [] h = refl
  absent x (y ∷ names) (v ∷ vs) h = ap (λ b. if b then Some v else lookup x (zip names vs)) h.0 ∙ absent x names vs h.1

  -- ---- what is found of a name

  lookup_append : (x : Identifier) (ps qs : List (Identifier × V)) → lookup x (ps ++ qs) ≡ option_or (lookup x ps) (lookup x qs)
  lookup_append x [] qs = refl
  lookup_append x ((y, v) ∷ ps) qs = ap (λ (o : Option V). if bytes_eq x y then Some v else o) (lookup_append x ps qs) ∙ either (bytes_eq x y) v (lookup x ps) (lookup x qs)
    where
      either : (b : Bool) (v : V) (o r : Option V) → (if b then Some v else option_or o r) ≡ option_or (if b then Some v else o) r
      either true v o r = refl
      either false v o r = refl

  none_after : (o : Option V) → option_or o None ≡ o
  none_after None = refl
  none_after (Some v) = refl

  -- in either order
  reversed : (x : Identifier) (names : List Identifier) (vs : List V) → IsDistinct bytes_eq names → lookup x (reverse (zip names vs)) ≡ lookup x (zip names vs)
  reversed x [] vs d = refl
  reversed x (y ∷ names) [] d = refl
  reversed x (y ∷ names) (v ∷ vs) d =
      ap (lookup x) (reverse-append ((y, v) ∷ []) (zip names vs)) ∙ lookup_append x (reverse (zip names vs)) ((y, v) ∷ [])
      ∙ ap (λ (o : Option V). option_or o (if bytes_eq x y then Some v else None)) (reversed x names vs (IsDistinct-tail bytes_eq y names d))
      ∙ by (bytes_eq x y) (λ e. absent x names vs (others x y names e d))
    where
      by : (b : Bool) → (b ≡ true → lookup x (zip names vs) ≡ None) → option_or (lookup x (zip names vs)) (if b then Some v else None) ≡ (if b then Some v else lookup x (zip names vs))
      by true none = ap (λ (o : Option V). option_or o (Some v)) (none refl)
      by false none = none_after (lookup x (zip names vs))

  found : (x : Identifier) (names : List Identifier) (vs : List V) → length vs ≡ length names → lookup x (zip names vs) ≡ option_and_then (slice_get vs) (place x names)
  found x [] vs h = refl
  found x (y ∷ names) [] h = absurd (omega (arith, h))
  found x (y ∷ names) (v ∷ vs) h = by (bytes_eq x y) (place x names) (lookup x (zip names vs)) (found x names vs (suc_inj h))
    where
      by : (b : Bool) (o : Option ℕ) (r : Option V) → r ≡ option_and_then (slice_get vs) o → (if b then Some v else r) ≡ option_and_then (slice_get (v ∷ vs)) (if b then Some 0 else option_map suc o)
      by true o r e = refl
      by false None r e = e
      by false (Some n) r e = e

  -- what is known of a name is what stands at its number
  pub lookup_is : (x : Identifier) (names : List Identifier) (vs : List V) → IsDistinct bytes_eq names → length vs ≡ length names
      → lookup x (reverse (zip names vs)) ≡ option_and_then (slice_get vs) (position (bytes_eq x) names)
  lookup_is x names vs d h = reversed x names vs d ∙ found x names vs h ∙ ap (option_and_then (slice_get vs)) (sym (place_is x names))

  -- ---- what a change leaves

  module _ (f : V → V) (x : Identifier) where
    abbrev change : Identifier × V → Identifier × V
    change v = (v.0, if bytes_eq x v.0 then f v.1 else v.1)

    abbrev change_at : Option ℕ → List V → List V
    change_at None vs = vs
    change_at (Some n) [] = []
    change_at (Some zero) (v ∷ vs) = f v ∷ vs
    change_at (Some (suc n)) (v ∷ vs) = v ∷ change_at (Some n) vs

    unchanged : (names : List Identifier) (vs : List V) → AllByRecursion (λ z. bytes_eq x z ≡ false) names → map change (zip names vs) ≡ zip names vs
    unchanged [] vs h = refl
    unchanged (y ∷ names) [] h = refl
    unchanged (y ∷ names) (v ∷ vs) h = ap₂ (λ b (ps : List (Identifier × V)). (y, if b then f v else v) ∷ ps) h.0 (unchanged names vs h.1)

    changed : (names : List Identifier) (vs : List V) → IsDistinct bytes_eq names → map change (zip names vs) ≡ zip names (change_at (place x names) vs)
    changed [] vs d = refl
    changed (y ∷ names) [] d = sym (no_values (if bytes_eq x y then Some 0 else option_map suc (place x names)))
      where
        no_values : (o : Option ℕ) → zip (y ∷ names) (change_at o []) ≡ []
        no_values None = refl
        no_values (Some n) = refl
    changed (y ∷ names) (v ∷ vs) d = by (bytes_eq x y) (place x names) (λ e. unchanged names vs (others x y names e d)) (changed names vs (IsDistinct-tail bytes_eq y names d))
      where
        by : (b : Bool) (o : Option ℕ) → (b ≡ true → map change (zip names vs) ≡ zip names vs) → map change (zip names vs) ≡ zip names (change_at o vs)
            → (y, if b then f v else v) ∷ map change (zip names vs) ≡ zip (y ∷ names) (change_at (if b then Some 0 else option_map suc o) (v ∷ vs))
        by true o own rest = ap (λ (ps : List (Identifier × V)). (y, f v) ∷ ps) (own refl)
        by false None own rest = ap (λ (ps : List (Identifier × V)). (y, v) ∷ ps) rest
        by false (Some n) own rest = ap (λ (ps : List (Identifier × V)). (y, v) ∷ ps) rest

    set_at : (vs : List V) (n : ℕ) (d : V) → n < length vs → change_at (Some n) vs ≡ set vs n (f (get_or vs n d))
    set_at [] n d h = absurd (omega (arith, h))
    set_at (v ∷ vs) zero d h = refl
    set_at (v ∷ vs) (suc n) d h = ap (λ (ws : List V). v ∷ ws) (set_at vs n d (omega (arith, h)))

    -- a name's change writes at its number
    pub changed_at : (names : List Identifier) (vs : List V) (n : ℕ) (d : V) → IsDistinct bytes_eq names → n < length vs → Some n ≡ position (bytes_eq x) names
        → map change (reverse (zip names vs)) ≡ reverse (zip names (set vs n (f (get_or vs n d))))
    changed_at names vs n d distinct h e =
        map_reverse change (zip names vs)
        ∙ ap reverse (changed names vs distinct ∙ ap (λ (o : Option ℕ). zip names (change_at o vs)) (sym (place_is x names) ∙ sym e) ∙ ap (zip names) (set_at vs n d h))

    -- a name without a number has none
    pub changed_none : (names : List Identifier) (vs : List V) → IsDistinct bytes_eq names → None ≡ position (bytes_eq x) names → map change (reverse (zip names vs)) ≡ reverse (zip names vs)
    changed_none names vs distinct e =
        map_reverse change (zip names vs) ∙ ap reverse (changed names vs distinct ∙ ap (λ (o : Option ℕ). zip names (change_at o vs)) (sym (place_is x names) ∙ sym e))

  each : (f : V → V) (names : List Identifier) (vs : List V) → map (λ (v : Identifier × V). (v.0, f v.1)) (zip names vs) ≡ zip names (map f vs)
  each f [] vs = refl
  each f (y ∷ names) [] = refl
  each f (y ∷ names) (v ∷ vs) = ap (λ (ps : List (Identifier × V)). (y, f v) ∷ ps) (each f names vs)

  -- a change of all
  pub changed_each : (f : V → V) (names : List Identifier) (vs : List V) → map (λ (v : Identifier × V). (v.0, f v.1)) (reverse (zip names vs)) ≡ reverse (zip names (map f vs))
  changed_each f names vs = map_reverse (λ (v : Identifier × V). (v.0, f v.1)) (zip names vs) ∙ ap reverse (each f names vs)

  -- ---- one more, and all of their names

  zip_push : (names : List Identifier) (vs : List V) (x : Identifier) (v : V) → length vs ≡ length names → zip (names ++ x ∷ []) (vs ++ v ∷ []) ≡ zip names vs ++ (x, v) ∷ []
  zip_push [] [] x v h = refl
  zip_push [] (w ∷ vs) x v h = absurd (omega (arith, h))
  zip_push (y ∷ names) [] x v h = absurd (omega (arith, h))
  zip_push (y ∷ names) (w ∷ vs) x v h = ap (λ (ps : List (Identifier × V)). (y, w) ∷ ps) (zip_push names vs x v (suc_inj h))

  pub pushed : (names : List Identifier) (vs : List V) (x : Identifier) (v : V) → length vs ≡ length names → reverse (zip (names ++ x ∷ []) (vs ++ v ∷ [])) ≡ (x, v) ∷ reverse (zip names vs)
  pushed names vs x v h = ap reverse (zip_push names vs x v h) ∙ reverse-append (zip names vs) ((x, v) ∷ [])

  pub names_are : (names : List Identifier) (vs : List V) → length vs ≡ length names → reverse (map (λ (v : Identifier × V). v.0) (reverse (zip names vs))) ≡ names
  names_are names vs h = ap reverse (map_reverse (λ (v : Identifier × V). v.0) (zip names vs)) ∙ reverse-reverse (map (λ (v : Identifier × V). v.0) (zip names vs)) ∙ firsts-zip names vs h

  -- ---- what is asked of all

  any_zip : (p : V → Bool) (names : List Identifier) (vs : List V) → length vs ≡ length names → list_any (λ (v : Identifier × V). p v.1) (zip names vs) ≡ list_any p vs
  any_zip p [] [] h = refl
  any_zip p [] (v ∷ vs) h = absurd (omega (arith, h))
  any_zip p (y ∷ names) [] h = absurd (omega (arith, h))
  any_zip p (y ∷ names) (v ∷ vs) h = ap (λ b. p v || b) (any_zip p names vs (suc_inj h))

  pub any_is : (p : V → Bool) (names : List Identifier) (vs : List V) → length vs ≡ length names → list_any (λ (v : Identifier × V). p v.1) (reverse (zip names vs)) ≡ list_any p vs
  any_is p names vs h = any_reverse (λ (v : Identifier × V). p v.1) (zip names vs) ∙ any_zip p names vs h
