-- unmangle is the inverse of mangle.
use Rattle.std.proofs.Common.{◌≡◌, ℕ, Bool, true, false, not, ◌&&◌, List, [], ◌∷◌, ◌++◌, Option, Some, None, refl, sym, ap, ◌∙◌, subst, true≢false, ◌==◌, bytes_eq, if◌then◌else◌, drop, append-nil, codes, flat_map}
use lib.Pointwise.{bytes_decides}
use Rattle.std.specs.List.{list_all}
use Rattle.std.proofs.lemmas.Bool.{and_parts, and_from, not_from_false, eqb-true}
use Rattle.base.specs.Bytes.{is_letter, is_name_part, first_passes, with_first, split_at}
use Rattle.base.specs.Options.{option_filter}
use Rattle.class_rules.specs.Mangling.{is_simple_name, is_class_name, escaped_byte, mangle, unescaped, after_first, split_last, is_unmangled, unmangle, IsInverse}

-- ---- truth values

-- ---- unescaping what was escaped

is_slash : ℕ → Bool
is_slash c = c == 47

-- no / comes just before a 1
abbrev apart : List ℕ → Bool
apart [] = true
apart (c ∷ rest) = not (c == 47 && first_passes (λ d. d == 49) rest) && apart rest

abbrev plain : ℕ → ℕ
plain c = if c == 95 then 47 else c

step : (c : ℕ) (rest : List ℕ) → (c == 95 && first_passes (λ d. d == 49) rest) ≡ false → unescaped (c ∷ rest) ≡ plain c ∷ unescaped rest
step c [] h = refl
step c (d ∷ rest) h = ap (λ b. if b then 95 ∷ unescaped rest else plain c ∷ unescaped (d ∷ rest)) h

abbrev escaped : List ℕ → List ℕ
escaped p = flat_map escaped_byte p

-- an escaped text begins with a 1 only where the text does
first_escaped : (p : List ℕ) → first_passes (λ d. d == 49) p ≡ false → first_passes (λ d. d == 49) (escaped p) ≡ false
first_escaped [] h = refl
first_escaped (c ∷ rest) h =
    elim (c == 47) as (λ b. first_passes (λ d. d == 49) ((if b then codes "_" else if c == 95 then codes "_1" else c ∷ []) ++ escaped rest) ≡ false) [
      | true ↦ refl
      | false ↦ elim (c == 95) as (λ b. first_passes (λ d. d == 49) ((if b then codes "_1" else c ∷ []) ++ escaped rest) ≡ false) [ true ↦ refl | false ↦ h ]
    ]

one_false : (b : Bool) → not (true && b) ≡ true → b ≡ false
one_false true k = absurd (true≢false (sym k))
one_false false k = refl

back_step : (c : ℕ) (rest : List ℕ) → not (c == 47 && first_passes (λ d. d == 49) rest) ≡ true → unescaped (escaped rest) ≡ rest → unescaped (escaped (c ∷ rest)) ≡ c ∷ rest
back_step c rest free inner = go (c == 47) (c == 95) refl refl
  where
    go : (s u : Bool) → (c == 47) ≡ s → (c == 95) ≡ u → unescaped ((if c == 47 then codes "_" else if c == 95 then codes "_1" else c ∷ []) ++ escaped rest) ≡ c ∷ rest
    go true u es eu =
        ap (λ b. unescaped ((if b then codes "_" else if c == 95 then codes "_1" else c ∷ []) ++ escaped rest)) es
        ∙ step 95 (escaped rest) (first_escaped rest (one_false (first_passes (λ d. d == 49) rest) (ap (λ b. not (b && first_passes (λ d. d == 49) rest)) (sym es) ∙ free)))
        ∙ ap (λ xs. 47 ∷ xs) inner ∙ ap (λ n. n ∷ rest) (sym (eqb-true c 47 es))
    go false true es eu =
        ap (λ b. unescaped ((if b then codes "_" else if c == 95 then codes "_1" else c ∷ []) ++ escaped rest)) es
        ∙ ap (λ b. unescaped ((if b then codes "_1" else c ∷ []) ++ escaped rest)) eu
        ∙ ap (λ xs. 95 ∷ xs) inner ∙ ap (λ n. n ∷ rest) (sym (eqb-true c 95 eu))
    go false false es eu =
        ap (λ b. unescaped ((if b then codes "_" else if c == 95 then codes "_1" else c ∷ []) ++ escaped rest)) es
        ∙ ap (λ b. unescaped ((if b then codes "_1" else c ∷ []) ++ escaped rest)) eu
        ∙ step c (escaped rest) (ap (λ b. b && first_passes (λ d. d == 49) (escaped rest)) eu)
        ∙ ap (λ b. (if b then 47 else c) ∷ unescaped (escaped rest)) eu
        ∙ ap (λ xs. c ∷ xs) inner

back : (p : List ℕ) → apart p ≡ true → unescaped (escaped p) ≡ p
back [] h = refl
back (c ∷ rest) h = let parts = and_parts (not (c == 47 && first_passes (λ d. d == 49) rest)) (apart rest) h in back_step c rest parts.0 (back rest parts.1)

-- ---- the parts of a path

-- a name has no /
abbrev no_slash : List ℕ → Bool
no_slash p = list_all (λ c. not (c == 47)) p

part_no_slash : (c : ℕ) → is_name_part c ≡ true → (c == 47) ≡ false
part_no_slash c h = elim (c == 47) as (λ b. (c == 47) ≡ b → b ≡ false) [ true ↦ λ e. absurd (true≢false (sym h ∙ ap is_name_part (eqb-true c 47 e))) | false ↦ λ e. refl ] refl

all_no_slash : (p : List ℕ) → list_all is_name_part p ≡ true → no_slash p ≡ true
all_no_slash [] h = refl
all_no_slash (c ∷ rest) h = let parts = and_parts (is_name_part c) (list_all is_name_part rest) h in
    and_from (not (c == 47)) (no_slash rest) (not_from_false (c == 47) (part_no_slash c parts.0)) (all_no_slash rest parts.1)

apart_name : (p : List ℕ) → no_slash p ≡ true → apart p ≡ true
apart_name [] h = refl
apart_name (c ∷ rest) h = let parts = and_parts (not (c == 47)) (no_slash rest) h in
    and_from (not (c == 47 && first_passes (λ d. d == 49) rest)) (apart rest) (free (c == 47) (first_passes (λ d. d == 49) rest) parts.0) (apart_name rest parts.1)
  where
    free : (s t : Bool) → not s ≡ true → not (s && t) ≡ true
    free true t k = absurd (true≢false (sym k))
    free false t k = refl

none_in : (p : List ℕ) → no_slash p ≡ true → split_last p ≡ None
none_in [] h = refl
none_in (c ∷ rest) h = let parts = and_parts (not (c == 47)) (no_slash rest) h in
    ap (λ o. after_first c o rest) (none_in rest parts.1) ∙ other (c == 47) parts.0
  where
    other : (b : Bool) → not b ≡ true → ◌≡◌ {A = Option (List ℕ × List ℕ)} (if b then Some ([], rest) else None) None
    other true k = absurd (true≢false (sym k))
    other false k = refl

split_joined : (c m : List ℕ) → no_slash m ≡ true → split_last (c ++ 47 ∷ m) ≡ Some (c, m)
split_joined [] m h = ap (λ o. after_first 47 o m) (none_in m h)
split_joined (x ∷ rest) m h = ap (λ o. after_first x o (rest ++ 47 ∷ m)) (split_joined rest m h)

-- a letter is no 1
letter_not_one : (c : ℕ) → is_letter c ≡ true → (c == 49) ≡ false
letter_not_one c h = elim (c == 49) as (λ b. (c == 49) ≡ b → b ≡ false) [ true ↦ λ e. absurd (true≢false (sym h ∙ ap is_letter (eqb-true c 49 e))) | false ↦ λ e. refl ] refl

first_simple : (p q : List ℕ) → first_passes is_letter p ≡ true → first_passes (λ d. d == 49) (p ++ q) ≡ false
first_simple [] q h = absurd (true≢false (sym h))
first_simple (c ∷ rest) q h = letter_not_one c h

abbrev pieces : List ℕ → List (List ℕ)
pieces p = split_at (λ c. c == 47) p

-- a class name's first piece has a byte put in front of it
some_pieces : (p : List ℕ) → (first : List ℕ) × (others : List (List ℕ)) × (pieces p ≡ first ∷ others)
some_pieces [] = ([], [], refl)
some_pieces (c ∷ rest) = let inner = some_pieces rest in
    elim (c == 47) as (λ b. (first : List ℕ) × (others : List (List ℕ)) × ((if b then [] ∷ pieces rest else with_first c (pieces rest)) ≡ first ∷ others)) [
      | true ↦ ([], pieces rest, refl)
      | false ↦ (c ∷ inner.0, inner.1, ap (with_first c) inner.2)
    ]

-- after a / comes a letter
first_piece : (p q : List ℕ) → list_all is_simple_name (pieces p) ≡ true → first_passes (λ d. d == 49) (p ++ q) ≡ false
first_piece [] q h = absurd (true≢false (sym h))
first_piece (c ∷ rest) q h = let inner = some_pieces rest in
    elim (c == 47) as (λ b. list_all is_simple_name (if b then [] ∷ pieces rest else with_first c (pieces rest)) ≡ true → (c == 49) ≡ false) [
      | true ↦ λ k. absurd (true≢false (sym k))
      | false ↦ λ k. letter_not_one c (and_parts (is_letter c) (list_all is_name_part (c ∷ inner.0)) (and_parts (is_simple_name (c ∷ inner.0)) (list_all is_simple_name inner.1) (ap (λ ps. list_all is_simple_name (with_first c ps)) (sym inner.2) ∙ k)).0).0
    ] h

all_later : (ps : List (List ℕ)) → list_all is_simple_name ps ≡ true → list_all is_simple_name (drop 1 ps) ≡ true
all_later [] h = refl
all_later (p ∷ ps) h = (and_parts (is_simple_name p) (list_all is_simple_name ps) h).1

later_same : (c : ℕ) (ps : List (List ℕ)) → drop 1 (with_first c ps) ≡ drop 1 ps
later_same c [] = refl
later_same c (p ∷ ps) = refl

-- the pieces after a byte and a rest
abbrev pieces_after : Bool → ℕ → List ℕ → List (List ℕ)
pieces_after true c rest = [] ∷ pieces rest
pieces_after false c rest = with_first c (pieces rest)

pieces_is : (b : Bool) (c : ℕ) (rest : List ℕ) → (if b then [] ∷ pieces rest else with_first c (pieces rest)) ≡ pieces_after b c rest
pieces_is true c rest = refl
pieces_is false c rest = refl

apart_step : (x : ℕ) (rest m : List ℕ) (b : Bool) → (x == 47) ≡ b → list_all is_simple_name (drop 1 (pieces_after b x rest)) ≡ true
    → (list_all is_simple_name (drop 1 (pieces rest)) ≡ true → apart (rest ++ 47 ∷ m) ≡ true) → apart (x ∷ rest ++ 47 ∷ m) ≡ true
apart_step x rest m true e l inner =
    and_from (not (x == 47 && first_passes (λ d. d == 49) (rest ++ 47 ∷ m))) (apart (rest ++ 47 ∷ m))
    (ap (λ t. not (t && first_passes (λ d. d == 49) (rest ++ 47 ∷ m))) e ∙ not_from_false (first_passes (λ d. d == 49) (rest ++ 47 ∷ m)) (first_piece rest (47 ∷ m) l))
    (inner (all_later (pieces rest) l))
apart_step x rest m false e l inner =
    and_from (not (x == 47 && first_passes (λ d. d == 49) (rest ++ 47 ∷ m))) (apart (rest ++ 47 ∷ m))
    (ap (λ t. not (t && first_passes (λ d. d == 49) (rest ++ 47 ∷ m))) e)
    (inner (subst (λ ps. list_all is_simple_name ps ≡ true) (later_same x (pieces rest)) l))

apart_path : (c m : List ℕ) → list_all is_simple_name (drop 1 (pieces c)) ≡ true → is_simple_name m ≡ true → apart (c ++ 47 ∷ m) ≡ true
apart_path [] m h k = let parts = and_parts (first_passes is_letter m) (list_all is_name_part m) k in
    and_from (not (first_passes (λ d. d == 49) m)) (apart m)
    (not_from_false (first_passes (λ d. d == 49) m) (subst (λ q. first_passes (λ d. d == 49) q ≡ false) (append-nil m) (first_simple m [] parts.0)))
    (apart_name m (all_no_slash m parts.1))
apart_path (x ∷ rest) m h k =
    apart_step x rest m (x == 47) refl (subst (λ ps. list_all is_simple_name (drop 1 ps) ≡ true) (pieces_is (x == 47) x rest) h) (λ l. apart_path rest m l k)

-- ---- the law

filtered : {A : Type 0} (test : A → Bool) (o : Option A) (x : A) → option_filter test o ≡ Some x → test x ≡ true
filtered test None x h = cc
filtered {A = A} test (Some y) x h = go (test y) refl h
  where
    some_is : (a b : A) → Some a ≡ Some b → a ≡ b
    some_is a b e = cc

    go : (b : Bool) → test y ≡ b → (if b then Some y else None) ≡ Some x → test x ≡ true
    go true e k = ap test (sym (some_is y x k)) ∙ e
    go false e k = cc

kept : {A : Type 0} (test : A → Bool) (x : A) → test x ≡ true → option_filter test (Some x) ≡ Some x
kept test x h = ap (λ b. if b then Some x else None) h

pub inverse : IsInverse
unfolding unmangle
inverse name class method = (
  (λ h. let test = filtered (is_unmangled name) (split_last (unescaped (drop 5 name))) (class, method) h in
      let one = and_parts (is_class_name class && is_simple_name method) (bytes_eq (mangle class method) name) test in
      let two = and_parts (is_class_name class) (is_simple_name method) one.0 in
      (two.0, two.1, sym ((bytes_decides (mangle class method) name).0 one.1))),
  (λ h. subst (λ n. option_filter (is_unmangled n) (split_last (unescaped (drop 5 n))) ≡ Some (class, method)) (sym h.2)
      (ap (λ p. option_filter (is_unmangled (mangle class method)) (split_last p)) (back (class ++ 47 ∷ method) (apart_path class method (all_later (pieces class) h.0) h.1))
      ∙ ap (option_filter (is_unmangled (mangle class method))) (split_joined class method (all_no_slash method (and_parts (first_passes is_letter method) (list_all is_name_part method) h.1).1))
      ∙ kept (is_unmangled (mangle class method)) (class, method)
      (and_from (is_class_name class && is_simple_name method) (bytes_eq (mangle class method) (mangle class method))
      (and_from (is_class_name class) (is_simple_name method) h.0 h.1) ((bytes_decides (mangle class method) (mangle class method)).1 refl)))),
)
