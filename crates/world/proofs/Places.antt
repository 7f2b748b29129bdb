-- The first place at which a test passes.
use Rattle.std.proofs.Common.{◌≡◌, ℕ, suc, ◌+◌, ◌<◌, Bool, true, false, cond, List, [], ◌∷◌, ◌++◌, length, Option, Some, None, refl, sym, ap, ◌∙◌, arith}
use Rattle.std.specs.Prelude.{not, nat_lt, position}
use Rattle.std.specs.Option.{option_map}
use Rattle.std.specs.List.{position_or_len}
use Rattle.std.proofs.lemmas.Bool.Decides.{nat_tests}

-- the first place at which a test passes
abbrev pub found : {X : Type 0} → (X → Bool) → List X → Option ℕ
found p [] = None
found p (x ∷ xs) = cond (p x) (Some 0) (option_map (λ (i : ℕ). suc i) (found p xs))

less_suc : (k n : ℕ) → nat_lt (1 + k) (suc n) ≡ nat_lt k n
less_suc k n = grind (arith, nat_tests)

zero_less : (n : ℕ) → nat_lt 0 (suc n) ≡ true
zero_less n = grind (arith, nat_tests)

within : (k n : ℕ) → Option ℕ
within k n = cond (nat_lt k n) (Some k) None

one_later : (b : Bool) (k : ℕ) → cond b (Some (1 + k)) None ≡ option_map (λ (i : ℕ). suc i) (cond b (Some k) None)
one_later true k = ap Some (omega arith)
one_later false k = refl

placed : (b : Bool) (k n : ℕ) (o : Option ℕ) → cond (nat_lt k n) (Some k) None ≡ o → cond (nat_lt (cond (not b) (1 + k) 0) (suc n)) (Some (cond (not b) (1 + k) 0)) None ≡ cond b (Some 0) (option_map (λ (i : ℕ). suc i) o)
placed true k n o h = ap (λ b. cond b (Some 0) None) (zero_less n)
placed false k n o h = ap (λ b. cond b (Some (1 + k)) None) (less_suc k n) ∙ one_later (nat_lt k n) k ∙ ap (option_map (λ (i : ℕ). suc i)) h

pub position-found : {X : Type 0} (p : X → Bool) (xs : List X) → position p xs ≡ found p xs
position-found p [] = refl
position-found p (x ∷ xs) = placed (p x) (position_or_len p xs) (length xs) (found p xs) (position-found p xs)

pub found_below : {X : Type 0} (p : X → Bool) (xs : List X) (i : ℕ) → found p xs ≡ Some i → i < length xs
found_below p [] i h = absurd (cc)
found_below p (x ∷ xs) i h = by_test (p x) (found p xs) (found_below p xs) h
  where
    by_test : (b : Bool) (o : Option ℕ) → ((j : ℕ) → o ≡ Some j → j < length xs) → cond b (Some 0) (option_map (λ (i : ℕ). suc i) o) ≡ Some i → i < suc (length xs)
    by_test true o below h = let z : 0 ≡ i = cc in omega arith
    by_test false None below h = absurd (cc)
    by_test false (Some j) below h = let z : suc j ≡ i = cc in omega (arith, below j refl)

pub place_below : {X : Type 0} (p : X → Bool) (xs : List X) (i : ℕ) → Some i ≡ position p xs → i < length xs
place_below p xs i h = found_below p xs i (sym (h ∙ position-found p xs))

pub kept_place : {X : Type 0} (p : X → Bool) (xs ys : List X) (i : ℕ) → found p xs ≡ Some i → found p (xs ++ ys) ≡ Some i
kept_place p [] ys i h = absurd (cc)
kept_place p (x ∷ xs) ys i h = by_test (p x) (found p xs) (found p (xs ++ ys)) (λ j e. kept_place p xs ys j e) h
  where
    by_test : (b : Bool) (o o2 : Option ℕ) → ((j : ℕ) → o ≡ Some j → o2 ≡ Some j) → cond b (Some 0) (option_map (λ (i : ℕ). suc i) o) ≡ Some i → cond b (Some 0) (option_map (λ (i : ℕ). suc i) o2) ≡ Some i
    by_test true o o2 k h = h
    by_test false None o2 k h = absurd (cc)
    by_test false (Some j) o2 k h = ap (option_map (λ (i : ℕ). suc i)) (k j refl) ∙ h

none_later : (o : Option ℕ) → option_map (λ (i : ℕ). suc i) o ≡ None → o ≡ None
none_later None h = refl
none_later (Some i) h = cc

passes_not : (b : Bool) (o : Option ℕ) → cond b (Some 0) (option_map (λ (i : ℕ). suc i) o) ≡ None → (b ≡ false) × (o ≡ None)
passes_not true o h = absurd (cc)
passes_not false o h = (refl, none_later o h)

more_map : (n : ℕ) (o : Option ℕ) → option_map (λ (i : ℕ). suc i) (option_map (λ (i : ℕ). n + i) o) ≡ option_map (λ (i : ℕ). suc n + i) o
more_map n None = refl
more_map n (Some i) = ap Some (omega arith)

none_map : (o : Option ℕ) → o ≡ option_map (λ (i : ℕ). 0 + i) o
none_map None = refl
none_map (Some i) = ap Some (omega arith)

pub later_place : {X : Type 0} (p : X → Bool) (xs ys : List X) → found p xs ≡ None → found p (xs ++ ys) ≡ option_map (λ (i : ℕ). length xs + i) (found p ys)
later_place p [] ys h = none_map (found p ys)
later_place p (x ∷ xs) ys h =
    let t = passes_not (p x) (found p xs) h in
    ap (λ b. cond b (Some 0) (option_map (λ (i : ℕ). suc i) (found p (xs ++ ys)))) t.0
    ∙ ap (option_map (λ (i : ℕ). suc i)) (later_place p xs ys t.1)
    ∙ more_map (length xs) (found p ys)
