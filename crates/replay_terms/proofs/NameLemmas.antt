-- Names that are compared four bytes at once.
use Rattle.std.proofs.Common.{◌≡◌, ◌≤◌, ◌<◌, ◌+◌, ℕ, zero, suc, Bool, true, false, List, [], ◌∷◌, ◌++◌, length, take, drop, get_or, nat_eq, nat_lt, refl, sym, ap, ◌∙◌, subst, arith}
use Rattle.std.specs.Int.{from_le_bytes, w32}
use Rattle.std.specs.Str.{bytes_eq}
use Rattle.std.proofs.Math.Seq.{take-add}
use Rattle.std.proofs.lemmas.Bool.Decides.{nat_tests}
use Rattle.std.proofs.lemmas.List.{get_or-drop, get_or-take, get_or_past, length-drop, take-append-drop, take_all}
use Rattle.std.proofs.lemmas.Nat.{le_bytes_4}
use Rattle.std.proofs.lemmas.Slice.Eq.{bytes_eq-Decides}

-- four bytes from a place on
abbrev pub word : (place : ℕ) → List ℕ → List ℕ
word place name = take 4 (drop place name)

-- the bytes of a word are bytes
small_in : (name : List ℕ) (place : ℕ) → ((i : ℕ) → get_or name i 0 < 256) → (i : ℕ) → get_or (word place name) i 0 < 256
small_in name place small i = by_place (nat_lt i 4) refl
  where
    length_within : (n : ℕ) (l : List ℕ) → length (take n l) ≤ n
    length_within zero l = omega arith
    length_within (suc n) [] = omega arith
    length_within (suc n) (x ∷ l) = omega (arith, length_within n l)

    by_place : (b : Bool) → nat_lt i 4 ≡ b → get_or (word place name) i 0 < 256
    by_place true is =
        let low : i < 4 = grind (arith, nat_tests, is) in
        subst (λ (n : ℕ). n < 256) (sym (get_or-take 4 (drop place name) i 0 low ∙ get_or-drop place name i 0)) (small (place + i))
    by_place false is =
        let past : 4 ≤ i = grind (arith, nat_tests, is) in
        let none : get_or (word place name) i 0 ≡ 0 = get_or_past (word place name) i 0 (omega (arith, length_within 4 (drop place name))) in
        subst (λ (n : ℕ). n < 256) (sym none) (omega arith)

-- two lists are the same where the test says so
pub same_by : (xs ys : List ℕ) → bytes_eq xs ys ≡ true → xs ≡ ys
same_by xs ys is = (bytes_eq-Decides xs ys).0 is

pub differs_by : (xs ys : List ℕ) (b : Bool) → (xs ≡ ys → b ≡ true) → b ≡ false → bytes_eq xs ys ≡ false
differs_by xs ys b same is = by_test (bytes_eq xs ys) refl
  where
    by_test : (t : Bool) → bytes_eq xs ys ≡ t → bytes_eq xs ys ≡ false
    by_test true equal = let found = same (same_by xs ys equal) in absurd (cc)
    by_test false equal = equal

-- words are the same where their numbers are
same_numbers : (xs ys : List ℕ) (m n : ℕ) → length xs ≡ 4 → length ys ≡ 4 → ((i : ℕ) → get_or xs i 0 < 256) → ((i : ℕ) → get_or ys i 0 < 256)
    → m ≡ from_le_bytes w32 xs → n ≡ from_le_bytes w32 ys → nat_eq m n ≡ bytes_eq xs ys
same_numbers xs ys m n long_x long_y small_x small_y is_x is_y = by_test (nat_eq m n) refl
  where
    numbers : xs ≡ ys → nat_eq m n ≡ true
    numbers same = let equal : m ≡ n = is_x ∙ ap (from_le_bytes w32) same ∙ sym is_y in grind (arith, nat_tests, equal)

    by_test : (b : Bool) → nat_eq m n ≡ b → nat_eq m n ≡ bytes_eq xs ys
    by_test true is =
        let equal : m ≡ n = grind (arith, nat_tests, is) in
        let same : xs ≡ ys = sym (le_bytes_4 xs m long_x small_x is_x) ∙ le_bytes_4 ys m long_y small_y (equal ∙ is_y) in
        is ∙ sym ((bytes_eq-Decides xs ys).1 same)
    by_test false is = is ∙ sym (differs_by xs ys (nat_eq m n) numbers is)

pub same_words : (name other : List ℕ) (place m n : ℕ) → place + 4 ≤ length name → place + 4 ≤ length other
    → ((i : ℕ) → get_or name i 0 < 256) → ((i : ℕ) → get_or other i 0 < 256)
    → m ≡ from_le_bytes w32 (word place name) → n ≡ from_le_bytes w32 (word place other) → nat_eq m n ≡ bytes_eq (word place name) (word place other)
same_words name other place m n long_name long_other small_name small_other is_name is_other =
    same_numbers (word place name) (word place other) m n (four name long_name) (four other long_other) (small_in name place small_name) (small_in other place small_other) is_name is_other
  where
    exactly : (k : ℕ) (l : List ℕ) → k ≤ length l → length (take k l) ≡ k
    exactly zero l h = refl
    exactly (suc k) [] h = absurd (omega arith)
    exactly (suc k) (x ∷ l) h = ap suc (exactly k l (omega arith))

    four : (l : List ℕ) → place + 4 ≤ length l → length (word place l) ≡ 4
    four l h = exactly 4 (drop place l) (omega (arith, length-drop place l))

-- one more word is the same
pub more : (name other : List ℕ) (place : ℕ) → take place name ≡ take place other → bytes_eq (word place name) (word place other) ≡ true → take (place + 4) name ≡ take (place + 4) other
more name other place before is =
    let last = same_by (word place name) (word place other) is in
    take-add place 4 name
    ∙ ap (λ (l : List ℕ). l ++ word place name) before
    ∙ ap (λ (l : List ℕ). take place other ++ l) last
    ∙ sym (take-add place 4 other)

-- a word differs
pub differs : (name other : List ℕ) (place : ℕ) → bytes_eq (word place name) (word place other) ≡ false → bytes_eq name other ≡ false
differs name other place is = differs_by name other (bytes_eq (word place name) (word place other)) (λ same. (bytes_eq-Decides (word place name) (word place other)).1 (ap (word place) same)) is

take_fewer : (n p : ℕ) (l : List ℕ) → n ≤ p → take n (take p l) ≡ take n l
take_fewer zero p l h = refl
take_fewer (suc n) zero l h = absurd (omega arith)
take_fewer (suc n) (suc p) [] h = refl
take_fewer (suc n) (suc p) (x ∷ l) h = ap (λ (k : List ℕ). x ∷ k) (take_fewer n p l (omega arith))

-- the last word decides, where all before it is the same
pub decides : (name other : List ℕ) (last place : ℕ) → length name ≡ length other → last + 4 ≡ length name → last ≤ place → take place name ≡ take place other
    → bytes_eq (word last name) (word last other) ≡ bytes_eq name other
decides name other last place long ends past before = by_test (bytes_eq (word last name) (word last other)) refl
  where
    rest : (l : List ℕ) → last + 4 ≡ length l → take last l ++ word last l ≡ l
    rest l h = ap (λ (k : List ℕ). take last l ++ k) (take_all 4 (drop last l) (omega (arith, length-drop last l))) ∙ take-append-drop last l

    front : take last name ≡ take last other
    front = sym (take_fewer last place name past) ∙ ap (take last) before ∙ take_fewer last place other past

    by_test : (b : Bool) → bytes_eq (word last name) (word last other) ≡ b → bytes_eq (word last name) (word last other) ≡ bytes_eq name other
    by_test true is =
        let same : name ≡ other =
        sym (rest name ends)
        ∙ ap (λ (k : List ℕ). k ++ word last name) front
        ∙ ap (λ (k : List ℕ). take last other ++ k) (same_by (word last name) (word last other) is)
        ∙ rest other (ends ∙ long) in
        is ∙ sym ((bytes_eq-Decides name other).1 same)
    by_test false is = is ∙ sym (differs name other last is)
