-- Names of objects in journals: they rise, and have commas between them.
use Rattle.std.proofs.Common.{◌≡◌, ℕ, ◌^◌, ◌<◌, ◌≤◌, Bool, true, false, cond, List, [], ◌∷◌, ◌++◌, map, Option, Some, None, refl, sym, ap, ◌∙◌, subst, append-nil, arith}
use Rattle.std.specs.Prelude.{not, ◌==◌, nat_le, decimal}
use Rattle.std.specs.Option.{option_map}
use Rattle.std.specs.List.{list_all}
use Rattle.std.specs.Char.{is_ascii_digit}
use Rattle.std.specs.Str.{all_ascii_digits}
use Rattle.std.proofs.lemmas.Bool.{and_from, and_parts}
use Rattle.std.proofs.lemmas.Bool.Decides.{nat_tests}
use Rattle.std.proofs.lemmas.Fmt.{digits_decimal}
use Rattle.std.proofs.lemmas.List.Folds.{list_all-append}
use Rattle.std.proofs.lemmas.Option.{cond_some}
use Rattle.std.proofs.lemmas.Str.Parse.{numerals_by_value, tells_all_ascii_digits}
use Rattle.base.specs.Bytes.{split_at, with_first}
use Rattle.base.specs.Options.{option_filter}
use Rattle.semantics.specs.Journal.{Entry, Clearing}
use Rattle.semantics.specs.JournalText.{numbers_text, entry_text}
use Rattle.semantics.specs.WeakReferences.{are_rising}
use Rattle.world_schedules.specs.JournalMeaning.{is_name}
use Rattle.world_schedules.specs.Numbers.{natural_of}
use Rattle.world_schedules.specs.ReadingJournals.{name_spelled, names_spelled, clearing_named}
use Rattle.world_schedules.specs.ReadingWords.{with_word}
use Rattle.world_schedules.specs.Split.{parts_of}
use Rattle.world_schedules.proofs.PartLemmas.{some_part, slice_split-split_at}
use Rattle.world_schedules.proofs.ScheduleLaws.{some_with, all_digits, decimal-natural_of}
use Rattle.world_schedules.proofs.MeantSchedules.{natural_of-decimal}

-- ---- parts with commas between them

joined : List (List ℕ) → List ℕ
joined [] = []
joined (p ∷ []) = p
joined (p ∷ q ∷ ps) = p ++ 44 ∷ joined (q ∷ ps)

first_joined : (c : ℕ) (h : List ℕ) (t : List (List ℕ)) → joined ((c ∷ h) ∷ t) ≡ c ∷ joined (h ∷ t)
unfolding joined
first_joined c h [] = refl
first_joined c h (q ∷ ps) = refl

abbrev commas : List ℕ → List (List ℕ)
commas text = split_at (λ b. b == 44) text

joined_split : (text : List ℕ) → joined (commas text) ≡ text
unfolding joined
joined_split [] = refl
joined_split (c ∷ rest) = by_test (c == 44) refl (some_part (λ b. b == 44) rest) (joined_split rest)
  where
    by_test : (b : Bool) → (c == 44) ≡ b → (h : List ℕ) × (t : List (List ℕ)) × (commas rest ≡ h ∷ t) → joined (commas rest) ≡ rest → joined (cond b ([] ∷ commas rest) (with_first c (commas rest))) ≡ c ∷ rest
    by_test true e (h, t, is) further =
        let comma : 44 ≡ c = grind (arith, nat_tests, e) in
        ap (λ ps. joined ([] ∷ ps)) is ∙ ap (λ (l : List ℕ). 44 ∷ l) (ap joined (sym is) ∙ further) ∙ ap (λ n. n ∷ rest) comma
    by_test false e (h, t, is) further = ap (λ ps. joined (with_first c ps)) is ∙ first_joined c h t ∙ ap (λ (l : List ℕ). c ∷ l) (ap joined (sym is) ∙ further)

joined_parts : (text : List ℕ) → joined (parts_of 44 text) ≡ text
joined_parts text = ap joined (slice_split-split_at (λ b. b == 44) text) ∙ joined_split text

joined_numbers : (names : List ℕ) → joined (map decimal names) ≡ numbers_text names
unfolding joined
joined_numbers [] = refl
joined_numbers (n ∷ []) = refl
joined_numbers (n ∷ m ∷ names) = ap (λ (l : List ℕ). decimal n ++ 44 ∷ l) (joined_numbers (m ∷ names))

-- ---- what is read is written so

name_small : (n : ℕ) → is_name n ≡ true → (1 ≤ n) × (n < 2 ^ 64)
name_small n h =
    let t = and_parts (nat_le 1 n) (nat_le n 4294967295) h in
    let low : 1 ≤ n = grind (arith, nat_tests, t.0) in
    let high : n ≤ 4294967295 = grind (arith, nat_tests, t.1) in
    (low, omega (arith, high))

name_read : (part : List ℕ) (n : ℕ) → name_spelled part ≡ Some n → (decimal n ≡ part) × (is_name n ≡ true)
name_read part n h = by_number (natural_of part) refl h
  where
    by_number : (o : Option ℕ) → natural_of part ≡ o → option_filter is_name o ≡ Some n → (decimal n ≡ part) × (is_name n ≡ true)
    by_number None e g = absurd (cc)
    by_number (Some m) e g =
        let k = cond_some (is_name m) m n g in
        let small = name_small m k.0 in
        (subst (λ i. decimal i ≡ part) k.1 (decimal-natural_of part m e small.1), subst (λ i. is_name i ≡ true) k.1 k.0)

names_read : (parts : List (List ℕ)) (names : List ℕ) → names_spelled parts ≡ Some names → (map decimal names ≡ parts) × (list_all is_name names ≡ true)
names_read [] names h = let none : [] ≡ names = cc in subst (λ (l : List ℕ). (map decimal l ≡ []) × (list_all is_name l ≡ true)) none (refl, refl)
names_read (part ∷ parts) names h =
    let w = some_with (name_spelled part) (names_spelled parts) names h in
    let first = name_read part w.0 w.2 in
    let rest = names_read parts w.1 w.3 in
    subst (λ (l : List ℕ). (map decimal l ≡ part ∷ parts) × (list_all is_name l ≡ true)) (sym w.4)
    (ap (λ (p : List ℕ). p ∷ map decimal w.1) first.0 ∙ ap (λ ps. part ∷ ps) rest.0, and_from (is_name w.0) (list_all is_name w.1) first.1 rest.1)

-- a clearing, as it is read
pub record IsClearing (bytes : List ℕ) (e : Entry) : Type 0 where
  pub names : List ℕ
  pub is : e ≡ Clearing names
  pub spelled : 126 ∷ bytes ≡ entry_text (Clearing names)
  pub rising : are_rising names ≡ true
  pub named : list_all is_name names ≡ true

pub clearing_read : (bytes : List ℕ) (e : Entry) → clearing_named bytes ≡ Some e → IsClearing bytes e
clearing_read bytes e h = by_names (names_spelled (parts_of 44 bytes)) refl h
  where
    by_test : (names : List ℕ) → names_spelled (parts_of 44 bytes) ≡ Some names → (b : Bool) → are_rising names ≡ b → option_map Clearing (cond b (Some names) None) ≡ Some e → IsClearing bytes e
    by_test names is true rises g =
        let same : Clearing names ≡ e = cc in
        let all = names_read (parts_of 44 bytes) names is in
        let text : bytes ≡ numbers_text names = sym (joined_parts bytes) ∙ ap joined (sym all.0) ∙ joined_numbers names in
        record { names = names; is = sym same; spelled = ap (λ (l : List ℕ). 126 ∷ l) text; rising = rises; named = all.1 }
    by_test names is false rises g = absurd (cc)

    by_names : (o : Option (List ℕ)) → names_spelled (parts_of 44 bytes) ≡ o → option_map Clearing (option_filter are_rising o) ≡ Some e → IsClearing bytes e
    by_names None is g = absurd (cc)
    by_names (Some names) is g = by_test names is (are_rising names) refl g

-- ---- what is written is read so

-- a word without the separator isn't cut
pub uncut : (separator : ℕ) (w text first : List ℕ) (more : List (List ℕ)) → list_all (λ b. not (b == separator)) w ≡ true → parts_of separator text ≡ first ∷ more → parts_of separator (w ++ text) ≡ (w ++ first) ∷ more
uncut separator [] text first more h e = e
uncut separator (c ∷ w) text first more h e =
    let b = and_parts (not (c == separator)) (list_all (λ b. not (b == separator)) w) h in
    let no : (c == separator) ≡ false = is_false (c == separator) b.0 in
    rw (no, uncut separator w text first more b.1 e) refl
  where
    is_false : (b : Bool) → not b ≡ true → b ≡ false
    is_false true g = absurd (cc)
    is_false false g = refl

apart_from : (separator : ℕ) → separator < 48 → (ds : List ℕ) → list_all is_ascii_digit ds ≡ true → list_all (λ b. not (b == separator)) ds ≡ true
apart_from separator low [] h = refl
apart_from separator low (d ∷ ds) h =
    let b = and_parts (is_ascii_digit d) (list_all is_ascii_digit ds) h in
    let differs : (d == separator) ≡ false = grind (arith, nat_tests, b.0, low) in
    rw (differs, apart_from separator low ds b.1) refl

pub decimal_apart : (separator n : ℕ) → separator < 48 → n < 2 ^ 64 → list_all (λ b. not (b == separator)) (decimal n) ≡ true
decimal_apart separator n low small =
    apart_from separator low (decimal n) (sym (all_digits (decimal n)) ∙ digits_decimal (numerals_by_value (λ ds. all_ascii_digits ds ≡ true) tells_all_ascii_digits) n small)

pub numbers_apart : (separator : ℕ) (names : List ℕ) → separator < 44 → list_all is_name names ≡ true → list_all (λ b. not (b == separator)) (numbers_text names) ≡ true
numbers_apart separator [] low h = refl
numbers_apart separator (n ∷ []) low h = decimal_apart separator n (omega (arith, low)) (name_small n (and_parts (is_name n) true h).0).1
numbers_apart separator (n ∷ m ∷ names) low h =
    let b = and_parts (is_name n) (list_all is_name (m ∷ names)) h in
    let comma : (44 == separator) ≡ false = grind (arith, nat_tests, low) in
    list_all-append (λ b. not (b == separator)) (decimal n) (44 ∷ numbers_text (m ∷ names))
    ∙ rw (decimal_apart separator n (omega (arith, low)) (name_small n b.0).1, comma, numbers_apart separator (m ∷ names) low b.1) refl

parts_numbers : (n : ℕ) (names : List ℕ) → list_all is_name (n ∷ names) ≡ true → parts_of 44 (numbers_text (n ∷ names)) ≡ map decimal (n ∷ names)
parts_numbers n [] h =
    ap (parts_of 44) (sym (append-nil (decimal n)))
    ∙ uncut 44 (decimal n) [] [] [] (decimal_apart 44 n (omega arith) (name_small n (and_parts (is_name n) true h).0).1) refl
    ∙ ap (λ (p : List ℕ). p ∷ []) (append-nil (decimal n))
parts_numbers n (m ∷ names) h =
    let b = and_parts (is_name n) (list_all is_name (m ∷ names)) h in
    uncut 44 (decimal n) (44 ∷ numbers_text (m ∷ names)) [] (map decimal (m ∷ names)) (decimal_apart 44 n (omega arith) (name_small n b.0).1) (ap (λ (ps : List (List ℕ)). [] ∷ ps) (parts_numbers m names b.1))
    ∙ ap (λ (p : List ℕ). p ∷ map decimal (m ∷ names)) (append-nil (decimal n))

name_again : (n : ℕ) → is_name n ≡ true → name_spelled (decimal n) ≡ Some n
name_again n h = let small = name_small n h in ap (option_filter is_name) (natural_of-decimal n small.0 small.1) ∙ ap (λ b. cond b (Some n) None) h

names_again : (names : List ℕ) → list_all is_name names ≡ true → names_spelled (map decimal names) ≡ Some names
names_again [] h = refl
names_again (n ∷ names) h =
    let b = and_parts (is_name n) (list_all is_name names) h in
    ap (λ o. with_word o (names_spelled (map decimal names))) (name_again n b.0) ∙ ap (with_word (Some n)) (names_again names b.1)

pub clearing_again : (names : List ℕ) → are_rising names ≡ true → list_all is_name names ≡ true → clearing_named (numbers_text names) ≡ Some (Clearing names)
clearing_again [] rising h = absurd (cc)
clearing_again (n ∷ names) rising h =
    ap (λ ps. option_map Clearing (option_filter are_rising (names_spelled ps))) (parts_numbers n names h)
    ∙ ap (λ o. option_map Clearing (option_filter are_rising o)) (names_again (n ∷ names) h)
    ∙ ap (λ b. option_map Clearing (cond b (Some (n ∷ names)) None)) rising
