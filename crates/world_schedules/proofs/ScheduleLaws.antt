-- The schedule that is read is the one that the text means.
use Rattle.std.proofs.Common.{◌≡◌, ℕ, ◌+◌, ◌-◌, ◌^◌, ◌<◌, ◌≤◌, Bool, true, false, cond, List, [], ◌∷◌, ◌++◌, length, get_or, map, Option, Some, None, Ok, refl, sym, ap, ◌∙◌, subst, arith, sum_by}
use Rattle.std.specs.Prelude.{filter, flat_map, ◌==◌, ◌&&◌, nat_le, codes, decimal}
use Rattle.std.specs.Option.{option_and_then}
use Rattle.std.specs.List.{list_all}
use Rattle.std.specs.Char.{is_ascii_digit}
use Rattle.std.specs.Str.{all_ascii_digits}
use Rattle.std.specs.Str.Parse.{digits_value}
use Rattle.std.proofs.lemmas.Bool.{and_from, and_parts}
use Rattle.std.proofs.lemmas.Bool.Decides.{nat_tests}
use Rattle.std.proofs.lemmas.Fmt.{decimal_digit, decimal-digits_value}
use Rattle.std.proofs.lemmas.List.{length-append, length-replicate}
use Rattle.std.proofs.lemmas.List.Concat.{flat_map-cons}
use Rattle.std.proofs.lemmas.List.Sums.{sum_by-cons}
use Rattle.std.proofs.lemmas.Option.{cond_some}
use Rattle.std.proofs.lemmas.Str.Parse.{numerals_by_value, tells_all_ascii_digits}
use Rattle.base.specs.Bytes.{is_some_byte}
use Rattle.semantics.specs.declared.schedule.ScheduleWord.{ScheduleWord}
use Rattle.semantics.specs.declared.schedule.ScheduleWord.TheVariants.{Turn, Collect, Slice}
use Rattle.world_schedules.specs.declared.schedule.Repetition.{Repetition}
use Rattle.world_schedules.specs.Numbers.{digits_number, natural_of}
use Rattle.world_schedules.specs.Split.{parts_of}
use Rattle.world_schedules.specs.ReadingSchedules.{named_turn, named_word, repetition, repetition_of, is_known_turn, repeated_words, schedule_of}
use Rattle.world_schedules.specs.ReadingWords.{with_word, formed_words, text_words}
use Rattle.world_schedules.specs.ScheduleText.{turn_text, schedule_word, words_meant, is_turn, is_count, IsScheduleText}
use Rattle.world_schedules.proofs.WordLaws.{words_of-parts, all_parts, and_then_ok, are_words}

-- ---- options

pub guarded_option : {A : Type 0} (b : Bool) (o : Option A) (y : A) → cond b o None ≡ Some y → (b ≡ true) × (o ≡ Some y)
guarded_option true o y h = (refl, h)
guarded_option false o y h = absurd (cc)

some_then : {A B : Type 0} (f : A → Option B) (o : Option A) (y : B) → option_and_then f o ≡ Some y → (x : A) × (o ≡ Some x) × (f x ≡ Some y)
some_then f None y h = absurd (cc)
some_then f (Some x) y h = (x, refl, h)

pub some_with : {W : Type 0} (w : Option W) (o : Option (List W)) (ws : List W) → with_word w o ≡ Some ws → (x : W) × (xs : List W) × (w ≡ Some x) × (o ≡ Some xs) × (ws ≡ x ∷ xs)
some_with None o ws h = absurd (cc)
some_with (Some x) None ws h = absurd (cc)
some_with (Some x) (Some xs) ws h = (x, xs, refl, refl, cc)

-- ---- numbers

pub all_digits : (ds : List ℕ) → all_ascii_digits ds ≡ list_all is_ascii_digit ds
all_digits [] = refl
all_digits (c ∷ cs) = ap (λ b. is_ascii_digit c && b) (all_digits cs)

digits_are : (ds : List ℕ) (n : ℕ) → digits_number ds ≡ Some n → 0 < length ds → (get_or ds 0 0 ≡ 48 → length ds ≡ 1) → n < 2 ^ 64 → decimal n ≡ ds
digits_are ds n h some short small =
    let g = cond_some (list_all is_ascii_digit ds) (digits_value 10 ds) n h in
    ap decimal (sym g.1) ∙ decimal-digits_value (numerals_by_value (λ ds. all_ascii_digits ds ≡ true) tells_all_ascii_digits) ds (all_digits ds ∙ g.0) some short (subst (λ m. m < 2 ^ 64) (sym g.1) small)

not_zero : (d e : ℕ) (ds : List ℕ) (n : ℕ) → natural_of (d ∷ e ∷ ds) ≡ Some n → (digits_number (d ∷ e ∷ ds) ≡ Some n) × (d ≡ 48 → ⊥)
not_zero d e ds n h = by_test (d == 48) refl h
  where
    by_test : (b : Bool) → (d == 48) ≡ b → cond b None (digits_number (d ∷ e ∷ ds)) ≡ Some n → (digits_number (d ∷ e ∷ ds) ≡ Some n) × (d ≡ 48 → ⊥)
    by_test true t h = absurd (cc)
    by_test false t h = (h, λ z. grind (arith, nat_tests, t, z))

-- a number is written as it is read
pub decimal-natural_of : (ds : List ℕ) (n : ℕ) → natural_of ds ≡ Some n → n < 2 ^ 64 → decimal n ≡ ds
decimal-natural_of [] n h small = absurd (cc)
decimal-natural_of (d ∷ []) n h small = digits_are (d ∷ []) n h (omega arith) (λ z. refl) small
decimal-natural_of (d ∷ e ∷ ds) n h small = let k = not_zero d e ds n h in digits_are (d ∷ e ∷ ds) n k.0 (omega arith) (λ z. absurd (k.1 z)) small

-- ---- one word

-- a word is spelled by one byte, and a world of eight threads has its thread
pub record IsWord (name : ℕ) (word : ScheduleWord) : Type 0 where
  pub text : turn_text word ≡ name ∷ []
  pub allowed : is_turn 8 word ≡ true

-- what is known of such a word is what may stand in a schedule
pub known_is : (threads : ℕ) (word : ScheduleWord) → is_turn 8 word ≡ true → is_known_turn threads word ≡ is_turn threads word
known_is threads (Turn k) h = ap (λ b. b && nat_le k threads) (sym (and_parts (nat_le 1 k) (nat_le k 8) h).0)
known_is threads Collect h = refl
known_is threads Slice h = refl

turn_read : (name : ℕ) (word : ScheduleWord) → named_turn name ≡ Some word → IsWord name word
turn_read name word h =
    let g = cond_some (nat_le 49 name && nat_le name 56) (Turn (name - 48)) word h in
    let t = and_parts (nat_le 49 name) (nat_le name 56) g.0 in
    let low : 49 ≤ name = grind (arith, nat_tests, t.0) in
    let high : name ≤ 56 = grind (arith, nat_tests, t.1) in
    let digit : 48 + (name - 48) ≡ name = omega (arith, low) in
    let one : nat_le 1 (name - 48) ≡ true = grind (arith, nat_tests, low) in
    let eight : nat_le (name - 48) 8 ≡ true = grind (arith, nat_tests, high) in
    subst (IsWord name) g.1 (record { text = decimal_digit (name - 48) (omega (arith, high)) ∙ ap (λ n. n ∷ []) digit; allowed = and_from (nat_le 1 (name - 48)) (nat_le (name - 48) 8) one eight })

word_read : (name : ℕ) (word : ScheduleWord) → named_word name ≡ Some word → IsWord name word
word_read name word h = by_test (name == 99) refl h
  where
    other : (b : Bool) → (name == 115) ≡ b → cond b (Some Slice) (named_turn name) ≡ Some word → IsWord name word
    other true t h =
        let mark : 115 ≡ name = grind (arith, nat_tests, t) in
        let same : Slice ≡ word = cc (h) in
        subst (IsWord name) same (record { text = ap (λ n. n ∷ []) mark; allowed = refl })
    other false t h = turn_read name word h

    by_test : (b : Bool) → (name == 99) ≡ b → cond b (Some Collect) (cond (name == 115) (Some Slice) (named_turn name)) ≡ Some word → IsWord name word
    by_test true t h =
        let mark : 99 ≡ name = grind (arith, nat_tests, t) in
        let same : Collect ≡ word = cc (h) in
        subst (IsWord name) same (record { text = ap (λ n. n ∷ []) mark; allowed = refl })
    by_test false t h = other (name == 115) refl h

-- a word with its repetition, and what it stands for
pub record IsRepetition (bytes : List ℕ) (r : Repetition) : Type 0 where
  pub times : Option ℕ
  pub allowed : is_turn 8 r.word ≡ true
  pub spelled : bytes ≡ schedule_word (r.word, times)
  pub meant : words_meant (r.word, times) ≡ repeated_words r
  pub counted : is_count times ≡ true

pub repetition_read : (bytes : List ℕ) (r : Repetition) → repetition_of bytes ≡ Some r → IsRepetition bytes r
repetition_read [] r h = absurd (cc)
repetition_read (name ∷ []) r h =
    let w = some_then (repetition 1) (named_word name) r h in
    let t = word_read name w.0 w.1 in
    let once : ◌≡◌ {A = Repetition} (record { word = w.0; times = 1 }) r = cc (w.2) in
    subst (IsRepetition (name ∷ [])) once (record { times = None; allowed = t.allowed; spelled = sym t.text; meant = refl; counted = refl })
repetition_read (name ∷ star ∷ digits) r h =
    let g = guarded_option (star == 42) (option_and_then (λ word. option_and_then (λ times. repetition times word) (natural_of digits)) (named_word name)) r h in
    let w = some_then (λ word. option_and_then (λ times. repetition times word) (natural_of digits)) (named_word name) r g.1 in
    let n = some_then (λ times. repetition times w.0) (natural_of digits) r w.2 in
    let k = cond_some (nat_le 1 n.0 && nat_le n.0 1000000) (record { word = w.0; times = n.0 }) r n.2 in
    let within = and_parts (nat_le 1 n.0) (nat_le n.0 1000000) k.0 in
    let high : n.0 ≤ 1000000 = grind (arith, nat_tests, within.1) in
    let t = word_read name w.0 w.1 in
    let mark : star ≡ 42 = grind (arith, nat_tests, g.0) in
    let text : name ∷ star ∷ digits ≡ turn_text w.0 ++ codes "*" ++ decimal n.0 =
    ap (λ s. name ∷ s ∷ digits) mark ∙ ap (λ (ds : List ℕ). name ∷ 42 ∷ ds) (sym (decimal-natural_of digits n.0 n.1 (omega (arith, high)))) ∙ ap (λ (ts : List ℕ). ts ++ codes "*" ++ decimal n.0) (sym t.text) in
    subst (IsRepetition (name ∷ star ∷ digits)) k.1 (record { times = Some n.0; allowed = t.allowed; spelled = text; meant = refl; counted = k.0 })

-- ---- all words

pub record AreRepetitions (parts : List (List ℕ)) (rs : List Repetition) : Type 0 where
  pub words : List (ScheduleWord × Option ℕ)
  pub spelled : filter is_some_byte parts ≡ map schedule_word words
  pub meant : flat_map words_meant words ≡ flat_map repeated_words rs
  pub counted : (threads : ℕ) → list_all (λ (r : Repetition). is_known_turn threads r.word) rs ≡ true → list_all (λ (w : ScheduleWord × Option ℕ). is_turn threads w.0 && is_count w.1) words ≡ true

pub repetitions_read : (parts : List (List ℕ)) (rs : List Repetition) → formed_words repetition_of parts ≡ Some rs → AreRepetitions parts rs
repetitions_read [] rs h = let none : [] ≡ rs = cc in subst (AreRepetitions []) none (record { words = []; spelled = refl; meant = refl; counted = λ threads k. refl })
repetitions_read ([] ∷ parts) rs h = let a = repetitions_read parts rs h in record { words = a.words; spelled = a.spelled; meant = a.meant; counted = a.counted }
repetitions_read ((c ∷ cs) ∷ parts) rs h =
    let w = some_with (repetition_of (c ∷ cs)) (formed_words repetition_of parts) rs h in
    let first = repetition_read (c ∷ cs) w.0 w.2 in
    let a = repetitions_read parts w.1 w.3 in
    subst (AreRepetitions ((c ∷ cs) ∷ parts)) (sym w.4) (record {
      words = (w.0.word, first.times) ∷ a.words;
      spelled = ap (λ (b : List ℕ). b ∷ filter is_some_byte parts) first.spelled ∙ ap (λ (bs : List (List ℕ)). schedule_word (w.0.word, first.times) ∷ bs) a.spelled;
      meant = flat_map-cons words_meant (w.0.word, first.times) a.words ∙ ap (λ (s : List ScheduleWord). s ++ flat_map words_meant a.words) first.meant ∙ ap (λ (s : List ScheduleWord). repeated_words w.0 ++ s) a.meant ∙ sym (flat_map-cons repeated_words w.0 w.1);
      counted = λ threads k.
          let both = and_parts (is_known_turn threads w.0.word) (list_all (λ (r : Repetition). is_known_turn threads r.word) w.1) k in
          and_from (is_turn threads w.0.word && is_count first.times) (list_all (λ (v : ScheduleWord × Option ℕ). is_turn threads v.0 && is_count v.1) a.words)
          (and_from (is_turn threads w.0.word) (is_count first.times) (sym (known_is threads w.0.word first.allowed) ∙ both.0) first.counted) (a.counted threads both.1);
    })

-- how many words repetitions stand for
pub length-repeated : (rs : List Repetition) → length (flat_map repeated_words rs) ≡ sum_by (λ (r : Repetition). r.times) rs
length-repeated [] = refl
length-repeated (r ∷ rs) =
    ap length (flat_map-cons repeated_words r rs) ∙ length-append (repeated_words r) (flat_map repeated_words rs)
    ∙ ap (λ n. n + length (flat_map repeated_words rs)) (length-replicate r.times r.word)
    ∙ ap (λ n. r.times + n) (length-repeated rs)
    ∙ sym (sum_by-cons (λ (r : Repetition). r.times) r rs)

-- what is read is meant
pub schedule_is_meant : (threads : ℕ) (text : List ℕ) (schedule : List ScheduleWord) → schedule_of text threads ≡ Ok schedule → IsScheduleText threads text schedule
schedule_is_meant threads text schedule h =
    let a = and_then_ok (text_words repetition_of (λ r. is_known_turn threads r.word) (λ r. r.times) (λ r. 0) text) (λ repetitions. Ok (flat_map repeated_words repetitions)) schedule h in
    let ws = are_words repetition_of (λ r. is_known_turn threads r.word) (λ r. r.times) (λ r. 0) 1 0 0 (parts_of 10 text) a.0 (omega arith) (omega arith) a.1 in
    let rs = repetitions_read (all_parts text) a.0 ws.formed in
    let same : flat_map repeated_words a.0 ≡ schedule = cc (a.2) in
    record {
      words = rs.words;
      spelled = words_of-parts text ∙ rs.spelled;
      counted = rs.counted threads ws.all_known;
      meant = sym same ∙ sym rs.meant;
      few = omega (arith, ap length same, length-repeated a.0, ws.few);
    }
