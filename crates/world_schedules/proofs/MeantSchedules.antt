-- The schedule that a text means is the one that is read.
use Rattle.std.proofs.Common.{◌≡◌, ℕ, ◌+◌, ◌-◌, ◌^◌, ◌<◌, ◌≤◌, true, false, cond, List, [], ◌∷◌, ◌++◌, length, get_or, map, Option, Some, None, Ok, refl, sym, ap, ◌∙◌, arith, sum_by}
use Rattle.std.specs.Prelude.{flat_map, ◌==◌, ◌&&◌, nat_le, codes, decimal}
use Rattle.std.specs.Option.{option_and_then}
use Rattle.std.specs.List.{list_all}
use Rattle.std.specs.Char.{is_ascii_digit}
use Rattle.std.specs.Str.{all_ascii_digits}
use Rattle.std.specs.Str.Parse.{digits_value}
use Rattle.std.proofs.lemmas.Bool.{and_from, and_parts}
use Rattle.std.proofs.lemmas.Bool.Decides.{nat_tests}
use Rattle.std.proofs.lemmas.Fmt.{decimal_digit, decimal_nonempty, digits_decimal, digits_value-decimal, first_decimal}
use Rattle.std.proofs.lemmas.List.Concat.{flat_map-cons}
use Rattle.std.proofs.lemmas.List.Sums.{sum_by-cons}
use Rattle.std.proofs.lemmas.Str.Parse.{numerals_by_value, tells_all_ascii_digits}
use Rattle.semantics.specs.declared.schedule.ScheduleWord.{ScheduleWord}
use Rattle.semantics.specs.declared.schedule.ScheduleWord.TheVariants.{Turn, Collect, Slice}
use Rattle.world_schedules.specs.declared.schedule.Repetition.{Repetition}
use Rattle.world_schedules.specs.Numbers.{digits_number, natural_of}
use Rattle.world_schedules.specs.Split.{parts_of}
use Rattle.world_schedules.specs.Reading.{◌>>=◌}
use Rattle.world_schedules.specs.ReadingSchedules.{named_word, repetition, repetition_of, is_known_turn, repeated_words, schedule_of}
use Rattle.world_schedules.specs.ReadingWords.{with_word, formed_words}
use Rattle.semantics.specs.Schedule.{Schedule}
use Rattle.world_schedules.specs.ScheduleText.{schedule_word, words_meant, is_turn, is_count, IsScheduleText}
use Rattle.world_schedules.specs.Words.{is_thread}
use Rattle.world_schedules.proofs.ScheduleLaws.{all_digits, length-repeated}
use Rattle.world_schedules.proofs.WordLaws.{words_of-parts, all_parts, words_read, formed_words-filter}

-- ---- numbers

natural_is : (ds : List ℕ) (n : ℕ) → all_ascii_digits ds ≡ true → 0 < length ds → 48 < get_or ds 0 0 → digits_value 10 ds ≡ n → natural_of ds ≡ Some n
natural_is [] n a some first v = absurd (omega arith)
natural_is (d ∷ []) n a some first v = let t : list_all is_ascii_digit (d ∷ []) ≡ true = sym (all_digits (d ∷ [])) ∙ a in ap (λ b. cond b (Some (digits_value 10 (d ∷ []))) None) t ∙ ap (λ m. Some m) v
natural_is (d ∷ e ∷ ds) n a some first v =
    let t : list_all is_ascii_digit (d ∷ e ∷ ds) ≡ true = sym (all_digits (d ∷ e ∷ ds)) ∙ a in
    let z : (d == 48) ≡ false = grind (arith, nat_tests, first) in
    ap (λ b. cond b None (digits_number (d ∷ e ∷ ds))) z ∙ ap (λ b. cond b (Some (digits_value 10 (d ∷ e ∷ ds))) None) t ∙ ap (λ m. Some m) v

-- a number is read as it is written
pub natural_of-decimal : (n : ℕ) → 1 ≤ n → n < 2 ^ 64 → natural_of (decimal n) ≡ Some n
natural_of-decimal n low small =
    let own = numerals_by_value (λ ds. all_ascii_digits ds ≡ true) tells_all_ascii_digits in
    natural_is (decimal n) n (digits_decimal own n small) (decimal_nonempty n small) (first_decimal n low small) (digits_value-decimal own n small)

-- ---- one word

named : (k : ℕ) → 1 ≤ k → k ≤ 8 → named_word (48 + k) ≡ Some (Turn k)
named k low high =
    let n : ((48 + k) == 99) ≡ false = grind (arith, nat_tests) in
    let s : ((48 + k) == 115) ≡ false = grind (arith, nat_tests) in
    let a : nat_le 49 (48 + k) ≡ true = grind (arith, nat_tests) in
    let b : nat_le (48 + k) 56 ≡ true = grind (arith, nat_tests) in
    let c : (48 + k) - 48 ≡ k = omega arith in
    rw (n, s, a, b, c) refl

-- the repetition that is read of a word
abbrev pub repetition_for : ScheduleWord × Option ℕ → Repetition
repetition_for (word, None) = record { word = word; times = 1 }
repetition_for (word, Some n) = record { word = word; times = n }

-- the word of one byte
pub once_read : (name : ℕ) (word : ScheduleWord) → named_word name ≡ Some word → repetition_of (name ∷ []) ≡ Some (record { word = word; times = 1 })
once_read name word is = ap (option_and_then (repetition 1)) is

often_read : (name : ℕ) (word : ScheduleWord) (n : ℕ) → named_word name ≡ Some word → nat_le 1 n && nat_le n 1000000 ≡ true → repetition_of (name ∷ 42 ∷ decimal n) ≡ Some (record { word = word; times = n })
often_read name word n is c =
    let t = and_parts (nat_le 1 n) (nat_le n 1000000) c in
    let one : 1 ≤ n = grind (arith, nat_tests, t.0) in
    let most : n ≤ 1000000 = grind (arith, nat_tests, t.1) in
    ap (option_and_then (λ word. option_and_then (λ times. repetition times word) (natural_of (decimal n)))) is
    ∙ ap (option_and_then (λ times. repetition times word)) (natural_of-decimal n one (omega (arith, most)))
    ∙ ap (λ b. cond b (Some (record { word = word; times = n })) None) c

-- a word that is read alone or among others
pub record IsRead (w : ScheduleWord × Option ℕ) : Type 0 where
  pub name : ℕ
  pub rest : List ℕ
  pub bytes : schedule_word w ≡ name ∷ rest
  pub is : repetition_of (name ∷ rest) ≡ Some (repetition_for w)

thread_low : (threads k : ℕ) → is_thread threads k ≡ true → (1 ≤ k) × (k ≤ threads)
thread_low threads k h =
    let t = and_parts (nat_le 1 k) (nat_le k threads) h in
    let one : 1 ≤ k = grind (arith, nat_tests, t.0) in
    let most : k ≤ threads = grind (arith, nat_tests, t.1) in
    (one, most)

pub word_is_read : (threads : ℕ) (w : ScheduleWord × Option ℕ) → threads ≤ 8 → is_turn threads w.0 ≡ true → is_count w.1 ≡ true → IsRead w
word_is_read threads (Turn k, None) most turn count =
    let t = thread_low threads k turn in
    let high : k ≤ 8 = omega (arith, t.1) in
    record { name = 48 + k; rest = []; bytes = decimal_digit k (omega arith); is = once_read (48 + k) (Turn k) (named k t.0 high) }
word_is_read threads (Turn k, Some n) most turn count =
    let t = thread_low threads k turn in
    let high : k ≤ 8 = omega (arith, t.1) in
    record { name = 48 + k; rest = 42 ∷ decimal n; bytes = ap (λ (ds : List ℕ). ds ++ codes "*" ++ decimal n) (decimal_digit k (omega arith)); is = often_read (48 + k) (Turn k) n (named k t.0 high) count }
word_is_read threads (Collect, None) most turn count = record { name = 99; rest = []; bytes = refl; is = once_read 99 Collect refl }
word_is_read threads (Collect, Some n) most turn count = record { name = 99; rest = 42 ∷ decimal n; bytes = refl; is = often_read 99 Collect n refl count }
word_is_read threads (Slice, None) most turn count = record { name = 115; rest = []; bytes = refl; is = once_read 115 Slice refl }
word_is_read threads (Slice, Some n) most turn count = record { name = 115; rest = 42 ∷ decimal n; bytes = refl; is = often_read 115 Slice n refl count }

known_turn : (threads : ℕ) (word : ScheduleWord) → is_turn threads word ≡ true → is_known_turn threads word ≡ true
known_turn threads (Turn k) t = (and_parts (nat_le 1 k) (nat_le k threads) t).1
known_turn threads Collect t = refl
known_turn threads Slice t = refl

-- ---- all words

same_words : (w : ScheduleWord × Option ℕ) → repeated_words (repetition_for w) ≡ words_meant w
same_words (word, None) = refl
same_words (word, Some n) = refl

pub record AreRead (threads : ℕ) (ws : List (ScheduleWord × Option ℕ)) : Type 0 where
  pub formed : formed_words repetition_of (map schedule_word ws) ≡ Some (map repetition_for ws)
  pub known : list_all (λ (r : Repetition). is_known_turn threads r.word) (map repetition_for ws) ≡ true
  pub meant : flat_map repeated_words (map repetition_for ws) ≡ flat_map words_meant ws

one_known : (threads : ℕ) (w : ScheduleWord × Option ℕ) → is_turn threads w.0 ≡ true → is_known_turn threads (repetition_for w).word ≡ true
one_known threads (word, None) t = known_turn threads word t
one_known threads (word, Some n) t = known_turn threads word t

pub words_are_read : (threads : ℕ) (ws : List (ScheduleWord × Option ℕ)) → threads ≤ 8 → list_all (λ (w : ScheduleWord × Option ℕ). is_turn threads w.0 && is_count w.1) ws ≡ true → AreRead threads ws
words_are_read threads [] most c = record { formed = refl; known = refl; meant = refl }
words_are_read threads (w ∷ ws) most c =
    let counted = and_parts (is_turn threads w.0 && is_count w.1) (list_all (λ (v : ScheduleWord × Option ℕ). is_turn threads v.0 && is_count v.1) ws) c in
    let first = and_parts (is_turn threads w.0) (is_count w.1) counted.0 in
    let one = word_is_read threads w most first.0 first.1 in
    let others = words_are_read threads ws most counted.1 in
    record {
      formed = ap (λ (b : List ℕ). formed_words repetition_of (b ∷ map schedule_word ws)) one.bytes
          ∙ ap (λ o. with_word o (formed_words repetition_of (map schedule_word ws))) one.is
          ∙ ap (with_word (Some (repetition_for w))) others.formed;
      known = and_from (is_known_turn threads (repetition_for w).word) (list_all (λ (r : Repetition). is_known_turn threads r.word) (map repetition_for ws)) (one_known threads w first.0) others.known;
      meant = flat_map-cons repeated_words (repetition_for w) (map repetition_for ws)
          ∙ ap (λ (s : List ScheduleWord). s ++ flat_map repeated_words (map repetition_for ws)) (same_words w)
          ∙ ap (λ (s : List ScheduleWord). words_meant w ++ s) others.meant
          ∙ sym (flat_map-cons words_meant w ws);
    }

-- none is counted apart
pub none_apart : (rs : List Repetition) → 0 + sum_by (λ (r : Repetition). 0) rs ≤ 1000000
none_apart rs = let zero : sum_by (λ (r : Repetition). 0) rs ≡ 0 = no_sum rs in omega (arith, zero)
  where
    no_sum : (qs : List Repetition) → sum_by (λ (r : Repetition). 0) qs ≡ 0
    no_sum [] = refl
    no_sum (q ∷ qs) = let rest = no_sum qs in let sum = sum_by-cons (λ (r : Repetition). 0) q qs in omega (arith, rest, sum)

-- what is meant is read
pub meant_schedule : (threads : ℕ) (text : List ℕ) (schedule : Schedule) → threads ≤ 8 → IsScheduleText threads text schedule → schedule_of text threads ≡ Ok schedule
meant_schedule threads text schedule most h =
    let r = words_are_read threads h.words most h.counted in
    let whole : flat_map repeated_words (map repetition_for h.words) ≡ schedule = r.meant ∙ sym h.meant in
    let formed : formed_words repetition_of (all_parts text) ≡ Some (map repetition_for h.words) =
    formed_words-filter repetition_of (all_parts text)
    ∙ ap (formed_words repetition_of) (sym (words_of-parts text) ∙ h.spelled)
    ∙ r.formed in
    let read = words_read repetition_of (λ (r : Repetition). is_known_turn threads r.word) (λ (r : Repetition). r.times) (λ (r : Repetition). 0) 1 0 0 (parts_of 10 text) (map repetition_for h.words) (record { formed = formed; all_known = r.known; few = omega (arith, length-repeated (map repetition_for h.words), ap length whole, h.few); few_others = none_apart (map repetition_for h.words) }) in
    ap (λ x. x >>= λ repetitions. Ok (flat_map repeated_words repetitions)) read ∙ ap (λ (l : List ScheduleWord). Ok l) whole
