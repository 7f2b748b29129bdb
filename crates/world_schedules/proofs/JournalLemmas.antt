-- What is written of entries is read again.
use Rattle.std.proofs.Common.{◌≡◌, ℕ, ◌+◌, ◌-◌, ◌<◌, ◌≤◌, Bool, true, false, cond, List, [], ◌∷◌, ◌++◌, length, map, Some, Ok, refl, sym, ap, ◌∙◌, append-nil, arith, sum_by, subst}
use Rattle.std.specs.Prelude.{not, codes, nat_le, ◌==◌}
use Rattle.std.specs.List.{list_all}
use Rattle.std.proofs.lemmas.List.Concat.{flat_map-cons}
use Rattle.std.proofs.lemmas.List.Sums.{sum_by-cons}
use Rattle.std.proofs.lemmas.Bool.{and_from}
use Rattle.std.proofs.lemmas.Bool.Decides.{nat_tests}
use Rattle.std.proofs.lemmas.Fmt.{decimal_digit}
use Rattle.semantics.specs.Journal.{Entry, Step, Clearing, steps_in, clearings_in}
use Rattle.semantics.specs.JournalText.{entry_text, spelled_entries}
use Rattle.world_schedules.specs.Split.{parts_of}
use Rattle.world_schedules.specs.Reading.{◌>>=◌}
use Rattle.world_schedules.specs.ReadingWords.{formed_words, with_word, line_words, lines_words}
use Rattle.world_schedules.specs.ReadingJournals.{entry_named, entry_of, is_up_to, step_count, clearing_count, IsEntry, AreEntries, EntriesAreReadAgain}
use Rattle.world_schedules.proofs.NameLemmas.{uncut, numbers_apart, clearing_again}
use Rattle.world_schedules.proofs.WordLemmas.{are_allowed, formed_part}

pub mark : Bool → List ℕ
mark refused = cond refused (33 ∷ []) []

-- the word of a step is a digit, and a mark where there is one
pub word_is : (k : ℕ) (refused : Bool) → k ≤ 8 → entry_text (Step k refused) ≡ (48 + k) ∷ mark refused
unfolding mark
word_is k refused h = ap (λ ds. ds ++ cond refused (33 ∷ []) []) (decimal_digit k (omega arith))

differs : (m n : ℕ) → m < n → (n == m) ≡ false
differs m n h = grind (arith, nat_tests)

mark_apart : (separator : ℕ) (refused : Bool) → separator < 33 → list_all (λ b. not (b == separator)) (mark refused) ≡ true
unfolding mark
mark_apart separator true h = rw (differs separator 33 h) refl
mark_apart separator false h = refl

-- no separator below the digits and the marks is in a word
word_apart : (separator threads : ℕ) (e : Entry) → separator < 33 → IsEntry threads e → list_all (λ b. not (b == separator)) (entry_text e) ≡ true
word_apart separator threads (Step k refused) low h =
    ap (list_all (λ b. not (b == separator))) (word_is k refused h.1) ∙ rw (differs separator (48 + k) (omega (arith, low)), mark_apart separator refused low) refl
word_apart separator threads (Clearing names) low h = rw (differs separator 126 (omega (arith, low)), numbers_apart separator names (omega (arith, low)) h.1) refl

spelled-cons : (e : Entry) (es : List Entry) → spelled_entries (e ∷ es) ≡ 32 ∷ (entry_text e ++ spelled_entries es)
spelled-cons e es = flat_map-cons (λ x. codes " " ++ entry_text x) e es

-- the words are between the spaces
words_are : (threads : ℕ) (es : List Entry) → AreEntries threads es → parts_of 32 (spelled_entries es) ≡ [] ∷ map entry_text es
words_are threads [] h = refl
words_are threads (e ∷ es) h =
    ap (parts_of 32) (spelled-cons e es)
    ∙ ap (λ ps. [] ∷ ps) (uncut 32 (entry_text e) (spelled_entries es) [] (map entry_text es) (word_apart 32 threads e (omega arith) h.0) (words_are threads es h.1)
    ∙ ap (λ w. w ∷ map entry_text es) (append-nil (entry_text e)))

-- all of them are in one line
one_line : (threads : ℕ) (es : List Entry) → AreEntries threads es → parts_of 10 (spelled_entries es) ≡ spelled_entries es ∷ []
one_line threads [] h = refl
one_line threads (e ∷ es) h =
    ap (parts_of 10) (spelled-cons e es)
    ∙ uncut 10 (32 ∷ entry_text e) (spelled_entries es) (spelled_entries es) [] (word_apart 10 threads e (omega arith) h.0) (one_line threads es h.1)
    ∙ ap (λ t. t ∷ []) (sym (spelled-cons e es))

named : (n : ℕ) (refused : Bool) → 1 ≤ n → n ≤ 8 → entry_named (48 + n) refused ≡ Some (Step n refused)
named n refused low high =
    let a : nat_le 49 (48 + n) ≡ true = grind (arith, nat_tests) in
    let b : nat_le (48 + n) 56 ≡ true = grind (arith, nat_tests) in
    let c : (48 + n) - 48 ≡ n = omega arith in
    rw (a, b, c) refl

pub step_again : (n : ℕ) (refused : Bool) → 1 ≤ n → n ≤ 8 → entry_of ((48 + n) ∷ mark refused) ≡ Some (Step n refused)
unfolding mark
step_again n true low high = let no : ((48 + n) == 126) ≡ false = grind (arith, nat_tests) in rw no (named n true low high)
step_again n false low high = let no : ((48 + n) == 126) ≡ false = grind (arith, nat_tests) in rw no (named n false low high)

pub word_again : (threads : ℕ) (e : Entry) → IsEntry threads e → entry_of (entry_text e) ≡ Some e
word_again threads (Step k refused) h = ap entry_of (word_is k refused h.1) ∙ step_again k refused h.0 h.1
word_again threads (Clearing names) h = clearing_again names h.0 h.1

word_there : (threads : ℕ) (e : Entry) → IsEntry threads e → 0 < length (entry_text e)
word_there threads (Step k refused) h = subst (λ (l : List ℕ). 0 < length l) (sym (word_is k refused h.1)) (omega arith)
word_there threads (Clearing names) h = omega arith

pub all_formed : (threads : ℕ) (es : List Entry) → AreEntries threads es → formed_words entry_of (map entry_text es) ≡ Some es
all_formed threads [] h = refl
all_formed threads (e ∷ es) h =
    formed_part entry_of (entry_text e) (map entry_text es) (word_there threads e h.0)
    ∙ ap (λ o. with_word o (formed_words entry_of (map entry_text es))) (word_again threads e h.0)
    ∙ ap (with_word (Some e)) (all_formed threads es h.1)

one_known : (threads : ℕ) (e : Entry) → IsEntry threads e → is_up_to threads e ≡ true
one_known threads (Step k refused) h = let low : nat_le k threads ≡ true = grind (arith, nat_tests, h.2) in low
one_known threads (Clearing names) h = refl

pub all_known : (threads : ℕ) (es : List Entry) → AreEntries threads es → list_all (is_up_to threads) es ≡ true
all_known threads [] h = refl
all_known threads (e ∷ es) h = and_from (is_up_to threads e) (list_all (is_up_to threads) es) (one_known threads e h.0) (all_known threads es h.1)

-- ---- how many there are

pub steps_counted : (es : List Entry) → sum_by step_count es ≡ steps_in es
steps_counted [] = refl
steps_counted (Step k refused ∷ es) = let rest = steps_counted es in let sum = sum_by-cons step_count (Step k refused) es in omega (arith, rest, sum)
steps_counted (Clearing names ∷ es) = let rest = steps_counted es in let sum = sum_by-cons step_count (Clearing names) es in omega (arith, rest, sum)

pub clearings_counted : (es : List Entry) → sum_by clearing_count es ≡ clearings_in es
clearings_counted [] = refl
clearings_counted (Step k refused ∷ es) = let rest = clearings_counted es in let sum = sum_by-cons clearing_count (Step k refused) es in omega (arith, rest, sum)
clearings_counted (Clearing names ∷ es) = let rest = clearings_counted es in let sum = sum_by-cons clearing_count (Clearing names) es in omega (arith, rest, sum)

pub entries_again : EntriesAreReadAgain
unfolding lines_words
entries_again threads es h short few =
    let line : line_words entry_of (is_up_to threads) step_count clearing_count 1 0 0 (spelled_entries es) ≡ Ok es =
    are_allowed (is_up_to threads) step_count clearing_count 1 0 0 es _ (sym (ap (formed_words entry_of) (words_are threads es h) ∙ all_formed threads es h)) (all_known threads es h) (omega (arith, steps_counted es, short)) (omega (arith, clearings_counted es, few)) in
    ap (lines_words entry_of (is_up_to threads) step_count clearing_count 1 0 0) (one_line threads es h)
    ∙ ap (λ r. r >>= λ first. lines_words entry_of (is_up_to threads) step_count clearing_count 2 (sum_by step_count first) (sum_by clearing_count first) [] >>= λ further. Ok (first ++ further)) line
    ∙ ap Ok (append-nil es)
