-- The journal that is read is the one that the text means.
use Rattle.std.proofs.Common.{◌≡◌, ℕ, ◌+◌, ◌-◌, ◌≤◌, Bool, true, false, cond, List, [], ◌∷◌, ◌++◌, map, Some, Result, Ok, Err, refl, sym, ap, ◌∙◌, subst, arith}
use Rattle.std.specs.Prelude.{filter, ◌==◌, ◌&&◌, nat_le, IfOk}
use Rattle.std.specs.Global.{Vec}
use Rattle.std.specs.List.{list_all}
use Rattle.std.proofs.lemmas.Bool.{and_from, and_parts}
use Rattle.std.proofs.lemmas.Bool.Decides.{nat_tests}
use Rattle.std.proofs.lemmas.Fmt.{decimal_digit}
use Rattle.std.proofs.lemmas.Option.{cond_some}
use Rattle.base.specs.Bytes.{is_some_byte}
use Rattle.semantics.specs.Journal.{Entry, Step, Clearing, Journal}
use Rattle.semantics.specs.JournalText.{entry_text}
use Rattle.semantics.specs.WeakReferences.{are_rising}
use Rattle.world_schedules.specs.JournalMeaning.{IsJournalText, is_name, is_entry}
use Rattle.world_schedules.specs.Split.{parts_of}
use Rattle.world_schedules.specs.ReadingJournals.{entry_named, step_named, clearing_named, entry_of, is_up_to, step_count, clearing_count, journal_of}
use Rattle.world_schedules.specs.Reading.{Gives}
use Rattle.world_schedules.specs.ReadingWords.{formed_words}
use Rattle.world_schedules.specs.declared.fault.ReadError.{ReadError}
use Rattle.world_schedules.proofs.JournalLemmas.{steps_counted, clearings_counted}
use Rattle.world_schedules.proofs.NameLemmas.{clearing_read}
use Rattle.world_schedules.proofs.ScheduleLaws.{guarded_option, some_with}
use Rattle.world_schedules.proofs.WordLaws.{words_of-parts, all_parts, are_words}

-- ---- one word

-- an entry is spelled by the bytes, and it may stand in a journal of eight threads
pub record IsEntryOf (bytes : List ℕ) (e : Entry) : Type 0 where
  pub spelled : bytes ≡ entry_text e
  pub allowed : is_entry 8 e ≡ true

-- what is known of such an entry is what may stand in a journal
pub known_is : (threads : ℕ) (e : Entry) → is_entry 8 e ≡ true → is_up_to threads e ≡ is_entry threads e
known_is threads (Step k refused) h = ap (λ b. b && nat_le k threads) (sym (and_parts (nat_le 1 k) (nat_le k 8) h).0)
known_is threads (Clearing names) h = sym h

-- the mark of a refused allocation
abbrev mark : Bool → List ℕ
mark refused = cond refused (33 ∷ []) []

entry_read : (name : ℕ) (refused : Bool) (e : Entry) → entry_named name refused ≡ Some e → IsEntryOf (name ∷ mark refused) e
entry_read name refused e h =
    let g = cond_some (nat_le 49 name && nat_le name 56) (Step (name - 48) refused) e h in
    let t = and_parts (nat_le 49 name) (nat_le name 56) g.0 in
    let low : 49 ≤ name = grind (arith, nat_tests, t.0) in
    let high : name ≤ 56 = grind (arith, nat_tests, t.1) in
    let digit : 48 + (name - 48) ≡ name = omega (arith, low) in
    let one : nat_le 1 (name - 48) ≡ true = grind (arith, nat_tests, low) in
    let eight : nat_le (name - 48) 8 ≡ true = grind (arith, nat_tests, high) in
    subst (IsEntryOf (name ∷ mark refused)) g.1 (record {
      spelled = ap (λ (ds : List ℕ). ds ++ mark refused) (sym (decimal_digit (name - 48) (omega (arith, high)) ∙ ap (λ n. n ∷ []) digit));
      allowed = and_from (nat_le 1 (name - 48)) (nat_le (name - 48) 8) one eight;
    })

step_read : (name : ℕ) (rest : List ℕ) (e : Entry) → step_named name rest ≡ Some e → IsEntryOf (name ∷ rest) e
step_read name [] e h = entry_read name false e h
step_read name (sign ∷ []) e h =
    let g = guarded_option (sign == 33) (entry_named name true) e h in
    let is : sign ≡ 33 = grind (arith, nat_tests, g.0) in
    subst (λ s. IsEntryOf (name ∷ s ∷ []) e) (sym is) (entry_read name true e g.1)
step_read name (sign ∷ more ∷ bytes) e h = absurd (cc)

cleared_read : (first : ℕ) (rest : List ℕ) (e : Entry) → 126 ≡ first → clearing_named rest ≡ Some e → IsEntryOf (first ∷ rest) e
cleared_read first rest e is h =
    let c = clearing_read rest e h in
    subst (λ n. IsEntryOf (n ∷ rest) e) is (subst (IsEntryOf (126 ∷ rest)) (sym c.is) (record { spelled = c.spelled; allowed = and_from (are_rising c.names) (list_all is_name c.names) c.rising c.named }))

pub word_read : (bytes : List ℕ) (e : Entry) → entry_of bytes ≡ Some e → IsEntryOf bytes e
word_read [] e h = absurd (cc)
word_read (first ∷ rest) e h = by_test (first == 126) refl h
  where
    by_test : (b : Bool) → (first == 126) ≡ b → cond b (clearing_named rest) (step_named first rest) ≡ Some e → IsEntryOf (first ∷ rest) e
    by_test true t g = let is : 126 ≡ first = grind (arith, nat_tests, t) in cleared_read first rest e is g
    by_test false t g = step_read first rest e g

-- ---- all words

pub record AreEntriesOf (parts : List (List ℕ)) (es : Journal) : Type 0 where
  pub spelled : filter is_some_byte parts ≡ map entry_text es
  pub known : (threads : ℕ) → list_all (is_up_to threads) es ≡ true → list_all (is_entry threads) es ≡ true

entries_read : (parts : List (List ℕ)) (es : Journal) → formed_words entry_of parts ≡ Some es → AreEntriesOf parts es
entries_read [] es h = let none : [] ≡ es = cc in subst (AreEntriesOf []) none (record { spelled = refl; known = λ threads k. refl })
entries_read ([] ∷ parts) es h = let a = entries_read parts es h in record { spelled = a.spelled; known = a.known }
entries_read ((c ∷ cs) ∷ parts) es h =
    let w = some_with (entry_of (c ∷ cs)) (formed_words entry_of parts) es h in
    let first = word_read (c ∷ cs) w.0 w.2 in
    let a = entries_read parts w.1 w.3 in
    subst (AreEntriesOf ((c ∷ cs) ∷ parts)) (sym w.4) (record {
      spelled = ap (λ (b : List ℕ). b ∷ filter is_some_byte parts) first.spelled ∙ ap (λ (bs : List (List ℕ)). entry_text w.0 ∷ bs) a.spelled;
      known = λ threads k.
          let both = and_parts (is_up_to threads w.0) (list_all (is_up_to threads) w.1) k in
          and_from (is_entry threads w.0) (list_all (is_entry threads) w.1) (sym (known_is threads w.0 first.allowed) ∙ both.0) (a.known threads both.1);
    })

-- what is read is meant
pub journal_is_meant : (threads : ℕ) (text : List ℕ) (journal : Journal) → journal_of text threads ≡ Ok journal → IsJournalText threads text journal
journal_is_meant threads text journal h =
    let ws = are_words entry_of (is_up_to threads) step_count clearing_count 1 0 0 (parts_of 10 text) journal (omega arith) (omega arith) h in
    let es = entries_read (all_parts text) journal ws.formed in
    record {
      spelled = words_of-parts text ∙ es.spelled;
      known = es.known threads ws.all_known;
      few = omega (arith, steps_counted journal, ws.few);
      few_clearings = omega (arith, clearings_counted journal, ws.few_others);
    }

pub journal_means : (threads : ℕ) (text : List ℕ) (r : Result (Vec Entry) ReadError) → Gives (λ (v : Vec Entry). v.items) r (journal_of text threads) → IfOk r (λ (v : Vec Entry). IsJournalText threads text v.items)
journal_means threads text (Ok v) h = journal_is_meant threads text v.items h
journal_means threads text (Err e) h = tt
