-- Schedules are refused with their first fault.
use Rattle.std.proofs.Common.{◌≡◌, ℕ, Bool, true, false, List, length, Option, Some, None, Err, refl, sym, ap, ◌∙◌, arith}
use Rattle.std.specs.Prelude.{◌↔◌, ◌&&◌, flat_map, IsOk}
use Rattle.std.proofs.lemmas.Bool.{and_from, and_parts}
use Rattle.std.proofs.lemmas.List.{length-replicate}
use Rattle.semantics.specs.declared.schedule.ScheduleWord.{ScheduleWord}
use Rattle.world_schedules.specs.declared.fault.TextFault.{TextFault}
use Rattle.world_schedules.specs.declared.schedule.Repetition.{Repetition}
use Rattle.world_schedules.specs.FirstFaults.{lines_of, schedule_kind, BreakNoRule, IsFirstFault}
use Rattle.world_schedules.specs.ReadingSchedules.{repetition_of, is_known_turn, repeated_words, schedule_of}
use Rattle.world_schedules.specs.ReadingWords.{text_words}
use Rattle.world_schedules.specs.ScheduleText.{words_meant, is_turn, is_count}
use Rattle.world_schedules.proofs.FaultLaws.{IsReader, Verdict, of_text, and_then, refused_first, accepted_only}
use Rattle.world_schedules.proofs.MeantSchedules.{repetition_for, word_is_read}
use Rattle.world_schedules.proofs.ScheduleLaws.{known_is, repetition_read}

and_true : (a b : Bool) → b ≡ true → a ≡ (a && b)
and_true true b h = sym h
and_true false b h = refl

abbrev is_known : ℕ → Repetition → Bool
is_known threads r = is_known_turn threads r.word

abbrev times : Repetition → ℕ
times r = r.times

abbrev apart : Repetition → ℕ
apart r = 0

word_found : (threads : ℕ) (w : ScheduleWord × Option ℕ) → is_turn 8 w.0 ≡ true → is_count w.1 ≡ true → (is_known threads (repetition_for w) ≡ (is_turn threads w.0 && is_count w.1)) × ((repetition_for w).times ≡ length (words_meant w))
word_found threads (word, None) turn count = (known_is threads word turn ∙ and_true (is_turn threads word) true refl, refl)
word_found threads (word, Some n) turn count = (known_is threads word turn ∙ and_true (is_turn threads word) (is_count (Some n)) count, sym (length-replicate n word))

reader : (threads : ℕ) → IsReader schedule_kind threads repetition_of (is_known threads) times apart
reader threads = record {
  reads = λ bytes r h. let a = repetition_read bytes r h in record {
    word = (r.word, a.times);
    text = a.spelled;
    formed = and_from (is_turn 8 r.word) (is_count a.times) a.allowed a.counted;
    known = known_is threads r.word a.allowed ∙ and_true (is_turn threads r.word) (is_count a.times) a.counted;
    counted = sym (length-replicate r.times r.word) ∙ ap length (sym a.meant);
    counted_apart = refl;
  };
  finds = λ w h.
      let b = and_parts (is_turn 8 w.0) (is_count w.1) h in
      let i = word_is_read 8 w (omega arith) b.0 b.1 in
      let f = word_found threads w b.0 b.1 in
      (repetition_for w, ap repetition_of i.bytes ∙ i.is, f.0, f.1, refl);
}

verdict : (threads : ℕ) (text : List ℕ) → Verdict schedule_kind threads repetition_of (is_known threads) times apart (reader threads) (lines_of text) (schedule_of text threads)
verdict threads text =
    and_then schedule_kind threads repetition_of (is_known threads) times apart (reader threads) (lines_of text) (text_words repetition_of (is_known threads) times apart text) (flat_map repeated_words)
    (of_text schedule_kind threads repetition_of (is_known threads) times apart (reader threads) text)

pub schedules_refused : (threads : ℕ) (text : List ℕ) (fault : TextFault) → (schedule_of text threads ≡ Err fault) ↔ IsFirstFault schedule_kind threads (lines_of text) fault
schedules_refused threads text fault = refused_first schedule_kind threads repetition_of (is_known threads) times apart (reader threads) (lines_of text) (schedule_of text threads) (verdict threads text) fault

pub schedules_accepted : (threads : ℕ) (text : List ℕ) → IsOk (schedule_of text threads) ↔ BreakNoRule schedule_kind threads (lines_of text)
schedules_accepted threads text = accepted_only schedule_kind threads repetition_of (is_known threads) times apart (reader threads) (lines_of text) (schedule_of text threads) (verdict threads text)
