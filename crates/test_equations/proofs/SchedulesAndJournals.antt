-- Texts of schedules and journals.
use Rattle.std.specs.Prelude.{◌≡◌, true, false, [], ◌∷◌, Some, None, codes, refl}
use Rattle.std.proofs.Common.{arith}
use Rattle.std.specs.Fmt.{digits}
use Rattle.semantics.specs.Journal.{Step, Clearing}
use Rattle.semantics.specs.declared.schedule.ScheduleWord.TheVariants.{Turn, Collect, Slice}
use Rattle.world_schedules.specs.JournalMeaning.{IsJournalText}
use Rattle.world_schedules.specs.ScheduleText.{schedule_word, IsScheduleText}
use Rattle.world_schedules.specs.Words.{words_of}

words : words_of (codes " 1*2  c\n3 ") ≡ codes "1*2" ∷ codes "c" ∷ codes "3" ∷ []
unfolding digits
words = refl

twenty_turns : schedule_word (Turn 1, Some 20) ≡ codes "1*20"
unfolding digits
twenty_turns = refl

schedule-text : IsScheduleText 2 (codes "1*3 c\n2") (Turn 1 ∷ Turn 1 ∷ Turn 1 ∷ Collect ∷ Turn 2 ∷ [])
unfolding digits
schedule-text = record { words = (Turn 1, Some 3) ∷ (Collect, None) ∷ (Turn 2, None) ∷ []; spelled = refl; counted = refl; meant = refl; few = omega arith }

three_slices : schedule_word (Slice, Some 3) ≡ codes "s*3"
unfolding digits
three_slices = refl

slices-text : IsScheduleText 1 (codes "s 1*2\ns*3 c") (Slice ∷ Turn 1 ∷ Turn 1 ∷ Slice ∷ Slice ∷ Slice ∷ Collect ∷ [])
unfolding digits
slices-text = record { words = (Slice, None) ∷ (Turn 1, Some 2) ∷ (Slice, Some 3) ∷ (Collect, None) ∷ []; spelled = refl; counted = refl; meant = refl; few = omega arith }

journal-text : IsJournalText 2 (codes "1 2! 1") (Step 1 false ∷ Step 2 true ∷ Step 1 false ∷ [])
unfolding digits
journal-text = record { spelled = refl; known = refl; few = omega arith; few_clearings = omega arith }

clearing-text : IsJournalText 2 (codes "1 ~46,48 2!") (Step 1 false ∷ Clearing (46 ∷ 48 ∷ []) ∷ Step 2 true ∷ [])
unfolding digits
clearing-text = record { spelled = refl; known = refl; few = omega arith; few_clearings = omega arith }
