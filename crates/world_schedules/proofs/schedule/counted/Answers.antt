use Rattle.std.proofs.Common.{◌≡◌, ℕ, ◌^◌, ◌-◌, min, Option, Some, None, ◌∙◌, arith}
use Rattle.std.specs.Prelude.{option_and_then}
use Rattle.std.specs.Option.{option_map}
use Rattle.std.proofs.lemmas.Bool.Decides.{nat_tests}
use Rattle.semantics.specs.declared.schedule.ScheduleWord.{ScheduleWord}
use Rattle.world_schedules.specs.ReadingSchedules.{repetition}
use Rattle.world_schedules.proofs.schedule.counted.Goals as goal

same_times : (word : ScheduleWord) (n times : ℕ) → times ≡ min n (2 ^ 64 - 1) → repetition times word ≡ repetition n word
same_times word n times h = grind (arith, nat_tests)

of_natural : (word : ScheduleWord) (o : Option ℕ) (times : ℕ) → Some times ≡ option_map (λ n. min n (2 ^ 64 - 1)) o → repetition times word ≡ option_and_then (λ n. repetition n word) o
of_natural word None times h = absurd (cc)
of_natural word (Some n) times h = same_times word n times (cc)

pub returns : goal.returns
returns c = c.repeated.ensures ∙ rw (← c.in_ok-word_of.ensures) (of_natural c.in_ok-word_of.field-0 _ c.in_ok-natural.field-0 c.in_ok-natural.ensures)
