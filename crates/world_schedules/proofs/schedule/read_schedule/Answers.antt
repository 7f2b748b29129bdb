use Rattle.std.proofs.Common.{ap, Ok}
use Rattle.std.specs.Prelude.{flat_map}
use Rattle.world_schedules.specs.Reading.{◌>>=◌}
use Rattle.world_schedules.specs.ReadingSchedules.{repeated_words}
use Rattle.world_schedules.proofs.ScheduleLaws.{schedule_is_meant}
use Rattle.world_schedules.proofs.SingleTurns.{turns_are_read}
use Rattle.world_schedules.proofs.schedule.read_schedule.Goals as goal

pub returns-in-Some-clause-read : goal.returns-in-Some-clause-read
returns-in-Some-clause-read c =
    let found = rw c.in-Some.is at c.in_ok-turns.ensures in
    turns_are_read c.args.threads c.args.text.now c.in-Some.turns.items found.0 found.1

pub returns-in-Some-clause-means : goal.returns-in-Some-clause-means
returns-in-Some-clause-means c = schedule_is_meant c.args.threads c.args.text.now _ (returns-in-Some-clause-read c)

pub returns-clause-means : goal.returns-clause-means
returns-clause-means c = schedule_is_meant c.args.threads c.args.text.now _ (ap (λ r. r >>= λ repetitions. Ok (flat_map repeated_words repetitions)) c.in_ok-repetitions.ensures)
