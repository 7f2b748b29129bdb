use Rattle.world_schedules.proofs.FirstSchedules.{schedules_refused, schedules_accepted}
use Rattle.world_schedules.proofs.schedule.schedules_are_refused.Goals as goal

pub returns-clause-first : goal.returns-clause-first
returns-clause-first c = schedules_refused

pub returns-clause-only : goal.returns-clause-only
returns-clause-only c = schedules_accepted
