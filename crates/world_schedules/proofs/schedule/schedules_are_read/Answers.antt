use Rattle.world_schedules.proofs.ScheduleLaws.{schedule_is_meant}
use Rattle.world_schedules.proofs.MeantSchedules.{meant_schedule}
use Rattle.world_schedules.proofs.schedule.schedules_are_read.Goals as goal

pub returns : goal.returns
returns c threads text schedule most = (schedule_is_meant threads text schedule, meant_schedule threads text schedule most)
