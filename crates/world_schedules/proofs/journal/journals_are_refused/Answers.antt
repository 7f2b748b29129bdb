use Rattle.world_schedules.proofs.FirstJournals.{journals_refused, journals_accepted}
use Rattle.world_schedules.proofs.journal.journals_are_refused.Goals as goal

pub returns-clause-first : goal.returns-clause-first
returns-clause-first c = journals_refused

pub returns-clause-only : goal.returns-clause-only
returns-clause-only c = journals_accepted
