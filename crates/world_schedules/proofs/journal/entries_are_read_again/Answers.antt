use Rattle.world_schedules.proofs.JournalLemmas.{entries_again}
use Rattle.world_schedules.proofs.journal.entries_are_read_again.Goals as goal

pub returns : goal.returns
returns c = entries_again
