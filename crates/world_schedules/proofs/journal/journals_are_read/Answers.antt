use Rattle.world_schedules.proofs.JournalLaws.{journal_is_meant}
use Rattle.world_schedules.proofs.MeantJournals.{meant_journal}
use Rattle.world_schedules.proofs.journal.journals_are_read.Goals as goal

pub returns : goal.returns
returns c threads text journal most = (journal_is_meant threads text journal, meant_journal threads text journal most)
