use Rattle.world_schedules.proofs.JournalLaws.{journal_means}
use Rattle.world_schedules.proofs.journal.read_journal.Goals as goal

pub returns-clause-means : goal.returns-clause-means
returns-clause-means c = journal_means c.args.threads c.args.text.now c.read_words.result c.read_words.ensures
