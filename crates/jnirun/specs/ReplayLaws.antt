-- A law: the journal that a run wrote, by a schedule or by workers, can be replayed, and its replay writes what the run wrote.
use Rattle.std.specs.Prelude.{◌≡◌, List, ℕ, length, Ok}
use Rattle.world_schedules.specs.ReadingJournals.{journal_of}
use Rattle.jnirun.specs.Runs.{IsRun}
use Rattle.jnirun.specs.Works.{IsWork}
use Rattle.jnirun.specs.Replays.{IsReplay, IsPossible}

-- the journal's text can be replayed, and its replay writes this text
abbrev pub IsReplayedAs : (program world journal written : List ℕ) → Type 0
IsReplayedAs program world journal written = IsPossible program world journal × ((again : List ℕ) → IsReplay program world journal again → again ≡ written)

-- the text of a journal is read as the journal of a run
abbrev pub IsJournalOf : {program world schedule written : List ℕ} → IsRun program world schedule written → (journal : List ℕ) → Type 0
IsJournalOf run journal = journal_of journal (length run.meaning.world.threads) ≡ Ok run.journal

abbrev pub RunsAreReplayed : Type 0
RunsAreReplayed = (program world schedule journal written : List ℕ) (run : IsRun program world schedule written)
    → IsJournalOf run journal → IsReplayedAs program world journal written

-- the same of a run by workers
abbrev pub IsJournalOfWork : {program world written : List ℕ} → IsWork program world written → (journal : List ℕ) → Type 0
IsJournalOfWork work journal = journal_of journal (length work.meaning.world.threads) ≡ Ok work.journal

abbrev pub WorksAreReplayed : Type 0
WorksAreReplayed = (program world journal written : List ℕ) (work : IsWork program world written)
    → IsJournalOfWork work journal → IsReplayedAs program world journal written
