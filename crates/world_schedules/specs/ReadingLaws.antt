-- Laws: the schedule or the journal that a text means is what is read of it, and a text is refused with its first fault.
use Rattle.std.specs.Prelude.{◌≡◌, ◌↔◌, ◌≤◌, ℕ, List, Ok, Err, IsOk}
use Rattle.semantics.specs.Journal.{Journal}
use Rattle.semantics.specs.Schedule.{Schedule}
use Rattle.world_schedules.specs.declared.fault.TextFault.{TextFault}
use Rattle.world_schedules.specs.FirstFaults.{lines_of, schedule_kind, journal_kind, BreakNoRule, IsFirstFault}
use Rattle.world_schedules.specs.JournalMeaning.{IsJournalText}
use Rattle.world_schedules.specs.ReadingJournals.{journal_of}
use Rattle.world_schedules.specs.ReadingSchedules.{schedule_of}
use Rattle.world_schedules.specs.ScheduleText.{IsScheduleText}

-- a schedule is read of exactly the texts that mean it
abbrev pub SchedulesAreRead : Type 0
SchedulesAreRead = (threads : ℕ) (text : List ℕ) (schedule : Schedule) → threads ≤ 8
    → (schedule_of text threads ≡ Ok schedule) ↔ IsScheduleText threads text schedule

-- a journal is read of exactly the texts that mean it
abbrev pub JournalsAreRead : Type 0
JournalsAreRead = (threads : ℕ) (text : List ℕ) (journal : Journal) → threads ≤ 8 → (journal_of text threads ≡ Ok journal) ↔ IsJournalText threads text journal

-- a schedule is refused with exactly the first fault of its lines
abbrev pub SchedulesAreRefused : Type 0
SchedulesAreRefused = (threads : ℕ) (text : List ℕ) (fault : TextFault)
    → (schedule_of text threads ≡ Err fault) ↔ IsFirstFault schedule_kind threads (lines_of text) fault

-- a schedule is read of exactly the texts of which no line breaks a rule
abbrev pub SchedulesAreAccepted : Type 0
SchedulesAreAccepted = (threads : ℕ) (text : List ℕ) → IsOk (schedule_of text threads) ↔ BreakNoRule schedule_kind threads (lines_of text)

-- a journal is refused with exactly the first fault of its lines
abbrev pub JournalsAreRefused : Type 0
JournalsAreRefused = (threads : ℕ) (text : List ℕ) (fault : TextFault)
    → (journal_of text threads ≡ Err fault) ↔ IsFirstFault journal_kind threads (lines_of text) fault

-- a journal is read of exactly the texts of which no line breaks a rule
abbrev pub JournalsAreAccepted : Type 0
JournalsAreAccepted = (threads : ℕ) (text : List ℕ) → IsOk (journal_of text threads) ↔ BreakNoRule journal_kind threads (lines_of text)
