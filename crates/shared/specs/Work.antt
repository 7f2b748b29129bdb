-- How the workers' runs end.
use Rattle.std.specs.Prelude.{◌<◌, ◌≤◌, true, false}
use Rattle.base.specs.Limits.{most_entries}
use Rattle.semantics.specs.Journal.{steps_in}
use Rattle.machine.specs.Run.{Run, IsFinished}
use Rattle.shared.specs.declared.work.Verdict.{Verdict}
use Rattle.shared.specs.declared.work.Verdict.TheVariants.{NoMemory, Done, Full, Stalled}

-- what a verdict says of the machine that is handed back
abbrev pub VerdictHolds : Run → Verdict → Type 0
VerdictHolds r NoMemory = Unit {0}
VerdictHolds r Done = IsFinished r true
VerdictHolds r Full = IsFinished r false × (most_entries ≤ steps_in r.journal)
VerdictHolds r Stalled = IsFinished r false × (steps_in r.journal < most_entries)
