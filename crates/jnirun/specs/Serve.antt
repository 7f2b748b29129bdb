-- What the commands do with files, standard output and standard error.
use Rattle.std.specs.Prelude.{◌≡◌, ℕ, List, [], Option, Some, None, unwrap_or, codes}
use Rattle.sinks.specs.Sink.{Written, StopsWithin}
use Rattle.cli_commands.specs.declared.command.Command.{Command}
use Rattle.cli_commands.specs.declared.command.Command.TheVariants.{Check, Run, Work, Replay}
use Rattle.places.specs.declared.place.Place.{Place}
use Rattle.places.specs.declared.place.Place.TheVariants.{Line}
use Rattle.program_check.specs.Checks.{PassesCheck, FailsCheck}
use Rattle.places.specs.Places.{text_at}
use Rattle.cli_commands.specs.Commands.{name_of, text_of}
use Rattle.cli_commands.specs.Files.{OfFiles, LacksOne}
use Rattle.replay.specs.declared.trap_at.TrapAt.{TrapAt}
use Rattle.places.specs.declared.place.Text.TheVariants as which
use Rattle.jnirun.specs.Replays.{EndsReplay, AreRefusedReplays}
use Rattle.jnirun.specs.Runs.{EndsRun, AppendsRun, StopsRun}
use Rattle.cli_commands.specs.Saying.{SendsText, Tells, fault_line}
use Rattle.cli_commands.specs.Telling.{told}
use Rattle.cli_explanations.specs.Titles.{fault_title, trap_title}
use Rattle.jnirun.specs.Texts.{AreRefused}
use Rattle.jnirun.specs.Works.{EndsWork, AreRefusedWork}

-- ---- standard output

-- what a check of a program writes
abbrev pub passed : List ℕ
passed = codes "ok\n"

-- What the command writes of these texts: `ok` for a program that passes a check, or the report and the journal of a run or of a
-- replay; and the trap that stopped the run, if one did.
abbrev pub TextsWrite : Command → (program world order : List ℕ) → Option TrapAt → (text : List ℕ) → Type 0
TextsWrite (Check p) program world order trap text = PassesCheck program × (trap ≡ None) × (text ≡ passed)
TextsWrite (Run p w s) program world order trap text = EndsRun program world order trap text
TextsWrite (Work p w) program world order trap text = EndsWork program world trap text
TextsWrite (Replay p w j) program world order trap text = EndsReplay program world order trap text

-- the texts earn the number and the place of a fault
abbrev pub TextsEarn : Command → (program world order : List ℕ) → (number : ℕ) → Place → Type 0
TextsEarn (Check p) program world order number place = FailsCheck program number place
TextsEarn (Run p w s) program world order number place = AreRefused program world order number place
TextsEarn (Work p w) program world order number place = AreRefusedWork program world number place
TextsEarn (Replay p w j) program world order number place = AreRefusedReplays program world order number place

-- ---- standard error

-- the words on a fault: its title, or, of a number that has none, that the text is refused
abbrev pub fault_words : (number : ℕ) → List ℕ
fault_words number = unwrap_or (fault_title number) (codes "the text is refused")

-- the words on a trap: its title, or, of a number that has none, that the program stops
abbrev pub trap_words : (number : ℕ) → List ℕ
trap_words number = unwrap_or (trap_title number) (codes "the program stops")

-- where and why a text of the command is refused, and what was found there
abbrev pub error_text : Command → (program world order : List ℕ) → (number : ℕ) → Place → (detail : List ℕ) → List ℕ
error_text command program world order number place detail =
    told (codes "error") (name_of command (text_at place)) (text_of program world order (text_at place)) number place (fault_words number) detail

-- where and why a trap stopped the run
abbrev pub trap_text : Command → (program : List ℕ) → TrapAt → List ℕ
trap_text command program trap = told (codes "trap") (name_of command which.Program) program trap.number
    (Line which.Program trap.line) (trap_words trap.number) []

-- the trap that stopped the run is told, and without one nothing is
abbrev pub TellsTrap : Command → (program : List ℕ) → (err err_after : Written) → Option TrapAt → Type 0
TellsTrap command program err err_after None = err_after ≡ err
TellsTrap command program err err_after (Some trap) = Tells err err_after (trap_text command program trap)

-- ---- how a command goes

-- What is done by a command with its texts, on standard output and standard error, and the status.
pub data ServesTexts (command : Command) (program world order : List ℕ) (out out_after err err_after : Written) : (status : ℕ) → Type 0 where
  -- what it writes is written, and a trap that stopped the run is told
  is_done : (trap : Option TrapAt) → AppendsRun out out_after (TextsWrite command program world order trap) → TellsTrap command program err err_after trap
      → ServesTexts command program world order out out_after err err_after 0
  -- the line of a fault that the texts earn is sent, and the fault is told
  is_refused : (number : ℕ) (place : Place) (detail : List ℕ) → TextsEarn command program world order number place
      → SendsText out out_after (fault_line number place)
      → Tells err err_after (error_text command program world order number place detail)
      → ServesTexts command program world order out out_after err err_after 1
  -- memory was refused, and nothing is written
  lacks_memory : out_after ≡ out → Tells err err_after (codes "memory\n") → ServesTexts command program world order out out_after err err_after 3
  -- standard output failed within what the command writes, or within the line of a fault that the texts earn
  loses_text : StopsRun out out_after (λ text. (trap : Option TrapAt)
      × TextsWrite command program world order trap text) → Tells err err_after (codes "writer\n")
      → ServesTexts command program world order out out_after err err_after 3
  loses_fault : (number : ℕ) (place : Place) → TextsEarn command program world order number place
      → StopsWithin out out_after (fault_line number place) → Tells err err_after (codes "writer\n")
      → ServesTexts command program world order out out_after err err_after 3

-- What is done by a command, where files may be read as some texts and others may be lacking.
pub data Serves (gives : List ℕ → List ℕ → Type 0) (lacks : List ℕ → Type 0) (command : Command)
    (out out_after err err_after : Written) : (status : ℕ) → Type 0 where
  -- its files were read
  on_texts : (status : ℕ) → OfFiles gives command
      (λ p w o. ServesTexts command p w o out out_after err err_after status)
      → Serves gives lacks command out out_after err err_after status
  -- memory was refused, or a file of the command is lacking, and nothing is written
  cannot_read : out_after ≡ out → Tells err err_after (codes "memory\n") → Serves gives lacks command out out_after err err_after 3
  has_no_file : LacksOne lacks command → out_after ≡ out → Tells err err_after (codes "file\n") → Serves gives lacks command out out_after err err_after 3
