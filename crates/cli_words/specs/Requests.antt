-- What words ask for, by the rules of `clap`.
use Rattle.std.specs.Prelude.{◌≡◌, ◌≢◌, ◌<◌, ◌⊎◌, ℕ, List, [], ◌∷◌, map, length, Option, Some, None, Result, Ok, Err, codes}
use Rattle.std.specs.Str.Parse.{IsNumeral, digits_value, without_leading_plus}
use Rattle.clap.specs.Faults.{fault_of}
use Rattle.clap.specs.Kinds.{Kinds, IsAmong, HasKind}
use Rattle.clap.specs.Simple.{subcommand_of}
use Rattle.clap.specs.Values.{kind_of}
use Rattle.clap.specs.Walk.{Row, all_of, first_of}
use Rattle.clap.specs.declared.error.Error.{Error}
use Rattle.clap.specs.declared.error.kind.ErrorKind.{ErrorKind}
use Rattle.clap.specs.declared.error.kind.ErrorKind.TheVariants.{DisplayHelp, DisplayVersion, OutOfMemory}
use Rattle.cli_commands.specs.declared.command.Command.{Command}
use Rattle.cli_commands.specs.declared.command.Command.TheVariants.{Check, Run, Work, Replay}
use Rattle.cli_commands.specs.declared.command.Trace.{Trace as Traced}
use Rattle.cli_commands.specs.declared.command.Trace.TheVariants.{Steps, Calls}
use Rattle.cli_explanations.specs.Titles.{fault_title, trap_title}
use Rattle.cli_explanations.specs.declared.Explanation.{Explanation}
use Rattle.cli_words.specs.CommandLine.{command_line}
use Rattle.cli_words.specs.declared.request.Request.{Request}
use Rattle.cli_words.specs.declared.request.Request.TheVariants.{Serve, Trace, CheckEach, CheckAll, WriteLog, Explain, Show, Misuse, LacksOrder, LacksMemory}

-- ---- words that `clap` takes

-- what `clap` finds in the words: the command that they name, and its words with their values
abbrev pub Found : Type 0
Found = Option (List ℕ × List Row)

-- the value of a word of a command
abbrev pub HasValue : List Row → (name : List ℕ) → List ℕ → Type 0
HasValue rows name value = first_of name rows ≡ Some value

-- the values of a word of a command that may be given more than once
abbrev pub HasValues : List Row → (name : List ℕ) → List (List ℕ) → Type 0
HasValues rows name values = all_of name rows ≡ Some values

-- a word of a command that stands for itself is given
abbrev pub IsGiven : List Row → (name : List ℕ) → Type 0
IsGiven rows name = HasValue rows name (codes "true")

-- the command on files that the words name, each file by the word of its name; a run goes by a schedule or by workers, and not by both
abbrev pub Names : (command : List ℕ) → List Row → Command → Type 0
Names name rows (Check program) =
    (name ≡ codes "check") × HasValues rows (codes "PROG") (program.now ∷ []) × (IsGiven rows (codes "ALL") → ⊥) × (IsGiven rows (codes "SARIF") → ⊥)
Names name rows (Run program world schedule) =
    (name ≡ codes "run") × HasValue rows (codes "PROG") program.now × HasValue rows (codes "WORLD") world.now × HasValue rows (codes "FILE") schedule.now
    × (IsGiven rows (codes "WORKERS") → ⊥)
Names name rows (Work program world) =
    (name ≡ codes "run") × HasValue rows (codes "PROG") program.now × HasValue rows (codes "WORLD") world.now × (first_of (codes "FILE") rows ≡ None)
    × IsGiven rows (codes "WORKERS")
Names name rows (Replay program world journal) =
    (name ≡ codes "replay") × HasValue rows (codes "PROG") program.now × HasValue rows (codes "WORLD") world.now × HasValue rows (codes "JOURNAL") journal.now

-- such a command, where the words name one
abbrev pub AreNamed : (command : List ℕ) → List Row → Option Command → Type 0
AreNamed name rows (Some command) = Names name rows command
AreNamed name rows None = (command : Command) → Names name rows command → ⊥

-- the words name programs to check, two or more
abbrev pub NamesSeveral : (command : List ℕ) → List Row → (programs : List (List ℕ)) → Type 0
NamesSeveral name rows programs =
    (name ≡ codes "check") × HasValues rows (codes "PROG") programs × (1 < length programs) × (IsGiven rows (codes "ALL") → ⊥)
    × (IsGiven rows (codes "SARIF") → ⊥)

-- the words name programs of which all faults are told; of words for both a log is written
abbrev pub NamesAll : (command : List ℕ) → List Row → (programs : List (List ℕ)) → Type 0
NamesAll name rows programs =
    (name ≡ codes "check") × HasValues rows (codes "PROG") programs × (0 < length programs) × IsGiven rows (codes "ALL")
    × (IsGiven rows (codes "SARIF") → ⊥)

-- the words name programs of whose faults a log is written
abbrev pub NamesLog : (command : List ℕ) → List Row → (programs : List (List ℕ)) → Type 0
NamesLog name rows programs = (name ≡ codes "check") × HasValues rows (codes "PROG") programs × (0 < length programs) × IsGiven rows (codes "SARIF")

-- what is traced is as the words say: of words for both the calls alone
abbrev pub IsTraced : List Row → Traced → Type 0
IsTraced rows Calls = IsGiven rows (codes "TRACE_CALLS")
IsTraced rows Steps = IsGiven rows (codes "TRACE") × (IsGiven rows (codes "TRACE_CALLS") → ⊥)

-- nothing is traced
abbrev pub IsUntraced : List Row → Type 0
IsUntraced rows = (IsGiven rows (codes "TRACE") → ⊥) × (IsGiven rows (codes "TRACE_CALLS") → ⊥)

-- what is traced, and nothing where the words don't say it
abbrev pub AreTraced : List Row → Option Traced → Type 0
AreTraced rows (Some trace) = IsTraced rows trace
AreTraced rows None = IsUntraced rows

-- the number that a text spells in decimal digits, before which a plus may be
abbrev pub Spells : (text : List ℕ) → (number : ℕ) → Type 0
Spells text number = IsNumeral 10 (without_leading_plus text) × (number ≡ digits_value 10 (without_leading_plus text))

-- a fault is asked for, whose number is in the word `N`
abbrev pub AsksFault : List Row → (number : ℕ) → Type 0
AsksFault rows number = (text : List ℕ) × HasValue rows (codes "N") text × (first_of (codes "NUMBER") rows ≡ None) × Spells text number

-- a trap is asked for, whose number is in the word after `trap`
abbrev pub AsksTrap : List Row → (number : ℕ) → Type 0
AsksTrap rows number = (text : List ℕ) × HasValue rows (codes "N") (codes "trap") × HasValue rows (codes "NUMBER") text × Spells text number

-- this is of a fault or a trap that is asked for, and has its title
abbrev pub IsAskedFor : List Row → Explanation → Type 0
IsAskedFor rows e = (AsksFault rows e.number × (fault_title e.number ≡ Some e.title.now)) ⊎ (AsksTrap rows e.number × (trap_title e.number ≡ Some e.title.now))

-- what is said of what is asked for: this explanation, or nothing where it is no fault and no trap that has one
abbrev pub IsSaid : List Row → Option Explanation → Type 0
IsSaid rows (Some e) = IsAskedFor rows e
IsSaid rows None = (number : ℕ) → (AsksFault rows number → fault_title number ≡ None) × (AsksTrap rows number → trap_title number ≡ None)

-- the words name no programs to check but one
abbrev pub NoneChecked : (command : List ℕ) → List Row → Type 0
NoneChecked name rows =
    (programs : List (List ℕ)) → (NamesSeveral name rows programs → ⊥) × (NamesAll name rows programs → ⊥) × (NamesLog name rows programs → ⊥)

-- what is asked for: something with the files that are named, an explanation, or something of which a file isn't named, or that goes by no order or by two
abbrev pub AsksFor : Found → Request → Type 0
AsksFor (Some (name, rows)) (Serve command) = Names name rows command × (name ≢ codes "check" → IsUntraced rows)
AsksFor (Some (name, rows)) (Trace command trace) = Names name rows command × (name ≢ codes "check") × IsTraced rows trace
AsksFor (Some (name, rows)) (CheckEach programs) = NamesSeveral name rows (map (λ p. p.now) programs.items)
AsksFor (Some (name, rows)) (CheckAll programs) = NamesAll name rows (map (λ p. p.now) programs.items)
AsksFor (Some (name, rows)) (WriteLog programs) = NamesLog name rows (map (λ p. p.now) programs.items)
AsksFor (Some (name, rows)) (Explain explanation) = (name ≡ codes "explain") × IsSaid rows explanation
AsksFor (Some (name, rows)) LacksOrder = (name ≢ codes "explain") × AreNamed name rows None × NoneChecked name rows
AsksFor None LacksOrder = Unit {0}
AsksFor found request = ⊥

-- ---- words that `clap` doesn't take

-- the help or the version is the answer
abbrev pub IsHelp : ErrorKind → Type 0
IsHelp kind = (kind ≡ DisplayHelp) ⊎ (kind ≡ DisplayVersion)

-- What words ask for of which `clap` says this: the help or the version is shown, and else the words are misused, unless memory was refused.
abbrev pub IsTold : Error → Request → Type 0
IsTold error (Show text) = IsHelp (kind_of error)
IsTold error (Misuse text) = (IsHelp (kind_of error) → ⊥) × (kind_of error ≢ OutOfMemory)
IsTold error LacksMemory = Unit {0}
IsTold error (Serve command) = ⊥
IsTold error (CheckEach programs) = ⊥
IsTold error (CheckAll programs) = ⊥
IsTold error (WriteLog programs) = ⊥
IsTold error (Trace command trace) = ⊥
IsTold error (Explain explanation) = ⊥
IsTold error LacksOrder = ⊥

-- ---- all words

-- what `clap` makes of these words: it takes them and they ask for this, or it answers with one of the faults that it finds in them
abbrev pub AreParsed : (words : List (List ℕ)) → Result Request Error → Type 0
AreParsed words (Ok request) = (fault_of command_line words ≡ []) × AsksFor (subcommand_of command_line words) request
AreParsed words (Err error) = HasKind (fault_of command_line words) error

-- What is asked for by words in which `clap` finds this command and one of these faults, or none: a text is shown only where the fault is that the help
-- or the version is the answer, the words are misused only where it is another, and all else is asked for only by words without a fault.
abbrev pub IsRead : (faults : Kinds) → Found → Request → Type 0
IsRead faults found (Show text) = (kind : ErrorKind) × IsAmong kind faults × IsHelp kind
IsRead faults found (Misuse text) = (kind : ErrorKind) × IsAmong kind faults × (IsHelp kind → ⊥)
IsRead faults found LacksMemory = Unit {0}
IsRead faults found request = (faults ≡ []) × AsksFor found request

-- what these words ask for, of which the first is the program's name
abbrev pub AreRead : (words : List (List ℕ)) → Request → Type 0
AreRead words request = IsRead (fault_of command_line words) (subcommand_of command_line words) request
