-- The command line: its commands and their words, as `clap` reads them.
use Rattle.std.specs.Prelude.{◌≡◌, true, false, ℕ, List, [], ◌∷◌, ◌++◌, Some, codes}
use Rattle.clap.specs.declared.builder.command.Command.TheViews.{out-Command}
use Rattle.clap.specs.Walk.{Rule}
use Rattle.clap.specs.declared.builder.action.ArgAction.TheVariants.{Append, SetTrue}
use Rattle.clap.specs.Simple.{Shape, App, new_rule, new_shape, shape_of, with_subcommand}
use Rattle.clap.specs.declared.builder.command.Command.{Command}

-- ---- a word of a command

-- that must be given
abbrev pub required : (name : List ℕ) → Rule
required name = record (new_rule name) { required = true }

-- that must be given, and may be given more than once
abbrev pub several : (name : List ℕ) → Rule
several name = record (required name) { action = Some Append }

-- that may be left out
abbrev pub optional : (name : List ℕ) → Rule
optional name = new_rule name

-- that stands for itself: its value is `true` where it is given, and else `false`
abbrev pub flag : (option name : List ℕ) → Rule
flag option name = record (new_rule name) { long = Some option; action = Some SetTrue }

-- that may be given after an option
abbrev pub after : (option name : List ℕ) → Rule
after option name = record (new_rule name) { long = Some option }

-- ---- the commands

-- a command and its words
abbrev pub words_of : (name : List ℕ) → List Rule → Shape
words_of name rules = record (new_shape name) { rules = rules }

-- `check PROG`, of one program or of more, of which all faults may be told, or a log be written
abbrev pub check_words : Shape
check_words = words_of (codes "check") (several (codes "PROG") ∷ flag (codes "all") (codes "ALL") ∷ flag (codes "sarif") (codes "SARIF") ∷ [])

-- the files of a program and of a world
abbrev pub files : List Rule
files = required (codes "PROG") ∷ required (codes "WORLD") ∷ []

-- the steps are traced
abbrev pub trace_rule : Rule
trace_rule = flag (codes "trace") (codes "TRACE")

-- the calls alone are traced
abbrev pub trace_calls_rule : Rule
trace_calls_rule = flag (codes "trace-calls") (codes "TRACE_CALLS")

-- `run PROG WORLD --schedule FILE`, or `run PROG WORLD --workers`, which may be traced
abbrev pub run_words : Shape
run_words =
    words_of (codes "run")
    (files ++ after (codes "schedule") (codes "FILE") ∷ flag (codes "workers") (codes "WORKERS") ∷ trace_rule ∷ trace_calls_rule ∷ [])

-- `replay PROG WORLD JOURNAL`, which may be traced
abbrev pub replay_words : Shape
replay_words = words_of (codes "replay") (files ++ required (codes "JOURNAL") ∷ trace_rule ∷ trace_calls_rule ∷ [])

-- `explain N`, or `explain trap NUMBER`
abbrev pub explain_words : Shape
explain_words = words_of (codes "explain") (required (codes "N") ∷ optional (codes "NUMBER") ∷ [])

-- the program, which has a version, and of which a command must be named
abbrev pub line : App
line = record { top = record (new_shape (codes "jnirun")) { has_version = true; subcommand_required = true }; subs = [] }

-- the program with its commands
abbrev pub command_line : App
command_line = with_subcommand (with_subcommand (with_subcommand (with_subcommand line check_words) run_words) replay_words) explain_words

-- a command in memory has these words, and none that other commands share
abbrev pub IsLeaf : Shape → Command → Type 0
IsLeaf words c = (shape_of c ≡ words) × ((out-Command c).has_globals ≡ false)
