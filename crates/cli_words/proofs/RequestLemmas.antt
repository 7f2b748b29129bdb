-- What words ask for, by what `clap` answers.
use Rattle.std.proofs.Common.{◌≡◌, ◌≢◌, ℕ, List, [], map, Option, Some, None, inl, inr, ap, ◌∙◌}
use Rattle.std.specs.Prelude.{codes, option_map}
use Rattle.std.specs.Borrow.{Bor}
use Rattle.clap.proofs.WalkLemmas.{first_value-rows, raw_values-rows}
use Rattle.clap.specs.Faults.{fault_of}
use Rattle.clap.specs.Kinds.{HasKind}
use Rattle.clap.specs.Matches.{first_value, matched_of, raw_values}
use Rattle.clap.specs.Simple.{subcommand_of}
use Rattle.clap.specs.Walk.{Row, all_of, first_of, rows_of}
use Rattle.clap.specs.declared.error.Error.{Error}
use Rattle.clap.specs.declared.parser.matches.Found.{Found as Entries}
use Rattle.clap.specs.Values.{kind_of}
use Rattle.cli_commands.specs.declared.command.Command.{Command}
use Rattle.cli_commands.specs.declared.command.Command.TheVariants.{Check, Run, Work, Replay}
use Rattle.cli_words.specs.CommandLine.{command_line}
use Rattle.cli_words.specs.Requests.{Found, Names, AreNamed, AsksFor, IsTold, IsRead, AreRead}
use Rattle.cli_words.specs.declared.request.Request.{Request}
use Rattle.cli_words.specs.declared.request.Request.TheVariants.{Serve, Trace, CheckEach, CheckAll, WriteLog, Explain, Show, Misuse, LacksOrder, LacksMemory}

-- the value of a word, as it is read
pub value_is : (f : Entries) (id name : List ℕ) (value : Option (Bor (List ℕ))) → option_map (λ s. s.now) value ≡ first_value f id → id ≡ name → option_map (λ s. s.now) value ≡ first_of name (rows_of f)
value_is f id name value h same = h ∙ first_value-rows f id ∙ ap (λ (n : List ℕ). first_of n (rows_of f)) same

-- the values of a word, as they are read
pub values_are : (f : Entries) (id name : List ℕ) (values : Option (Bor (List (Bor (List ℕ))))) → option_map (λ s. map (λ v. v.now) s.now) values ≡ option_map raw_values (matched_of f id) → id ≡ name
    → option_map (λ s. map (λ v. v.now) s.now) values ≡ all_of name (rows_of f)
values_are f id name values h same = h ∙ raw_values-rows f id ∙ ap (λ (n : List ℕ). all_of n (rows_of f)) same

-- without a program no command but a check is named
no_command : (name : List ℕ) (rows : List Row) → name ≢ codes "check" → first_of (codes "PROG") rows ≡ None → (command : Command) → Names name rows command → ⊥
no_command name rows other missing (Check p) h = other h.0
no_command name rows other missing (Run p w s) h = absurd (cc (missing, h.1))
no_command name rows other missing (Work p w) h = absurd (cc (missing, h.1))
no_command name rows other missing (Replay p w j) h = absurd (cc (missing, h.1))

pub none_named : (name : List ℕ) (rows : List Row) (r : Option Command) → name ≢ codes "check" → first_of (codes "PROG") rows ≡ None → r ≡ None → AreNamed name rows r
none_named name rows (Some command) other missing none = absurd (cc none)
none_named name rows None other missing none = no_command name rows other missing

-- and without one no check
pub none_checked : (rows : List Row) → all_of (codes "PROG") rows ≡ None → AsksFor (Some (codes "check", rows)) LacksOrder
none_checked rows missing = (λ e. absurd (cc e), named, λ programs. (λ h. absurd (cc (missing, h.1)), λ h. absurd (cc (missing, h.1)), λ h. absurd (cc (missing, h.1))))
  where
    named : (command : Command) → Names (codes "check") rows command → ⊥
    named (Check p) h = absurd (cc (missing, h.1))
    named (Run p w s) h = absurd (cc h.0)
    named (Work p w) h = absurd (cc h.0)
    named (Replay p w j) h = absurd (cc h.0)

-- what is told of words is read off them
pub read_told : (words : List (List ℕ)) (error : Error) (r : Request) → IsTold error r → HasKind (fault_of command_line words) error → AreRead words r
read_told words error (Serve command) h kind = absurd h
read_told words error (Explain explanation) h kind = absurd h
read_told words error (CheckEach programs) h kind = absurd h
read_told words error (CheckAll programs) h kind = absurd h
read_told words error (WriteLog programs) h kind = absurd h
read_told words error (Trace command trace) h kind = absurd h
read_told words error LacksOrder h kind = absurd h
read_told words error LacksMemory h kind = tt
read_told words error (Show text) (inl help) (inl memory) = absurd (cc (memory, help))
read_told words error (Show text) (inr version) (inl memory) = absurd (cc (memory, version))
read_told words error (Show text) h (inr among) = (kind_of error, among, h)
read_told words error (Misuse text) h (inl memory) = absurd (h.1 memory)
read_told words error (Misuse text) h (inr among) = (kind_of error, among, h.0)

-- what words without a fault ask for
pub read_taken : (words : List (List ℕ)) (r : Request) → fault_of command_line words ≡ [] → AsksFor (subcommand_of command_line words) r → AreRead words r
read_taken words r none asked = go (subcommand_of command_line words) r asked
  where
    go : (found : Found) (r : Request) → AsksFor found r → IsRead (fault_of command_line words) found r
    go found (Serve command) h = (none, h)
    go found (CheckEach programs) h = (none, h)
    go found (CheckAll programs) h = (none, h)
    go found (WriteLog programs) h = (none, h)
    go found (Trace command trace) h = (none, h)
    go found (Explain explanation) h = (none, h)
    go found LacksOrder h = (none, h)
    go found LacksMemory h = tt
    go (Some f) (Show text) h = absurd h
    go None (Show text) h = absurd h
    go (Some f) (Misuse text) h = absurd h
    go None (Misuse text) h = absurd h
