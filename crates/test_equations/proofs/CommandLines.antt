-- What some words ask for.
use Rattle.std.proofs.Common.{◌≡◌, ℕ, List, [], ◌∷◌, Some, refl}
use Rattle.std.specs.Prelude.{codes, option_map}
use Rattle.clap.proofs.OnLiterals.{clap_on_literals}
use Rattle.clap.specs.Faults.{fault_of}
use Rattle.clap.specs.Simple.{subcommand_of}
use Rattle.clap.specs.Walk.{all_of, first_of}
use Rattle.clap.specs.declared.error.kind.ErrorKind.TheVariants.{DisplayHelp, DisplayVersion, MissingSubcommand, MissingRequiredArgument, UnknownArgument}
use Rattle.cli_words.specs.CommandLine.{command_line}

-- a file may be called `help`
check_help : fault_of command_line (codes "jnirun" ∷ codes "check" ∷ codes "help" ∷ []) ≡ []
unfolding clap_on_literals
check_help = refl

check_help_file : option_map (λ f. all_of (codes "PROG") f.1) (subcommand_of command_line (codes "jnirun" ∷ codes "check" ∷ codes "help" ∷ [])) ≡ Some (Some (codes "help" ∷ []))
unfolding clap_on_literals
check_help_file = refl

help : fault_of command_line (codes "jnirun" ∷ codes "--help" ∷ []) ≡ DisplayHelp ∷ []
unfolding clap_on_literals
help = refl

version : fault_of command_line (codes "jnirun" ∷ codes "-V" ∷ []) ≡ DisplayVersion ∷ []
unfolding clap_on_literals
version = refl

no_command : fault_of command_line (codes "jnirun" ∷ []) ≡ MissingSubcommand ∷ []
unfolding clap_on_literals
no_command = refl

no_program : fault_of command_line (codes "jnirun" ∷ codes "check" ∷ []) ≡ MissingRequiredArgument ∷ []
unfolding clap_on_literals
no_program = refl

-- several programs, in their order
abbrev several : List (List ℕ)
several = codes "jnirun" ∷ codes "check" ∷ codes "b.c" ∷ codes "a.c" ∷ codes "b.c" ∷ []

check_several : fault_of command_line several ≡ []
unfolding clap_on_literals
check_several = refl

check_several_files : option_map (λ f. all_of (codes "PROG") f.1) (subcommand_of command_line several) ≡ Some (Some (codes "b.c" ∷ codes "a.c" ∷ codes "b.c" ∷ []))
unfolding clap_on_literals
check_several_files = refl

a_word_more : fault_of command_line (codes "jnirun" ∷ codes "replay" ∷ codes "p" ∷ codes "w" ∷ codes "j" ∷ codes "x" ∷ []) ≡ UnknownArgument ∷ []
unfolding clap_on_literals
a_word_more = refl

-- the files of a run, whose schedule may come first
abbrev ran : List (List ℕ)
ran = codes "jnirun" ∷ codes "run" ∷ codes "--schedule" ∷ codes "s" ∷ codes "p" ∷ codes "w" ∷ []

run_program : option_map (λ f. first_of (codes "PROG") f.1) (subcommand_of command_line ran) ≡ Some (Some (codes "p"))
unfolding clap_on_literals
run_program = refl

run_schedule : option_map (λ f. first_of (codes "FILE") f.1) (subcommand_of command_line ran) ≡ Some (Some (codes "s"))
unfolding clap_on_literals
run_schedule = refl
