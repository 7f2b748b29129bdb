use Rattle.std.proofs.Common.{rules}
use Rattle.clap.specs.Simple.{app_of}
use Rattle.cli_words.specs.CommandLine.{check_words, line}
use Rattle.cli_words.proofs.CommandLineLemmas.{is_line, added_to}
use Rattle.cli_words.proofs.command_line.with_check.Goals as goal

pub returns : goal.returns
returns c =
    added_to (app_of c.subcommand_required-line.result) line c.with_command.result check_words
    (is_line c.new.result c.version.result c.about.result c.subcommand_required-line.result (search rules) c.version.ensures c.about.ensures c.subcommand_required-line.ensures)
    (c.with_command.ensures check_words c.check_command.ensures)
