use Rattle.cli_words.proofs.CommandLineLemmas.{added}
use Rattle.cli_words.proofs.command_line.with_command.Goals as goal

pub returns-in-Ok : goal.returns-in-Ok
returns-in-Ok c = λ words leaf. added c.args.line c.in-Ok.command c.subcommand.result words (rw c.in-Ok.is at leaf) c.subcommand.ensures
