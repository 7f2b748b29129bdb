use Rattle.std.proofs.Common.{rules, [], ◌∷◌, ◌++◌, codes}
use Rattle.cli_words.specs.CommandLine.{required, files}
use Rattle.cli_words.proofs.CommandLineLemmas.{begun, word_more}
use Rattle.cli_words.proofs.command_line.replay_command.Goals as goal

pub returns : goal.returns
returns c =
    c.with_traces.ensures (codes "replay") (files ++ required (codes "JOURNAL") ∷ [])
    (word_more c.in_ok-with_files.field-0 c.journal.result c.in_ok-command.command (codes "replay") files (required (codes "JOURNAL"))
    (c.in_ok-with_files.ensures (codes "replay") (begun c.new.result c.about-command.result (codes "replay") (search rules) c.new.ensures.local c.about-command.ensures))
    c.journal.ensures.rule c.journal.ensures.local c.in_ok-command.ensures)
