use Rattle.std.proofs.Common.{rules, [], ◌∷◌, ◌++◌, codes}
use Rattle.cli_words.specs.CommandLine.{after, flag, files}
use Rattle.cli_words.proofs.CommandLineLemmas.{begun, word_more}
use Rattle.cli_words.proofs.command_line.run_command.Goals as goal

pub returns : goal.returns
returns c =
    c.with_traces.ensures (codes "run") (files ++ after (codes "schedule") (codes "FILE") ∷ flag (codes "workers") (codes "WORKERS") ∷ [])
    (word_more c.in_ok-arg.field-0 c.workers.result c.in_ok-command.command (codes "run") (files ++ after (codes "schedule") (codes "FILE") ∷ []) (flag (codes "workers") (codes "WORKERS"))
    (word_more c.in_ok-with_files.field-0 c.schedule.result c.in_ok-arg.field-0 (codes "run") files (after (codes "schedule") (codes "FILE"))
    (c.in_ok-with_files.ensures (codes "run") (begun c.new.result c.about-command.result (codes "run") (search rules) c.new.ensures.local c.about-command.ensures))
    c.schedule.ensures.rule c.schedule.ensures.local c.in_ok-arg.ensures)
    c.workers.ensures.rule c.workers.ensures.local c.in_ok-command.ensures)
