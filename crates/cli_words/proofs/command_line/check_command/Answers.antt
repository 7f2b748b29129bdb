use Rattle.std.proofs.Common.{rules, [], ◌∷◌, codes}
use Rattle.cli_words.specs.CommandLine.{several, flag}
use Rattle.cli_words.proofs.CommandLineLemmas.{begun, word_more, word_added}
use Rattle.cli_words.proofs.command_line.check_command.Goals as goal

pub returns : goal.returns
returns c =
    word_added c.in_ok-arg-2.field-0 c.sarif.result c.arg-3.result (codes "check") (several (codes "PROG") ∷ flag (codes "all") (codes "ALL") ∷ []) (flag (codes "sarif") (codes "SARIF"))
    (word_more c.in_ok-arg.field-0 c.all.result c.in_ok-arg-2.field-0 (codes "check") (several (codes "PROG") ∷ []) (flag (codes "all") (codes "ALL"))
    (word_more c.about.result c.several.result c.in_ok-arg.field-0 (codes "check") [] (several (codes "PROG"))
    (begun c.new.result c.about.result (codes "check") (search rules) c.new.ensures.local c.about.ensures)
    c.several.ensures.rule c.several.ensures.local c.in_ok-arg.ensures)
    c.all.ensures.rule c.all.ensures.local c.in_ok-arg-2.ensures)
    c.sarif.ensures.rule c.sarif.ensures.local c.arg-3.ensures
