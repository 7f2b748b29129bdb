use Rattle.std.proofs.Common.{[], ◌∷◌, codes}
use Rattle.cli_words.specs.CommandLine.{required}
use Rattle.cli_words.proofs.CommandLineLemmas.{word_more, word_added}
use Rattle.cli_words.proofs.command_line.with_files.Goals as goal

pub returns : goal.returns
returns c = λ name leaf.
    word_added c.in_ok-arg.field-0 c.world.result c.arg-2.result name (required (codes "PROG") ∷ []) (required (codes "WORLD"))
    (word_more c.args.command c.program.result c.in_ok-arg.field-0 name [] (required (codes "PROG")) leaf c.program.ensures.rule c.program.ensures.local c.in_ok-arg.ensures)
    c.world.ensures.rule c.world.ensures.local c.arg-2.ensures
