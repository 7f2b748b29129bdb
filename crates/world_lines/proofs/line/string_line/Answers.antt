use Rattle.world_lines.proofs.WordsOfLines.{string_is}
use Rattle.world_lines.proofs.line.string_line.Goals as goal

pub returns-in-Some : goal.returns-in-Some
returns-in-Some c =
    string_is c.args.line.now c.args.word.now c.args.words.now _ c.in-Some.name.now c.bytes_after-text.result.now c.in-len1-up.len_at_least c.requires c.in-Some.ensures
    (cc)
