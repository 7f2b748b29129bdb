use Rattle.std.proofs.Common.{ap, ◌∙◌}
use Rattle.world_lines.proofs.WordsOfLines.{bytes_of}
use Rattle.world_lines.proofs.line.read_line.Goals as goal

pub line_by_words-requires : goal.line_by_words-requires
line_by_words-requires c = ap bytes_of c.deref.ensures.value ∙ c.in_ok-words.ensures
