use Rattle.world_lines.proofs.WordsOfLines.{few_words, many_words}
use Rattle.world_lines.proofs.heap.heap_by_words.Goals as goal

pub returns-in_default : goal.returns-in_default
returns-in_default c = few_words c.args.words.now c.in_default.len_below

pub returns-in_default-2 : goal.returns-in_default-2
returns-in_default-2 c = many_words c.args.words.now c.in_default.len_at_least
