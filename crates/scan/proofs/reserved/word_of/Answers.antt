use Rattle.scan.proofs.WordTable.{no_word}
use Rattle.scan.proofs.reserved.word_of.Goals as goal

pub returns-in_default : goal.returns-in_default
returns-in_default c = no_word c.args.bytes.now c.in_default.len_below
