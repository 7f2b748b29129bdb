use Rattle.std.proofs.Common.{◌∙◌}
use Rattle.scan.proofs.WordTable.{listed_j}
use Rattle.scan.proofs.reserved.j_word.Goals as goal

pub returns : goal.returns
returns c = c.listed_in.ensures ∙ listed_j c.args.bytes.now c.requires.some c.requires.first
