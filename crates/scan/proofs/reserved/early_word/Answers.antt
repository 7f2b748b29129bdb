use Rattle.std.proofs.Common.{◌∙◌}
use Rattle.scan.proofs.WordTable.{listed_early}
use Rattle.scan.proofs.reserved.early_word.Goals as goal

pub returns : goal.returns
returns c = c.listed_at.ensures ∙ listed_early c.args.bytes.now c.args.letter c.requires.early c.requires.some c.requires.first
