use Rattle.std.proofs.Common.{◌∙◌}
use Rattle.scan.proofs.WordTable.{listed_late}
use Rattle.scan.proofs.reserved.late_word.Goals as goal

pub returns : goal.returns
returns c = c.listed_at.ensures ∙ listed_late c.args.bytes.now c.args.letter c.requires.late c.requires.some c.requires.first
