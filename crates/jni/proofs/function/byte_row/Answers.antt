use Rattle.jni.proofs.Places.{row_there}
use Rattle.jni.proofs.function.byte_row.Goals as goal

pub returns : goal.returns
returns c = row_there 55 9 c.args.number _ c.requires.begun c.row_at.ensures
