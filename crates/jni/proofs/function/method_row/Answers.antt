use Rattle.jni.proofs.Places.{row_there}
use Rattle.jni.proofs.function.method_row.Goals as goal

pub returns : goal.returns
returns c = row_there 79 4 c.args.number _ c.requires.begun c.row_at.ensures
