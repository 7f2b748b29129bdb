use Rattle.std.proofs.Common.{arith}
use Rattle.jni.proofs.Places.{row_there}
use Rattle.jni.proofs.function.reference_row.Goals as goal

pub returns : goal.returns
returns c = row_there 0 16 c.args.number _ (omega arith) c.row_at.ensures
