use Rattle.jni.proofs.Names.{number_is_below, row_is}
use Rattle.jni.proofs.function.JniFunction.prototype.Goals as goal

pub prototype_at-requires : goal.prototype_at-requires
prototype_at-requires c = number_is_below _ _ c.number.ensures

pub returns : goal.returns
returns c = row_is c.number.result _ _ c.number.ensures c.prototype_at.ensures
