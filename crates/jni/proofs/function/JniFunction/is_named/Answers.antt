use Rattle.std.proofs.Common.{◌∙◌}
use Rattle.jni.proofs.Names.{name_is}
use Rattle.jni.proofs.function.JniFunction.is_named.Goals as goal

pub returns : goal.returns
returns c = c.eq.ensures ∙ name_is _ c.prototype.result.now _ c.prototype.ensures
