use Rattle.std.proofs.Common.{sym, ap, ◌∙◌}
use Rattle.jni.specs.JniFunction.{access_functions}
use Rattle.jni.proofs.Places.{buffers_placed}
use Rattle.jni.proofs.function.buffer_number.Goals as goal

pub returns-in-ElementsCopy : goal.returns-in-ElementsCopy
returns-in-ElementsCopy c =
    buffers_placed c.typed_number.result _ c.typed_number.ensures
    ∙ ap (λ a. access_functions a) (sym c.in-ElementsCopy.is)
