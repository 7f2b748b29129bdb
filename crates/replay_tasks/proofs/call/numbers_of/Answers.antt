use Rattle.std.proofs.Common.{[], ◌∷◌, refl}
use Rattle.jni.specs.declared.kinds.ParameterKind.TheVariants.{NonNull, FieldID}
use Rattle.replay_tasks.proofs.call.numbers_of.Goals as goal

pub returns-then-count-eq3 : goal.returns-then-count-eq3
returns-then-count-eq3 c = rw (c.in-SetField.is, c.if-count-eq3.true) (refl, record { before = NonNull ∷ FieldID ∷ []; is = refl; looked_up = refl })
