use Rattle.jni.specs.declared.kinds.ParameterKind.TheVariants.{Nullable}
use Rattle.replay_arguments.proofs.actual.reference_argument.Goals as goal

pub returns-in-Variable : goal.returns-in-Variable
returns-in-Variable c = rw (← c.in-Variable.ensures.tree) (c.named_reference.ensures Nullable)
