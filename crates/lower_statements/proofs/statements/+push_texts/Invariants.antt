use Rattle.std.proofs.Common.{length}
use Rattle.lower_statements.proofs.statements.+push_texts.Given as goal

abbrev pub decreases-push_texts : goal.decreases-push_texts
decreases-push_texts l = length l.arguments.now
