use Rattle.std.proofs.Common.{length}
use Rattle.lower_statements.proofs.statements.+emit_arguments.Given as goal

abbrev pub decreases-emit_arguments : goal.decreases-emit_arguments
decreases-emit_arguments l = length l.arguments.now
