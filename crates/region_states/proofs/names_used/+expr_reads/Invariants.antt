use Rattle.syntax.specs.Nodes.{size}
use Rattle.syntax.specs.Shapes.{ref_tree}
use Rattle.region_states.proofs.names_used.+expr_reads.Given as goal

abbrev pub decreases-expr_reads : goal.decreases-expr_reads
decreases-expr_reads l = size (ref_tree l.e)
