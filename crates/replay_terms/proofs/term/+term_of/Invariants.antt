use Rattle.std.proofs.Common.{◌+◌, ◌*◌, max}
use Rattle.syntax.specs.Nodes.{size}
use Rattle.syntax.specs.Shapes.{ref_tree}
use Rattle.replay_terms.proofs.term.+term_of.Given as goal

abbrev pub decreases-term_of : goal.decreases-term_of
decreases-term_of l = 5 * size (ref_tree l.e)

abbrev pub decreases-boxed_term_of : goal.decreases-boxed_term_of
decreases-boxed_term_of l = 5 * size (ref_tree l.e) + 1

abbrev pub decreases-whole_part_of : goal.decreases-whole_part_of
decreases-whole_part_of l = 5 * size (ref_tree l.e) + 2

abbrev pub decreases-part_of : goal.decreases-part_of
decreases-part_of l = 5 * size (ref_tree l.e) + 3

abbrev pub decreases-operation_of : goal.decreases-operation_of
decreases-operation_of l = 5 * max (size (ref_tree l.left)) (size (ref_tree l.right)) + 4
