use Rattle.std.proofs.Common.{◌≡◌, ◌+◌, ◌*◌, drop, length}
use Rattle.syntax.specs.declared.stmt.Stmt.{size-Stmt}
use Rattle.syntax.specs.declared.stmt.Form.{size-Form}
use Rattle.syntax.specs.declared.stmt.Block.{out-Block, size-Block}
use Rattle.syntax.specs.Views.{block_tree}
use Rattle.syntax.proofs.Blocks.{statements_tree}
use Rattle.region_rules.specs.RegionStates.{RegionState}
use Rattle.region_states.specs.StatesInMemory.{names_of, Grows}
use Rattle.region_states.specs.NewNames.{DeclareNew}
use Rattle.regions.specs.Walks.{path_value, go_on}
use Rattle.regions.specs.Paths.{path_of_block}
use Rattle.regions.proofs.walk.+walk.Given as goal

abbrev pub invariant-block_path-loop-stmt : goal.invariant-block_path-loop-stmt
invariant-block_path-loop-stmt l = record {
  count : l.count ≡ length (names_of l.initial.state);
  grows : Grows l.initial.state l.state;
  fresh : DeclareNew (names_of l.state) (statements_tree (drop l.stmt-index l.stmt-items) (out-Block l.block).end_line);
  goes : (outer : RegionState) → names_of outer ≡ names_of l.initial.state
      → path_of_block outer l.initial.state (block_tree l.block) ≡ go_on outer (path_value l.path l.state) (statements_tree (drop l.stmt-index l.stmt-items) (out-Block l.block).end_line);
}

-- ---- what falls: the depth of what is left, and which function it is handed to

abbrev pub decreases-block_path : goal.decreases-block_path
decreases-block_path l = 4 * size-Block l.block.now

abbrev pub decreases-stmt_path : goal.decreases-stmt_path
decreases-stmt_path l = 4 * size-Stmt l.stmt.now + 1

abbrev pub decreases-inner_path : goal.decreases-inner_path
decreases-inner_path l = 4 * size-Form l.form.now

abbrev pub decreases-then_path : goal.decreases-then_path
decreases-then_path l = 4 * size-Block l.then.now + 1

abbrev pub decreases-other_path : goal.decreases-other_path
decreases-other_path l = 4 * size-Block l.block.now + 1
