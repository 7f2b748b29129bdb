use Rattle.std.proofs.Common.{◌≡◌, ◌+◌, drop}
use Rattle.syntax.specs.declared.stmt.Block.{out-Block}
use Rattle.syntax.specs.Views.{block_tree}
use Rattle.syntax.proofs.Blocks.{statements_tree}
use Rattle.code_meaning.specs.Length.{block_steps}
use Rattle.step_counts.proofs.length.+statements.Given as goal

abbrev pub invariant-after_block-loop-stmt : goal.invariant-after_block-loop-stmt
invariant-after_block-loop-stmt l =
    block_steps l.fn.ints l.fn.returns (block_tree l.block) + l.rest ≡ l.fn.left + block_steps l.fn.ints l.fn.returns (statements_tree (drop l.stmt-index l.stmt-items) (out-Block l.block).end_line)
