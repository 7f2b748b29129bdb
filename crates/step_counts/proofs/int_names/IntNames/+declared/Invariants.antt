use Rattle.std.proofs.Common.{◌≡◌, drop}
use Rattle.std.specs.Prelude.{filter_map}
use Rattle.syntax.specs.Parts.{statements_of}
use Rattle.syntax.specs.declared.stmt.Block.{out-Block}
use Rattle.syntax.specs.Views.{block_tree}
use Rattle.syntax.proofs.Blocks.{statements_tree}
use Rattle.code_meaning.specs.Length.{int_declared}
use Rattle.step_counts.specs.Names.{with_names}
use Rattle.step_counts.proofs.int_names.IntNames.+declared.Given as goal

abbrev pub invariant-take_block-loop-stmt : goal.invariant-take_block-loop-stmt
invariant-take_block-loop-stmt l =
    with_names l.self (filter_map int_declared (statements_of (statements_tree (drop l.stmt-index l.stmt-items) (out-Block l.block).end_line))) ≡ with_names l.fn.self (filter_map int_declared (statements_of (block_tree l.block)))
