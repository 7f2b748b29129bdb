use Rattle.std.proofs.Common.{◌≡◌, ◌++◌, drop}
use Rattle.syntax.specs.declared.stmt.Block.{out-Block}
use Rattle.syntax.specs.Views.{block_tree}
use Rattle.syntax.proofs.Blocks.{statements_tree}
use Rattle.code_meaning.specs.Layout.{block_layout}
use Rattle.code_meaning.specs.Coding.{block_code}
use Rattle.lower_statements.proofs.statements.+statements.Given as goal

abbrev pub invariant-emit_block-loop-stmt : goal.invariant-emit_block-loop-stmt
invariant-emit_block-loop-stmt l = record {
  code : l.fn.code.items ++ block_code l.fn.names (block_tree l.block) ≡ l.code.items ++ block_code l.names (statements_tree (drop l.stmt-index l.stmt-items) (out-Block l.block).end_line);
  layout : block_layout l.fn.names (block_tree l.block) ≡ block_layout l.names (statements_tree (drop l.stmt-index l.stmt-items) (out-Block l.block).end_line);
}
