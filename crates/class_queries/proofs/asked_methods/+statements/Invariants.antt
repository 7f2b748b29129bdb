use Rattle.std.proofs.Common.{◌≡◌, drop}
use Rattle.std.specs.List.{list_any}
use Rattle.syntax.specs.declared.stmt.Block.{out-Block}
use Rattle.syntax.specs.Parts.{statements_of}
use Rattle.syntax.specs.Views.{block_tree}
use Rattle.syntax.proofs.Blocks.{statements_tree}
use Rattle.class_queries.specs.Asking.{asks_itself}
use Rattle.class_queries.proofs.asked_methods.+statements.Given as goal

abbrev pub invariant-block_asks-loop-stmt : goal.invariant-block_asks-loop-stmt
invariant-block_asks-loop-stmt l =
    list_any asks_itself (statements_of (block_tree l.block)) ≡ list_any asks_itself (statements_of (statements_tree (drop l.stmt-index l.stmt-items) (out-Block l.block).end_line))
