use Rattle.std.proofs.Common.{◌≡◌, ◌++◌, drop}
use Rattle.syntax.specs.declared.stmt.Block.{out-Block}
use Rattle.syntax.specs.Parts.{statements_of, names_declared}
use Rattle.syntax.specs.Views.{block_tree}
use Rattle.syntax.proofs.Blocks.{statements_tree}
use Rattle.type_rules.specs.TypeRules.{places_of}
use Rattle.types.specs.Faults.{IsAbove, found}
use Rattle.types.proofs.KeptLemmas.{IsLeft}
use Rattle.types.proofs.blocks.+blocks.Given as goal

abbrev pub invariant-check_block-loop-stmt : goal.invariant-check_block-loop-stmt
invariant-check_block-loop-stmt l = record {
  tells : IsLeft l.fn.faults l.faults (found (places_of l.returns l.fn.known l.fn.taken (block_tree l.block)))
      (found (places_of l.returns l.known l.taken (statements_tree (drop l.stmt-index l.stmt-items) (out-Block l.block).end_line)));
  taken : l.fn.taken ++ names_declared (statements_of (block_tree l.block))
      ≡ l.taken ++ names_declared (statements_of (statements_tree (drop l.stmt-index l.stmt-items) (out-Block l.block).end_line));
  above : IsAbove l.known l.fn.known;
}
