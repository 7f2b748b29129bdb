-- A block's tree is that of the list of its statements.
use Rattle.std.proofs.Common.{◌≡◌, ℕ, List, [], ◌∷◌, refl, ap, ◌∙◌}
use Rattle.syntax.specs.Tree.{Block, End, Next}
use Rattle.syntax.specs.declared.stmt.Stmt.{Stmt as StmtInMemory}
use Rattle.syntax.specs.declared.stmt.Block.{Block as BlockInMemory, Block-F, Row_of-Stmt, end_of-Stmt, more_of-Stmt, out-Block, roll-Block, rolls-Block', is-Block', items-the_row-Stmt, items_hidden-the_row-Stmt-0}
use Rattle.syntax.specs.declared.stmt.Else.{Else}
use Rattle.syntax.specs.declared.stmt.Else.TheBlock.{hidden-the_row-Stmt-0}
use Rattle.syntax.specs.declared.stmt.Form.{Form}
use Rattle.syntax.specs.Views.{form_tree, block_tree, row_tree, stmt_tree}

-- statements, and the line of the brace after them
abbrev pub statements_tree : List StmtInMemory → ℕ → Block
statements_tree [] end_line = End end_line
statements_tree (s ∷ rest) end_line = Next (stmt_tree s) (statements_tree rest end_line)

row_is : {count : _} (row : Row_of-Stmt count) (end_line : ℕ) → row_tree row end_line ≡ statements_tree (items-the_row-Stmt count row) end_line
row_is end_of-Stmt end_line = refl
row_is (more_of-Stmt line form rest) end_line = ap (λ (b : Block). Next (form_tree line form) b) (row_is rest end_line)

-- of a block that is made
pub block_made : (b : Block-F Else Form BlockInMemory StmtInMemory) → block_tree (roll-Block b) ≡ statements_tree b.statements.items b.end_line
block_made b = ap block_tree (rolls-Block' b) ∙ row_is (hidden-the_row-Stmt-0 b.statements) b.end_line ∙ ap (λ (l : List StmtInMemory). statements_tree l b.end_line) (items_hidden-the_row-Stmt-0 b.statements)

-- of a block that is given
pub block_is : (b : BlockInMemory) → block_tree b ≡ statements_tree (out-Block b).statements.items (out-Block b).end_line
block_is b = ap block_tree (is-Block' b) ∙ row_is (hidden-the_row-Stmt-0 (out-Block b).statements) (out-Block b).end_line ∙ ap (λ (l : List StmtInMemory). statements_tree l (out-Block b).end_line) (items_hidden-the_row-Stmt-0 (out-Block b).statements)

pub ruleset blocks = (block_made, block_is)
