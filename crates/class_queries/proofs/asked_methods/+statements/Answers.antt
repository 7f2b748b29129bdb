use Rattle.std.proofs.Common.{◌≡◌, ℕ, Bool, suc, ◌+◌, ◌<◌, List, ◌∷◌, length, get_or, drop, ap, ◌∙◌, sym, add-one, drop-cons}
use Rattle.std.specs.Prelude.{◌||◌}
use Rattle.std.specs.List.{list_any}
use Rattle.std.proofs.Math.ListN.{drop_of_length-le}
use Rattle.std.proofs.lemmas.List.Folds.{list_any-append}
use Rattle.syntax.specs.Parts.{statements_of, statements_within}
use Rattle.syntax.specs.Tree.{Block}
use Rattle.syntax.specs.Views.{stmt_tree}
use Rattle.syntax.specs.declared.stmt.Stmt.{Stmt as StmtInMemory}
use Rattle.syntax.specs.declared.stmt.Block.{out-Block}
use Rattle.syntax.proofs.Blocks.{block_is, statements_tree}
use Rattle.class_queries.specs.Asking.{asks_itself}
use Rattle.class_queries.proofs.asked_methods.+statements.Goals as goal

-- a statement and those after it
asks_next : (items : List StmtInMemory) (i : ℕ) (s : StmtInMemory) (end : ℕ) → i < length items → s ≡ get_or items i s
    → list_any asks_itself (statements_of (statements_tree (drop i items) end))
    ≡ (list_any asks_itself (statements_within (stmt_tree s)) || list_any asks_itself (statements_of (statements_tree (drop (i + 1) items) end)))
asks_next items i s end h e =
    let next : drop i items ≡ s ∷ drop (i + 1) items = rw add-one (drop-cons items i s h ∙ ap (λ x. x ∷ drop (suc i) items) (sym e)) in
    ap (λ (left : List StmtInMemory). list_any asks_itself (statements_of (statements_tree left end))) next
    ∙ list_any-append asks_itself (statements_within (stmt_tree s)) (statements_of (statements_tree (drop (i + 1) items) end))

pub block_asks-loop-stmt-init : goal.block_asks-loop-stmt-init
block_asks-loop-stmt-init t c =
    let block = block_is c.args.block.now ∙ ap (λ (items : List StmtInMemory). statements_tree items (out-Block c.args.block.now).end_line) (sym c.deref-stmt-items.ensures.value) in
    ap (λ (b : Block). list_any asks_itself (statements_of b)) block

-- what is asked from the statement of this place on
abbrev asks_from : List StmtInMemory → ℕ → ℕ → Bool
asks_from items i end = list_any asks_itself (statements_of (statements_tree (drop i items) end))

pub block_asks-returns-then-form_asks : goal.block_asks-returns-then-form_asks
block_asks-returns-then-form_asks t c =
    let s = c.stmt-item.result in
    let items = c.deref-stmt-items.result.now in
    let end = (out-Block c.args.block.now).end_line in
    let next = asks_next items c.loop-stmt.stmt-index s end c.loop-stmt-test.true c.stmt-item.is in
    sym (c.loop-stmt.invariant ∙ next ∙ ap (λ b. b || asks_from items (c.loop-stmt.stmt-index + 1) end) (sym (c.if-form_asks.ensures s.line)))

pub block_asks-loop-stmt-preserved : goal.block_asks-loop-stmt-preserved
block_asks-loop-stmt-preserved t c =
    let s = c.stmt-item.result in
    let items = c.deref-stmt-items.result.now in
    let end = (out-Block c.args.block.now).end_line in
    let next = asks_next items c.loop-stmt.stmt-index s end c.loop-stmt-test.true c.stmt-item.is in
    c.loop-stmt.invariant ∙ next ∙ ap (λ b. b || asks_from items (c.loop-stmt.stmt-index + 1) end) (sym (c.if-form_asks.ensures s.line))

pub block_asks-returns : goal.block_asks-returns
block_asks-returns t c =
    let end = (out-Block c.args.block.now).end_line in
    sym (c.loop-stmt.invariant ∙ ap (λ (items : List StmtInMemory). list_any asks_itself (statements_of (statements_tree items end))) (drop_of_length-le _ c.loop-stmt-test.false))
