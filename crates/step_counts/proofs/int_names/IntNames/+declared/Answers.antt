use Rattle.std.proofs.Common.{◌≡◌, ℕ, suc, ◌+◌, ◌<◌, List, ◌∷◌, ◌++◌, length, get_or, drop, ap, ◌∙◌, sym, add-one, drop-cons}
use Rattle.std.specs.Prelude.{filter_map}
use Rattle.std.proofs.Math.ListN.{drop_of_length-le}
use Rattle.base.specs.Bytes.{Identifier}
use Rattle.syntax.specs.Parts.{statements_of, statements_within}
use Rattle.syntax.specs.Tree.{Block}
use Rattle.syntax.specs.Views.{form_tree, stmt_tree, block_tree}
use Rattle.syntax.specs.declared.stmt.Stmt.{Stmt as StmtInMemory}
use Rattle.syntax.specs.declared.stmt.Else.{Else as ElseInMemory}
use Rattle.syntax.specs.declared.stmt.Form.{Form as FormInMemory}
use Rattle.syntax.specs.declared.stmt.Form.TheVariants as form
use Rattle.syntax.specs.declared.stmt.Block.{out-Block}
use Rattle.syntax.proofs.Blocks.{block_is, statements_tree}
use Rattle.code_meaning.specs.Length.{int_declared}
use Rattle.step_counts.specs.Names.{with_names}
use Rattle.step_counts.proofs.FirstNames.{with_none, with_both, ints_both}
use Rattle.step_counts.proofs.int_names.IntNames.+declared.Goals as goal

-- those from a statement on
declared_next : (items : List StmtInMemory) (i : ℕ) (s : StmtInMemory) (end : ℕ) → i < length items → s ≡ get_or items i s
    → filter_map int_declared (statements_of (statements_tree (drop i items) end)) ≡ filter_map int_declared (statements_within (stmt_tree s)) ++ filter_map int_declared (statements_of (statements_tree (drop (i + 1) items) end))
declared_next items i s end h e =
    let next : drop i items ≡ s ∷ drop (i + 1) items = rw add-one (drop-cons items i s h ∙ ap (λ x. x ∷ drop (suc i) items) (sym e)) in
    ap (λ (left : List StmtInMemory). filter_map int_declared (statements_of (statements_tree left end))) next ∙ ints_both (statements_within (stmt_tree s)) (statements_of (statements_tree (drop (i + 1) items) end))

pub take_block-loop-stmt-init : goal.take_block-loop-stmt-init
take_block-loop-stmt-init t c =
    let block = block_is c.args.block.now ∙ ap (λ (items : List StmtInMemory). statements_tree items (out-Block c.args.block.now).end_line) (sym c.deref-stmt-items.ensures.value) in
    ap (λ (b : Block). with_names c.args.self.now (filter_map int_declared (statements_of b))) (sym block)

pub take_block-loop-stmt-preserved : goal.take_block-loop-stmt-preserved
take_block-loop-stmt-preserved t c =
    let s = c.stmt-item.result in
    let old = c.loop-stmt.self in
    let here = filter_map int_declared (statements_within (stmt_tree s)) in
    let rest = filter_map int_declared (statements_of (statements_tree (drop (c.loop-stmt.stmt-index + 1) c.deref-stmt-items.result.now) (out-Block c.args.block.now).end_line)) in
    let next = declared_next c.deref-stmt-items.result.now c.loop-stmt.stmt-index s (out-Block c.args.block.now).end_line c.loop-stmt-test.true c.stmt-item.is in
    ap (λ (l : List Identifier). with_names l rest) c.take_stmt.ensures ∙ with_both old here rest ∙ ap (with_names old) (sym next) ∙ c.loop-stmt.invariant

pub take_block-returns : goal.take_block-returns
take_block-returns t c =
    let end = (out-Block c.args.block.now).end_line in
    sym (with_none c.loop-stmt.self)
    ∙ sym (ap (λ (items : List StmtInMemory). with_names c.loop-stmt.self (filter_map int_declared (statements_of (statements_tree items end)))) (drop_of_length-le _ c.loop-stmt-test.false))
    ∙ c.loop-stmt.invariant

pub take_stmt-returns-in-Nothing : goal.take_stmt-returns-in-Nothing
take_stmt-returns-in-Nothing t c =
    c.take_block.ensures
    ∙ ap (λ (f : FormInMemory). with_names c.args.self.now (filter_map int_declared (statements_within (form_tree c.args.stmt.now.line f))))
    (sym (c.in-If.is ∙ ap (λ (d : ElseInMemory). form.If c.in-If.field-0 c.in-If.first d) c.in-Nothing.is))

pub take_stmt-returns-in-Block : goal.take_stmt-returns-in-Block
take_stmt-returns-in-Block t c =
    let self = c.args.self.now in
    let first = statements_of (block_tree c.in-If.first) in
    let second = statements_of (block_tree c.in-Block.second) in
    c.take_block-in-Block.ensures ∙ ap (λ (l : List Identifier). with_names l (filter_map int_declared second)) c.take_block.ensures
    ∙ with_both self (filter_map int_declared first) (filter_map int_declared second) ∙ ap (with_names self) (sym (ints_both first second))
    ∙ ap (λ (f : FormInMemory). with_names self (filter_map int_declared (statements_within (form_tree c.args.stmt.now.line f))))
    (sym (c.in-If.is ∙ ap (λ (d : ElseInMemory). form.If c.in-If.field-0 c.in-If.first d) c.in-Block.is))

pub take_stmt-returns-in-Plain : goal.take_stmt-returns-in-Plain
take_stmt-returns-in-Plain t c =
    c.take_declared.ensures c.args.stmt.now.line
    ∙ ap (λ (f : FormInMemory). with_names c.args.self.now (filter_map int_declared (statements_within (form_tree c.args.stmt.now.line f)))) (sym c.in-Plain.is)
