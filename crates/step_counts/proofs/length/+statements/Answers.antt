use Rattle.std.proofs.Common.{◌≡◌, ℕ, suc, ◌+◌, ◌<◌, List, ◌∷◌, length, get_or, drop, ap, ◌∙◌, sym, arith, add-one, drop-cons}
use Rattle.std.proofs.Math.ListN.{drop_of_length-le}
use Rattle.base.specs.Bytes.{Identifier}
use Rattle.syntax.specs.declared.unit.ResultType.{ResultType}
use Rattle.syntax.specs.Tree.{Block}
use Rattle.syntax.specs.Views.{stmt_tree}
use Rattle.syntax.specs.declared.stmt.Stmt.{Stmt as StmtInMemory}
use Rattle.syntax.specs.declared.stmt.Block.{out-Block}
use Rattle.syntax.proofs.Blocks.{block_is, statements_tree}
use Rattle.code_meaning.specs.Length.{expr_steps, block_steps, stmt_steps}
use Rattle.step_counts.proofs.Left.{some_by, none_by}
use Rattle.step_counts.proofs.length.+statements.Goals as goal

pub after_block-loop-stmt-init : goal.after_block-loop-stmt-init
after_block-loop-stmt-init t c =
    let block = block_is c.args.block.now ∙ ap (λ (items : List StmtInMemory). statements_tree items (out-Block c.args.block.now).end_line) (sym c.deref-stmt-items.ensures.value) in
    omega (arith, ap (λ (b : Block). block_steps c.args.ints.now c.args.returns b) block)

-- ---- the steps from a statement on

steps_next : (ints : List Identifier) (returns : ResultType) (items : List StmtInMemory) (i : ℕ) (s : StmtInMemory) (end : ℕ) → i < length items → s ≡ get_or items i s
    → block_steps ints returns (statements_tree (drop i items) end) ≡ stmt_steps ints returns (stmt_tree s) + block_steps ints returns (statements_tree (drop (i + 1) items) end)
steps_next ints returns items i s end h e =
    let next : drop i items ≡ s ∷ drop (i + 1) items = rw add-one (drop-cons items i s h ∙ ap (λ x. x ∷ drop (suc i) items) (sym e)) in
    ap (λ (left : List StmtInMemory). block_steps ints returns (statements_tree left end)) next

-- ---- where nothing is left

pub after_first-returns-in_err-after_test-clause-some : goal.after_first-returns-in_err-after_test-clause-some
after_first-returns-in_err-after_test-clause-some t c = rw c.from_residual.ensures tt

pub after_first-returns-in_err-after_test-clause-none : goal.after_first-returns-in_err-after_test-clause-none
after_first-returns-in_err-after_test-clause-none t c = rw c.from_residual.ensures (omega (arith, c.in_err-after_test.ensures.none))

pub after_form-returns-in_err-after_first-in-If-clause-some : goal.after_form-returns-in_err-after_first-in-If-clause-some
after_form-returns-in_err-after_first-in-If-clause-some t c = λ line. rw c.from_residual.ensures tt

pub after_form-returns-in_err-after_first-in-If-clause-none : goal.after_form-returns-in_err-after_first-in-If-clause-none
after_form-returns-in_err-after_first-in-If-clause-none t c = λ line. rw (c.from_residual.ensures, c.in-If.is) (omega (arith, c.in_err-after_first-in-If.ensures.none))

pub after_form-returns-in_err-after_number-in-While-clause-some : goal.after_form-returns-in_err-after_number-in-While-clause-some
after_form-returns-in_err-after_number-in-While-clause-some t c = λ line. rw c.from_residual-in_err-after_number-in-While.ensures tt

pub after_form-returns-in_err-after_number-in-While-clause-none : goal.after_form-returns-in_err-after_number-in-While-clause-none
after_form-returns-in_err-after_number-in-While-clause-none t c = λ line. rw (c.from_residual-in_err-after_number-in-While.ensures, c.in-While.is) (omega (arith, c.in_err-after_number-in-While.ensures.none, ap expr_steps c.whole.ensures))

pub after_path-returns-in_err-after_block-clause-some : goal.after_path-returns-in_err-after_block-clause-some
after_path-returns-in_err-after_block-clause-some t c = rw c.from_residual.ensures tt

pub after_path-returns-in_err-after_block-clause-none : goal.after_path-returns-in_err-after_block-clause-none
after_path-returns-in_err-after_block-clause-none t c = rw c.from_residual.ensures (omega (arith, c.in_err-after_block.ensures.none))

-- ---- where something may be left

pub after_first-returns-clause-some : goal.after_first-returns-clause-some
after_first-returns-clause-some t c = some_by c.after_path.result _ _ (λ x e. omega (arith, e, c.in_ok-after_test.ensures.some)) c.after_path.ensures.some

pub after_first-returns-clause-none : goal.after_first-returns-clause-none
after_first-returns-clause-none t c = none_by c.after_path.result _ _ (λ e. omega (arith, e, c.in_ok-after_test.ensures.some)) c.after_path.ensures.none

pub after_path-returns-clause-some : goal.after_path-returns-clause-some
after_path-returns-clause-some t c = some_by c.after_one.result _ _ (λ x e. omega (arith, e, c.in_ok-after_block.ensures.some)) c.after_one.ensures.some

pub after_path-returns-clause-none : goal.after_path-returns-clause-none
after_path-returns-clause-none t c = none_by c.after_one.result _ _ (λ e. omega (arith, e, c.in_ok-after_block.ensures.some)) c.after_one.ensures.none

pub after_form-returns-in_ok-after_first-in-If-clause-some : goal.after_form-returns-in_ok-after_first-in-If-clause-some
after_form-returns-in_ok-after_first-in-If-clause-some t c = λ line. rw c.in-If.is (some_by c.after_else.result _ _ (λ x e. omega (arith, e, c.in_ok-after_first-in-If.ensures.some)) c.after_else.ensures.some)

pub after_form-returns-in_ok-after_first-in-If-clause-none : goal.after_form-returns-in_ok-after_first-in-If-clause-none
after_form-returns-in_ok-after_first-in-If-clause-none t c = λ line. rw c.in-If.is (none_by c.after_else.result _ _ (λ e. omega (arith, e, c.in_ok-after_first-in-If.ensures.some)) c.after_else.ensures.none)

pub after_form-returns-in_ok-after_number-in-While-clause-some : goal.after_form-returns-in_ok-after_number-in-While-clause-some
after_form-returns-in_ok-after_number-in-While-clause-some t c = λ line. rw c.in-While.is (some_by c.after_path.result _ _ (λ x e. omega (arith, e, c.in_ok-after_number-in-While.ensures.some, ap expr_steps c.whole.ensures)) c.after_path.ensures.some)

pub after_form-returns-in_ok-after_number-in-While-clause-none : goal.after_form-returns-in_ok-after_number-in-While-clause-none
after_form-returns-in_ok-after_number-in-While-clause-none t c = λ line. rw c.in-While.is (none_by c.after_path.result _ _ (λ e. omega (arith, e, c.in_ok-after_number-in-While.ensures.some, ap expr_steps c.whole.ensures)) c.after_path.ensures.none)

pub after_form-returns-in-Plain : goal.after_form-returns-in-Plain
after_form-returns-in-Plain t c = record { some = λ line. rw c.in-Plain.is c.after_plain.ensures.some; none = λ line. rw c.in-Plain.is c.after_plain.ensures.none }

pub after_else-returns-in-Nothing-clause-some : goal.after_else-returns-in-Nothing-clause-some
after_else-returns-in-Nothing-clause-some t c = rw c.in-Nothing.is c.after_one.ensures.some

pub after_else-returns-in-Nothing-clause-none : goal.after_else-returns-in-Nothing-clause-none
after_else-returns-in-Nothing-clause-none t c = rw c.in-Nothing.is (none_by c.after_one.result _ _ (λ e. omega (arith, e)) c.after_one.ensures.none)

pub after_else-returns-in-Block : goal.after_else-returns-in-Block
after_else-returns-in-Block t c = record { some = rw c.in-Block.is c.after_path.ensures.some; none = rw c.in-Block.is c.after_path.ensures.none }

-- ---- the loop over a block's statements

pub after_block-returns-in_err-rest-clause-some : goal.after_block-returns-in_err-rest-clause-some
after_block-returns-in_err-rest-clause-some t c = rw c.from_residual.ensures tt

pub after_block-returns-in_err-rest-clause-none : goal.after_block-returns-in_err-rest-clause-none
after_block-returns-in_err-rest-clause-none t c =
    let s = c.stmt-item.result in
    let next = steps_next c.args.ints.now c.args.returns c.deref-stmt-items.result.now c.loop-stmt.stmt-index s (out-Block c.args.block.now).end_line c.loop-stmt-test.true c.stmt-item.is in
    rw c.from_residual.ensures (omega (arith, c.loop-stmt.invariant, next, c.in_err-rest.ensures.none s.line))

pub after_block-loop-stmt-preserved : goal.after_block-loop-stmt-preserved
after_block-loop-stmt-preserved t c =
    let s = c.stmt-item.result in
    let next = steps_next c.args.ints.now c.args.returns c.deref-stmt-items.result.now c.loop-stmt.stmt-index s (out-Block c.args.block.now).end_line c.loop-stmt-test.true c.stmt-item.is in
    omega (arith, c.loop-stmt.invariant, next, c.in_ok-rest.ensures.some s.line)

pub after_block-returns-clause-some : goal.after_block-returns-clause-some
after_block-returns-clause-some t c =
    let end = (out-Block c.args.block.now).end_line in
    omega (arith, c.loop-stmt.invariant, ap (λ (items : List StmtInMemory). block_steps c.args.ints.now c.args.returns (statements_tree items end)) (drop_of_length-le _ c.loop-stmt-test.false))
