use Rattle.std.proofs.Common.{◌≡◌, ℕ, suc, drop, drop-cons, add-one, append_assoc, ◌+◌, ◌-◌, List, [], ◌∷◌, ◌++◌, length, ◌∙◌, sym, ap, refl, arith, length-append}
use Rattle.std.specs.Prelude.{slice_set, vec_len}
use Rattle.std.proofs.Math.ListN.{drop_of_length-le}
use Rattle.std.proofs.lemmas.List.{append-nil}
use Rattle.syntax.specs.declared.stmt.Stmt.{Stmt as StmtInMemory}
use Rattle.syntax.specs.declared.stmt.Form.{Form as FormInMemory}
use Rattle.syntax.specs.declared.stmt.Block.{out-Block}
use Rattle.syntax.specs.Tree.{Block, Next}
use Rattle.syntax.specs.Views.{form_tree, else_tree, block_tree}
use Rattle.syntax.proofs.Blocks.{block_is, statements_tree}
use Rattle.code.specs.declared.instr.Instr.{Instr}
use Rattle.code.specs.declared.instr.Instr.TheVariants as instr
use Rattle.code_meaning.specs.Layout.{Layout, closed, layout_after, else_layout, block_layout}
use Rattle.code_meaning.specs.Coding.{first_code, paths_code, loop_code, stmt_code, else_code, block_code}
use Rattle.lower_statements.proofs.BlockNames.{block_closed}
use Rattle.lower_statements.proofs.Jumps.{on_ok, on_always, on_fault, if_fault, first_made, paths_made, loop_made}
use Rattle.lower_statements.proofs.statements.+statements.Goals as goal

-- what three calls append, and the jumps at the end
first_whole : (old a b c new test then' : List Instr) (jump : ℕ) → a ≡ old ++ test → b ≡ a ++ instr.JumpIfFalse 0 ∷ [] → c ≡ b ++ then' → jump ≡ length a → new ≡ slice_set (c ++ instr.Jump 0 ∷ []) jump (instr.JumpIfFalse (length c - jump)) → new ≡ old ++ first_code test then'
first_whole old a b c new test then' jump ea eb ec ej en =
    let size : length c - jump ≡ length then' + 1 = omega (arith, ej, ap length ec, ap length eb, length-append b then', length-append a (instr.JumpIfFalse 0 ∷ [])) in
    let place : jump ≡ length (old ++ test) = ej ∙ ap length ea in
    let appended : c ≡ ((old ++ test) ++ instr.JumpIfFalse 0 ∷ []) ++ then' = ec ∙ rw (eb, ea) refl in
    en ∙ ap (λ l. slice_set (l ++ instr.Jump 0 ∷ []) jump (instr.JumpIfFalse (length c - jump))) appended ∙ first_made old test then' jump (length c - jump) place size

pub emit_first-returns-clause-code : goal.emit_first-returns-clause-code
emit_first-returns-clause-code t c =
    let whole = c.emit_block.new.code in
    on_ok c.close_first.result _ _
    (λ (e : c.close_first.new.code.items ≡ slice_set (whole.items ++ instr.Jump 0 ∷ []) c.len-jump.result (instr.JumpIfFalse (vec_len whole - c.len-jump.result))).
    first_whole c.args.code.now.items _ _ whole.items _ _ _ c.len-jump.result c.in_ok-emit_test.ensures c.in_ok-emit.ensures c.in_ok-emit_block.ensures.code (omega (arith, c.len-jump.ensures))
    (e ∙ ap (λ n. slice_set (whole.items ++ instr.Jump 0 ∷ []) c.len-jump.result (instr.JumpIfFalse (n - c.len-jump.result))) whole.ok.0))
    c.close_first.ensures.code

-- what the test, the jump and the body append, and the jumps at the end
loop_whole : (old a b c new test body : List Instr) (start jump : ℕ) → a ≡ old ++ test → b ≡ a ++ instr.JumpIfFalse 0 ∷ [] → c ≡ b ++ body → start ≡ length old → jump ≡ length a
    → new ≡ slice_set (c ++ instr.JumpBack (length c - start) ∷ []) jump (instr.JumpIfFalse (length c - jump)) → new ≡ old ++ loop_code test body
loop_whole old a b c new test body start jump ea eb ec es ej en =
    let first = ap length ea ∙ length-append old test in
    let all = ap length ec ∙ length-append b body in
    let more = ap length eb ∙ length-append a (instr.JumpIfFalse 0 ∷ []) in
    let appended : c ≡ ((old ++ test) ++ instr.JumpIfFalse 0 ∷ []) ++ body = ec ∙ rw (eb, ea) refl in
    let far : length c - jump ≡ length body + 1 = omega (arith, ej, all, more) in
    let turn : length c - start ≡ length test + 1 + length body = omega (arith, es, all, more, first) in
    let place : jump ≡ length (old ++ test) = ej ∙ ap length ea in
    en ∙ ap (λ l. slice_set (l ++ instr.JumpBack (length c - start) ∷ []) jump (instr.JumpIfFalse (length c - jump))) appended ∙ loop_made old test body jump (length c - jump) (length c - start) place far turn

pub emit_loop-returns-clause-code : goal.emit_loop-returns-clause-code
emit_loop-returns-clause-code t c =
    let whole = c.emit_block.new.code in
    let start = c.len-start.result in
    let jump = c.len-jump.result in
    on_ok c.close_turn.result _ _
    (λ (e : c.close_turn.new.code.items ≡ slice_set (whole.items ++ instr.JumpBack (vec_len whole - start) ∷ []) jump (instr.JumpIfFalse (vec_len whole - jump))).
    loop_whole c.args.code.now.items _ _ whole.items _ _ _ start jump c.in_ok-emit_expr.ensures c.in_ok-emit.ensures c.in_ok-emit_block.ensures.code (omega (arith, c.len-start.ensures)) (omega (arith, c.len-jump.ensures))
    (e ∙ ap (λ n. slice_set (whole.items ++ instr.JumpBack (n - start) ∷ []) jump (instr.JumpIfFalse (n - jump))) whole.ok.0))
    c.close_turn.ensures

-- both branches of an `if`, of which the jump at the end of the first is set at the end
paths_whole : (old a b new test then' else' : List Instr) (end n : ℕ) → a ≡ old ++ first_code test then' → b ≡ a ++ else' → end + 1 ≡ length a → n ≡ length b → new ≡ slice_set (b ++ instr.Jump 0 ∷ []) end (instr.Jump (n - end)) → new ≡ old ++ (test ++ paths_code then' (else' ++ instr.Jump 0 ∷ []))
paths_whole old a b new test then' else' end n ea eb at size en =
    let place : end + 1 ≡ length (old ++ first_code test then') = at ∙ ap length ea in
    let far : n - end ≡ length else' + 1 = omega (arith, at, size, ap length eb, length-append a else') in
    en ∙ rw (eb, ea) (paths_made old test then' else' end (n - end) place far)

pub emit_form-returns-in_ok-emit_else-in-If-clause-code : goal.emit_form-returns-in_ok-emit_else-in-If-clause-code
emit_form-returns-in_ok-emit_else-in-If-clause-code t c =
    let first = c.emit_first.new.code in
    let second = c.emit_else.new.code in
    let end = c.in_ok-end-in-If.end in
    on_ok c.emit_end.result _ _
    (λ (e : c.emit_end.new.code.items ≡ slice_set (second.items ++ instr.Jump 0 ∷ []) end (instr.Jump (vec_len second - end))).
    paths_whole c.args.code.now.items first.items second.items _ _ _ _ end (vec_len second) c.in_ok-end-in-If.ensures.code
    (c.in_ok-emit_else-in-If.ensures.code ∙ ap (λ l. first.items ++ else_code l (else_tree c.in-If.other)) c.in_ok-end-in-If.ensures.names) (c.in_ok-end-in-If.ensures.end ∙ first.ok.0) second.ok.0 e
    ∙ ap (λ f. c.args.code.now.items ++ stmt_code c.args.names.now (form_tree c.args.line f)) (sym c.in-If.is))
    c.emit_end.ensures

pub emit_form-returns-in_ok-emit_else-in-If-clause-names : goal.emit_form-returns-in_ok-emit_else-in-If-clause-names
emit_form-returns-in_ok-emit_else-in-If-clause-names t c =
    rw c.in-If.is (on_always c.emit_end.result _ (c.in_ok-emit_else-in-If.ensures.names ∙ ap (λ l. closed l (else_layout l (else_tree c.in-If.other))) c.in_ok-end-in-If.ensures.names))

-- ---- the second block of an `if`

pub emit_else-returns-in-Nothing-clause-code : goal.emit_else-returns-in-Nothing-clause-code
emit_else-returns-in-Nothing-clause-code t c = rw c.in-Nothing.is (sym (append-nil c.args.code.now.items))

pub emit_else-returns-in-Nothing-clause-names : goal.emit_else-returns-in-Nothing-clause-names
emit_else-returns-in-Nothing-clause-names t c = rw c.in-Nothing.is refl

pub emit_else-returns-in-Block : goal.emit_else-returns-in-Block
emit_else-returns-in-Block t c = record { code = rw c.in-Block.is c.emit_block.ensures.code; names = rw c.in-Block.is c.emit_block.ensures.names }

-- ---- the loop over a block's statements

pub emit_block-loop-stmt-init : goal.emit_block-loop-stmt-init
emit_block-loop-stmt-init t c =
    let block = block_is c.args.block.now ∙ ap (λ (items : List StmtInMemory). statements_tree items (out-Block c.args.block.now).end_line) (sym c.deref-stmt-items.ensures.value) in
    record {
      code = ap (λ b. c.args.code.now.items ++ block_code c.args.names.now b) block;
      layout = ap (block_layout c.args.names.now) block;
    }

pub emit_block-returns-clause-names : goal.emit_block-returns-clause-names
emit_block-returns-clause-names t c =
    let inner = c.loop-stmt.names in
    let end = (out-Block c.args.block.now).end_line in
    let whole : block_layout c.args.names.now (block_tree c.args.block.now) ≡ inner = c.loop-stmt.invariant.layout ∙ ap (λ (items : List StmtInMemory). block_layout inner (statements_tree items end)) (drop_of_length-le _ c.loop-stmt-test.false) in
    c.leave.ensures ∙ block_closed c.args.names.now inner (block_tree c.args.block.now) c.len-outside.result whole c.len-outside.ensures

-- ---- faults that are passed on

pub emit_block-returns-in_err-counted-clause-code : goal.emit_block-returns-in_err-counted-clause-code
emit_block-returns-in_err-counted-clause-code t c = on_fault c.from_residual.result _ c.from_residual.ensures.0

pub emit_block-returns-in_err-emit_form-clause-code : goal.emit_block-returns-in_err-emit_form-clause-code
emit_block-returns-in_err-emit_form-clause-code t c = on_fault c.from_residual-in_err-emit_form.result _ c.from_residual-in_err-emit_form.ensures.0

pub emit_first-returns-in_err-emit_test-clause-end : goal.emit_first-returns-in_err-emit_test-clause-end
emit_first-returns-in_err-emit_test-clause-end t c = if_fault c.from_residual.result _ c.from_residual.ensures.0

pub emit_first-returns-in_err-emit-clause-end : goal.emit_first-returns-in_err-emit-clause-end
emit_first-returns-in_err-emit-clause-end t c = if_fault c.from_residual-in_err-emit.result _ c.from_residual-in_err-emit.ensures.0

pub emit_first-returns-in_err-emit_block-clause-end : goal.emit_first-returns-in_err-emit_block-clause-end
emit_first-returns-in_err-emit_block-clause-end t c = if_fault c.from_residual-in_err-emit_block.result _ c.from_residual-in_err-emit_block.ensures.0

pub emit_form-returns-in_err-end-in-If-clause-code : goal.emit_form-returns-in_err-end-in-If-clause-code
emit_form-returns-in_err-end-in-If-clause-code t c = on_fault c.from_residual.result _ c.from_residual.ensures.0

pub emit_form-returns-in_err-end-in-If-clause-names : goal.emit_form-returns-in_err-end-in-If-clause-names
emit_form-returns-in_err-end-in-If-clause-names t c = on_fault c.from_residual.result _ c.from_residual.ensures.0

pub emit_form-returns-in_err-emit_else-in-If-clause-code : goal.emit_form-returns-in_err-emit_else-in-If-clause-code
emit_form-returns-in_err-emit_else-in-If-clause-code t c = on_fault c.from_residual-in_err-emit_else-in-If.result _ c.from_residual-in_err-emit_else-in-If.ensures.0

pub emit_form-returns-in_err-emit_else-in-If-clause-names : goal.emit_form-returns-in_err-emit_else-in-If-clause-names
emit_form-returns-in_err-emit_else-in-If-clause-names t c = on_fault c.from_residual-in_err-emit_else-in-If.result _ c.from_residual-in_err-emit_else-in-If.ensures.0

pub emit_block-returns-in_err-counted-clause-names : goal.emit_block-returns-in_err-counted-clause-names
emit_block-returns-in_err-counted-clause-names t c = on_fault c.from_residual.result _ c.from_residual.ensures.0

pub emit_block-returns-in_err-emit_form-clause-names : goal.emit_block-returns-in_err-emit_form-clause-names
emit_block-returns-in_err-emit_form-clause-names t c = on_fault c.from_residual-in_err-emit_form.result _ c.from_residual-in_err-emit_form.ensures.0

pub emit_first-returns-in_err-emit_test-clause-code : goal.emit_first-returns-in_err-emit_test-clause-code
emit_first-returns-in_err-emit_test-clause-code t c = on_fault c.from_residual.result _ c.from_residual.ensures.0

pub emit_first-returns-in_err-emit_test-clause-names : goal.emit_first-returns-in_err-emit_test-clause-names
emit_first-returns-in_err-emit_test-clause-names t c = on_fault c.from_residual.result _ c.from_residual.ensures.0

pub emit_first-returns-in_err-emit-clause-code : goal.emit_first-returns-in_err-emit-clause-code
emit_first-returns-in_err-emit-clause-code t c = on_fault c.from_residual-in_err-emit.result _ c.from_residual-in_err-emit.ensures.0

pub emit_first-returns-in_err-emit-clause-names : goal.emit_first-returns-in_err-emit-clause-names
emit_first-returns-in_err-emit-clause-names t c = on_fault c.from_residual-in_err-emit.result _ c.from_residual-in_err-emit.ensures.0

pub emit_first-returns-in_err-emit_block-clause-code : goal.emit_first-returns-in_err-emit_block-clause-code
emit_first-returns-in_err-emit_block-clause-code t c = on_fault c.from_residual-in_err-emit_block.result _ c.from_residual-in_err-emit_block.ensures.0

pub emit_first-returns-in_err-emit_block-clause-names : goal.emit_first-returns-in_err-emit_block-clause-names
emit_first-returns-in_err-emit_block-clause-names t c = on_fault c.from_residual-in_err-emit_block.result _ c.from_residual-in_err-emit_block.ensures.0

pub emit_loop-returns-in_err-emit_expr-clause-code : goal.emit_loop-returns-in_err-emit_expr-clause-code
emit_loop-returns-in_err-emit_expr-clause-code t c = on_fault c.from_residual.result _ c.from_residual.ensures.0

pub emit_loop-returns-in_err-emit_expr-clause-names : goal.emit_loop-returns-in_err-emit_expr-clause-names
emit_loop-returns-in_err-emit_expr-clause-names t c = on_fault c.from_residual.result _ c.from_residual.ensures.0

pub emit_loop-returns-in_err-emit-clause-code : goal.emit_loop-returns-in_err-emit-clause-code
emit_loop-returns-in_err-emit-clause-code t c = on_fault c.from_residual-in_err-emit.result _ c.from_residual-in_err-emit.ensures.0

pub emit_loop-returns-in_err-emit-clause-names : goal.emit_loop-returns-in_err-emit-clause-names
emit_loop-returns-in_err-emit-clause-names t c = on_fault c.from_residual-in_err-emit.result _ c.from_residual-in_err-emit.ensures.0

pub emit_loop-returns-in_err-emit_block-clause-code : goal.emit_loop-returns-in_err-emit_block-clause-code
emit_loop-returns-in_err-emit_block-clause-code t c = on_fault c.from_residual-in_err-emit_block.result _ c.from_residual-in_err-emit_block.ensures.0

pub emit_loop-returns-in_err-emit_block-clause-names : goal.emit_loop-returns-in_err-emit_block-clause-names
emit_loop-returns-in_err-emit_block-clause-names t c = on_fault c.from_residual-in_err-emit_block.result _ c.from_residual-in_err-emit_block.ensures.0

-- ---- places of jumps, and what is known after the paths

pub emit_first-close_first-requires : goal.emit_first-close_first-requires
emit_first-close_first-requires t c = omega (arith, c.len-jump.ensures, c.emit_block.new.code.ok.0, simp length-append at (ap length c.in_ok-emit_block.ensures.code), simp length-append at (ap length c.in_ok-emit.ensures))

pub emit_first-returns-clause-end : goal.emit_first-returns-clause-end
emit_first-returns-clause-end t c = c.close_first.ensures.end

pub emit_first-returns-clause-names : goal.emit_first-returns-clause-names
emit_first-returns-clause-names t c = on_always c.close_first.result _ c.in_ok-emit_block.ensures.names

pub emit_loop-close_turn-requires-clause-begun : goal.emit_loop-close_turn-requires-clause-begun
emit_loop-close_turn-requires-clause-begun t c = omega (arith, c.len-start.ensures, c.len-jump.ensures, simp length-append at (ap length c.in_ok-emit_expr.ensures))

pub emit_loop-close_turn-requires-clause-inside : goal.emit_loop-close_turn-requires-clause-inside
emit_loop-close_turn-requires-clause-inside t c = omega (arith, c.len-jump.ensures, c.emit_block.new.code.ok.0, simp length-append at (ap length c.in_ok-emit_block.ensures.code), simp length-append at (ap length c.in_ok-emit.ensures))

pub emit_loop-returns-clause-names : goal.emit_loop-returns-clause-names
emit_loop-returns-clause-names t c = on_always c.close_turn.result _ c.in_ok-emit_block.ensures.names

pub emit_form-emit_end-requires : goal.emit_form-emit_end-requires
emit_form-emit_end-requires t c = omega (arith, c.in_ok-end-in-If.ensures.end, c.emit_first.new.code.ok.0, c.emit_else.new.code.ok.0, simp length-append at (ap length c.in_ok-emit_else-in-If.ensures.code))

pub emit_form-returns-in-While-clause-code : goal.emit_form-returns-in-While-clause-code
emit_form-returns-in-While-clause-code t c = rw c.in-While.is (rw c.whole.ensures at c.emit_loop.ensures.code)

pub emit_form-returns-in-While-clause-names : goal.emit_form-returns-in-While-clause-names
emit_form-returns-in-While-clause-names t c = rw c.in-While.is c.emit_loop.ensures.names

pub emit_form-returns-in-Plain : goal.emit_form-returns-in-Plain
emit_form-returns-in-Plain t c = record { code = rw c.in-Plain.is c.emit_plain.ensures.code; names = rw c.in-Plain.is c.emit_plain.ensures.names }

pub emit_block-returns-clause-code : goal.emit_block-returns-clause-code
emit_block-returns-clause-code t c =
    let now = c.loop-stmt.code.items in
    let end = (out-Block c.args.block.now).end_line in
    sym (c.loop-stmt.invariant.code ∙ ap (λ (items : List StmtInMemory). now ++ block_code c.loop-stmt.names (statements_tree items end)) (drop_of_length-le _ c.loop-stmt-test.false) ∙ append-nil now)

-- one statement more
step_code : (old new : List Instr) (l after : Layout) (line counted : ℕ) (form : FormInMemory) (rest : Block) → counted ≡ line → new ≡ old ++ stmt_code l (form_tree counted form) → after ≡ layout_after l (form_tree counted form)
    → old ++ block_code l (Next (form_tree line form) rest) ≡ new ++ block_code after rest
step_code old new l after line counted form rest same code layout = rw (code, layout, same) (rw append_assoc refl)

step_layout : (l after : Layout) (line counted : ℕ) (form : FormInMemory) (rest : Block) → counted ≡ line → after ≡ layout_after l (form_tree counted form) → block_layout l (Next (form_tree line form) rest) ≡ block_layout after rest
step_layout l after line counted form rest same layout = rw (layout, same) refl

pub emit_block-loop-stmt-preserved : goal.emit_block-loop-stmt-preserved
emit_block-loop-stmt-preserved t c =
    let items = c.deref-stmt-items.result.now in
    let i = c.loop-stmt.stmt-index in
    let s = c.stmt-item.result in
    let end = (out-Block c.args.block.now).end_line in
    let old = c.loop-stmt.code.items in
    let names = c.loop-stmt.names in
    let rest = statements_tree (drop (i + 1) items) end in
    let next : drop i items ≡ s ∷ drop (i + 1) items = rw add-one (drop-cons items i s c.loop-stmt-test.true ∙ ap (λ x. x ∷ drop (suc i) items) (sym c.stmt-item.is)) in
    let line = c.in_ok-counted.ensures in
    record {
      code = c.loop-stmt.invariant.code ∙ ap (λ (left : List StmtInMemory). old ++ block_code names (statements_tree left end)) next
          ∙ step_code old c.emit_form.new.code.items names c.emit_form.new.names s.line c.in_ok-counted.field-0 s.form rest line c.in_ok-emit_form.ensures.code c.in_ok-emit_form.ensures.names;
      layout = c.loop-stmt.invariant.layout ∙ ap (λ (left : List StmtInMemory). block_layout names (statements_tree left end)) next
          ∙ step_layout names c.emit_form.new.names s.line c.in_ok-counted.field-0 s.form rest line c.in_ok-emit_form.ensures.names;
    }
