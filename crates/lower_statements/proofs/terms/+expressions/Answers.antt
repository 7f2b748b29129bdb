use Rattle.std.proofs.Common.{◌≡◌, ℕ, ◌-◌, Bool, List, [], ◌∷◌, ◌++◌, length, refl, ◌∙◌, ap, arith, length-append}
use Rattle.std.specs.Prelude.{slice_set, vec_len}
use Rattle.code.specs.declared.instr.Instr.{Instr}
use Rattle.code_meaning.specs.Coding.{skip_code, logical_code}
use Rattle.lower_statements.proofs.Jumps.{on_ok, side_made}
use Rattle.lower_statements.proofs.terms.+expressions.Goals as goal

-- what three calls append, and the jump that is set at the end
side_whole : (both : Bool) (old a b c new left right : List Instr) (jump : ℕ) (first : Instr) → a ≡ old ++ left → b ≡ a ++ first ∷ [] → c ≡ b ++ right → first ≡ skip_code both 0 → jump ≡ length a
    → new ≡ slice_set c jump (skip_code both (length c - jump - 1)) → new ≡ old ++ logical_code both left right
side_whole both old a b c new left right jump first ea eb ec ef ej en =
    let count : length c - jump - 1 ≡ length right = omega (arith, ej, ap length ec, ap length eb, length-append b right, length-append a (first ∷ [])) in
    let place : jump ≡ length (old ++ left) = ej ∙ ap length ea in
    let appended : c ≡ ((old ++ left) ++ skip_code both 0 ∷ []) ++ right = ec ∙ rw (eb, ea, ef) refl in
    en ∙ ap (λ l. slice_set l jump (skip_code both (length c - jump - 1))) appended ∙ side_made both old left right jump (length c - jump - 1) place count

pub emit_logical-returns : goal.emit_logical-returns
emit_logical-returns t c =
    let whole = c.emit_expr-2.new.code in
    let both = c.args.conjunction in
    let jump = c.len-place.result in
    on_ok c.close_side.result _ _
    (λ (e : c.close_side.new.code.items ≡ slice_set whole.items jump (skip_code both (vec_len whole - jump - 1))).
    side_whole both c.args.code.now.items _ _ whole.items _ _ _ jump _ c.in_ok-emit_expr.ensures c.in_ok-emit.ensures c.in_ok-emit_expr-2.ensures c.skip.ensures (omega (arith, c.len-place.ensures))
    (e ∙ ap (λ n. slice_set whole.items jump (skip_code both (n - jump - 1))) whole.ok.0))
    c.close_side.ensures
