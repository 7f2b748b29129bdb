use Rattle.std.proofs.Common.{◌≡◌, ◌<◌, get_or, sym, ap, ◌∙◌, ◌+◌, ◌*◌, arith}
use Rattle.scan.proofs.Decimals.{front_more, formed}
use Rattle.scan.proofs.pieces.decimal_digits_at.Goals as goal
use Rattle.scan.proofs.pieces.decimal_digits_at.Goals.{else-len-gt1-via-then-len-gt1+else-text-eq48, else-len-gt1-via-else-len-gt1}

pub loop-len-preserved : goal.loop-len-preserved
loop-len-preserved c =
    front_more c.args.text.now c.loop-len.len c.loop-len.value _ c.loop-len.invariant (omega arith) (sym c.if-is_digit.ensures) (ap (λ d. c.loop-len.value * 10 + d) (c.from.ensures ∙ c.digit_value-in-loop-len.ensures)) (omega arith)

pub returns-clause-formed : goal.returns-clause-formed
returns-clause-formed c =
    let lead : 1 < c.loop-len.len → get_or c.args.text.now 0 0 ≡ 48 → ⊥ = λ lt nought. elim c.else-len-gt1.branch [
      | else-len-gt1-via-then-len-gt1+else-text-eq48 w ↦ w.if-text-eq48.false nought
      | else-len-gt1-via-else-len-gt1 w ↦ absurd (omega arith)
    ] in
    formed c.args.text.now c.loop-len.len c.loop-len.value c.loop-len.invariant lead
