use Rattle.std.proofs.Common.{◌∙◌, refl, sym, true, false, ◌≡◌}
use Rattle.std.proofs.lemmas.Result.{err_from_is_err_and}
use Rattle.syntax.specs.Views.{unit_tree}
use Rattle.program_check.proofs.CheckLemmas.{refused_pass, refused_length, none_is_long}
use Rattle.program_check.proofs.checking.check_text.Goals as goal

pub returns-in_err-checked-clause-check : goal.returns-in_err-checked-clause-check
returns-in_err-checked-clause-check c =
    let p = err_from_is_err_and c.from_residual.result c.from_residual.ensures.1 in
    rw (p.1, p.2) (refused_pass c.args.program_text.now c.in_err-checked.field-0.0 c.in_err-checked.ensures.fault)

pub returns-then-has_long_function-clause-check : goal.returns-then-has_long_function-clause-check
returns-then-has_long_function-clause-check c =
    rw c.too_long.ensures (refused_length c.args.program_text.now (unit_tree c.in_ok-checked.checked) c.in_ok-checked.ensures.program (sym c.has_long_function.ensures ∙ c.if-has_long_function.true))

pub returns-then-has_long_function-clause-accepted : goal.returns-then-has_long_function-clause-accepted
returns-then-has_long_function-clause-accepted c = λ p. rw c.too_long.ensures (refl, refl)

pub returns-then-has_long_function-clause-passes : goal.returns-then-has_long_function-clause-passes
returns-then-has_long_function-clause-passes c = λ p.
    absurd (none_is_long c.args.program_text.now (unit_tree c.in_ok-checked.checked) p (c.in_ok-checked.ensures.only p.unit p.of_program) (sym c.has_long_function.ensures ∙ c.if-has_long_function.true))

pub returns-clause-check : goal.returns-clause-check
returns-clause-check c = record {
  unit = unit_tree c.in_ok-checked.checked;
  of_program = c.in_ok-checked.ensures.program;
  short = λ long. let f : true ≡ false = sym long ∙ (sym c.has_long_function.ensures ∙ c.if-has_long_function.false) in absurd cc;
}
