use Rattle.std.proofs.Common.{ap, arith}
use Rattle.code_meaning.specs.Length.{expr_steps}
use Rattle.step_counts.proofs.Left.{some_by, none_by}
use Rattle.step_counts.proofs.length.after_plain.Goals as goal

pub returns-in-Declare-clause-some : goal.returns-in-Declare-clause-some
returns-in-Declare-clause-some c = rw c.in-Declare.is c.after_right.ensures.some

pub returns-in-Declare-clause-none : goal.returns-in-Declare-clause-none
returns-in-Declare-clause-none c = rw c.in-Declare.is c.after_right.ensures.none

pub returns-in-DeclareArray-clause-some : goal.returns-in-DeclareArray-clause-some
returns-in-DeclareArray-clause-some c = rw c.in-DeclareArray.is c.after_one.ensures.some

pub returns-in-DeclareArray-clause-none : goal.returns-in-DeclareArray-clause-none
returns-in-DeclareArray-clause-none c = rw c.in-DeclareArray.is (none_by c.after_one.result _ _ (λ e. omega (arith, e)) c.after_one.ensures.none)

pub returns-in-Assign-clause-some : goal.returns-in-Assign-clause-some
returns-in-Assign-clause-some c = rw c.in-Assign.is c.after_right-in-Assign.ensures.some

pub returns-in-Assign-clause-none : goal.returns-in-Assign-clause-none
returns-in-Assign-clause-none c = rw c.in-Assign.is c.after_right-in-Assign.ensures.none

pub returns-in-Perform-clause-some : goal.returns-in-Perform-clause-some
returns-in-Perform-clause-some c = rw c.in-Perform.is c.after_call.ensures.some

pub returns-in-Perform-clause-none : goal.returns-in-Perform-clause-none
returns-in-Perform-clause-none c = rw c.in-Perform.is c.after_call.ensures.none

pub returns-in-PutJint-clause-some : goal.returns-in-PutJint-clause-some
returns-in-PutJint-clause-some c = rw c.in-PutJint.is (some_by c.after_number-in-PutJint.result _ _ (λ x e. omega (arith, e, ap expr_steps c.whole-in-PutJint.ensures)) c.after_number-in-PutJint.ensures.some)

pub returns-in-PutJint-clause-none : goal.returns-in-PutJint-clause-none
returns-in-PutJint-clause-none c = rw c.in-PutJint.is (rw c.whole-in-PutJint.ensures at c.after_number-in-PutJint.ensures.none)

pub returns-in_err-after_expr-in-AssignElement-clause-some : goal.returns-in_err-after_expr-in-AssignElement-clause-some
returns-in_err-after_expr-in-AssignElement-clause-some c = rw c.from_residual.ensures tt

pub returns-in_err-after_expr-in-AssignElement-clause-none : goal.returns-in_err-after_expr-in-AssignElement-clause-none
returns-in_err-after_expr-in-AssignElement-clause-none c = rw (c.from_residual.ensures, c.in-AssignElement.is) (omega (arith, c.in_err-after_expr-in-AssignElement.ensures.none, ap expr_steps c.whole.ensures))

pub returns-in_ok-after_expr-in-AssignElement-clause-some : goal.returns-in_ok-after_expr-in-AssignElement-clause-some
returns-in_ok-after_expr-in-AssignElement-clause-some c = rw c.in-AssignElement.is (some_by c.after_number.result _ _ (λ x e. omega (arith, e, c.in_ok-after_expr-in-AssignElement.ensures.some, ap expr_steps c.whole.ensures, ap expr_steps c.whole-in-AssignElement.ensures)) c.after_number.ensures.some)

pub returns-in_ok-after_expr-in-AssignElement-clause-none : goal.returns-in_ok-after_expr-in-AssignElement-clause-none
returns-in_ok-after_expr-in-AssignElement-clause-none c = rw c.in-AssignElement.is (none_by c.after_number.result _ _ (λ e. omega (arith, e, c.in_ok-after_expr-in-AssignElement.ensures.some, ap expr_steps c.whole.ensures, ap expr_steps c.whole-in-AssignElement.ensures)) c.after_number.ensures.none)
