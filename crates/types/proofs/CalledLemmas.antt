-- The call of a statement that tests one.
use Rattle.std.proofs.Common.{◌≡◌, ℕ, refl}
use Rattle.syntax.specs.Parts.{own_call}
use Rattle.syntax.specs.Tree.{Test, TestExpr, TestCall, If, Else, Block}
use Rattle.types.specs.Called.{call_of_test}

pub call_of_if : (line : ℕ) (test : Test) (then' : Block) (else' : Else) → own_call (If line test then' else') ≡ call_of_test test
call_of_if line (TestExpr e) then' else' = refl
call_of_if line (TestCall c) then' else' = refl
