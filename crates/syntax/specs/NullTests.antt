-- Comparisons of a bare name with NULL.
use Rattle.std.specs.Prelude.{Bool, true, false, Option, Some, None}
use Rattle.base.specs.Bytes.{Identifier}
use Rattle.syntax.specs.declared.null_test.NullTest.{NullTest as InMemory}
use Rattle.syntax.specs.declared.expr.BinaryOp.TheVariants.{Equal, NotEqual}
use Rattle.syntax.specs.declared.expr.Constant.TheVariants.{Null}
use Rattle.syntax.specs.Tree.{Expr, Named, Variable, Binary}

-- `x == NULL`, or `x != NULL` where it isn't by `==`
pub record NullTest : Type 0 where
  pub name : Identifier
  pub equal : Bool

-- the comparison that an expression is as a whole
abbrev pub null_test_of : Expr → Option NullTest
null_test_of (Binary Equal (Variable x) (Named Null)) = Some (record { name = x; equal = true })
null_test_of (Binary NotEqual (Variable x) (Named Null)) = Some (record { name = x; equal = false })
null_test_of e = None

-- one that lies in memory
abbrev pub null_test_value : InMemory → NullTest
null_test_value t = record { name = t.name.now; equal = t.equal }
