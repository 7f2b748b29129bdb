-- The name that a comparison with NULL tests.
use Rattle.std.proofs.Common.{◌≡◌, Option, Some, None, refl, ap, ◌∙◌}
use Rattle.std.specs.Option.{option_map}
use Rattle.base.specs.Bytes.{Identifier}
use Rattle.syntax.specs.declared.null_test.NullTest.{NullTest as InMemory}
use Rattle.syntax.specs.NullTests.{NullTest, null_test_of, null_test_value}
use Rattle.syntax.specs.Parts.{null_tested}
use Rattle.syntax.specs.declared.expr.BinaryOp.TheVariants.{Equal, NotEqual}
use Rattle.syntax.specs.declared.expr.Constant.TheVariants.{Null}
use Rattle.syntax.specs.Tree.{Expr, Named, Variable, Binary}

abbrev name_of : Option NullTest → Option Identifier
name_of o = option_map (λ t. t.name) o

pub tested_name : (e : Expr) → name_of (null_test_of e) ≡ null_tested e
tested_name (Binary Equal (Variable x) (Named Null)) = refl
tested_name (Binary NotEqual (Variable x) (Named Null)) = refl
tested_name e = refl

-- the same of a comparison in memory
pub name_tested : (o : Option InMemory) (e : Expr) → option_map null_test_value o ≡ null_test_of e → option_map (λ t. t.name.now) o ≡ null_tested e
name_tested None e h = ap name_of h ∙ tested_name e
name_tested (Some t) e h = ap name_of h ∙ tested_name e
