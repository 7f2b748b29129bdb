-- A test for NULL teaches what the definitions say.
use Rattle.std.proofs.Common.{◌≡◌, refl}
use Rattle.syntax.specs.NullTests.{null_test_of}
use Rattle.syntax.specs.declared.expr.BinaryOp.TheVariants.{Equal, NotEqual}
use Rattle.syntax.specs.declared.expr.Constant.TheVariants.{Null}
use Rattle.syntax.specs.Tree.{Named, Variable, Binary, Expr, TestExpr}
use Rattle.region_states.specs.Changes.{taught_true, taught_false}
use Rattle.region_rules.specs.RegionStates.{RegionState}
use Rattle.region_rules.specs.Regions.{where_true, where_false}

pub true_is : (state : RegionState) (e : Expr) → where_true state (TestExpr e) ≡ taught_true state (null_test_of e)
true_is state (Binary Equal (Variable x) (Named Null)) = refl
true_is state (Binary NotEqual (Variable x) (Named Null)) = refl
true_is state e = refl

pub false_is : (state : RegionState) (e : Expr) → where_false state (TestExpr e) ≡ taught_false state (null_test_of e)
false_is state (Binary Equal (Variable x) (Named Null)) = refl
false_is state (Binary NotEqual (Variable x) (Named Null)) = refl
false_is state e = refl
