use Rattle.std.proofs.lemmas.Result.{IfOk-weaker}
use Rattle.syntax.specs.Views.{unit_tree}
use Rattle.types.proofs.UnitLemmas.{none-all, well_typed-all, first-all, earned-all}
use Rattle.types.proofs.typed.type_faults.Goals as goal

pub returns-clause-none : goal.returns-clause-none
returns-clause-none c = λ well_typed. IfOk-weaker c.check_unit.result _ _ (λ faults e. none-all (unit_tree c.args.unit.now) faults.items e well_typed) c.check_unit.ensures

pub returns-clause-well_typed : goal.returns-clause-well_typed
returns-clause-well_typed c = IfOk-weaker c.check_unit.result _ _ (λ faults e. well_typed-all (unit_tree c.args.unit.now) faults.items e) c.check_unit.ensures

pub returns-clause-first : goal.returns-clause-first
returns-clause-first c = IfOk-weaker c.check_unit.result _ _ (λ faults e. first-all (unit_tree c.args.unit.now) faults.items e) c.check_unit.ensures

pub returns-clause-earned : goal.returns-clause-earned
returns-clause-earned c = IfOk-weaker c.check_unit.result _ _ (λ faults e. earned-all (unit_tree c.args.unit.now) faults.items e) c.check_unit.ensures
