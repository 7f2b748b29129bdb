use Rattle.std.proofs.Common.{rules}
use Rattle.syntax.specs.Views.{unit_tree}
use Rattle.types.specs.declared.fault.TypeError.TheVariants.{Fault}
use Rattle.types.proofs.UnitLemmas.{well_typed-none, refused-first, well_typed-memory, broken-first, earned-unit}
use Rattle.types.proofs.typed.type_unit.Goals as goal

pub of-requires : goal.of-requires
of-requires c = well_typed-none (unit_tree c.args.unit) c.in_ok-faults.faults.items c.in_ok-faults.ensures (search rules)

pub returns-clause-only : goal.returns-clause-only
returns-clause-only c =
    λ well_typed.
    well_typed-memory (unit_tree c.args.unit) (Fault c.swap_remove.result)
    (refused-first (unit_tree c.args.unit) c.in_ok-faults.faults.items c.swap_remove.result c.in_ok-faults.ensures (search rules) c.swap_remove.ensures.value) well_typed

pub returns-clause-first : goal.returns-clause-first
returns-clause-first c =
    broken-first (unit_tree c.args.unit) (Fault c.swap_remove.result)
    (refused-first (unit_tree c.args.unit) c.in_ok-faults.faults.items c.swap_remove.result c.in_ok-faults.ensures (search rules) c.swap_remove.ensures.value)

pub returns-clause-earned : goal.returns-clause-earned
returns-clause-earned c =
    earned-unit (unit_tree c.args.unit) (Fault c.swap_remove.result)
    (refused-first (unit_tree c.args.unit) c.in_ok-faults.faults.items c.swap_remove.result c.in_ok-faults.ensures (search rules) c.swap_remove.ensures.value)
