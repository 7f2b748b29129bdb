use Rattle.std.proofs.Common.{◌≡◌, List, true, false, map, ap, sym, subst, ◌∙◌, rules}
use Rattle.std.proofs.lemmas.Result.{IfOk-weaker}
use Rattle.std.proofs.lemmas.List.{nil_from_length}
use Rattle.syntax.specs.declared.unit.Item.{Item as ItemInMemory}
use Rattle.syntax.specs.Views.{unit_tree}
use Rattle.code_meaning.specs.Length.{IsTooLong}
use Rattle.region_rules.specs.Regions.{HasRegions}
use Rattle.regions.specs.AllFaults.{AreRegionFaults}
use Rattle.regions.specs.Findings.{fault_of}
use Rattle.type_rules.specs.TypeRules.{IsWellTyped}
use Rattle.program_check.specs.AllFaults.{entry_of, IsAlone}
use Rattle.program_check.proofs.AllFaultsLemmas.{types_told, regions_told, length_alone, none_told}
use Rattle.program_check.proofs.faults.faults_of_unit.Goals as goal

pub returns-then-not-is_empty-clause-all : goal.returns-then-not-is_empty-clause-all
returns-then-not-is_empty-clause-all c = λ text spelled.
    let types = c.in_ok-types.ensures in
    IfOk-weaker c.told_types.result _ _
    (λ faults e. types_told text (unit_tree c.args.unit) c.in_ok-types.types.items (map entry_of faults.items) spelled types.all types.none (search rules) e)
    c.told_types.ensures

pub returns-then-not-is_empty-2-clause-all : goal.returns-then-not-is_empty-2-clause-all
returns-then-not-is_empty-2-clause-all c = λ text spelled.
    let paths = c.in_ok-paths.ensures in
    let found = c.in_ok-paths.paths.items in
    let well_typed : IsWellTyped (unit_tree c.args.unit) = c.in_ok-types.ensures.well_typed (nil_from_length c.in_ok-types.types.items (search rules)) in
    let all : AreRegionFaults (unit_tree c.args.unit) (map fault_of found) = subst (λ (items : List ItemInMemory). AreRegionFaults (unit_tree items) (map fault_of found)) c.of-typed.ensures paths.all in
    IfOk-weaker c.told_regions.result _ _
    (λ faults e. regions_told text (unit_tree c.args.unit) found (map entry_of faults.items) spelled well_typed all
    (λ regions. paths.none (subst (λ (items : List ItemInMemory). HasRegions (unit_tree items)) (sym c.of-typed.ensures) regions)) (search rules) e)
    c.told_regions.ensures

pub returns-then-has_long_function-clause-all : goal.returns-then-has_long_function-clause-all
returns-then-has_long_function-clause-all c = λ text spelled.
    let well_typed : IsWellTyped (unit_tree c.args.unit) = c.in_ok-types.ensures.well_typed (nil_from_length c.in_ok-types.types.items (search rules)) in
    let regions : HasRegions (unit_tree c.args.unit) = subst (λ (items : List ItemInMemory). HasRegions (unit_tree items)) c.of-typed.ensures (c.in_ok-paths.ensures.accepted (nil_from_length c.in_ok-paths.paths.items (search rules))) in
    let long : IsTooLong (unit_tree c.args.unit) = subst (λ (items : List ItemInMemory). IsTooLong (unit_tree items)) (c.of-checked.ensures ∙ c.of-typed.ensures) (sym c.has_long_function.ensures ∙ c.if-has_long_function.true) in
    IfOk-weaker c.alone.result _ _
    (λ faults h. length_alone text (unit_tree c.args.unit) (map entry_of faults.items) (record { spelled = spelled; well_typed = well_typed; regions = regions }) long (subst (λ e. IsAlone e (map entry_of faults.items)) c.too_long.ensures h))
    c.alone.ensures

pub returns-clause-all : goal.returns-clause-all
returns-clause-all c = λ text spelled.
    let well_typed : IsWellTyped (unit_tree c.args.unit) = c.in_ok-types.ensures.well_typed (nil_from_length c.in_ok-types.types.items (search rules)) in
    let regions : HasRegions (unit_tree c.args.unit) = subst (λ (items : List ItemInMemory). HasRegions (unit_tree items)) c.of-typed.ensures (c.in_ok-paths.ensures.accepted (nil_from_length c.in_ok-paths.paths.items (search rules))) in
    none_told text (unit_tree c.args.unit) (map entry_of c.new.result.items) (record { spelled = spelled; well_typed = well_typed; regions = regions })
    (λ long.
    let same : true ≡ false =
    sym (subst (λ (items : List ItemInMemory). IsTooLong (unit_tree items)) (sym (c.of-checked.ensures ∙ c.of-typed.ensures)) long) ∙ (sym c.has_long_function.ensures ∙ c.if-has_long_function.false) in
    absurd cc)
    (ap (map entry_of) c.new.ensures.items)
