use Rattle.std.proofs.Common.{◌≡◌, ap, sym, ◌∙◌}
use Rattle.syntax.specs.Views.{unit_tree}
use Rattle.program_check.specs.Errors.{of_types, of_regions}
use Rattle.program_check.proofs.Refusals.{scan_refusal, parse_refusal, types_refusal, regions_refusal}
use Rattle.program_check.proofs.Acceptances.{parse_accepts, is_well_typed, has_regions}
use Rattle.program_check.proofs.program.read_program.Goals as goal

pub returns-in-Err-clause-fault : goal.returns-in-Err-clause-fault
returns-in-Err-clause-fault c = rw c.of_scan.ensures (scan_refusal c.args.text.now c.in-Err.error c.in-Err.ensures.fault)

pub returns-in-Err-parse-clause-only : goal.returns-in-Err-parse-clause-only
returns-in-Err-parse-clause-only c = λ unit p.
    rw c.of_parse.ensures (parse_accepts unit c.in-Err-parse.error (c.in-Err-parse.ensures.only unit p.spelled))

pub returns-in-Err-parse-clause-fault : goal.returns-in-Err-parse-clause-fault
returns-in-Err-parse-clause-fault c =
    rw c.of_parse.ensures (parse_refusal c.args.text.now c.in-Ok.tokens.items c.in-Err-parse.error c.in-Ok.ensures.found (rw c.deref.ensures.value at c.in-Err-parse.ensures.exact))

pub returns-in-Err-type_unit-clause-only : goal.returns-in-Err-type_unit-clause-only
returns-in-Err-type_unit-clause-only c = λ unit p.
    let same : unit ≡ unit_tree c.in-Ok-parse.unit = cc (c.in-Ok-parse.ensures.only unit p.spelled) in
    rw c.of_types.ensures (ap of_types (c.in-Err-type_unit.ensures.only (is_well_typed c.args.text.now unit (unit_tree c.in-Ok-parse.unit) p same)))

pub returns-in-Err-type_unit-clause-fault : goal.returns-in-Err-type_unit-clause-fault
returns-in-Err-type_unit-clause-fault c =
    rw c.of_types.ensures (types_refusal c.args.text.now (unit_tree c.in-Ok-parse.unit) c.in-Err-type_unit.error c.in-Ok-parse.ensures.found c.in-Err-type_unit.ensures.first)

pub returns-in-Ok-check-clause-only : goal.returns-in-Ok-check-clause-only
returns-in-Ok-check-clause-only c = λ unit p.
    let same : unit ≡ unit_tree c.in-Ok-parse.unit = cc (c.in-Ok-parse.ensures.only unit p.spelled) in
    ap unit_tree (c.in-Ok-check.ensures.same ∙ c.in-Ok-type_unit.ensures.same) ∙ sym same

pub returns-clause-only : goal.returns-clause-only
returns-clause-only c = λ unit p.
    let same : unit ≡ unit_tree c.in-Ok-parse.unit = cc (c.in-Ok-parse.ensures.only unit p.spelled) in
    let typed : unit ≡ unit_tree c.in-Ok-type_unit.typed = same ∙ sym (ap unit_tree c.in-Ok-type_unit.ensures.same) in
    rw c.of_regions.ensures (ap of_regions (c.in-Err-check.ensures.only (has_regions c.args.text.now unit (unit_tree c.in-Ok-type_unit.typed) p typed)))

pub returns-clause-fault : goal.returns-clause-fault
returns-clause-fault c =
    rw c.of_regions.ensures (regions_refusal c.args.text.now (unit_tree c.in-Ok-parse.unit) c.in-Err-check.error c.in-Ok-parse.ensures.found c.in-Ok-type_unit.ensures.well_typed
    (rw c.in-Ok-type_unit.ensures.same at c.in-Err-check.ensures.first))
