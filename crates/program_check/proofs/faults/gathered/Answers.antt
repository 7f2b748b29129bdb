use Rattle.std.proofs.Common.{◌≡◌, ap, sym, map, subst, ◌∙◌}
use Rattle.std.proofs.lemmas.Result.{IfOk-weaker}
use Rattle.syntax.specs.Views.{unit_tree}
use Rattle.program_check.specs.AllFaults.{entry_of, IsAlone}
use Rattle.program_check.specs.Errors.{of_scan}
use Rattle.program_check.proofs.Acceptances.{parse_accepts, is_well_typed, has_regions}
use Rattle.program_check.proofs.CheckLemmas.{none_is_long}
use Rattle.program_check.proofs.AllFaultsLemmas.{scan_alone, parse_alone, none_of_memory}
use Rattle.program_check.proofs.faults.gathered.Goals as goal

pub returns-in-Err-clause-all : goal.returns-in-Err-clause-all
returns-in-Err-clause-all c =
    IfOk-weaker c.alone.result _ _
    (λ faults h. scan_alone c.args.text.now c.in-Err.error (map entry_of faults.items) c.in-Err.ensures.fault (subst (λ e. IsAlone e (map entry_of faults.items)) c.of_scan.ensures h))
    c.alone.ensures

pub returns-in-Err-clause-none : goal.returns-in-Err-clause-none
returns-in-Err-clause-none c = λ p.
    IfOk-weaker c.alone.result _ _
    (λ faults h. none_of_memory c.of_scan.result faults.items (c.of_scan.ensures ∙ ap of_scan (c.in-Err.ensures.only p.of_program.spelled.0 p.of_program.spelled.1)) h)
    c.alone.ensures

pub returns-in-Ok-parse-clause-none : goal.returns-in-Ok-parse-clause-none
returns-in-Ok-parse-clause-none c = λ p.
    let same : p.unit ≡ unit_tree c.in-Ok-parse.unit = cc (c.in-Ok-parse.ensures.only p.unit p.of_program.spelled) in
    c.faults_of_unit.ensures.none (is_well_typed c.args.text.now p.unit (unit_tree c.in-Ok-parse.unit) p.of_program same) (has_regions c.args.text.now p.unit (unit_tree c.in-Ok-parse.unit) p.of_program same)
    (none_is_long c.args.text.now (unit_tree c.in-Ok-parse.unit) p (sym same))

pub returns-clause-all : goal.returns-clause-all
returns-clause-all c =
    IfOk-weaker c.alone-in-Err-parse.result _ _
    (λ faults h.
    parse_alone c.args.text.now c.in-Ok.tokens.items c.in-Err-parse.error (map entry_of faults.items) c.in-Ok.ensures.found (rw c.deref.ensures.value at c.in-Err-parse.ensures.exact)
    (subst (λ e. IsAlone e (map entry_of faults.items)) c.of_parse.ensures h))
    c.alone-in-Err-parse.ensures

pub returns-clause-none : goal.returns-clause-none
returns-clause-none c = λ p.
    IfOk-weaker c.alone-in-Err-parse.result _ _
    (λ faults h. none_of_memory c.of_parse.result faults.items (c.of_parse.ensures ∙ parse_accepts p.unit c.in-Err-parse.error (c.in-Err-parse.ensures.only p.unit p.of_program.spelled)) h)
    c.alone-in-Err-parse.ensures
