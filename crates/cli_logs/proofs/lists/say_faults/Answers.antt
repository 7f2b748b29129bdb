use Rattle.std.proofs.lemmas.Result.{err_from_is_err_and}
use Rattle.std.proofs.Common.{◌+◌, ◌++◌, drop, flat_map, subst, sym, ap, ◌∙◌}
use Rattle.sinks.specs.Sink.{StopsWithin, Writes}
use Rattle.sinks.proofs.Puts.{starts, goes_on, stops, is_all, flat_map-at, flat_map-past, Writes-flushed}
use Rattle.program_check.specs.AllFaults.{ToldFault}
use Rattle.cli_logs.proofs.ListLemmas.{line_for, lines_are}
use Rattle.cli_logs.proofs.lists.say_faults.Goals as goal

pub loop-fault-init : goal.loop-fault-init
loop-fault-init g c = starts _ _

pub returns-in_err-say_fault_in-clause-text : goal.returns-in_err-say_fault_in-clause-text
returns-in_err-say_fault_in-clause-text g c =
    let p = err_from_is_err_and c.from_residual.result c.from_residual.ensures.1 in
    let line = line_for c.args.several c.args.name.now in
    let faults = c.args.faults.now in
    let i = c.loop-fault.fault-index in
    let at = flat_map-at line faults i c.fault-item.result c.loop-fault-test.true ∙ ap (λ (f : ToldFault). line f ++ flat_map line (drop (i + 1) faults)) (sym c.fault-item.is) in
    rw p.1 (subst (StopsWithin _ _) (lines_are c.args.several c.args.name.now c.args.faults.now) (stops _ _ _ _ _ _ _ c.loop-fault.invariant at c.in_err-say_fault_in.ensures))

pub loop-fault-preserved : goal.loop-fault-preserved
loop-fault-preserved g c =
    let line = line_for c.args.several c.args.name.now in
    let faults = c.args.faults.now in
    let i = c.loop-fault.fault-index in
    let at = flat_map-at line faults i c.fault-item.result c.loop-fault-test.true ∙ ap (λ (f : ToldFault). line f ++ flat_map line (drop (i + 1) faults)) (sym c.fault-item.is) in
    goes_on _ _ _ _ _ _ _ c.loop-fault.invariant at c.in_ok-say_fault_in.ensures

pub returns-clause-text : goal.returns-clause-text
returns-clause-text g c =
    let past = flat_map-past (line_for c.args.several c.args.name.now) c.args.faults.now c.loop-fault.fault-index c.loop-fault-test.false in
    subst (Writes _ _ c.flush.result) (lines_are c.args.several c.args.name.now c.args.faults.now)
    (Writes-flushed _ _ _ c.flush.result _ (is_all _ _ _ _ c.loop-fault.invariant past) c.flush.ensures.kept c.flush.ensures.same c.flush.ensures.failed)
