use Rattle.std.proofs.Common.{subst, Ok, Err}
use Rattle.machine.specs.declared.fault.RunFault.{RunFault}
use Rattle.machine.specs.Run.{RunsInto}
use Rattle.jnirun.proofs.RunLemmas.{ran, report_fails, never_full}
use Rattle.jnirun.proofs.run.run_loaded.Goals as goal

pub unreachable-requires : goal.unreachable-requires
unreachable-requires g c =
    never_full c.args.machine.now c.run.new.self c.args.schedule.now c.requires.unstarted (subst (λ (f : RunFault). RunsInto c.args.machine.now c.run.new.self c.args.schedule.now f) c.in-Err-Full.field-0-is c.in-Err-Full.ensures.err) c.requires.few

pub returns-in-Ok-report-clause-run : goal.returns-in-Ok-report-clause-run
returns-in-Ok-report-clause-run g c = λ program world order loaded.
    rw c.shown_stop-trap.ensures (ran program world order (g.W.Sink.written c.args.out.now) loaded.items loaded.world c.args.schedule.now c.args.machine.now c.run.new.self c.stop.result (g.W.Sink.written c.report.new.sink) (Ok c.in-Ok-report.field-0) c.stop.ensures c.in-Ok-report.ensures.none_waits
    loaded.passed.of_program loaded.passed.short loaded.passed.of_world loaded.of_schedule loaded.loads loaded.passed.means loaded.means loaded.unstarted c.in-Ok.ensures.ok c.in-Ok-report.ensures.run)

pub returns-in-Err-clause-run : goal.returns-in-Err-clause-run
returns-in-Err-clause-run g c = λ program world order loaded.
    rw c.of_report.ensures (ran program world order (g.W.Sink.written c.args.out.now) loaded.items loaded.world c.args.schedule.now c.args.machine.now c.run.new.self c.stop.result (g.W.Sink.written c.report.new.sink) (Err c.in-Err.fault) c.stop.ensures c.in-Err.ensures.none_waits
    loaded.passed.of_program loaded.passed.short loaded.passed.of_world loaded.of_schedule loaded.loads loaded.passed.means loaded.means loaded.unstarted c.in-Ok.ensures.ok c.in-Err.ensures.run)

pub returns-in-Err-clause-accepted : goal.returns-in-Err-clause-accepted
returns-in-Err-clause-accepted g c = rw c.of_report.ensures (report_fails c.in-Err.fault)
