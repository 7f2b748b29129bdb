use Rattle.std.proofs.Common.{Ok, Err}
use Rattle.jnirun.proofs.WorkLemmas.{worked, report_fails}
use Rattle.jnirun.proofs.working.report_work.Goals as goal

pub returns-in-Ok-clause-run : goal.returns-in-Ok-clause-run
returns-in-Ok-clause-run g c = λ program world under.
    rw c.shown_stop-trap.ensures (worked program world (g.W.Sink.written c.args.out.now) c.args.machine.now c.stop.result (g.W.Sink.written c.report.new.sink) (Ok c.in-Ok.field-0) c.stop.ensures c.in-Ok.ensures.none_waits c.requires.has_room under c.in-Ok.ensures.run)

pub returns-in-Err-clause-run : goal.returns-in-Err-clause-run
returns-in-Err-clause-run g c = λ program world under.
    rw c.of_report.ensures (worked program world (g.W.Sink.written c.args.out.now) c.args.machine.now c.stop.result (g.W.Sink.written c.report.new.sink) (Err c.in-Err.fault) c.stop.ensures c.in-Err.ensures.none_waits c.requires.has_room under c.in-Err.ensures.run)

pub returns-in-Err-clause-accepted : goal.returns-in-Err-clause-accepted
returns-in-Err-clause-accepted g c = rw c.of_report.ensures (report_fails c.in-Err.fault)
