use Rattle.std.proofs.Common.{inr, refl}
use Rattle.jnirun.proofs.WorkLemmas.{room_done, room_stalled, filled}
use Rattle.jnirun.proofs.working.tell_work.Goals as goal

pub report_work-requires-clause-has_room : goal.report_work-requires-clause-has_room
report_work-requires-clause-has_room g c = room_done c.args.machine.now (rw c.in-Done.is at c.requires.verdict)

pub report_work-requires-in-Stalled-clause-has_room : goal.report_work-requires-in-Stalled-clause-has_room
report_work-requires-in-Stalled-clause-has_room g c = let h = rw c.in-Stalled.is at c.requires.verdict in room_stalled c.args.machine.now h.0 h.1

pub returns-in-Full-clause-run : goal.returns-in-Full-clause-run
returns-in-Full-clause-run g c = λ program world under.
    let h = rw c.in-Full.is at c.requires.verdict in
    rw c.of_run.ensures (filled program world (g.W.Sink.written c.args.out.now) c.args.machine.now under h.0 h.1 c.journal.ensures.fits c.journal.ensures.fair)

pub returns-in-Full-clause-accepted : goal.returns-in-Full-clause-accepted
returns-in-Full-clause-accepted g c = rw c.of_run.ensures (inr refl, refl)
