use Rattle.std.proofs.Common.{rules}
use Rattle.jnirun.specs.Serve.{loses_fault}
use Rattle.jnirun.proofs.ServeLemmas.{refused}
use Rattle.jnirun.proofs.serving.refuse.Goals as goal

pub returns-in-Ok : goal.returns-in-Ok
returns-in-Ok g c = λ earned.
    refused c.args.command c.args.texts.now.program.items c.args.texts.now.world.items c.args.texts.now.order.items c.args.number c.place-at.result _ _ _ c.of.result.now c.text-text.result
    (g.O.Sink.written c.args.out.now) (g.O.Sink.written c.say_fault.new.out) (g.E.Sink.written c.args.err.now) (g.E.Sink.written c.tell.new.err) c.tell.result
    (search rules) (search rules) (search rules) (search rules) (rw c.place-at.ensures earned) (record { appended = c.in-Ok.ensures.text; none_waits = c.in-Ok.ensures.none_waits }) c.tell.ensures.text c.tell.ensures.none_waits

pub returns-in-Err : goal.returns-in-Err
returns-in-Err g c = λ earned. rw c.fail.ensures.status (loses_fault c.args.number c.place-at.result (rw c.place-at.ensures earned) c.in-Err.ensures.text c.fail.ensures.tells)
