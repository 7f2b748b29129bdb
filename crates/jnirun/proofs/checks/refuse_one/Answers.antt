use Rattle.std.proofs.Common.{rules}
use Rattle.jnirun.specs.ServeEach.{loses_fault}
use Rattle.jnirun.proofs.EachLemmas.{one_refused}
use Rattle.jnirun.proofs.checks.refuse_one.Goals as goal

pub returns-in-Ok : goal.returns-in-Ok
returns-in-Ok g c = λ fails.
    one_refused c.args.name.now c.args.program.now c.args.number c.place-at.result c.words_of.result.now c.as_bytes-in-Ok-2.result.now c.as_bytes.result.now c.as_bytes-in-Ok.result.now
    (g.O.Sink.written c.args.out.now) (g.O.Sink.written c.say_fault_of.new.out) (g.E.Sink.written c.args.err.now) (g.E.Sink.written c.tell.new.err) c.tell.result
    (search rules) c.as_bytes.ensures.value c.as_bytes-in-Ok.ensures.value (rw c.place-at.ensures fails) (record { appended = c.in-Ok.ensures.text; none_waits = c.in-Ok.ensures.none_waits })
    c.tell.ensures.text c.tell.ensures.none_waits

pub returns-in-Err : goal.returns-in-Err
returns-in-Err g c = λ fails. (c.fail.ensures.status, loses_fault c.args.number c.place-at.result (rw c.place-at.ensures fails) (rw c.as_bytes.ensures.value at c.in-Err.ensures.text) c.fail.ensures.tells)
