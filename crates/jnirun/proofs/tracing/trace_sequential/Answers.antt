use Rattle.jnirun.specs.Serve.{on_texts}
use Rattle.jnirun.proofs.TraceLemmas.{untold}
use Rattle.jnirun.proofs.tracing.trace_sequential.Goals as goal

pub returns-in-Ok : goal.returns-in-Ok
returns-in-Ok g c = record {
  told = g.E.Sink.written c.tell_outcome-status.new.err;
  serves = on_texts c.tell_outcome-status.result (record {
    program = c.in-Ok.texts.program.items;
    world = c.in-Ok.texts.world.items;
    order = c.in-Ok.texts.order.items;
    given = c.in-Ok.ensures.given;
    holds = rw c.in-Ok.ensures.silent at (c.tell_outcome-status.ensures (g.O.Sink.written c.args.out.now.sink) c.run_texts-outcome.ensures);
  });
  further = c.tell_run.ensures;
}

pub returns-in-Err : goal.returns-in-Err
returns-in-Err g c = untold (c.in-Err.ensures.told (g.O.Sink.written c.args.out.now.sink))
