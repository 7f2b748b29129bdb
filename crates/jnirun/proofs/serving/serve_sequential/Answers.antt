use Rattle.jnirun.specs.Serve.{on_texts}
use Rattle.jnirun.proofs.serving.serve_sequential.Goals as goal

pub returns-in-Ok : goal.returns-in-Ok
returns-in-Ok g c = on_texts c.tell_outcome.result (record {
  program = c.in-Ok.texts.program.items;
  world = c.in-Ok.texts.world.items;
  order = c.in-Ok.texts.order.items;
  given = c.in-Ok.ensures.given;
  holds = rw c.in-Ok.ensures.silent at (c.tell_outcome.ensures (g.O.Sink.written c.args.out.now) c.run_texts-outcome.ensures);
})
