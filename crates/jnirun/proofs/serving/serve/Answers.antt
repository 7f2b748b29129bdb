use Rattle.jnirun.specs.Runs.{RunsTexts}
use Rattle.jnirun.specs.Serve.{TextsWrite, TextsEarn, on_texts}
use Rattle.jnirun.proofs.serving.serve.Goals as goal

pub returns-in-Ok : goal.returns-in-Ok
returns-in-Ok g c =
    let program = c.in-Ok.texts.program.items in
    let world = c.in-Ok.texts.world.items in
    let order = c.in-Ok.texts.order.items in
    let ran : RunsTexts (g.O.Sink.written c.args.out.now) (g.O.Sink.written c.work_text-outcome.new.out) c.work_text-outcome.result (TextsWrite c.args.command program world order) (TextsEarn c.args.command program world order) =
    rw c.in-Work.is (rw (c.deref.ensures.value, c.deref-in-Ok.ensures.value) at c.work_text-outcome.ensures.run) in
    on_texts c.tell_outcome.result (record {
      program = program;
      world = world;
      order = order;
      given = c.in-Ok.ensures.given;
      holds = rw c.in-Ok.ensures.silent at (c.tell_outcome.ensures (g.O.Sink.written c.args.out.now) ran);
    })
