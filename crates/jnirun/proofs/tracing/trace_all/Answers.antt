use Rattle.std.proofs.Common.{ap, arith}
use Rattle.sinks.specs.Sink.{Written}
use Rattle.jnirun.specs.Runs.{RunsTexts}
use Rattle.jnirun.specs.Serve.{TextsWrite, TextsEarn, on_texts}
use Rattle.jnirun.proofs.TraceLemmas.{served_failures, untold}
use Rattle.jnirun.proofs.tracing.trace_all.Goals as goal

pub tell_run-requires : goal.tell_run-requires
tell_run-requires g c =
    let program = c.in-Ok.texts.program.items in
    let world = c.in-Ok.texts.world.items in
    let order = c.in-Ok.texts.order.items in
    let ran : RunsTexts (g.O.Sink.written c.args.out.now.sink) (g.O.Sink.written c.work_text-outcome.new.out.sink) c.work_text-outcome.result (TextsWrite c.args.command program world order) (TextsEarn c.args.command program world order) =
    rw c.in-Work.is (rw (c.deref.ensures.value, c.deref-in-Ok.ensures.value) at c.work_text-outcome.ensures.run) in
    let few = served_failures (c.tell_outcome-status.ensures (g.O.Sink.written c.args.out.now.sink) ran) in
    let same = ap (λ (w : Written). w.failures) c.in-Ok.ensures.silent in
    let bound = c.requires.err in
    omega (arith, few, same, bound)

pub returns-in-Ok : goal.returns-in-Ok
returns-in-Ok g c =
    let program = c.in-Ok.texts.program.items in
    let world = c.in-Ok.texts.world.items in
    let order = c.in-Ok.texts.order.items in
    let ran : RunsTexts (g.O.Sink.written c.args.out.now.sink) (g.O.Sink.written c.work_text-outcome.new.out.sink) c.work_text-outcome.result (TextsWrite c.args.command program world order) (TextsEarn c.args.command program world order) =
    rw c.in-Work.is (rw (c.deref.ensures.value, c.deref-in-Ok.ensures.value) at c.work_text-outcome.ensures.run) in
    record {
      told = g.E.Sink.written c.tell_outcome-status.new.err;
      serves = on_texts c.tell_outcome-status.result (record {
        program = program;
        world = world;
        order = order;
        given = c.in-Ok.ensures.given;
        holds = rw c.in-Ok.ensures.silent at (c.tell_outcome-status.ensures (g.O.Sink.written c.args.out.now.sink) ran);
      });
      further = c.tell_run.ensures;
    }

pub returns-in-Err : goal.returns-in-Err
returns-in-Err g c = untold (c.in-Err.ensures.told (g.O.Sink.written c.args.out.now.sink))
