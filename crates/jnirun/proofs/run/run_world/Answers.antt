use Rattle.syntax.specs.Views.{unit_tree}
use Rattle.jnirun.proofs.RunLemmas.{refused_schedule, passing}
use Rattle.jnirun.proofs.run.run_world.Goals as goal

pub returns-in-Ok-clause-run : goal.returns-in-Ok-clause-run
returns-in-Ok-clause-run g c = λ program text passed.
    c.run_by.ensures.run program text c.args.schedule_text.now passed (rw c.thread_count-threads.ensures at c.in-Ok.ensures.read) (rw c.thread_count-threads.ensures at c.in-Ok.ensures.means)

pub returns-in-Ok-clause-accepted : goal.returns-in-Ok-clause-accepted
returns-in-Ok-clause-accepted g c = λ program text of_world m same. c.run_by.ensures.accepted program text c.args.schedule_text.now of_world m same

pub returns-in-Err-clause-run : goal.returns-in-Err-clause-run
returns-in-Err-clause-run g c = λ program text passed.
    rw c.of_reading.ensures (refused_schedule program text c.args.schedule_text.now (g.W.Sink.written c.args.out.now) c.args.world c.in-Err.error
    (passing program text c.args.schedule_text.now (g.W.Sink.written c.args.out.now) (unit_tree c.args.lowered.unit) passed.of_program passed.short) passed.of_world (rw c.thread_count-threads.ensures at c.in-Err.ensures.read))
