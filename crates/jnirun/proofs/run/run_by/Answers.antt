use Rattle.syntax.specs.Views.{unit_tree}
use Rattle.jnirun.proofs.RunLemmas.{refused_load, passing, loads_or_fails}
use Rattle.jnirun.proofs.run.run_by.Goals as goal

pub returns-in-Ok-clause-run : goal.returns-in-Ok-clause-run
returns-in-Ok-clause-run g c = λ program text order passed reads means.
    c.run_loaded.ensures.run program text order (record {
      items = c.args.lowered.unit;
      world = c.args.world;
      passed = passed;
      of_schedule = reads;
      means = means;
      loads = c.in-Ok.ensures.fits;
      unstarted = c.in-Ok.ensures.ok;
    })

pub returns-in-Ok-clause-accepted : goal.returns-in-Ok-clause-accepted
returns-in-Ok-clause-accepted g c = λ program text order of_world m same. c.run_loaded.ensures.accepted

pub returns-in-Err-clause-run : goal.returns-in-Err-clause-run
returns-in-Err-clause-run g c = λ program text order passed reads means.
    rw c.of_load.ensures (refused_load program text order (g.W.Sink.written c.args.out.now) c.args.world c.args.schedule.now c.in-Err.fault
    (passing program text order (g.W.Sink.written c.args.out.now) (unit_tree c.args.lowered.unit) passed.of_program passed.short) passed.of_world reads c.in-Err.ensures.fault)

pub returns-in-Err-clause-accepted : goal.returns-in-Err-clause-accepted
returns-in-Err-clause-accepted g c = λ program text order of_world m same.
    rw c.of_load.ensures (loads_or_fails program text order (g.W.Sink.written c.args.out.now) c.args.lowered.unit c.args.world c.in-Err.fault m same of_world c.in-Err.ensures.fault)
