use Rattle.syntax.specs.Views.{unit_tree}
use Rattle.jnirun.proofs.WorkLemmas.{refused_load, still_under_way, loads_or_fails}
use Rattle.jnirun.proofs.working.work_in.Goals as goal

pub returns-in-Ok-clause-run : goal.returns-in-Ok-clause-run
returns-in-Ok-clause-run g c = λ program text passed.
    c.work_loaded.ensures.run program text
    (still_under_way program text c.args.lowered.unit c.in-Ok.machine.unit c.args.world c.in-Ok.machine.world c.in-Ok.ensures.ok.of_unit c.in-Ok.ensures.ok.on_world (record { passed = passed; loads = c.in-Ok.ensures.fits }))

pub returns-in-Ok-clause-accepted : goal.returns-in-Ok-clause-accepted
returns-in-Ok-clause-accepted g c = λ program text of_world m same. c.work_loaded.ensures.accepted

pub returns-in-Err-clause-run : goal.returns-in-Err-clause-run
returns-in-Err-clause-run g c = λ program text passed.
    rw c.of_load.ensures (refused_load program text (g.W.Sink.written c.args.out.now) (unit_tree c.args.lowered.unit) c.args.world c.in-Err.fault passed.of_program passed.short passed.of_world c.in-Err.ensures.fault)

pub returns-in-Err-clause-accepted : goal.returns-in-Err-clause-accepted
returns-in-Err-clause-accepted g c = λ program text of_world m same.
    rw c.of_load.ensures (loads_or_fails program text c.args.lowered.unit c.args.world c.in-Err.fault m same of_world c.in-Err.ensures.fault)
