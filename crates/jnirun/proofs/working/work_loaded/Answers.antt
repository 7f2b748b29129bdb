use Rattle.jnirun.proofs.WorkLemmas.{still_under_way}
use Rattle.jnirun.proofs.working.work_loaded.Goals as goal

pub returns-in-Ok-clause-run : goal.returns-in-Ok-clause-run
returns-in-Ok-clause-run g c = λ program world under.
    c.tell_work.ensures.run program world (still_under_way program world c.args.machine.unit c.in-Ok.machine.unit c.args.machine.world c.in-Ok.machine.world c.in-Ok.ensures.unit c.in-Ok.ensures.world under)
