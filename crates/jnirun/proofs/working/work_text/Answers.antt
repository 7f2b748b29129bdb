use Rattle.jnirun.proofs.WorkLemmas.{refused_program}
use Rattle.jnirun.proofs.working.work_text.Goals as goal

pub returns-in-Ok-clause-run : goal.returns-in-Ok-clause-run
returns-in-Ok-clause-run g c = c.work_checked.ensures.run c.args.program_text.now c.in-Ok.ensures.program

pub returns-in-Ok-clause-accepted : goal.returns-in-Ok-clause-accepted
returns-in-Ok-clause-accepted g c = λ m. c.work_checked.ensures.accepted c.args.program_text.now m (c.in-Ok.ensures.only m.unit m.of_program)

pub returns-in-Err-clause-run : goal.returns-in-Err-clause-run
returns-in-Err-clause-run g c = refused_program c.args.program_text.now c.args.world_text.now (g.W.Sink.written c.args.out.now) c.in-Err.error c.in-Err.ensures.fault
