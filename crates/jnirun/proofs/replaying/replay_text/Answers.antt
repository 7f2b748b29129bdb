use Rattle.jnirun.proofs.ReplayLemmas.{refused_program}
use Rattle.jnirun.proofs.replaying.replay_text.Goals as goal

pub returns-in-Ok-clause-replay : goal.returns-in-Ok-clause-replay
returns-in-Ok-clause-replay g c = c.replay_checked.ensures.replay c.args.program_text.now c.in-Ok.ensures.program

pub returns-in-Ok-clause-accepted : goal.returns-in-Ok-clause-accepted
returns-in-Ok-clause-accepted g c = λ p. c.replay_checked.ensures.accepted c.args.program_text.now p (c.in-Ok.ensures.only p.meaning.unit p.meaning.of_program)

pub returns-in-Err-clause-replay : goal.returns-in-Err-clause-replay
returns-in-Err-clause-replay g c =
    refused_program c.args.program_text.now c.args.world_text.now c.args.journal_text.now (g.W.Sink.written c.args.out.now) c.in-Err.error c.in-Err.ensures.fault
