use Rattle.syntax.specs.Views.{unit_tree}
use Rattle.jnirun.proofs.ReplayLemmas.{refused_world}
use Rattle.jnirun.proofs.replaying.replay_checked.Goals as goal

pub returns-in-Ok-clause-replay : goal.returns-in-Ok-clause-replay
returns-in-Ok-clause-replay g c = λ program is. c.replay_world.ensures.replay program c.args.world_text.now is c.in-Ok.ensures.read c.in-Ok.ensures.means

pub returns-in-Ok-clause-accepted : goal.returns-in-Ok-clause-accepted
returns-in-Ok-clause-accepted g c = λ program p same. c.replay_world.ensures.accepted program c.args.world_text.now c.in-Ok.ensures.read p same

pub returns-in-Err-clause-replay : goal.returns-in-Err-clause-replay
returns-in-Err-clause-replay g c = λ program is.
    rw c.of_reading.ensures (refused_world program c.args.world_text.now c.args.journal_text.now (g.W.Sink.written c.args.out.now) (unit_tree c.args.checked.now) c.in-Err.error is c.in-Err.ensures.read)
