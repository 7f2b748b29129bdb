use Rattle.syntax.specs.Views.{unit_tree}
use Rattle.jnirun.proofs.ReplayLemmas.{refused_journal, replayed, stopped, from_outside, replayable, unread_journal}
use Rattle.jnirun.proofs.replaying.replay_world.Goals as goal

pub returns-in-Ok-replay-clause-replay : goal.returns-in-Ok-replay-clause-replay
returns-in-Ok-replay-clause-replay g c = λ program text is reads meant.
    replayed program text c.args.journal_text.now (g.W.Sink.written c.args.out.now) (unit_tree c.args.checked.now) c.args.world.now c.in-Ok.journal.items
    is reads (rw c.thread_count-threads.ensures at c.in-Ok.ensures.read) (g.W.Sink.written c.replay.new.out) c.in-Ok-replay.trap (rw c.deref.ensures.value at c.in-Ok-replay.ensures.trap) c.in-Ok-replay.ensures.none_waits
    meant (rw c.thread_count-threads.ensures at c.in-Ok.ensures.means) (rw c.deref.ensures.value at c.in-Ok-replay.ensures.ok)

pub returns-in-Ok-clause-replay : goal.returns-in-Ok-clause-replay
returns-in-Ok-clause-replay g c = λ program text is reads meant.
    rw c.of_replay.ensures (stopped program text c.args.journal_text.now (g.W.Sink.written c.args.out.now) (unit_tree c.args.checked.now) c.args.world.now c.in-Ok.journal.items
    is reads (rw c.thread_count-threads.ensures at c.in-Ok.ensures.read) (g.W.Sink.written c.replay.new.out) c.in-Err-replay.error
    meant (rw c.thread_count-threads.ensures at c.in-Ok.ensures.means) (rw c.deref.ensures.value at c.in-Err-replay.ensures.err))

pub returns-in-Ok-clause-accepted : goal.returns-in-Ok-clause-accepted
returns-in-Ok-clause-accepted g c = λ program text reads p same.
    rw c.of_replay.ensures (from_outside program text c.args.journal_text.now (g.W.Sink.written c.args.out.now) c.in-Err-replay.error
    (c.in-Err-replay.ensures.only (rw c.deref.ensures.value (replayable program text c.args.journal_text.now (g.W.Sink.written c.args.out.now) (unit_tree c.args.checked.now) c.args.world.now c.in-Ok.journal.items p
    same reads (rw c.thread_count-threads.ensures at c.in-Ok.ensures.read)))))

pub returns-clause-replay : goal.returns-clause-replay
returns-clause-replay g c = λ program text is reads meant.
    rw c.of_reading.ensures (refused_journal program text c.args.journal_text.now (g.W.Sink.written c.args.out.now) (unit_tree c.args.checked.now) c.args.world.now c.in-Err.error
    is reads (rw c.thread_count-threads.ensures at c.in-Err.ensures.read))

pub returns-clause-accepted : goal.returns-clause-accepted
returns-clause-accepted g c = λ program text reads p same.
    rw c.of_reading.ensures (unread_journal program text c.args.journal_text.now (g.W.Sink.written c.args.out.now) c.args.world.now c.in-Err.error p
    reads (rw c.thread_count-threads.ensures at c.in-Err.ensures.read))
