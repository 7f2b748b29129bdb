use Rattle.std.proofs.lemmas.Result.{err_from_is_err_and}
use Rattle.replay_trace.proofs.TraceLemmas.{behind, stopped, written}
use Rattle.replay_trace.proofs.entries.Telling.tell_entries.Goals as goal

pub returns-in_default : goal.returns-in_default
returns-in_default g c = behind (g.W.Sink.written c.args.out.now) (g.W.Sink.written c.loop-done.out) (g.W.Sink.written c.put_some.new.out) c.put_some.result c.loop-done.invariant.0 c.put_some.ensures

pub returns-in_err-put_taken : goal.returns-in_err-put_taken
returns-in_err-put_taken g c =
    let p = err_from_is_err_and c.from_residual.result c.from_residual.ensures.1 in
    rw p.1 (stopped (g.W.Sink.written c.args.out.now) (g.W.Sink.written c.loop-done.out) (g.W.Sink.written c.put_taken.new.out) c.loop-done.invariant.0 c.in_err-put_taken.ensures)

pub loop-done-preserved : goal.loop-done-preserved
loop-done-preserved g c =
    (written (g.W.Sink.written c.args.out.now) (g.W.Sink.written c.loop-done.out) (g.W.Sink.written c.put_taken.new.out) c.loop-done.invariant.0 c.in_ok-put_taken.ensures, c.in-Ok.ensures)
