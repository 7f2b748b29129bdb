use Rattle.replay_trace.specs.Tellings.{CanTell}
use Rattle.replay_trace.proofs.TraceLemmas.{HasWritten}
use Rattle.replay_trace.proofs.entries.Telling.tell_entries.Given as goal

abbrev pub invariant-loop-done : goal.invariant-loop-done
invariant-loop-done g l = HasWritten (g.W.Sink.written l.initial.out) (g.W.Sink.written l.out) × CanTell l.self
