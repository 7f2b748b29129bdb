use Rattle.std.proofs.Common.{◌≡◌, ◌-◌, length, drop}
use Rattle.std.specs.Io.KnownBytes.{Keeps, append_known}
use Rattle.sinks.proofs.std_sink.StdSink.send_all.Given as goal

abbrev pub invariant-loop-self : goal.invariant-loop-self
invariant-loop-self g l = record {
  kept : Keeps (append_known (g.W.Write.contents l.initial.self.writer) (drop l.initial.self.sent l.initial.self.buffer.items))
      (append_known (g.W.Write.contents l.self.writer) (drop l.self.sent l.self.buffer.items));
  same : l.self.failures ≡ l.initial.self.failures;
}

abbrev pub decreases-loop-self : goal.decreases-loop-self
decreases-loop-self g l = length l.self.buffer.items - l.self.sent
