use Rattle.std.proofs.Common.{drop, flat_map}
use Rattle.sinks.proofs.Puts.{PutSoFar}
use Rattle.cli_logs.proofs.ListLemmas.{line_for}
use Rattle.cli_logs.proofs.lists.say_faults.Given as goal

abbrev pub invariant-loop-fault : goal.invariant-loop-fault
invariant-loop-fault g l =
    PutSoFar (g.O.Sink.written l.initial.out) (g.O.Sink.written l.out) (flat_map (line_for l.several l.name) l.faults) (flat_map (line_for l.several l.name) (drop l.fault-index l.faults))
