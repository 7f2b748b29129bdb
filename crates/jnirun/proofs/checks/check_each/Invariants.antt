use Rattle.std.proofs.Common.{drop}
use Rattle.jnirun.proofs.EachLemmas.{SoFar, Within}
use Rattle.jnirun.proofs.checks.check_each.Given as goal

abbrev pub invariant-loop-name : goal.invariant-loop-name
invariant-loop-name g l =
    SoFar (g.F.Files.gives l.initial.files) (g.F.Files.lacks l.initial.files) l.names (drop l.name-index l.names)
    (g.O.Sink.written l.initial.out) (g.O.Sink.written l.out) (g.E.Sink.written l.initial.err) (g.E.Sink.written l.err) l.status
    × Within (g.F.Files.gives l.files) (g.F.Files.gives l.initial.files) (g.F.Files.lacks l.files) (g.F.Files.lacks l.initial.files)
