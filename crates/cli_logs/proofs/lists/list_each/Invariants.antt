use Rattle.std.proofs.Common.{drop}
use Rattle.cli_logs.proofs.ListLemmas.{SoFar, Within}
use Rattle.cli_logs.proofs.lists.list_each.Given as goal

abbrev pub invariant-loop-name : goal.invariant-loop-name
invariant-loop-name g l =
    SoFar (g.F.Files.gives l.initial.files) (g.F.Files.lacks l.initial.files) l.several l.names (drop l.name-index l.names)
    (g.O.Sink.written l.initial.out) (g.O.Sink.written l.out) l.status (g.E.Sink.written l.initial.err).failures (g.E.Sink.written l.err).failures
    × Within (g.F.Files.gives l.files) (g.F.Files.gives l.initial.files) (g.F.Files.lacks l.files) (g.F.Files.lacks l.initial.files)
