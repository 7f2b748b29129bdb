use Rattle.std.proofs.Common.{◌≡◌, ◌++◌, drop}
use Rattle.std.specs.Prelude.{take}
use Rattle.semantics.specs.Journal.{clearings_in}
use Rattle.semantics.specs.JournalText.{spelled_entries}
use Rattle.sinks.proofs.Puts.{PutSoFar}
use Rattle.report.proofs.writing.put_entries.Given as goal

abbrev pub invariant-loop-place : goal.invariant-loop-place
invariant-loop-place g l = record {
  before : l.clearings ≡ clearings_in (take l.place (g.E.Entries.entries l.entries));
  so_far : PutSoFar (g.S.Sink.written l.initial.sink) (g.S.Sink.written l.sink) (spelled_entries (g.E.Entries.entries l.entries))
      (l.text.items ++ spelled_entries (drop l.place (g.E.Entries.entries l.entries)));
}
