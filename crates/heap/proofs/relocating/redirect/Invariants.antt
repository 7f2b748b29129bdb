use Rattle.std.proofs.Common.{◌-◌, ◌≤◌}
use Rattle.std.specs.Prelude.{slice_index}
use Rattle.heap.specs.Values.{AreRedirected}
use Rattle.heap.proofs.relocating.redirect.Given as goal

abbrev pub invariant-references : goal.invariant-references
invariant-references l = record {
  done : AreRedirected (slice_index l.to) l.fn.cells l.cells l.from l.place;
  begun : l.from ≤ l.place;
  within : l.place ≤ l.end;
}

abbrev pub decreases-references : goal.decreases-references
decreases-references l = l.end - l.place
