use Rattle.std.proofs.Common.{◌≡◌, ℕ, ◌<◌, true, Some}
use Rattle.std.specs.Prelude.{slice_get}
use Rattle.std.specs.List.{Contains}
use Rattle.reachability.specs.Marks.{is_marked, Adds}
use Rattle.reachability.proofs.marks.follow.Given as goal

abbrev pub invariant-loop-index : goal.invariant-loop-index
invariant-loop-index g l = record {
  adds : Adds (λ q. Contains (g.G.Graph.references l.graph l.place) (Some q)) l.fn.marked.items l.fn.waiting.items l.marked.items l.waiting.items;
  seen : (k q : ℕ) → k < l.index → slice_get (g.G.Graph.references l.graph l.place) k ≡ Some (Some q) → is_marked l.marked.items q ≡ true;
}
