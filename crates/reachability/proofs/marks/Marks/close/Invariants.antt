use Rattle.std.proofs.Common.{◌+◌, length}
use Rattle.reachability.specs.Marks.{unmarked}
use Rattle.reachability.proofs.Closure.{IsMarking}
use Rattle.reachability.proofs.marks.Marks.close.Given as goal

abbrev pub invariant-loop-place : goal.invariant-loop-place
invariant-loop-place g l = IsMarking (g.G.Graph.references l.graph) l.fn.self l.marked.items l.waiting.items

abbrev pub decreases-loop-place : goal.decreases-loop-place
decreases-loop-place g l = unmarked l.marked.items + length l.waiting.items
