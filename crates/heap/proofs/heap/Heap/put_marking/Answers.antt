use Rattle.std.proofs.Common.{sym, ap}
use Rattle.heap.specs.Heap.{Space}
use Rattle.heap.specs.Cells.{space_in}
use Rattle.heap.proofs.UnderWay.{bare_view, held_of}
use Rattle.heap.proofs.heap.Heap.put_marking.Goals as goal

pub invariant_of-self : goal.invariant_of-self
invariant_of-self c = record { stored = c.self.invariant.stored; under_way = held_of c.args.self.now (space_in c.self.inside.cells c.self.inside.pins.items c.self.inside.starts.items) c.args.marking (sym (bare_view c.self.view_is)) c.requires }

pub returns : goal.returns
returns c = ap (λ (t : Space). let u : Space = record t { marking = c.args.marking } in u) c.self.view_is
