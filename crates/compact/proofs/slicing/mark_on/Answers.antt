use Rattle.std.proofs.Common.{sym, ap}
use Rattle.heap.specs.Heap.{bare}
use Rattle.compact.proofs.Going.{closed_of}
use Rattle.compact.proofs.slicing.mark_on.Goals as goal

pub mark_listed-requires-clause-closed : goal.mark_listed-requires-clause-closed
mark_listed-requires-clause-closed c = closed_of c.args.heap.now c.take_marking.new.self (sym (ap bare c.take_marking.ensures.space)) c.requires
