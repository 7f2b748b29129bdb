use Rattle.std.proofs.Common.{sym, subst}
use Rattle.std.specs.Prelude.{OnOk}
use Rattle.heap.specs.Heap.{Space}
use Rattle.compact.specs.Reach.{IsClosed}
use Rattle.compact.proofs.slicing.slice.Goals as goal

pub slice_or_end-result-requires-clause-closed : goal.slice_or_end-result-requires-clause-closed
slice_or_end-result-requires-clause-closed g c = subst (λ (s : Space). IsClosed s) (sym c.lend_table.ensures.same) c.requires.closed

pub returns-clause-closed : goal.returns-clause-closed
returns-clause-closed g c = subst (λ (s : Space). OnOk c.slice_or_end-result.result (IsClosed s)) (sym c.put_table.ensures) c.slice_or_end-result.ensures.closed
