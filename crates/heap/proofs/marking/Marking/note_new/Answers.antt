use Rattle.heap.proofs.Marked.{HasRoom-new}
use Rattle.heap.proofs.marking.Marking.note_new.Goals as goal

pub invariant_of-self : goal.invariant_of-self
invariant_of-self c = HasRoom-new c.self.inside.kept.items c.self.inside.list.items c.self.inside.taken c.self.inside.list.cap c.cell-index.result c.self.invariant
