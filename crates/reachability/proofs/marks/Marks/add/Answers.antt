use Rattle.reachability.proofs.Closure.{waits_after}
use Rattle.reachability.proofs.marks.Marks.add.Goals as goal

pub invariant_of-self : goal.invariant_of-self
invariant_of-self c = waits_after c.note.result _ c.self.inside.marked.items c.self.inside.waiting.items c.note.new.marked.items c.note.new.waiting.items c.self.invariant c.note.ensures.adds c.note.ensures.err c.note.ensures.waiting
