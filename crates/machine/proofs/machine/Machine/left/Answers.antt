use Rattle.std.proofs.Common.{sym, ap, ◌∙◌, subst}
use Rattle.machine.specs.Run.{IsOrderly, cells_left}
use Rattle.machine.proofs.Collected.{orderly}
use Rattle.machine.proofs.Moved.{left_seen}
use Rattle.machine.proofs.machine.Machine.left.Goals as goal

pub returns-clause-left : goal.returns-clause-left
returns-clause-left c =
    let i = c.self.inside in
    c.left.ensures ∙ sym (left_seen i.program i.world i.store i.journal.entries c.self.invariant.store_agrees.cells) ∙ ap cells_left c.self.view_is

pub returns-clause-orderly : goal.returns-clause-orderly
returns-clause-orderly c = subst IsOrderly c.self.view_is (orderly _ _ _ _ _ _ _ c.self.invariant)
