use Rattle.std.proofs.Common.{false, sym, ◌∙◌}
use Rattle.machine.proofs.Reports.{is_finished}
use Rattle.machine.proofs.machine.Machine.finished.Goals as goal

pub returns-else-is_some : goal.returns-else-is_some
returns-else-is_some c =
    is_finished _ _ _ _ _ _ _ c.self.invariant c.args.self.now c.self.view_is false (sym c.if-is_some.false ∙ c.is_some.ensures) c.all_rest.result c.all_rest.ensures
