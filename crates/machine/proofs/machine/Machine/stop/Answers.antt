use Rattle.std.proofs.Common.{◌≡◌, Some, subst}
use Rattle.machine.specs.Run.{Run, replay_of}
use Rattle.machine.proofs.machine.Machine.stop.Goals as goal

pub returns : goal.returns
returns c =
    let m = c.self.invariant in
    (m.state, subst (λ (r : Run). replay_of r ≡ Some m.state) c.self.view_is m.replays, m.same_stop)
