use Rattle.std.proofs.Common.{◌≡◌, ◌<◌, Some, length, subst, arith}
use Rattle.std.proofs.lemmas.Bool.{leb-false}
use Rattle.syntax.specs.Views.{unit_tree}
use Rattle.semantics_safety.specs.Owners.{owners_after}
use Rattle.machine.specs.Run.{Run, replay_of}
use Rattle.machine.proofs.Runs.{missing_waits}
use Rattle.machine_threads.proofs.ThreadLoads.{agree_length}
use Rattle.machine.proofs.machine.Machine.has_thread.Goals as goal

pub returns-then-k-gt0-clause-none : goal.returns-then-k-gt0-clause-none
returns-then-k-gt0-clause-none c e =
    let m = c.self.invariant in
    let long : length m.state.threads < c.args.k = omega (arith, agree_length _ _ _ _ _ (owners_after (unit_tree c.self.inside.program.unit) c.self.inside.world c.self.inside.journal.entries) _ _ _ _ m.threads_agree, c.from.ensures, c.len.ensures, leb-false c.from.result c.len.result e) in
    (m.state, subst (λ (r : Run). replay_of r ≡ Some m.state) c.self.view_is m.replays, missing_waits _ m.state c.args.k long)
