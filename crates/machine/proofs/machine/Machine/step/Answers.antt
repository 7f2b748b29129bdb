use Rattle.std.proofs.Common.{refl, subst}
use Rattle.std.specs.Prelude.{IsSome}
use Rattle.machine.specs.Run.{Run, replay_of}
use Rattle.machine.proofs.machine.Machine.step.Goals as goal

pub returns-in-Some-clause-runs : goal.returns-in-Some-clause-runs
returns-in-Some-clause-runs c = subst (λ (r : Run). IsSome (replay_of r)) c.self.view_is (rw c.self.invariant.replays refl)

pub step_now-requires-clause-could : goal.step_now-requires-clause-could
step_now-requires-clause-could c = rw c.in_default.is at c.turn_without_step.ensures.none
