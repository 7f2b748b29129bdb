use Rattle.std.proofs.Common.{◌≡◌, ℕ, ◌-◌, IsSome, refl, replicate, subst, sym, arith}
use Rattle.semantics.specs.declared.schedule.ScheduleWord.TheVariants.{Turn}
use Rattle.machine.specs.Run.{Run, RunsAlong, replay_of}
use Rattle.machine.proofs.Runs.{none_yet}
use Rattle.machine.proofs.machine.Machine.left_at_once.Goals as goal

pub returns-then-times-eq1-clause-along : goal.returns-then-times-eq1-clause-along
returns-then-times-eq1-clause-along c =
    let ran = c.run_plainly-ran in
    let count : ran.result.taken ≡ c.args.times - (1 - ran.result.taken) = omega (arith, c.if-times-eq1.true, ran.ensures.most) in
    subst (λ (n : ℕ). RunsAlong c.args.self.now ran.new.self (replicate n (Turn c.args.k))) count ran.ensures.along

pub returns-clause-along : goal.returns-clause-along
returns-clause-along c =
    let runs : IsSome (replay_of c.args.self.now) = subst (λ (r : Run). IsSome (replay_of r)) c.self.view_is (rw c.self.invariant.replays refl) in
    let none : c.args.times - c.args.times ≡ 0 = omega arith in
    subst (λ (n : ℕ). RunsAlong c.args.self.now c.args.self.now (replicate n (Turn c.args.k))) (sym none) (none_yet c.args.self.now runs)
