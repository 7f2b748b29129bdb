use Rattle.std.proofs.Common.{ℕ, IsSome, refl, replicate, subst, sym}
use Rattle.std.proofs.lemmas.Result.{err_from_is_err_and}
use Rattle.semantics.specs.declared.schedule.ScheduleWord.TheVariants.{Collect}
use Rattle.machine.specs.Run.{IsOrderly, Run, RunsAlong, replay_of}
use Rattle.machine.proofs.Collected.{orderly}
use Rattle.machine.proofs.Runs.{collected_often, collection_refused, none_yet}
use Rattle.machine.proofs.machine.Machine.collect_for.Goals as goal

pub returns-then-times-eq0-clause-ok : goal.returns-then-times-eq0-clause-ok
returns-then-times-eq0-clause-ok c =
    let runs : IsSome (replay_of c.args.self.now) = subst (λ (r : Run). IsSome (replay_of r)) c.self.view_is (rw c.self.invariant.replays refl) in
    subst (λ (n : ℕ). RunsAlong c.args.self.now c.args.self.now (replicate n Collect)) (sym c.if-times-eq0.true) (none_yet c.args.self.now runs)

pub returns-clause-ok : goal.returns-clause-ok
returns-clause-ok c =
    let can : IsOrderly c.args.self.now = subst IsOrderly c.self.view_is (orderly _ _ _ _ _ _ _ c.self.invariant) in
    collected_often c.args.self.now c.collect.new.self c.args.times c.if-times-eq0.false can c.in_ok-collect.ensures.ok c.in_ok-collect.ensures.runs

pub returns-in_err-collect-clause-err : goal.returns-in_err-collect-clause-err
returns-in_err-collect-clause-err c =
    let runs : IsSome (replay_of c.args.self.now) = subst (λ (r : Run). IsSome (replay_of r)) c.self.view_is (rw c.self.invariant.replays refl) in
    let given = err_from_is_err_and c.from_residual.result c.from_residual.ensures.1 in
    rw (given.1, given.2) (collection_refused c.args.self.now c.collect.new.self c.args.times c.if-times-eq0.false c.in_err-collect.ensures.err runs)
