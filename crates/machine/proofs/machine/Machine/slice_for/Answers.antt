use Rattle.std.proofs.Common.{◌≡◌, ℕ, ◌+◌, ◌-◌, IsSome, refl, replicate, subst, sym, arith}
use Rattle.std.proofs.lemmas.Result.{err_from_is_err_and}
use Rattle.semantics.specs.Schedule.{Schedule}
use Rattle.semantics.specs.declared.schedule.ScheduleWord.TheVariants.{Slice}
use Rattle.machine.specs.declared.fault.RunFault.TheVariants as running
use Rattle.machine.specs.Run.{Run, RunsAlong, RunsInto, replay_of}
use Rattle.machine.proofs.Runs.{begun, none_yet, replicate_rest, sliced_once, taken_more}
use Rattle.machine.proofs.machine.Machine.slice_for.Goals as goal

pub loop-left-init : goal.loop-left-init
loop-left-init c =
    let runs : IsSome (replay_of c.args.self.now) = subst (λ (r : Run). IsSome (replay_of r)) c.self.view_is (rw c.self.invariant.replays refl) in
    let none : c.args.times - c.args.times ≡ 0 = omega arith in
    record {
      most = omega arith;
      along = subst (λ (n : ℕ). RunsAlong c.args.self.now c.args.self.now (replicate n Slice)) (sym none) (none_yet c.args.self.now runs);
      runs = runs;
    }

pub returns-in_err-slice-clause-err : goal.returns-in_err-slice-clause-err
returns-in_err-slice-clause-err c =
    let l = c.loop-left in
    let i = c.args.times - l.left in
    let along = subst (λ (r : Run). RunsAlong c.args.self.now r (replicate i Slice)) (sym c.in_err-slice.ensures.err) l.invariant.along in
    let given = err_from_is_err_and c.from_residual.result c.from_residual.ensures.1 in
    rw (given.1, given.2) (subst (λ (w : Schedule). RunsInto c.args.self.now c.slice.new.self w running.Memory) (sym (replicate_rest Slice i c.args.times (omega (arith, c.loop-left-test.true, l.invariant.most))))
    (begun c.args.self.now c.slice.new.self (replicate i Slice) Slice (replicate (c.args.times - i - 1) Slice) running.Memory along tt))

pub loop-left-preserved : goal.loop-left-preserved
loop-left-preserved c =
    let l = c.loop-left in
    let i = c.args.times - l.left in
    let count : i + 1 ≡ c.args.times - (l.left - 1) = omega (arith, c.loop-left-test.true, l.invariant.most) in
    record {
      most = omega (arith, l.invariant.most);
      along = subst (λ (n : ℕ). RunsAlong c.args.self.now c.slice.new.self (replicate n Slice)) count
          (taken_more c.args.self.now l.self c.slice.new.self Slice i 1 l.invariant.along (sliced_once l.self c.slice.new.self c.in_ok-slice.ensures.ok l.invariant.runs));
      runs = c.in_ok-slice.ensures.runs;
    }

pub returns-clause-ok : goal.returns-clause-ok
returns-clause-ok c =
    let all : c.args.times - c.loop-left.left ≡ c.args.times = omega (arith, c.loop-left-test.false) in
    subst (λ (n : ℕ). RunsAlong c.args.self.now c.loop-left.self (replicate n Slice)) all c.loop-left.invariant.along
