use Rattle.std.proofs.Common.{◌≡◌, ℕ, ◌+◌, ◌<◌, ◌≤◌, ◌-◌, ◌∙◌, Err, ap, length, sym, subst, replicate, arith, IsSome, refl}
use Rattle.std.proofs.lemmas.Result.{err_from_is_err_and}
use Rattle.semantics.specs.Schedule.{Schedule}
use Rattle.semantics.specs.World.{World}
use Rattle.semantics.specs.declared.schedule.ScheduleWord.TheVariants.{Turn}
use Rattle.machine.specs.Run.{Run, RunsAlong, RunsInto, EndsAt, replay_of}
use Rattle.machine.proofs.Runs.{begun, replicate_rest, taken_more, turns_without_step}
use Rattle.machine.specs.declared.fault.RunFault.{RunFault}
use Rattle.machine.proofs.machine.Machine.turn_for.Goals as goal
use Rattle.machine.proofs.machine.Machine.turn_for.Goals.{After-run_plainly-ran}

pub returns-then-not-has_thread-clause-ok : goal.returns-then-not-has_thread-clause-ok
returns-then-not-has_thread-clause-ok c =
    let runs : IsSome (replay_of c.args.self.now) = subst (λ (r : Run). IsSome (replay_of r)) c.self.view_is (rw c.self.invariant.replays refl) in
    turns_without_step c.args.self.now c.args.k c.args.times (c.has_thread.ensures.none c.if-not-has_thread.true) runs

pub left_at_once-left-requires-clause-is_thread : goal.left_at_once-left-requires-clause-is_thread
left_at_once-left-requires-clause-is_thread c = (c.has_thread.ensures.there c.if-not-has_thread.false).1

pub loop-left-init : goal.loop-left-init
loop-left-init c = record {
  most = c.left_at_once-left.ensures.most;
  along = c.left_at_once-left.ensures.along;
  runs = c.left_at_once-left.ensures.runs;
}

pub run_plainly-ran-requires-clause-is_thread : goal.run_plainly-ran-requires-clause-is_thread
run_plainly-ran-requires-clause-is_thread c = subst (λ (w : World). c.args.k ≤ length w.threads) (sym c.loop-left.invariant.along.same_world) (c.has_thread.ensures.there c.if-not-has_thread.false).1

-- the turns up to now, with those that were taken at once
so_far : (old mid new : Run) (k times left taken : ℕ) → left ≤ times → taken ≤ left → RunsAlong old mid (replicate (times - left) (Turn k)) → RunsAlong mid new (replicate taken (Turn k)) → RunsAlong old new (replicate (times - (left - taken)) (Turn k))
so_far old mid new k times left taken most few along more =
    let count : times - left + taken ≡ times - (left - taken) = omega (arith, most, few) in
    subst (λ (n : ℕ). RunsAlong old new (replicate n (Turn k))) count (taken_more old mid new (Turn k) (times - left) taken along more)

-- before the turn after those
here : (c : After-run_plainly-ran) → RunsAlong c.args.self.now c.run_plainly-ran.new.self (replicate (c.args.times - (c.loop-left.left - c.run_plainly-ran.result.taken)) (Turn c.args.k))
here c =
    let l = c.loop-left in
    so_far c.args.self.now l.self c.run_plainly-ran.new.self c.args.k c.args.times l.left c.run_plainly-ran.result.taken l.invariant.most c.run_plainly-ran.ensures.most l.invariant.along c.run_plainly-ran.ensures.along

is_thread : (c : After-run_plainly-ran) → c.args.k ≤ length c.run_plainly-ran.new.self.world.threads
is_thread c =
    subst (λ (w : World). c.args.k ≤ length w.threads) (sym (c.run_plainly-ran.ensures.along.same_world ∙ c.loop-left.invariant.along.same_world)) (c.has_thread.ensures.there c.if-not-has_thread.false).1

-- the turn after them was refused memory, or the journal is full
stops : (old mid new : Run) (k times i : ℕ) (fault : RunFault) → i < times → RunsAlong old mid (replicate i (Turn k)) → new ≡ mid → EndsAt mid fault (Turn k) → RunsInto old new (replicate times (Turn k)) fault
stops old mid new k times i fault few along same ends =
    subst (λ (w : Schedule). RunsInto old new w fault) (sym (replicate_rest (Turn k) i times few))
    (begun old new (replicate i (Turn k)) (Turn k) (replicate (times - i - 1) (Turn k)) fault
    (subst (λ (r : Run). RunsAlong old r (replicate i (Turn k))) (sym same) along) (subst (λ (r : Run). EndsAt r fault (Turn k)) (sym same) ends))

pub take_turn-requires-clause-is_thread : goal.take_turn-requires-clause-is_thread
take_turn-requires-clause-is_thread c = is_thread (goal.at.take_turn-requires-clause-is_thread c).After-run_plainly-ran

pub take_ready-requires-clause-is_thread : goal.take_ready-requires-clause-is_thread
take_ready-requires-clause-is_thread c = is_thread (goal.at.take_ready-requires-clause-is_thread c).After-run_plainly-ran

pub take_ready-requires-clause-ready : goal.take_ready-requires-clause-ready
take_ready-requires-clause-ready c = (c.run_plainly-ran.ensures.ready c.if-ran.true).1

pub returns-then-left-eq0-clause-ok : goal.returns-then-left-eq0-clause-ok
returns-then-left-eq0-clause-ok c =
    let all : c.args.times - (c.loop-left.left - c.run_plainly-ran.result.taken) ≡ c.args.times = omega (arith, c.if-left-eq0.true) in
    subst (λ (n : ℕ). RunsAlong c.args.self.now c.run_plainly-ran.new.self (replicate n (Turn c.args.k))) all (here (goal.at.returns-then-left-eq0-clause-ok c).After-run_plainly-ran)

pub returns-in_err-take_turn-clause-err : goal.returns-in_err-take_turn-clause-err
returns-in_err-take_turn-clause-err c =
    let l = c.loop-left in
    let i = c.args.times - (l.left - c.run_plainly-ran.result.taken) in
    let p = err_from_is_err_and c.from_residual-in_err-take_turn.result c.from_residual-in_err-take_turn.ensures.1 in
    rw (p.1 ∙ ap Err p.2)
    (stops c.args.self.now c.run_plainly-ran.new.self c.take_turn.new.self c.args.k c.args.times i c.in_err-take_turn.field-0.0 (omega (arith, c.if-left-eq0.false, l.invariant.most, c.run_plainly-ran.ensures.most)) (here (goal.at.returns-in_err-take_turn-clause-err c).After-run_plainly-ran)
    c.in_err-take_turn.ensures.err.0 c.in_err-take_turn.ensures.err.1)

pub returns-in_err-take_ready-clause-err : goal.returns-in_err-take_ready-clause-err
returns-in_err-take_ready-clause-err c =
    let l = c.loop-left in
    let i = c.args.times - (l.left - c.run_plainly-ran.result.taken) in
    let p = err_from_is_err_and c.from_residual.result c.from_residual.ensures.1 in
    rw (p.1 ∙ ap Err p.2)
    (stops c.args.self.now c.run_plainly-ran.new.self c.take_ready.new.self c.args.k c.args.times i c.in_err-take_ready.field-0.0 (omega (arith, (c.run_plainly-ran.ensures.ready c.if-ran.true).0, l.invariant.most)) (here (goal.at.returns-in_err-take_ready-clause-err c).After-run_plainly-ran)
    c.in_err-take_ready.ensures.err.0 c.in_err-take_ready.ensures.err.1)

pub loop-left-preserved-then-ran : goal.loop-left-preserved-then-ran
loop-left-preserved-then-ran c =
    let l = c.loop-left in
    let taken = c.run_plainly-ran.result.taken in
    let i = c.args.times - (l.left - taken) in
    let few = (c.run_plainly-ran.ensures.ready c.if-ran.true).0 in
    let count : i + 1 ≡ c.args.times - (l.left - taken - 1) = omega (arith, few, l.invariant.most) in
    record {
      most = omega (arith, l.invariant.most);
      along = subst (λ (n : ℕ). RunsAlong c.args.self.now c.take_ready.new.self (replicate n (Turn c.args.k))) count
          (taken_more c.args.self.now c.run_plainly-ran.new.self c.take_ready.new.self (Turn c.args.k) i 1 (here (goal.at.loop-left-preserved-then-ran c).After-run_plainly-ran) c.in_ok-take_ready.ensures.ok);
      runs = c.in_ok-take_ready.ensures.runs;
    }

pub loop-left-preserved : goal.loop-left-preserved
loop-left-preserved c =
    let l = c.loop-left in
    let taken = c.run_plainly-ran.result.taken in
    let i = c.args.times - (l.left - taken) in
    let count : i + 1 ≡ c.args.times - (l.left - taken - 1) = omega (arith, c.if-left-eq0.false, l.invariant.most, c.run_plainly-ran.ensures.most) in
    record {
      most = omega (arith, l.invariant.most);
      along = subst (λ (n : ℕ). RunsAlong c.args.self.now c.take_turn.new.self (replicate n (Turn c.args.k))) count
          (taken_more c.args.self.now c.run_plainly-ran.new.self c.take_turn.new.self (Turn c.args.k) i 1 (here (goal.at.loop-left-preserved c).After-run_plainly-ran) c.in_ok-take_turn.ensures.ok);
      runs = c.in_ok-take_turn.ensures.runs;
    }

pub returns-clause-ok : goal.returns-clause-ok
returns-clause-ok c =
    let all : c.args.times - c.loop-left.left ≡ c.args.times = omega (arith, c.loop-left-test.false) in
    subst (λ (n : ℕ). RunsAlong c.args.self.now c.loop-left.self (replicate n (Turn c.args.k))) all c.loop-left.invariant.along
