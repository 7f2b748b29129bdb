use Rattle.std.proofs.Common.{Err, IsSome, ap, refl, subst, ◌∙◌}
use Rattle.std.proofs.lemmas.Result.{err_from_is_err_and}
use Rattle.machine.specs.Run.{Run, replay_of}
use Rattle.machine.proofs.Runs.{none_yet, one_repetition, part_of_repetition}
use Rattle.machine.proofs.machine.Machine.run.Goals as goal

pub loop-repetition-init : goal.loop-repetition-init
loop-repetition-init c =
    let runs : IsSome (replay_of c.args.self.now) = subst (λ (r : Run). IsSome (replay_of r)) c.self.view_is (rw c.self.invariant.replays refl) in
    record { along = none_yet c.args.self.now runs; runs = runs }

pub returns-in_err-repeat-clause-err : goal.returns-in_err-repeat-clause-err
returns-in_err-repeat-clause-err c =
    let p = err_from_is_err_and c.from_residual.result c.from_residual.ensures.1 in
    rw (p.1 ∙ ap Err p.2) (part_of_repetition c.args.self.now c.loop-repetition.self c.repeat.new.self c.repetitions-repetition-items.result.now c.loop-repetition.repetition-index _ c.args.schedule.now c.in_err-repeat.field-0.0 c.repetitions-repetition-items.ensures c.loop-repetition-test.true
    c.loop-repetition.invariant.along c.in_err-repeat.ensures.err)

pub loop-repetition-preserved : goal.loop-repetition-preserved
loop-repetition-preserved c = record {
  along = one_repetition c.args.self.now c.loop-repetition.self c.repeat.new.self c.repetitions-repetition-items.result.now c.loop-repetition.repetition-index _ c.loop-repetition-test.true c.loop-repetition.invariant.along c.in_ok-repeat.ensures.ok;
  runs = c.in_ok-repeat.ensures.runs;
}
