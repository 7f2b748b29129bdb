use Rattle.std.proofs.Common.{◌≡◌, Bool, true, false, IfOk, sym, subst}
use Rattle.semantics.specs.Journal as entry
use Rattle.syntax.specs.Views.{unit_tree}
use Rattle.replay_steps.specs.declared.attempt.Attempt.{Attempt}
use Rattle.replay_threads.specs.declared.state.State.{State}
use Rattle.replay_threads.specs.States.{AttemptsTurn, IsLiveAt, TakesEntry}
use Rattle.replay_threads.proofs.state.take_turn.Goals as goal

pub attempt_turn-requires-clause-there : goal.attempt_turn-requires-clause-there
attempt_turn-requires-clause-there c = c.requires.live.there

pub returns-in-Reduced-clause-step : goal.returns-in-Reduced-clause-step
returns-in-Reduced-clause-step c =
    let m = c.args.state.now in
    let new = c.attempt_turn.new.state in
    let unit = unit_tree c.args.functions.now in
    subst (λ (b : Bool). TakesEntry unit m (entry.Step c.args.stepper.thread b) true new) (sym c.if-refused.false)
    (subst (λ (r : Attempt). AttemptsTurn m c.args.stepper.thread r new) c.in-Reduced.is (c.in_ok-attempt_turn.ensures.step c.args.stepper.thread c.requires.live) unit)

pub returns-in-Stuck-clause-step : goal.returns-in-Stuck-clause-step
returns-in-Stuck-clause-step c =
    let m = c.args.state.now in
    let new = c.attempt_turn.new.state in
    let unit = unit_tree c.args.functions.now in
    subst (λ (b : Bool). TakesEntry unit m (entry.Step c.args.stepper.thread b) false new) (sym c.if-refused.false)
    (subst (λ (r : Attempt). AttemptsTurn m c.args.stepper.thread r new) c.in-Stuck.is (c.in_ok-attempt_turn.ensures.step c.args.stepper.thread c.requires.live) unit)

pub take_longer_turn-requires-clause-live : goal.take_longer_turn-requires-clause-live
take_longer_turn-requires-clause-live c =
    let m = c.args.state.now in
    let new = c.attempt_turn.new.state in
    let same : new ≡ m = subst (λ (r : Attempt). AttemptsTurn m c.args.stepper.thread r new) c.in-Left.is (c.in_ok-attempt_turn.ensures.step c.args.stepper.thread c.requires.live) in
    subst (λ (x : State). IsLiveAt x c.args.stepper.thread c.args.stepper.place) (sym same) c.requires.live

pub returns-in-Left-clause-step : goal.returns-in-Left-clause-step
returns-in-Left-clause-step c =
    let m = c.args.state.now in
    let new = c.attempt_turn.new.state in
    let unit = unit_tree c.args.functions.now in
    let same : new ≡ m = subst (λ (r : Attempt). AttemptsTurn m c.args.stepper.thread r new) c.in-Left.is (c.in_ok-attempt_turn.ensures.step c.args.stepper.thread c.requires.live) in
    subst (λ (b : Bool). IfOk c.take_longer_turn.result (λ possible. TakesEntry unit m (entry.Step c.args.stepper.thread b) possible c.take_longer_turn.new.state)) (sym c.if-refused.false)
    (subst (λ (x : State). IfOk c.take_longer_turn.result (λ possible. TakesEntry unit x (entry.Step c.args.stepper.thread false) possible c.take_longer_turn.new.state)) same c.take_longer_turn.ensures.step)
