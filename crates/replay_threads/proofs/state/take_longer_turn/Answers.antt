use Rattle.std.proofs.Common.{◌≡◌, Bool, false, IfOk, sym, subst}
use Rattle.semantics.specs.Journal as entry
use Rattle.syntax.specs.Views.{unit_tree}
use Rattle.replay_threads.specs.declared.state.State.{State}
use Rattle.replay_threads.specs.States.{AttemptsCallTurn, IsLiveAt, TakesEntry}
use Rattle.replay_threads.proofs.state.take_longer_turn.Goals as goal

pub returns-then-branch-clause-step : goal.returns-then-branch-clause-step
returns-then-branch-clause-step c =
    let new = c.attempt_call_turn.new.state in
    subst (λ (b : Bool). AttemptsCallTurn (unit_tree c.args.functions.now) c.args.state.now c.args.stepper.thread b new) c.if-branch.true c.in_ok-attempt_call_turn.ensures.step

pub take_whole_turn-requires-clause-live : goal.take_whole_turn-requires-clause-live
take_whole_turn-requires-clause-live c =
    let m = c.args.state.now in
    let new = c.attempt_call_turn.new.state in
    let same : new ≡ m = subst (λ (b : Bool). AttemptsCallTurn (unit_tree c.args.functions.now) m c.args.stepper.thread b new) c.if-branch.false c.in_ok-attempt_call_turn.ensures.step in
    subst (λ (x : State). IsLiveAt x c.args.stepper.thread c.args.stepper.place) (sym same) c.requires.live

pub returns-clause-step : goal.returns-clause-step
returns-clause-step c =
    let unit = unit_tree c.args.functions.now in
    let m = c.args.state.now in
    let new = c.attempt_call_turn.new.state in
    let same : new ≡ m = subst (λ (b : Bool). AttemptsCallTurn unit m c.args.stepper.thread b new) c.if-branch.false c.in_ok-attempt_call_turn.ensures.step in
    subst (λ (x : State). IfOk c.take_whole_turn.result (λ possible. TakesEntry unit x (entry.Step c.args.stepper.thread false) possible c.take_whole_turn.new.state)) same c.take_whole_turn.ensures.step
