use Rattle.std.proofs.Common.{ap}
use Rattle.syntax.specs.Views.{unit_tree}
use Rattle.jni.specs.Table.{Facts}
use Rattle.semantics.specs.Views.{name_of}
use Rattle.replay_calls.specs.Answers.{answer_view}
use Rattle.replay_terms.specs.Views.{in_use_view}
use Rattle.replay_steps.proofs.CallLemmas.{none_refused, object_refused}
use Rattle.replay_steps.proofs.invoke.refuse_object.Goals as goal

pub returns-then-not-makes_object-clause-step : goal.returns-then-not-makes_object-clause-step
returns-then-not-makes_object-clause-step c = λ s locals args has.
    let i = c.args.i.now in
    let turn = c.args.turn in
    none_refused (unit_tree turn.unit.now) turn.classes.now (in_use_view turn.in_use) turn.thread s locals.variables locals.frames (name_of c.args.pending.now) i.line i args (answer_view turn.classes.now c.args.answer) c.makes_object.result has
    (λ t. c.makes_object.ensures turn.classes.now (in_use_view turn.in_use) turn.thread s t args) c.if-not-makes_object.true

pub returns-clause-step : goal.returns-clause-step
returns-clause-step c = λ s locals args has.
    let i = c.args.i.now in
    let turn = c.args.turn in
    object_refused (unit_tree turn.unit.now) turn.classes.now (in_use_view turn.in_use) turn.thread s locals.variables locals.frames (name_of c.args.pending.now) i.line i args (answer_view turn.classes.now c.args.answer) c.makes_object.result c.refuse-given.result
    c.prototype.result.now.result (name_of c.refuse-given.new.pending) c.outcome_for.result has
    (λ t. c.makes_object.ensures turn.classes.now (in_use_view turn.in_use) turn.thread s t args) c.if-not-makes_object.false
    (ap (λ (x : Facts). x.prototype.result) c.prototype.ensures) c.refuse-given.ensures.given c.refuse-given.ensures.pending c.outcome_for.ensures.step
