use Rattle.std.proofs.Common.{List, [], ◌∷◌, ap}
use Rattle.std.proofs.lemmas.Result.{IfOk-weaker}
use Rattle.jni.specs.Table.{Facts}
use Rattle.semantics.specs.Arguments.{Actual}
use Rattle.replay_arguments.specs.Actuals.{actual_view}
use Rattle.replay_arguments.specs.Shares.{shared_view}
use Rattle.replay_steps.proofs.AtOnceLemmas.{all_tried}
use Rattle.replay_steps.proofs.at_once.try_four.Goals as goal

pub returns : goal.returns
returns c =
    let args : List Actual = actual_view c.in-Some.first ∷ actual_view c.in-Some-ready_actual.second ∷ actual_view c.in-Some-ready_actual-2.third ∷ actual_view c.in-Some-ready_actual-3.fourth ∷ [] in
    IfOk-weaker c.make_at_once.result _ _ (λ took makes.
    all_tried c.args.turn.now c.args.i.now (shared_view c.args.shared.now) c.args.locals.now c.args.pending.now (shared_view c.make_at_once.new.shared) c.make_at_once.new.locals c.make_at_once.new.pending
    c.prototype-asked.result.now.parameters.now args took c.requires.plain (ap (λ (x : Facts). x.prototype.parameters) c.prototype-asked.ensures) c.if-parameters-ne4.false c.requires.count
    (c.in-Some.ensures, (c.in-Some-ready_actual.ensures, (c.in-Some-ready_actual-2.ensures, (c.in-Some-ready_actual-3.ensures, tt)))) makes) c.make_at_once.ensures
