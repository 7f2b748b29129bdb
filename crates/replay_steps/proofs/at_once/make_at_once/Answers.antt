use Rattle.std.proofs.Common.{false, map, refl, sym, ap, ◌∙◌}
use Rattle.base.specs.declared.element.ElementType.TheVariants.{Int}
use Rattle.jni.specs.Table.{Facts}
use Rattle.syntax.specs.Views.{unit_tree}
use Rattle.semantics.specs.ThreadStep.{with_tasks}
use Rattle.semantics.specs.Views.{name_of}
use Rattle.replay_arguments.specs.Actuals.{actual_view}
use Rattle.replay_arguments.specs.Shares.{shared_view}
use Rattle.replay_calls.specs.Answers.{answer_view}
use Rattle.replay_steps.specs.AtOnce.{scene_in}
use Rattle.replay_steps.specs.Steps.{Scene, in_scene, left_by, scene_with}
use Rattle.replay_steps.proofs.CallLemmas.{call_gives, has_answer_of_any}
use Rattle.replay_tasks.specs.Outcomes.{outcome_for}
use Rattle.replay_tasks.specs.declared.outcome.Purpose.{Purpose}
use Rattle.replay_tasks.specs.declared.task.Task.TheVariants as task
use Rattle.replay_terms.specs.Views.{operands_view}
use Rattle.replay_steps.proofs.at_once.make_at_once.Goals as goal

pub give-requires-clause-fits : goal.give-requires-clause-fits
give-requires-clause-fits c = c.answer_or_trap-answer.ensures.fits

pub give-requires-clause-at_once : goal.give-requires-clause-at_once
give-requires-clause-at_once c = c.gives.ensures c.if-not-gives.false

pub returns : goal.returns
returns c = λ in_use t rest sees has found.
    let turn = c.args.turn.now in
    let i = c.args.i.now in
    let s = shared_view c.args.shared.now in
    let locals = c.args.locals.now in
    let args = map actual_view c.args.actuals.now in
    let a = answer_view turn.classes.now c.answer_or_trap-answer.result in
    let before : Scene = scene_in in_use turn s locals c.args.pending.now in
    let answers = has_answer_of_any before i args a Int c.requires.bufferless c.answer_or_trap-answer.ensures.answer c.answer_or_trap-answer.ensures.fits in
    let given = c.in_ok-given.given in
    let new = c.give.new in
    let between = shared_view new.shared in
    let frames = c.put_local.new.frames in
    let after : Scene = scene_with (unit_tree turn.unit.now) turn.classes.now in_use turn.thread between new.locals.variables frames (name_of new.pending) in
    let makes = call_gives (unit_tree turn.unit.now) turn.classes.now in_use turn.thread s locals.variables locals.frames (name_of c.args.pending.now) i.line i args a false given c.args.asked.now.result
    between new.locals.variables new.locals.frames frames (name_of new.pending) (outcome_for i.line i.purpose given)
    answers refl (c.in_ok-given.ensures in_use) (ap (λ (x : Facts). x.prototype.result) c.requires.asked) c.in_ok-put_local.ensures refl in
    makes t rest (task.Invoke i) sees has (record { operands = operands_view i.operands; is = refl; found = found })
    ∙ ap (λ (p : Purpose). left_by turn.thread between (in_scene t after) rest (outcome_for i.line p given) (task.Invoke i)) c.in-Put-purpose.is
    ∙ c.in_ok-put_given.ensures between.heap between (with_tasks (in_scene t after) rest) (record { variables = refl; frames = sym c.len-frames.ensures; statics = refl; heap = refl })
