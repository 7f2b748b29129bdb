use Rattle.std.proofs.Common.{ap, ◌∙◌}
use Rattle.code.specs.Call.{call_view}
use Rattle.jni.specs.declared.kinds.ResultKind.TheVariants.{GivesNothing}
use Rattle.machine_scenes.specs.Scenes.{scene_view}
use Rattle.machine_answers.specs.declared.answer.Answer.{Answer}
use Rattle.machine_answers.specs.AnswersSeen.{answer_seen, answer_there}
use Rattle.machine_answers.specs.WorkedOut.{writes_there}
use Rattle.machine_answers.proofs.SightValues.{written_seen, written_there}
use Rattle.machine_answers.proofs.answer.writes_static.Goals as goal

pub returns-clause-seen : goal.returns-clause-seen
returns-clause-seen c given own inside =
    let space = c.args.scene.now.heap.now in
    let writes = c.writes_there.ensures ∙ (λ i. writes_there space (c.holder_of_static-holder.ensures.is given i) (c.place_of_static.ensures given own i) c.args.value) in
    ap (λ (x : Answer). answer_seen (scene_view c.args.scene.now) (call_view c.args.call.now) GivesNothing x) writes
    ∙ written_seen (scene_view c.args.scene.now) (call_view c.args.call.now) _ _ c.args.value inside

pub returns-clause-there : goal.returns-clause-there
returns-clause-there c there =
    ap (λ (x : Answer). answer_there (scene_view c.args.scene.now) (call_view c.args.call.now) GivesNothing x) c.writes_there.ensures
    ∙ written_there (scene_view c.args.scene.now) (call_view c.args.call.now) c.holder_of_static-holder.result c.place_of_static.result c.args.value there
