use Rattle.std.proofs.Common.{ℕ}
use Rattle.machine_answers.specs.declared.answer.Answer.TheVariants as answer
use Rattle.machine_scenes.specs.Scenes.{scene_view}
use Rattle.machine_steps.proofs.SeenAnswers.{all_seen}
use Rattle.machine_steps.proofs.SeenCalls.{as_seen}
use Rattle.machine_steps.proofs.invoke.deleted_seen.Goals as goal

pub returns : goal.returns
returns c =
    let at = c.requires.at_call in
    let a = at.1 in
    all_seen c.args.context.program.now c.args.context.world.now c.args.store.now c.args.pending c.args.activation.now c.args.context.thread c.args.call.now (scene_view c.scene_of-scene.result) c.scene_of-scene.ensures.scene c.scene_of-scene.ensures.sound
    (as_seen c.args.context.program.now c.args.context.world.now c.args.store.now c.args.pending c.args.activation.now c.args.call.now a.0 c.args.context.thread at.0 a.1 a.2 a.3 a.4 a.5 a.6 c.args.store.now.monitors (scene_view c.scene_of-scene.result) c.scene_of-scene.ensures.scene)
    (λ (x : ℕ). answer.Deletes x) c.deleted_at_once.result c.deleted_at_once.ensures.free c.deleted_at_once.ensures.works
