use Rattle.std.proofs.Common.{ℕ, Option, rules}
use Rattle.machine_answers.specs.declared.answer.Answer.TheVariants as answer
use Rattle.machine_answers.specs.declared.answer.Given.TheVariants as given
use Rattle.machine_scenes.specs.Scenes.{scene_view}
use Rattle.machine_steps.proofs.SeenAnswers.{seen_with_room}
use Rattle.machine_steps.proofs.SeenCalls.{all_there, as_seen}
use Rattle.machine_steps.proofs.invoke.reference_seen.Goals as goal

pub reference_at_once-requires : goal.reference_at_once-requires
reference_at_once-requires c =
    let at = c.requires.at_call in
    let a = at.1 in
    let is = all_there c.args.context.program.now c.args.context.world.now c.args.store.now c.args.pending c.args.activation.now c.args.call.now a.0 c.args.context.thread at.0 a.1 a.2 a.3 a.4 a.5 a.6 c.args.store.now.monitors (scene_view c.scene_of-scene.result) c.scene_of-scene.ensures.scene in
    record { grown = search rules; loaded = is.loaded; objects = is.objects; handles = is.handles }

pub returns : goal.returns
returns c =
    let at = c.requires.at_call in
    let a = at.1 in
    seen_with_room c.args.context.program.now c.args.context.world.now c.args.store.now c.args.pending c.args.activation.now c.args.context.thread c.args.call.now (scene_view c.scene_of-scene.result) c.scene_of-scene.ensures.scene c.scene_of-scene.ensures.sound
    (as_seen c.args.context.program.now c.args.context.world.now c.args.store.now c.args.pending c.args.activation.now c.args.call.now a.0 c.args.context.thread at.0 a.1 a.2 a.3 a.4 a.5 a.6 c.args.store.now.monitors (scene_view c.scene_of-scene.result) c.scene_of-scene.ensures.scene)
    (λ (x : Option ℕ). answer.Gives (given.Reference x)) c.reference_at_once.result c.reference_at_once.ensures.free c.reference_at_once.ensures.works
