use Rattle.code.specs.Call.{call_view}
use Rattle.machine_scenes.specs.Scenes.{scene_view}
use Rattle.machine_answers.proofs.AnswersStand.{answers_by, answers_seen}
use Rattle.machine_answers.proofs.ClassesSeen.{there_or}
use Rattle.machine_answers.proofs.answer.work_out.Goals as goal

pub returns-in-References : goal.returns-in-References
returns-in-References c =
    let it = c.work_out_reference in
    answers_seen (scene_view c.args.scene.now) (call_view c.args.call.now) it.result it.ensures.seen it.ensures.there it.ensures.ends it.ensures.calls

pub returns-in-Arrays : goal.returns-in-Arrays
returns-in-Arrays c =
    let it = c.work_out_array in
    answers_seen (scene_view c.args.scene.now) (call_view c.args.call.now) it.result it.ensures.seen it.ensures.there it.ensures.ends it.ensures.calls

pub returns-in-Exceptions : goal.returns-in-Exceptions
returns-in-Exceptions c =
    let it = c.work_out_exception in
    answers_seen (scene_view c.args.scene.now) (call_view c.args.call.now) it.result it.ensures.seen it.ensures.there it.ensures.ends it.ensures.calls

pub returns-in-Monitors : goal.returns-in-Monitors
returns-in-Monitors c =
    let it = c.work_out_monitor in
    answers_seen (scene_view c.args.scene.now) (call_view c.args.call.now) it.result it.ensures.seen it.ensures.there it.ensures.ends it.ensures.calls

pub returns-in-Regions : goal.returns-in-Regions
returns-in-Regions c =
    let it = c.work_out_region in
    answers_seen (scene_view c.args.scene.now) (call_view c.args.call.now) it.result it.ensures.seen it.ensures.there it.ensures.ends it.ensures.calls

pub returns-in-Buffers : goal.returns-in-Buffers
returns-in-Buffers c =
    let it = c.work_out_buffer in
    answers_seen (scene_view c.args.scene.now) (call_view c.args.call.now) it.result it.ensures.seen it.ensures.there it.ensures.ends it.ensures.calls

pub returns-in-Fields : goal.returns-in-Fields
returns-in-Fields c =
    let it = c.work_out_field in
    answers_seen (scene_view c.args.scene.now) (call_view c.args.call.now) it.result it.ensures.seen it.ensures.there it.ensures.ends it.ensures.calls

pub returns-in-Statics : goal.returns-in-Statics
returns-in-Statics c =
    let it = c.work_out_static in
    answers_seen (scene_view c.args.scene.now) (call_view c.args.call.now) it.result it.ensures.seen it.ensures.there it.ensures.ends it.ensures.calls

pub returns-in-Classes : goal.returns-in-Classes
returns-in-Classes c =
    let it = c.work_out_class in
    answers_by (scene_view c.args.scene.now) (call_view c.args.call.now) it.result it.ensures.seen
    (there_or (scene_view c.args.scene.now) (call_view c.args.call.now) it.result it.ensures.there it.ensures.method) it.ensures.ends it.ensures.calls
