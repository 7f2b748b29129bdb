use Rattle.std.proofs.Common.{sym, ◌∙◌}
use Rattle.code.specs.Call.{call_view}
use Rattle.machine_scenes.specs.Scenes.{scene_view}
use Rattle.machine_answers.proofs.TrapsSeen.{found_seen}
use Rattle.machine_answers.proofs.Unasked.{is_first, not_first}
use Rattle.machine_answers.proofs.check.check.Goals as goal

pub returns-then-is_kept_off : goal.returns-then-is_kept_off
returns-then-is_kept_off c =
    sym (is_first _ _ _ (sym c.is_kept_off.ensures ∙ c.if-is_kept_off.true))
    ∙ found_seen (scene_view c.args.scene.now) c.args.locals.now (call_view c.args.call.now) c.requires.pending c.requires.objects c.requires.method

pub returns-in-Some : goal.returns-in-Some
returns-in-Some c =
    sym (not_first _ _ _ (sym c.is_kept_off.ensures ∙ c.if-is_kept_off.false) ∙ c.in-Some.ensures.some _)
    ∙ found_seen (scene_view c.args.scene.now) c.args.locals.now (call_view c.args.call.now) c.requires.pending c.requires.objects c.requires.method

pub returns-then-lacks_room : goal.returns-then-lacks_room
returns-then-lacks_room c =
    sym (not_first _ _ _ (sym c.is_kept_off.ensures ∙ c.if-is_kept_off.false) ∙ c.in_default.ensures.none _ ∙ is_first _ _ _ (sym c.lacks_room.ensures ∙ c.if-lacks_room.true))
    ∙ found_seen (scene_view c.args.scene.now) c.args.locals.now (call_view c.args.call.now) c.requires.pending c.requires.objects c.requires.method

pub returns : goal.returns
returns c =
    sym (not_first _ _ _ (sym c.is_kept_off.ensures ∙ c.if-is_kept_off.false) ∙ c.in_default.ensures.none _ ∙ not_first _ _ _ (sym c.lacks_room.ensures ∙ c.if-lacks_room.false))
    ∙ found_seen (scene_view c.args.scene.now) c.args.locals.now (call_view c.args.call.now) c.requires.pending c.requires.objects c.requires.method
