use Rattle.std.proofs.Common.{◌≡◌, Bool, true, false, not, sym, ap, ◌∙◌}
use Rattle.std.specs.Prelude.{is_some}
use Rattle.jni.specs.JniFunction.{calls_method}
use Rattle.machine_scenes.specs.Scenes.{Scene, scene_view}
use Rattle.machine_scenes.specs.Given.{operand_at, operand_of}
use Rattle.machine_steps.specs.Waiting.{store_unowned, unowned}
use Rattle.machine_steps.proofs.SeenCalls.{all_there, source_trap}
use Rattle.machine_steps.proofs.Waits.{busy, enters_it, no_object, not_busy}
use Rattle.machine_steps.proofs.wait.waits_to_enter.Goals as goal

-- a truth that another denies
flipped : (b x : Bool) → x ≡ not b → b ≡ not x
flipped true x is = sym (ap not is)
flipped false x is = sym (ap not is)

pub argument-requires : goal.argument-requires
argument-requires c =
    let a = c.requires.may_wait in
    (all_there c.args.context.program.now c.args.context.world.now (store_unowned c.args.store.now) c.args.pending c.args.activation.now c.args.call.now a.0 c.args.context.thread a.1 a.2 (unowned a.3) a.4 a.5 a.6 a.7.at_call c.args.store.now.monitors (scene_view c.scene_of-scene.result) c.scene_of-scene.ensures.scene).objects

pub check-requires : goal.check-requires
check-requires c =
    let a = c.requires.may_wait in
    let is = all_there c.args.context.program.now c.args.context.world.now (store_unowned c.args.store.now) c.args.pending c.args.activation.now c.args.call.now a.0 c.args.context.thread a.1 a.2 (unowned a.3) a.4 a.5 a.6 a.7.at_call c.args.store.now.monitors (scene_view c.scene_of-scene.result) c.scene_of-scene.ensures.scene in
    record { prepared = c.requires.prepared; pending = is.pending; objects = is.objects; handles = is.handles; method = is.method }

pub returns-then-is_busy : goal.returns-then-is_busy
returns-then-is_busy c others owner own shared s task rest h =
    let p = c.args.context.program.now in
    let source = source_trap p c.args.context.world.now (store_unowned c.args.store.now) c.args.pending c.args.activation.now c.args.call.now others c.args.context.thread owner own (unowned shared) s task rest h.at_call c.args.store.now.monitors (scene_view c.scene_of-scene.result) c.scene_of-scene.ensures.scene (ap calls_method (enters_it p c.args.context.world.now c.args.store.now c.args.pending c.args.activation.now c.args.call.now others c.args.context.thread owner own shared s task rest h c.requires.enters)) in
    flipped c.is_none.result (is_some c.check.result) c.is_none.ensures
    ∙ busy p c.args.context.world.now c.args.store.now c.args.pending c.args.activation.now c.args.call.now others c.args.context.thread owner own shared s task rest h c.requires.enters c.in-Some.addr c.birth_of.result c.entering.result
    (ap (λ (x : Scene). operand_at x.references (operand_of c.args.call.now.operands.items 0)) (sym c.scene_of-scene.ensures.scene) ∙ sym c.argument.ensures.reference ∙ c.in-Some.is) c.birth_of.ensures c.entering.ensures (sym c.is_busy.ensures ∙ c.if-is_busy.true) c.check.result (source ∙ sym c.check.ensures)

pub returns-else-is_busy : goal.returns-else-is_busy
returns-else-is_busy c others owner own shared s task rest h =
    let p = c.args.context.program.now in
    c.if-is_busy.false
    ∙ not_busy p c.args.context.world.now c.args.store.now c.args.pending c.args.activation.now c.args.call.now others c.args.context.thread owner own shared s task rest h c.requires.enters c.in-Some.addr c.birth_of.result c.entering.result
    (ap (λ (x : Scene). operand_at x.references (operand_of c.args.call.now.operands.items 0)) (sym c.scene_of-scene.ensures.scene) ∙ sym c.argument.ensures.reference ∙ c.in-Some.is) c.birth_of.ensures c.entering.ensures (sym c.is_busy.ensures ∙ c.if-is_busy.false)

pub returns-in-None : goal.returns-in-None
returns-in-None c others owner own shared s task rest h = no_object c.args.context.program.now c.args.context.world.now c.args.store.now c.args.pending c.args.activation.now c.args.call.now others c.args.context.thread owner own shared s task rest h c.requires.enters (ap (λ (x : Scene). operand_at x.references (operand_of c.args.call.now.operands.items 0)) (sym c.scene_of-scene.ensures.scene) ∙ sym c.argument.ensures.reference ∙ c.in-None.is)
