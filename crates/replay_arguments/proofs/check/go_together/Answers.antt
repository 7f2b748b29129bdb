use Rattle.std.proofs.Common.{map, refl}
use Rattle.jni.specs.declared.function.JniFunction.{JniFunction}
use Rattle.semantics.specs.Arguments.{method_given}
use Rattle.semantics.specs.Checks.{go_together}
use Rattle.replay_arguments.specs.Actuals.{actual_view}
use Rattle.replay_arguments.specs.Sights.{scene_sight}
use Rattle.replay_arguments.proofs.PassedActuals.{called_well}
use Rattle.replay_arguments.proofs.check.go_together.Goals as goal

pub returns-in-CallStaticVoidMethod : goal.returns-in-CallStaticVoidMethod
unfolding go_together
returns-in-CallStaticVoidMethod c =
    called_well c.args.scene.classes.now c.args.buffer (λ (f : JniFunction). scene_sight c.args.scene f c.args.actuals.now)
    (method_given (map actual_view c.args.actuals.now) 1) c.args.function _ c.calls_well.result c.in-CallStaticVoidMethod.is refl
    c.calls_well.ensures

pub returns-in-CallStaticIntMethod : goal.returns-in-CallStaticIntMethod
unfolding go_together
returns-in-CallStaticIntMethod c =
    called_well c.args.scene.classes.now c.args.buffer (λ (f : JniFunction). scene_sight c.args.scene f c.args.actuals.now)
    (method_given (map actual_view c.args.actuals.now) 1) c.args.function _ c.calls_well-in-CallStaticIntMethod.result c.in-CallStaticIntMethod.is refl
    c.calls_well-in-CallStaticIntMethod.ensures

pub returns-in-CallStaticObjectMethod : goal.returns-in-CallStaticObjectMethod
unfolding go_together
returns-in-CallStaticObjectMethod c =
    called_well c.args.scene.classes.now c.args.buffer (λ (f : JniFunction). scene_sight c.args.scene f c.args.actuals.now)
    (method_given (map actual_view c.args.actuals.now) 1) c.args.function _ c.calls_well-in-CallStaticObjectMethod.result c.in-CallStaticObjectMethod.is refl
    c.calls_well-in-CallStaticObjectMethod.ensures
