-- What a call sees that lies in memory.
use Rattle.std.specs.Prelude.{Bool, false, not, ◌&&◌, List, map, Option, Some}
use Rattle.jni.specs.declared.function.JniFunction.{JniFunction}
use Rattle.jni.specs.declared.function.JniFunction.TheVariants.{CallStaticVoidMethod, CallStaticIntMethod}
use Rattle.jni.specs.declared.kinds.ParameterKind.{ParameterKind}
use Rattle.jni.specs.declared.kinds.ResultKind.{ResultKind}
use Rattle.jni.specs.declared.kinds.ResultKind.TheVariants.{NewLocal}
use Rattle.syntax.specs.declared.unit.ResultType.{ResultType}
use Rattle.semantics.specs.Arguments.{Actual as ActualOfCall}
use Rattle.semantics.specs.CallSight.{ArgumentSight, CallSight, argument_seen, call_seen, is_full, is_null_actual}
use Rattle.semantics.specs.Checks.{is_int, is_reference_result, is_void, may_be_null}
use Rattle.semantics.specs.Heap.{Heap}
use Rattle.semantics.specs.Thread.{Frame}
use Rattle.semantics.specs.Views.{name_of}
use Rattle.replay_arguments.specs.Actuals.{actual_view}
use Rattle.replay_arguments.specs.Shares.{shared_view}
use Rattle.replay_arguments.specs.declared.actual.Actual.{Actual}
use Rattle.replay_arguments.specs.declared.scene.Scene.{Scene}
use Rattle.replay_terms.specs.Views.{variables_view}

-- what a call of a function with these arguments sees, where no other waits for it
abbrev pub scene_sight : Scene → JniFunction → List Actual → CallSight
scene_sight scene f actuals =
    call_seen (shared_view scene.shared.now) (variables_view scene.locals.now.variables) scene.locals.now.frames 0 (name_of scene.pending)
    f (map actual_view actuals)

-- what is seen of an argument, with the kind of its parameter
abbrev pub seen_with : Heap → ParameterKind × ActualOfCall → ParameterKind × ArgumentSight
seen_with heap (p, a) = (p, argument_seen heap (Some a))

-- NULL where an argument must not be
abbrev pub lacks : ParameterKind × ActualOfCall → Bool
lacks (p, a) = not (may_be_null p) && is_null_actual (Some a)

-- a result of this kind goes into a frame that can hold no more
abbrev pub lacks_room : ResultKind → Option Frame → Bool
lacks_room NewLocal frame = is_full frame
lacks_room kind frame = false

-- the result that a function wants which calls a method
abbrev pub is_wanted : JniFunction → ResultType → Bool
is_wanted CallStaticVoidMethod = is_void
is_wanted CallStaticIntMethod = is_int
is_wanted f = is_reference_result
