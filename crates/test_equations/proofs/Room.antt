-- The cases of texts/room.cases, as gate/worked_equations writes them.
use Rattle.std.specs.Prelude.{◌≡◌, ◌∷◌, ◌++◌, pos, true, false, [], Some, None, Err, codes, refl, replicate}
use Rattle.base.specs.declared.element.ElementType.TheVariants.{Int as JInt}
use Rattle.syntax.specs.declared.declared_type.ReferenceType.TheVariants.{IntArray as JIntArray}
use Rattle.syntax.specs.declared.declared_type.VariableType.TheVariants.{Reference as ReferenceVariable}
use Rattle.syntax.specs.declared.declared_type.DeclaredType.TheVariants.{Simple}
use Rattle.syntax.specs.declared.unit.ResultType.TheVariants.{Void, Jint as IntResult}
use Rattle.syntax.specs.Tree.{Number, Value, FromCall, Declare, Perform, Plain, Return, SourceUnit}
use Rattle.world_schedules.specs.declared.fault.Rule.TheVariants.{Heap}
use Rattle.semantics.specs.declared.schedule.ScheduleWord.TheVariants.{Turn}
use Rattle.world.specs.ReadingWorlds.{world_of_text}
use Rattle.semantics.specs.World.{World}
use Rattle.world_values.specs.WorldLines.{NumberValue, ClassLine, ArrayLine, ThreadLine, Lines}
use Rattle.world_values.specs.WorldMeaning.{world_of}
use Rattle.world_values.specs.WorldRules.{IsWorldText}
use Rattle.test_equations.specs.Claims.{IsAccepted, IsWorkedRun}
use Rattle.test_equations.proofs.Programs.{unit_of, native, call, given}
use Rattle.test_equations.proofs.Computed.{opened, read, accepted, world-text, Alone, worked-run}

-- an array that fills the heap
-- JNIEXPORT void JNICALL Java_A_f(JNIEnv *env, jclass cls) {
-- jintArray d = (*env)->NewIntArray(env, 100);
-- (*env)->DeleteLocalRef(env, d);
-- jintArray a = (*env)->NewIntArray(env, 373);
-- return; }
abbrev pub an_array_that_fills_the_heap : SourceUnit
an_array_that_fills_the_heap =
    unit_of
    (native 1 Void (codes "Java_A_f") []
    (Plain 2 (Declare (Simple (ReferenceVariable JIntArray)) (codes "d") (FromCall (call (codes "NewIntArray") (Value (Number 100 false) ∷ []))))
    ∷ Plain 3 (Perform (call (codes "DeleteLocalRef") (given (codes "d") ∷ [])))
    ∷ Plain 4 (Declare (Simple (ReferenceVariable JIntArray)) (codes "a") (FromCall (call (codes "NewIntArray") (Value (Number 373 false) ∷ []))))
    ∷ Return 5 None
    ∷ [])
    5
    ∷ [])

abbrev an_array_that_fills_the_heap-lines : Lines
an_array_that_fills_the_heap-lines =
    (2, ClassLine (codes "A") None)
    ∷ (3, ThreadLine (codes "Java_A_f") [])
    ∷ []

abbrev an_array_that_fills_the_heap-world : World
an_array_that_fills_the_heap-world = world_of 1 512 an_array_that_fills_the_heap-lines

an_array_that_fills_the_heap-means : IsWorldText (codes "heap 512\nclass A\nthread Java_A_f\n") an_array_that_fills_the_heap-world
unfolding opened
an_array_that_fills_the_heap-means = world-text (codes "heap 512\nclass A\nthread Java_A_f\n") 512 false an_array_that_fills_the_heap-lines 1 refl refl refl refl refl

an_array_that_fills_the_heap-accepted : IsAccepted an_array_that_fills_the_heap
unfolding opened
an_array_that_fills_the_heap-accepted = accepted an_array_that_fills_the_heap refl refl refl

an_array_that_fills_the_heap-run : IsWorkedRun an_array_that_fills_the_heap (codes "heap 512\nclass A\nthread Java_A_f\n") (codes "1*9\n")
    (codes "T1 ended\njournal 1 1 1 1 1 1 1\n")
unfolding opened
an_array_that_fills_the_heap-run = worked-run an_array_that_fills_the_heap an_array_that_fills_the_heap-world ((Turn 1, Some 9) ∷ []) [] an_array_that_fills_the_heap-accepted an_array_that_fills_the_heap-means refl refl refl refl

-- an array that is too long
-- JNIEXPORT void JNICALL Java_A_f(JNIEnv *env, jclass cls) {
-- jintArray d = (*env)->NewIntArray(env, 100);
-- (*env)->DeleteLocalRef(env, d);
-- jintArray a = (*env)->NewIntArray(env, 374);
-- return; }
abbrev pub an_array_that_is_too_long : SourceUnit
an_array_that_is_too_long =
    unit_of
    (native 1 Void (codes "Java_A_f") []
    (Plain 2 (Declare (Simple (ReferenceVariable JIntArray)) (codes "d") (FromCall (call (codes "NewIntArray") (Value (Number 100 false) ∷ []))))
    ∷ Plain 3 (Perform (call (codes "DeleteLocalRef") (given (codes "d") ∷ [])))
    ∷ Plain 4 (Declare (Simple (ReferenceVariable JIntArray)) (codes "a") (FromCall (call (codes "NewIntArray") (Value (Number 374 false) ∷ []))))
    ∷ Return 5 None
    ∷ [])
    5
    ∷ [])

an_array_that_is_too_long-accepted : IsAccepted an_array_that_is_too_long
unfolding opened
an_array_that_is_too_long-accepted = accepted an_array_that_is_too_long refl refl refl

an_array_that_is_too_long-run : IsWorkedRun an_array_that_is_too_long (codes "heap 512\nclass A\nthread Java_A_f\n") (codes "1*9\n")
    (codes "T1 uncaught java/lang/OutOfMemoryError\njournal 1 1 1 1 1 1! 1\n")
unfolding opened
an_array_that_is_too_long-run = worked-run an_array_that_is_too_long an_array_that_fills_the_heap-world ((Turn 1, Some 9) ∷ []) (replicate 5 (Alone false) ++ Alone true ∷ []) an_array_that_is_too_long-accepted an_array_that_fills_the_heap-means refl refl refl refl

-- a world that fills its heap
-- JNIEXPORT jint JNICALL Java_A_f(JNIEnv *env, jclass cls) { return 0; }
abbrev pub a_world_that_fills_its_heap : SourceUnit
a_world_that_fills_its_heap =
    unit_of
    (native 1 IntResult (codes "Java_A_f") []
    (Return 1 (Some (Number 0 false))
    ∷ [])
    1
    ∷ [])

abbrev a_world_that_fills_its_heap-lines : Lines
a_world_that_fills_its_heap-lines =
    (2, ClassLine (codes "A") None)
    ∷ (3, ArrayLine (codes "a") JInt (NumberValue (pos 0) ∷ NumberValue (pos 0) ∷ NumberValue (pos 0) ∷ NumberValue (pos 0) ∷ NumberValue (pos 0) ∷ NumberValue (pos 0) ∷ NumberValue (pos 0) ∷ NumberValue (pos 0) ∷ NumberValue (pos 0) ∷ NumberValue (pos 0) ∷ NumberValue (pos 0) ∷ NumberValue (pos 0) ∷ NumberValue (pos 0) ∷ NumberValue (pos 0) ∷ NumberValue (pos 0) ∷ NumberValue (pos 0) ∷ NumberValue (pos 0) ∷ NumberValue (pos 0) ∷ NumberValue (pos 0) ∷ NumberValue (pos 0) ∷ NumberValue (pos 0) ∷ NumberValue (pos 0) ∷ NumberValue (pos 0) ∷ NumberValue (pos 0) ∷ NumberValue (pos 0) ∷ NumberValue (pos 0) ∷ NumberValue (pos 0) ∷ NumberValue (pos 0) ∷ NumberValue (pos 0) ∷ NumberValue (pos 0) ∷ NumberValue (pos 0) ∷ NumberValue (pos 0) ∷ NumberValue (pos 0) ∷ NumberValue (pos 0) ∷ NumberValue (pos 0) ∷ NumberValue (pos 0) ∷ NumberValue (pos 0) ∷ NumberValue (pos 0) ∷ NumberValue (pos 0) ∷ NumberValue (pos 0) ∷ NumberValue (pos 0) ∷ NumberValue (pos 0) ∷ NumberValue (pos 0) ∷ NumberValue (pos 0) ∷ NumberValue (pos 0) ∷ NumberValue (pos 0) ∷ NumberValue (pos 0) ∷ NumberValue (pos 0) ∷ NumberValue (pos 0) ∷ NumberValue (pos 0) ∷ NumberValue (pos 0) ∷ NumberValue (pos 0) ∷ NumberValue (pos 0) ∷ NumberValue (pos 0) ∷ NumberValue (pos 0) ∷ NumberValue (pos 0) ∷ NumberValue (pos 0) ∷ NumberValue (pos 0) ∷ NumberValue (pos 0) ∷ NumberValue (pos 0) ∷ NumberValue (pos 0) ∷ NumberValue (pos 0) ∷ NumberValue (pos 0) ∷ NumberValue (pos 0) ∷ NumberValue (pos 0) ∷ NumberValue (pos 0) ∷ NumberValue (pos 0) ∷ NumberValue (pos 0) ∷ NumberValue (pos 0) ∷ NumberValue (pos 0) ∷ NumberValue (pos 0) ∷ NumberValue (pos 0) ∷ NumberValue (pos 0) ∷ NumberValue (pos 0) ∷ NumberValue (pos 0) ∷ NumberValue (pos 0) ∷ NumberValue (pos 0) ∷ NumberValue (pos 0) ∷ NumberValue (pos 0) ∷ NumberValue (pos 0) ∷ NumberValue (pos 0) ∷ NumberValue (pos 0) ∷ NumberValue (pos 0) ∷ NumberValue (pos 0) ∷ NumberValue (pos 0) ∷ NumberValue (pos 0) ∷ NumberValue (pos 0) ∷ NumberValue (pos 0) ∷ NumberValue (pos 0) ∷ NumberValue (pos 0) ∷ NumberValue (pos 0) ∷ NumberValue (pos 0) ∷ NumberValue (pos 0) ∷ NumberValue (pos 0) ∷ NumberValue (pos 0) ∷ NumberValue (pos 0) ∷ NumberValue (pos 0) ∷ NumberValue (pos 0) ∷ NumberValue (pos 0) ∷ NumberValue (pos 0) ∷ NumberValue (pos 0) ∷ NumberValue (pos 0) ∷ NumberValue (pos 0) ∷ NumberValue (pos 0) ∷ NumberValue (pos 0) ∷ NumberValue (pos 0) ∷ NumberValue (pos 0) ∷ NumberValue (pos 0) ∷ NumberValue (pos 0) ∷ NumberValue (pos 0) ∷ NumberValue (pos 0) ∷ NumberValue (pos 0) ∷ NumberValue (pos 0) ∷ NumberValue (pos 0) ∷ NumberValue (pos 0) ∷ NumberValue (pos 0) ∷ NumberValue (pos 0) ∷ NumberValue (pos 0) ∷ NumberValue (pos 0) ∷ NumberValue (pos 0) ∷ NumberValue (pos 0) ∷ NumberValue (pos 0) ∷ NumberValue (pos 0) ∷ NumberValue (pos 0) ∷ NumberValue (pos 0) ∷ NumberValue (pos 0) ∷ NumberValue (pos 0) ∷ NumberValue (pos 0) ∷ NumberValue (pos 0) ∷ NumberValue (pos 0) ∷ NumberValue (pos 0) ∷ NumberValue (pos 0) ∷ NumberValue (pos 0) ∷ NumberValue (pos 0) ∷ NumberValue (pos 0) ∷ NumberValue (pos 0) ∷ NumberValue (pos 0) ∷ NumberValue (pos 0) ∷ NumberValue (pos 0) ∷ NumberValue (pos 0) ∷ NumberValue (pos 0) ∷ NumberValue (pos 0) ∷ NumberValue (pos 0) ∷ NumberValue (pos 0) ∷ NumberValue (pos 0) ∷ NumberValue (pos 0) ∷ NumberValue (pos 0) ∷ NumberValue (pos 0) ∷ NumberValue (pos 0) ∷ NumberValue (pos 0) ∷ NumberValue (pos 0) ∷ NumberValue (pos 0) ∷ NumberValue (pos 0) ∷ NumberValue (pos 0) ∷ NumberValue (pos 0) ∷ NumberValue (pos 0) ∷ NumberValue (pos 0) ∷ NumberValue (pos 0) ∷ NumberValue (pos 0) ∷ NumberValue (pos 0) ∷ NumberValue (pos 0) ∷ NumberValue (pos 0) ∷ NumberValue (pos 0) ∷ NumberValue (pos 0) ∷ NumberValue (pos 0) ∷ NumberValue (pos 0) ∷ NumberValue (pos 0) ∷ NumberValue (pos 0) ∷ NumberValue (pos 0) ∷ NumberValue (pos 0) ∷ NumberValue (pos 0) ∷ NumberValue (pos 0) ∷ NumberValue (pos 0) ∷ NumberValue (pos 0) ∷ NumberValue (pos 0) ∷ NumberValue (pos 0) ∷ NumberValue (pos 0) ∷ NumberValue (pos 0) ∷ NumberValue (pos 0) ∷ NumberValue (pos 0) ∷ NumberValue (pos 0) ∷ NumberValue (pos 0) ∷ NumberValue (pos 0) ∷ NumberValue (pos 0) ∷ NumberValue (pos 0) ∷ NumberValue (pos 0) ∷ NumberValue (pos 0) ∷ NumberValue (pos 0) ∷ NumberValue (pos 0) ∷ NumberValue (pos 0) ∷ NumberValue (pos 0) ∷ NumberValue (pos 0) ∷ NumberValue (pos 0) ∷ NumberValue (pos 0) ∷ NumberValue (pos 0) ∷ NumberValue (pos 0) ∷ NumberValue (pos 0) ∷ NumberValue (pos 0) ∷ NumberValue (pos 0) ∷ NumberValue (pos 0) ∷ NumberValue (pos 0) ∷ NumberValue (pos 0) ∷ NumberValue (pos 0) ∷ NumberValue (pos 0) ∷ NumberValue (pos 0) ∷ NumberValue (pos 0) ∷ NumberValue (pos 0) ∷ NumberValue (pos 0) ∷ NumberValue (pos 0) ∷ NumberValue (pos 0) ∷ NumberValue (pos 0) ∷ NumberValue (pos 0) ∷ NumberValue (pos 0) ∷ NumberValue (pos 0) ∷ NumberValue (pos 0) ∷ NumberValue (pos 0) ∷ NumberValue (pos 0) ∷ NumberValue (pos 0) ∷ NumberValue (pos 0) ∷ NumberValue (pos 0) ∷ NumberValue (pos 0) ∷ NumberValue (pos 0) ∷ NumberValue (pos 0) ∷ NumberValue (pos 0) ∷ NumberValue (pos 0) ∷ NumberValue (pos 0) ∷ NumberValue (pos 0) ∷ NumberValue (pos 0) ∷ NumberValue (pos 0) ∷ NumberValue (pos 0) ∷ NumberValue (pos 0) ∷ NumberValue (pos 0) ∷ NumberValue (pos 0) ∷ NumberValue (pos 0) ∷ NumberValue (pos 0) ∷ NumberValue (pos 0) ∷ NumberValue (pos 0) ∷ NumberValue (pos 0) ∷ NumberValue (pos 0) ∷ NumberValue (pos 0) ∷ NumberValue (pos 0) ∷ NumberValue (pos 0) ∷ NumberValue (pos 0) ∷ NumberValue (pos 0) ∷ NumberValue (pos 0) ∷ NumberValue (pos 0) ∷ NumberValue (pos 0) ∷ NumberValue (pos 0) ∷ NumberValue (pos 0) ∷ NumberValue (pos 0) ∷ NumberValue (pos 0) ∷ NumberValue (pos 0) ∷ NumberValue (pos 0) ∷ NumberValue (pos 0) ∷ NumberValue (pos 0) ∷ NumberValue (pos 0) ∷ NumberValue (pos 0) ∷ NumberValue (pos 0) ∷ NumberValue (pos 0) ∷ NumberValue (pos 0) ∷ NumberValue (pos 0) ∷ NumberValue (pos 0) ∷ NumberValue (pos 0) ∷ NumberValue (pos 0) ∷ NumberValue (pos 0) ∷ NumberValue (pos 0) ∷ NumberValue (pos 0) ∷ NumberValue (pos 0) ∷ NumberValue (pos 0) ∷ NumberValue (pos 0) ∷ NumberValue (pos 0) ∷ NumberValue (pos 0) ∷ NumberValue (pos 0) ∷ NumberValue (pos 0) ∷ NumberValue (pos 0) ∷ NumberValue (pos 0) ∷ NumberValue (pos 0) ∷ NumberValue (pos 0) ∷ NumberValue (pos 0) ∷ NumberValue (pos 0) ∷ NumberValue (pos 0) ∷ NumberValue (pos 0) ∷ NumberValue (pos 0) ∷ NumberValue (pos 0) ∷ NumberValue (pos 0) ∷ NumberValue (pos 0) ∷ NumberValue (pos 0) ∷ NumberValue (pos 0) ∷ NumberValue (pos 0) ∷ NumberValue (pos 0) ∷ NumberValue (pos 0) ∷ NumberValue (pos 0) ∷ NumberValue (pos 0) ∷ NumberValue (pos 0) ∷ NumberValue (pos 0) ∷ NumberValue (pos 0) ∷ NumberValue (pos 0) ∷ NumberValue (pos 0) ∷ NumberValue (pos 0) ∷ NumberValue (pos 0) ∷ NumberValue (pos 0) ∷ NumberValue (pos 0) ∷ NumberValue (pos 0) ∷ NumberValue (pos 0) ∷ NumberValue (pos 0) ∷ NumberValue (pos 0) ∷ NumberValue (pos 0) ∷ NumberValue (pos 0) ∷ NumberValue (pos 0) ∷ NumberValue (pos 0) ∷ NumberValue (pos 0) ∷ NumberValue (pos 0) ∷ NumberValue (pos 0) ∷ NumberValue (pos 0) ∷ NumberValue (pos 0) ∷ NumberValue (pos 0) ∷ NumberValue (pos 0) ∷ NumberValue (pos 0) ∷ NumberValue (pos 0) ∷ NumberValue (pos 0) ∷ NumberValue (pos 0) ∷ NumberValue (pos 0) ∷ NumberValue (pos 0) ∷ NumberValue (pos 0) ∷ NumberValue (pos 0) ∷ NumberValue (pos 0) ∷ NumberValue (pos 0) ∷ NumberValue (pos 0) ∷ NumberValue (pos 0) ∷ NumberValue (pos 0) ∷ NumberValue (pos 0) ∷ NumberValue (pos 0) ∷ NumberValue (pos 0) ∷ NumberValue (pos 0) ∷ NumberValue (pos 0) ∷ NumberValue (pos 0) ∷ NumberValue (pos 0) ∷ NumberValue (pos 0) ∷ NumberValue (pos 0) ∷ NumberValue (pos 0) ∷ NumberValue (pos 0) ∷ NumberValue (pos 0) ∷ NumberValue (pos 0) ∷ NumberValue (pos 0) ∷ NumberValue (pos 0) ∷ NumberValue (pos 0) ∷ NumberValue (pos 0) ∷ NumberValue (pos 0) ∷ NumberValue (pos 0) ∷ NumberValue (pos 0) ∷ NumberValue (pos 0) ∷ NumberValue (pos 0) ∷ NumberValue (pos 0) ∷ NumberValue (pos 0) ∷ NumberValue (pos 0) ∷ NumberValue (pos 0) ∷ NumberValue (pos 0) ∷ NumberValue (pos 0) ∷ NumberValue (pos 0) ∷ NumberValue (pos 0) ∷ NumberValue (pos 0) ∷ NumberValue (pos 0) ∷ NumberValue (pos 0) ∷ NumberValue (pos 0) ∷ NumberValue (pos 0) ∷ NumberValue (pos 0) ∷ NumberValue (pos 0) ∷ NumberValue (pos 0) ∷ NumberValue (pos 0) ∷ NumberValue (pos 0) ∷ NumberValue (pos 0) ∷ NumberValue (pos 0) ∷ NumberValue (pos 0) ∷ []))
    ∷ (4, ThreadLine (codes "Java_A_f") [])
    ∷ []

abbrev a_world_that_fills_its_heap-world : World
a_world_that_fills_its_heap-world = world_of 1 512 a_world_that_fills_its_heap-lines

a_world_that_fills_its_heap-means : IsWorldText (codes "heap 512\nclass A\narray @a I 0 0 0 0 0 0 0 0 0 0 0 0 0 0 0 0 0 0 0 0 0 0 0 0 0 0 0 0 0 0 0 0 0 0 0 0 0 0 0 0 0 0 0 0 0 0 0 0 0 0 0 0 0 0 0 0 0 0 0 0 0 0 0 0 0 0 0 0 0 0 0 0 0 0 0 0 0 0 0 0 0 0 0 0 0 0 0 0 0 0 0 0 0 0 0 0 0 0 0 0 0 0 0 0 0 0 0 0 0 0 0 0 0 0 0 0 0 0 0 0 0 0 0 0 0 0 0 0 0 0 0 0 0 0 0 0 0 0 0 0 0 0 0 0 0 0 0 0 0 0 0 0 0 0 0 0 0 0 0 0 0 0 0 0 0 0 0 0 0 0 0 0 0 0 0 0 0 0 0 0 0 0 0 0 0 0 0 0 0 0 0 0 0 0 0 0 0 0 0 0 0 0 0 0 0 0 0 0 0 0 0 0 0 0 0 0 0 0 0 0 0 0 0 0 0 0 0 0 0 0 0 0 0 0 0 0 0 0 0 0 0 0 0 0 0 0 0 0 0 0 0 0 0 0 0 0 0 0 0 0 0 0 0 0 0 0 0 0 0 0 0 0 0 0 0 0 0 0 0 0 0 0 0 0 0 0 0 0 0 0 0 0 0 0 0 0 0 0 0 0 0 0 0 0 0 0 0 0 0 0 0 0 0 0 0 0 0 0 0 0 0 0 0 0 0 0 0 0 0 0 0 0 0 0 0 0 0 0 0 0 0 0 0 0 0 0 0 0 0 0 0 0 0 0 0 0 0 0 0 0 0 0 0 0 0 0 0 0 0 0 0 0 0\nthread Java_A_f\n") a_world_that_fills_its_heap-world
unfolding opened
a_world_that_fills_its_heap-means = world-text (codes "heap 512\nclass A\narray @a I 0 0 0 0 0 0 0 0 0 0 0 0 0 0 0 0 0 0 0 0 0 0 0 0 0 0 0 0 0 0 0 0 0 0 0 0 0 0 0 0 0 0 0 0 0 0 0 0 0 0 0 0 0 0 0 0 0 0 0 0 0 0 0 0 0 0 0 0 0 0 0 0 0 0 0 0 0 0 0 0 0 0 0 0 0 0 0 0 0 0 0 0 0 0 0 0 0 0 0 0 0 0 0 0 0 0 0 0 0 0 0 0 0 0 0 0 0 0 0 0 0 0 0 0 0 0 0 0 0 0 0 0 0 0 0 0 0 0 0 0 0 0 0 0 0 0 0 0 0 0 0 0 0 0 0 0 0 0 0 0 0 0 0 0 0 0 0 0 0 0 0 0 0 0 0 0 0 0 0 0 0 0 0 0 0 0 0 0 0 0 0 0 0 0 0 0 0 0 0 0 0 0 0 0 0 0 0 0 0 0 0 0 0 0 0 0 0 0 0 0 0 0 0 0 0 0 0 0 0 0 0 0 0 0 0 0 0 0 0 0 0 0 0 0 0 0 0 0 0 0 0 0 0 0 0 0 0 0 0 0 0 0 0 0 0 0 0 0 0 0 0 0 0 0 0 0 0 0 0 0 0 0 0 0 0 0 0 0 0 0 0 0 0 0 0 0 0 0 0 0 0 0 0 0 0 0 0 0 0 0 0 0 0 0 0 0 0 0 0 0 0 0 0 0 0 0 0 0 0 0 0 0 0 0 0 0 0 0 0 0 0 0 0 0 0 0 0 0 0 0 0 0 0 0 0 0 0 0 0 0 0 0 0 0 0 0 0 0 0 0 0 0 0\nthread Java_A_f\n") 512 false a_world_that_fills_its_heap-lines 1 refl refl refl refl refl

a_world_that_fills_its_heap-accepted : IsAccepted a_world_that_fills_its_heap
unfolding opened
a_world_that_fills_its_heap-accepted = accepted a_world_that_fills_its_heap refl refl refl

a_world_that_fills_its_heap-run : IsWorkedRun a_world_that_fills_its_heap (codes "heap 512\nclass A\narray @a I 0 0 0 0 0 0 0 0 0 0 0 0 0 0 0 0 0 0 0 0 0 0 0 0 0 0 0 0 0 0 0 0 0 0 0 0 0 0 0 0 0 0 0 0 0 0 0 0 0 0 0 0 0 0 0 0 0 0 0 0 0 0 0 0 0 0 0 0 0 0 0 0 0 0 0 0 0 0 0 0 0 0 0 0 0 0 0 0 0 0 0 0 0 0 0 0 0 0 0 0 0 0 0 0 0 0 0 0 0 0 0 0 0 0 0 0 0 0 0 0 0 0 0 0 0 0 0 0 0 0 0 0 0 0 0 0 0 0 0 0 0 0 0 0 0 0 0 0 0 0 0 0 0 0 0 0 0 0 0 0 0 0 0 0 0 0 0 0 0 0 0 0 0 0 0 0 0 0 0 0 0 0 0 0 0 0 0 0 0 0 0 0 0 0 0 0 0 0 0 0 0 0 0 0 0 0 0 0 0 0 0 0 0 0 0 0 0 0 0 0 0 0 0 0 0 0 0 0 0 0 0 0 0 0 0 0 0 0 0 0 0 0 0 0 0 0 0 0 0 0 0 0 0 0 0 0 0 0 0 0 0 0 0 0 0 0 0 0 0 0 0 0 0 0 0 0 0 0 0 0 0 0 0 0 0 0 0 0 0 0 0 0 0 0 0 0 0 0 0 0 0 0 0 0 0 0 0 0 0 0 0 0 0 0 0 0 0 0 0 0 0 0 0 0 0 0 0 0 0 0 0 0 0 0 0 0 0 0 0 0 0 0 0 0 0 0 0 0 0 0 0 0 0 0 0 0 0 0 0 0 0 0 0 0 0 0 0 0 0 0 0 0 0\nthread Java_A_f\n") (codes "1*9\n")
    (codes "T1 ended\n#46 [I 0 0 0 0 0 0 0 0 0 0 0 0 0 0 0 0 0 0 0 0 0 0 0 0 0 0 0 0 0 0 0 0 0 0 0 0 0 0 0 0 0 0 0 0 0 0 0 0 0 0 0 0 0 0 0 0 0 0 0 0 0 0 0 0 0 0 0 0 0 0 0 0 0 0 0 0 0 0 0 0 0 0 0 0 0 0 0 0 0 0 0 0 0 0 0 0 0 0 0 0 0 0 0 0 0 0 0 0 0 0 0 0 0 0 0 0 0 0 0 0 0 0 0 0 0 0 0 0 0 0 0 0 0 0 0 0 0 0 0 0 0 0 0 0 0 0 0 0 0 0 0 0 0 0 0 0 0 0 0 0 0 0 0 0 0 0 0 0 0 0 0 0 0 0 0 0 0 0 0 0 0 0 0 0 0 0 0 0 0 0 0 0 0 0 0 0 0 0 0 0 0 0 0 0 0 0 0 0 0 0 0 0 0 0 0 0 0 0 0 0 0 0 0 0 0 0 0 0 0 0 0 0 0 0 0 0 0 0 0 0 0 0 0 0 0 0 0 0 0 0 0 0 0 0 0 0 0 0 0 0 0 0 0 0 0 0 0 0 0 0 0 0 0 0 0 0 0 0 0 0 0 0 0 0 0 0 0 0 0 0 0 0 0 0 0 0 0 0 0 0 0 0 0 0 0 0 0 0 0 0 0 0 0 0 0 0 0 0 0 0 0 0 0 0 0 0 0 0 0 0 0 0 0 0 0 0 0 0 0 0 0 0 0 0 0 0 0 0 0 0 0 0 0 0 0 0 0 0 0 0 0 0 0 0 0 0 0 0 0 0 0 0 0\njournal 1 1 1\n")
unfolding opened
a_world_that_fills_its_heap-run = worked-run a_world_that_fills_its_heap a_world_that_fills_its_heap-world ((Turn 1, Some 9) ∷ []) [] a_world_that_fills_its_heap-accepted a_world_that_fills_its_heap-means refl refl refl refl

-- a world that is too large
a_world_that_is_too_large : world_of_text (codes "heap 512\nclass A\narray @a I 0 0 0 0 0 0 0 0 0 0 0 0 0 0 0 0 0 0 0 0 0 0 0 0 0 0 0 0 0 0 0 0 0 0 0 0 0 0 0 0 0 0 0 0 0 0 0 0 0 0 0 0 0 0 0 0 0 0 0 0 0 0 0 0 0 0 0 0 0 0 0 0 0 0 0 0 0 0 0 0 0 0 0 0 0 0 0 0 0 0 0 0 0 0 0 0 0 0 0 0 0 0 0 0 0 0 0 0 0 0 0 0 0 0 0 0 0 0 0 0 0 0 0 0 0 0 0 0 0 0 0 0 0 0 0 0 0 0 0 0 0 0 0 0 0 0 0 0 0 0 0 0 0 0 0 0 0 0 0 0 0 0 0 0 0 0 0 0 0 0 0 0 0 0 0 0 0 0 0 0 0 0 0 0 0 0 0 0 0 0 0 0 0 0 0 0 0 0 0 0 0 0 0 0 0 0 0 0 0 0 0 0 0 0 0 0 0 0 0 0 0 0 0 0 0 0 0 0 0 0 0 0 0 0 0 0 0 0 0 0 0 0 0 0 0 0 0 0 0 0 0 0 0 0 0 0 0 0 0 0 0 0 0 0 0 0 0 0 0 0 0 0 0 0 0 0 0 0 0 0 0 0 0 0 0 0 0 0 0 0 0 0 0 0 0 0 0 0 0 0 0 0 0 0 0 0 0 0 0 0 0 0 0 0 0 0 0 0 0 0 0 0 0 0 0 0 0 0 0 0 0 0 0 0 0 0 0 0 0 0 0 0 0 0 0 0 0 0 0 0 0 0 0 0 0 0 0 0 0 0 0 0 0 0 0 0 0 0 0 0 0 0 0 0\nthread Java_A_f\n") ≡ Err (record { rule = Heap; line = 3 })
unfolding read
a_world_that_is_too_large = refl
