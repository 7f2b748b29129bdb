-- The cases of texts/frames.cases, as gate/worked_equations writes them.
use Rattle.std.specs.Prelude.{◌∷◌, true, false, [], Some, None, codes, refl}
use Rattle.syntax.specs.declared.declared_type.ReferenceType.TheVariants.{Object as JObject, IntArray as JIntArray}
use Rattle.syntax.specs.declared.declared_type.VariableType.TheVariants.{Uint32 as UInt32, Jint as JIntVariable, Reference as ReferenceVariable}
use Rattle.syntax.specs.declared.declared_type.DeclaredType.TheVariants.{Simple}
use Rattle.syntax.specs.declared.unit.ResultType.TheVariants.{Void}
use Rattle.syntax.specs.declared.expr.Constant.TheVariants.{Null}
use Rattle.syntax.specs.declared.expr.BinaryOp.TheVariants.{Less, Add}
use Rattle.syntax.specs.Tree.{Number, Named, Variable, Binary, Value, FromExpr, FromCall, TestCall, Declare, Assign, PutJint, Plain, If, NoElse, While, Return, SourceUnit}
use Rattle.semantics.specs.declared.schedule.ScheduleWord.TheVariants.{Turn, Collect}
use Rattle.semantics.specs.World.{World}
use Rattle.world_values.specs.WorldLines.{ClassLine, ThreadLine, Lines}
use Rattle.world_values.specs.WorldMeaning.{world_of}
use Rattle.world_values.specs.WorldRules.{IsWorldText}
use Rattle.test_equations.specs.Claims.{IsAccepted, IsWorkedRun}
use Rattle.test_equations.proofs.Programs.{unit_of, native, block, call, given}
use Rattle.test_equations.proofs.Computed.{opened, accepted, world-text, worked-run}

-- a frame is popped
-- JNIEXPORT void JNICALL Java_A_f(JNIEnv *env, jclass cls) {
-- jobject x = NULL;
-- if ((*env)->PushLocalFrame(env, 4) == 0) {
-- jintArray y = (*env)->NewIntArray(env, 1);
-- jintArray z = (*env)->NewIntArray(env, 2);
-- x = (*env)->PopLocalFrame(env, y);
-- }
-- return; }
abbrev pub a_frame_is_popped : SourceUnit
a_frame_is_popped =
    unit_of
    (native 1 Void (codes "Java_A_f") []
    (Plain 2 (Declare (Simple (ReferenceVariable JObject)) (codes "x") (FromExpr (Named Null)))
    ∷ If 3 (TestCall (call (codes "PushLocalFrame") (Value (Number 4 false) ∷ [])))
    (block
    (Plain 4 (Declare (Simple (ReferenceVariable JIntArray)) (codes "y") (FromCall (call (codes "NewIntArray") (Value (Number 1 false) ∷ []))))
    ∷ Plain 5 (Declare (Simple (ReferenceVariable JIntArray)) (codes "z") (FromCall (call (codes "NewIntArray") (Value (Number 2 false) ∷ []))))
    ∷ Plain 6 (Assign (codes "x") (FromCall (call (codes "PopLocalFrame") (given (codes "y") ∷ []))))
    ∷ [])
    7)
    NoElse
    ∷ Return 8 None
    ∷ [])
    8
    ∷ [])

abbrev a_frame_is_popped-lines : Lines
a_frame_is_popped-lines =
    (2, ClassLine (codes "A") None)
    ∷ (3, ThreadLine (codes "Java_A_f") [])
    ∷ []

abbrev a_frame_is_popped-world : World
a_frame_is_popped-world = world_of 1 512 a_frame_is_popped-lines

a_frame_is_popped-means : IsWorldText (codes "heap 512\nclass A\nthread Java_A_f\n") a_frame_is_popped-world
unfolding opened
a_frame_is_popped-means = world-text (codes "heap 512\nclass A\nthread Java_A_f\n") 512 false a_frame_is_popped-lines 1 refl refl refl refl refl

a_frame_is_popped-accepted : IsAccepted a_frame_is_popped
unfolding opened
a_frame_is_popped-accepted = accepted a_frame_is_popped refl refl refl

a_frame_is_popped-run : IsWorkedRun a_frame_is_popped (codes "heap 512\nclass A\nthread Java_A_f\n") (codes "1*10 c\n")
    (codes "T1 running\n#46 [I 0\njournal 1 1 1 1 1 1 1 1 1 1\n")
unfolding opened
a_frame_is_popped-run = worked-run a_frame_is_popped a_frame_is_popped-world ((Turn 1, Some 10) ∷ (Collect, None) ∷ []) [] a_frame_is_popped-accepted a_frame_is_popped-means refl refl refl refl

-- a frame is popped without a collection
a_frame_is_popped_without_a_collection-run : IsWorkedRun a_frame_is_popped (codes "heap 512\nclass A\nthread Java_A_f\n") (codes "1*10\n")
    (codes "T1 running\n#46 [I 0\njournal 1 1 1 1 1 1 1 1 1 1\n")
unfolding opened
a_frame_is_popped_without_a_collection-run = worked-run a_frame_is_popped a_frame_is_popped-world ((Turn 1, Some 10) ∷ []) [] a_frame_is_popped-accepted a_frame_is_popped-means refl refl refl refl

-- a frame is popped to the end
a_frame_is_popped_to_the_end-run : IsWorkedRun a_frame_is_popped (codes "heap 512\nclass A\nthread Java_A_f\n") (codes "1*20\n")
    (codes "T1 ended\njournal 1 1 1 1 1 1 1 1 1 1 1 1\n")
unfolding opened
a_frame_is_popped_to_the_end-run = worked-run a_frame_is_popped a_frame_is_popped-world ((Turn 1, Some 20) ∷ []) [] a_frame_is_popped-accepted a_frame_is_popped-means refl refl refl refl

-- capacity that is granted
-- JNIEXPORT void JNICALL Java_A_f(JNIEnv *env, jclass cls) { jint e = (*env)->EnsureLocalCapacity(env, 1023); put_jint(e); return; }
abbrev pub capacity_that_is_granted : SourceUnit
capacity_that_is_granted =
    unit_of
    (native 1 Void (codes "Java_A_f") []
    (Plain 1 (Declare (Simple JIntVariable) (codes "e") (FromCall (call (codes "EnsureLocalCapacity") (Value (Number 1023 false) ∷ []))))
    ∷ Plain 1 (PutJint (Variable (codes "e")))
    ∷ Return 1 None
    ∷ [])
    1
    ∷ [])

capacity_that_is_granted-accepted : IsAccepted capacity_that_is_granted
unfolding opened
capacity_that_is_granted-accepted = accepted capacity_that_is_granted refl refl refl

capacity_that_is_granted-run : IsWorkedRun capacity_that_is_granted (codes "heap 512\nclass A\nthread Java_A_f\n") (codes "1*9\n")
    (codes "T1 0\nT1 ended\njournal 1 1 1 1 1 1\n")
unfolding opened
capacity_that_is_granted-run = worked-run capacity_that_is_granted a_frame_is_popped-world ((Turn 1, Some 9) ∷ []) [] capacity_that_is_granted-accepted a_frame_is_popped-means refl refl refl refl

-- capacity that is refused
-- JNIEXPORT void JNICALL Java_A_f(JNIEnv *env, jclass cls) { jint e = (*env)->EnsureLocalCapacity(env, 1024); put_jint(e); return; }
abbrev pub capacity_that_is_refused : SourceUnit
capacity_that_is_refused =
    unit_of
    (native 1 Void (codes "Java_A_f") []
    (Plain 1 (Declare (Simple JIntVariable) (codes "e") (FromCall (call (codes "EnsureLocalCapacity") (Value (Number 1024 false) ∷ []))))
    ∷ Plain 1 (PutJint (Variable (codes "e")))
    ∷ Return 1 None
    ∷ [])
    1
    ∷ [])

capacity_that_is_refused-accepted : IsAccepted capacity_that_is_refused
unfolding opened
capacity_that_is_refused-accepted = accepted capacity_that_is_refused refl refl refl

capacity_that_is_refused-run : IsWorkedRun capacity_that_is_refused (codes "heap 512\nclass A\nthread Java_A_f\n") (codes "1*9\n")
    (codes "T1 -4\nT1 uncaught java/lang/OutOfMemoryError\njournal 1 1 1 1 1 1\n")
unfolding opened
capacity_that_is_refused-run = worked-run capacity_that_is_refused a_frame_is_popped-world ((Turn 1, Some 9) ∷ []) [] capacity_that_is_refused-accepted a_frame_is_popped-means refl refl refl refl

-- a frame that is full
-- JNIEXPORT void JNICALL Java_A_f(JNIEnv *env, jclass cls) {
-- uint32_t i = 0u;
-- while (i < 17u) { jobject x = (*env)->NewLocalRef(env, cls); i = i + 1u; }
-- return; }
abbrev pub a_frame_that_is_full : SourceUnit
a_frame_that_is_full =
    unit_of
    (native 1 Void (codes "Java_A_f") []
    (Plain 2 (Declare (Simple UInt32) (codes "i") (FromExpr (Number 0 true)))
    ∷ While 3 (Binary Less (Variable (codes "i")) (Number 17 true))
    (block
    (Plain 3 (Declare (Simple (ReferenceVariable JObject)) (codes "x") (FromCall (call (codes "NewLocalRef") (given (codes "cls") ∷ []))))
    ∷ Plain 3 (Assign (codes "i") (FromExpr (Binary Add (Variable (codes "i")) (Number 1 true))))
    ∷ [])
    3)
    ∷ Return 4 None
    ∷ [])
    4
    ∷ [])

a_frame_that_is_full-accepted : IsAccepted a_frame_that_is_full
unfolding opened
a_frame_that_is_full-accepted = accepted a_frame_that_is_full refl refl refl

a_frame_that_is_full-run : IsWorkedRun a_frame_that_is_full (codes "heap 512\nclass A\nthread Java_A_f\n") (codes "1*169\n")
    (codes "T1 trap 8 line 3\njournal 1 1 1 1 1 1 1 1 1 1 1 1 1 1 1 1 1 1 1 1 1 1 1 1 1 1 1 1 1 1 1 1 1 1 1 1 1 1 1 1 1 1 1 1 1 1 1 1 1 1 1 1 1 1 1 1 1 1 1 1 1 1 1 1 1 1 1 1 1 1 1 1 1 1 1 1 1 1 1 1 1 1 1 1 1 1 1 1 1 1 1 1 1 1 1 1 1 1 1 1 1 1 1 1 1 1 1 1 1 1 1 1 1 1 1 1 1 1 1 1 1 1 1 1 1 1 1 1 1 1 1 1 1 1 1 1 1 1 1 1 1 1 1 1 1 1 1 1 1 1 1 1 1 1 1 1 1 1 1 1 1 1 1 1 1 1 1 1\n")
unfolding opened
a_frame_that_is_full-run = worked-run a_frame_that_is_full a_frame_is_popped-world ((Turn 1, Some 169) ∷ []) [] a_frame_that_is_full-accepted a_frame_is_popped-means refl refl refl refl

-- a frame with more room
-- JNIEXPORT void JNICALL Java_A_f(JNIEnv *env, jclass cls) {
-- uint32_t i = 0u;
-- jint e = (*env)->EnsureLocalCapacity(env, 17);
-- while (i < 17u) { jobject x = (*env)->NewLocalRef(env, cls); i = i + 1u; }
-- return; }
abbrev pub a_frame_with_more_room : SourceUnit
a_frame_with_more_room =
    unit_of
    (native 1 Void (codes "Java_A_f") []
    (Plain 2 (Declare (Simple UInt32) (codes "i") (FromExpr (Number 0 true)))
    ∷ Plain 3 (Declare (Simple JIntVariable) (codes "e") (FromCall (call (codes "EnsureLocalCapacity") (Value (Number 17 false) ∷ []))))
    ∷ While 4 (Binary Less (Variable (codes "i")) (Number 17 true))
    (block
    (Plain 4 (Declare (Simple (ReferenceVariable JObject)) (codes "x") (FromCall (call (codes "NewLocalRef") (given (codes "cls") ∷ []))))
    ∷ Plain 4 (Assign (codes "i") (FromExpr (Binary Add (Variable (codes "i")) (Number 1 true))))
    ∷ [])
    4)
    ∷ Return 5 None
    ∷ [])
    5
    ∷ [])

a_frame_with_more_room-accepted : IsAccepted a_frame_with_more_room
unfolding opened
a_frame_with_more_room-accepted = accepted a_frame_with_more_room refl refl refl

a_frame_with_more_room-run : IsWorkedRun a_frame_with_more_room (codes "heap 512\nclass A\nthread Java_A_f\n") (codes "1*181\n")
    (codes "T1 ended\njournal 1 1 1 1 1 1 1 1 1 1 1 1 1 1 1 1 1 1 1 1 1 1 1 1 1 1 1 1 1 1 1 1 1 1 1 1 1 1 1 1 1 1 1 1 1 1 1 1 1 1 1 1 1 1 1 1 1 1 1 1 1 1 1 1 1 1 1 1 1 1 1 1 1 1 1 1 1 1 1 1 1 1 1 1 1 1 1 1 1 1 1 1 1 1 1 1 1 1 1 1 1 1 1 1 1 1 1 1 1 1 1 1 1 1 1 1 1 1 1 1 1 1 1 1 1 1 1 1 1 1 1 1 1 1 1 1 1 1 1 1 1 1 1 1 1 1 1 1 1 1 1 1 1 1 1 1 1 1 1 1 1 1 1 1 1 1 1 1 1 1 1 1 1 1 1 1 1 1 1 1\n")
unfolding opened
a_frame_with_more_room-run = worked-run a_frame_with_more_room a_frame_is_popped-world ((Turn 1, Some 181) ∷ []) [] a_frame_with_more_room-accepted a_frame_is_popped-means refl refl refl refl
