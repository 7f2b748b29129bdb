-- The cases of texts/buffers_copied.cases, as gate/worked_equations writes them.
use Rattle.std.specs.Prelude.{◌∷◌, pos, false, [], Some, None, codes, refl}
use Rattle.base.specs.declared.element.ElementType.TheVariants.{Int as JInt}
use Rattle.syntax.specs.declared.declared_type.ReferenceType.TheVariants.{Object as JObject, IntArray as JIntArray}
use Rattle.syntax.specs.declared.declared_type.VariableType.TheVariants.{Jint as JIntVariable, Reference as ReferenceVariable}
use Rattle.syntax.specs.declared.declared_type.DeclaredType.TheVariants.{Simple, Pointer}
use Rattle.syntax.specs.declared.unit.ResultType.TheVariants.{Void}
use Rattle.syntax.specs.declared.expr.Constant.TheVariants.{Commit, Abort, Null}
use Rattle.syntax.specs.declared.expr.BinaryOp.TheVariants.{NotEqual}
use Rattle.syntax.specs.Tree.{Number, Named, Variable, Binary, Value, FromCall, TestExpr, Declare, DeclareArray, AssignElement, Perform, Plain, If, NoElse, Return, SourceUnit}
use Rattle.semantics.specs.declared.schedule.ScheduleWord.TheVariants.{Turn}
use Rattle.semantics.specs.World.{World}
use Rattle.world_values.specs.WorldLines.{NumberValue, NamedObject, ClassLine, ArrayLine, ThreadLine, Lines}
use Rattle.world_values.specs.WorldMeaning.{world_of}
use Rattle.world_values.specs.WorldRules.{IsWorldText}
use Rattle.test_equations.specs.Claims.{IsAccepted, IsWorkedRun}
use Rattle.test_equations.proofs.Programs.{unit_of, native, block, reference_parameter, call, given}
use Rattle.test_equations.proofs.Computed.{opened, accepted, world-text, worked-run}

-- a copy is written back
-- JNIEXPORT void JNICALL Java_A_f(JNIEnv *env, jclass cls, jintArray a) {
-- jint *p = (*env)->GetIntArrayElements(env, a, NULL);
-- if (p != NULL) { p[0] = 9; (*env)->ReleaseIntArrayElements(env, a, p, 0); }
-- return; }
-- JNIEXPORT void JNICALL Java_A_g(JNIEnv *env, jclass cls, jintArray a) { jint b[1] = {0}; b[0] = 5; (*env)->SetIntArrayRegion(env, a, 0, 1, b); return; }
abbrev pub a_copy_is_written_back : SourceUnit
a_copy_is_written_back =
    unit_of
    (native 1 Void (codes "Java_A_f") (reference_parameter JIntArray (codes "a") ∷ [])
    (Plain 2 (Declare (Pointer JInt) (codes "p") (FromCall (call (codes "GetIntArrayElements") (given (codes "a") ∷ Value (Named Null) ∷ []))))
    ∷ If 3 (TestExpr (Binary NotEqual (Variable (codes "p")) (Named Null)))
    (block
    (Plain 3 (AssignElement (codes "p") (Number 0 false) (Number 9 false))
    ∷ Plain 3 (Perform (call (codes "ReleaseIntArrayElements") (given (codes "a") ∷ given (codes "p") ∷ Value (Number 0 false) ∷ [])))
    ∷ [])
    3)
    NoElse
    ∷ Return 4 None
    ∷ [])
    4
    ∷ native 5 Void (codes "Java_A_g") (reference_parameter JIntArray (codes "a") ∷ [])
    (Plain 5 (DeclareArray JInt (codes "b") 1)
    ∷ Plain 5 (AssignElement (codes "b") (Number 0 false) (Number 5 false))
    ∷ Plain 5 (Perform (call (codes "SetIntArrayRegion") (given (codes "a") ∷ Value (Number 0 false) ∷ Value (Number 1 false) ∷ given (codes "b") ∷ [])))
    ∷ Return 5 None
    ∷ [])
    5
    ∷ [])

abbrev a_copy_is_written_back-lines : Lines
a_copy_is_written_back-lines =
    (2, ClassLine (codes "A") None)
    ∷ (3, ArrayLine (codes "a") JInt (NumberValue (pos 1) ∷ NumberValue (pos 2) ∷ []))
    ∷ (4, ThreadLine (codes "Java_A_f") (NamedObject (codes "a") ∷ []))
    ∷ (5, ThreadLine (codes "Java_A_g") (NamedObject (codes "a") ∷ []))
    ∷ []

abbrev a_copy_is_written_back-world : World
a_copy_is_written_back-world = world_of 1 512 a_copy_is_written_back-lines

a_copy_is_written_back-means : IsWorldText (codes "heap 512\nclass A\narray @a I 1 2\nthread Java_A_f @a\nthread Java_A_g @a\n") a_copy_is_written_back-world
unfolding opened
a_copy_is_written_back-means = world-text (codes "heap 512\nclass A\narray @a I 1 2\nthread Java_A_f @a\nthread Java_A_g @a\n") 512 false a_copy_is_written_back-lines 1 refl refl refl refl refl

a_copy_is_written_back-accepted : IsAccepted a_copy_is_written_back
unfolding opened
a_copy_is_written_back-accepted = accepted a_copy_is_written_back refl refl refl

a_copy_is_written_back-run : IsWorkedRun a_copy_is_written_back (codes "heap 512\nclass A\narray @a I 1 2\nthread Java_A_f @a\nthread Java_A_g @a\n") (codes "1*7 2*9 1*9\n")
    (codes "T1 ended\nT2 ended\n#46 [I 9 2\njournal 1 1 1 1 1 1 1 2 2 2 2 2 2 2 2 2 1 1 1\n")
unfolding opened
a_copy_is_written_back-run = worked-run a_copy_is_written_back a_copy_is_written_back-world ((Turn 1, Some 7) ∷ (Turn 2, Some 9) ∷ (Turn 1, Some 9) ∷ []) [] a_copy_is_written_back-accepted a_copy_is_written_back-means refl refl refl refl

-- a copy is given up
-- JNIEXPORT void JNICALL Java_A_f(JNIEnv *env, jclass cls, jintArray a) {
-- jint *p = (*env)->GetIntArrayElements(env, a, NULL);
-- if (p != NULL) { p[0] = 9; (*env)->ReleaseIntArrayElements(env, a, p, JNI_ABORT); }
-- return; }
-- JNIEXPORT void JNICALL Java_A_g(JNIEnv *env, jclass cls, jintArray a) { jint b[1] = {0}; b[0] = 5; (*env)->SetIntArrayRegion(env, a, 0, 1, b); return; }
abbrev pub a_copy_is_given_up : SourceUnit
a_copy_is_given_up =
    unit_of
    (native 1 Void (codes "Java_A_f") (reference_parameter JIntArray (codes "a") ∷ [])
    (Plain 2 (Declare (Pointer JInt) (codes "p") (FromCall (call (codes "GetIntArrayElements") (given (codes "a") ∷ Value (Named Null) ∷ []))))
    ∷ If 3 (TestExpr (Binary NotEqual (Variable (codes "p")) (Named Null)))
    (block
    (Plain 3 (AssignElement (codes "p") (Number 0 false) (Number 9 false))
    ∷ Plain 3 (Perform (call (codes "ReleaseIntArrayElements") (given (codes "a") ∷ given (codes "p") ∷ Value (Named Abort) ∷ [])))
    ∷ [])
    3)
    NoElse
    ∷ Return 4 None
    ∷ [])
    4
    ∷ native 5 Void (codes "Java_A_g") (reference_parameter JIntArray (codes "a") ∷ [])
    (Plain 5 (DeclareArray JInt (codes "b") 1)
    ∷ Plain 5 (AssignElement (codes "b") (Number 0 false) (Number 5 false))
    ∷ Plain 5 (Perform (call (codes "SetIntArrayRegion") (given (codes "a") ∷ Value (Number 0 false) ∷ Value (Number 1 false) ∷ given (codes "b") ∷ [])))
    ∷ Return 5 None
    ∷ [])
    5
    ∷ [])

a_copy_is_given_up-accepted : IsAccepted a_copy_is_given_up
unfolding opened
a_copy_is_given_up-accepted = accepted a_copy_is_given_up refl refl refl

a_copy_is_given_up-run : IsWorkedRun a_copy_is_given_up (codes "heap 512\nclass A\narray @a I 1 2\nthread Java_A_f @a\nthread Java_A_g @a\n") (codes "1*7 2*9 1*9\n")
    (codes "T1 ended\nT2 ended\n#46 [I 5 2\njournal 1 1 1 1 1 1 1 2 2 2 2 2 2 2 2 2 1 1 1\n")
unfolding opened
a_copy_is_given_up-run = worked-run a_copy_is_given_up a_copy_is_written_back-world ((Turn 1, Some 7) ∷ (Turn 2, Some 9) ∷ (Turn 1, Some 9) ∷ []) [] a_copy_is_given_up-accepted a_copy_is_written_back-means refl refl refl refl

-- a copy is written back and kept
-- JNIEXPORT void JNICALL Java_A_f(JNIEnv *env, jclass cls, jintArray a) {
-- jint *p = (*env)->GetIntArrayElements(env, a, NULL);
-- if (p != NULL) { p[0] = 9; (*env)->ReleaseIntArrayElements(env, a, p, JNI_COMMIT); p[1] = 4; (*env)->ReleaseIntArrayElements(env, a, p, JNI_ABORT); }
-- return; }
-- JNIEXPORT void JNICALL Java_A_g(JNIEnv *env, jclass cls, jintArray a) { jint b[1] = {0}; b[0] = 5; (*env)->SetIntArrayRegion(env, a, 0, 1, b); return; }
abbrev pub a_copy_is_written_back_and_kept : SourceUnit
a_copy_is_written_back_and_kept =
    unit_of
    (native 1 Void (codes "Java_A_f") (reference_parameter JIntArray (codes "a") ∷ [])
    (Plain 2 (Declare (Pointer JInt) (codes "p") (FromCall (call (codes "GetIntArrayElements") (given (codes "a") ∷ Value (Named Null) ∷ []))))
    ∷ If 3 (TestExpr (Binary NotEqual (Variable (codes "p")) (Named Null)))
    (block
    (Plain 3 (AssignElement (codes "p") (Number 0 false) (Number 9 false))
    ∷ Plain 3 (Perform (call (codes "ReleaseIntArrayElements") (given (codes "a") ∷ given (codes "p") ∷ Value (Named Commit) ∷ [])))
    ∷ Plain 3 (AssignElement (codes "p") (Number 1 false) (Number 4 false))
    ∷ Plain 3 (Perform (call (codes "ReleaseIntArrayElements") (given (codes "a") ∷ given (codes "p") ∷ Value (Named Abort) ∷ [])))
    ∷ [])
    3)
    NoElse
    ∷ Return 4 None
    ∷ [])
    4
    ∷ native 5 Void (codes "Java_A_g") (reference_parameter JIntArray (codes "a") ∷ [])
    (Plain 5 (DeclareArray JInt (codes "b") 1)
    ∷ Plain 5 (AssignElement (codes "b") (Number 0 false) (Number 5 false))
    ∷ Plain 5 (Perform (call (codes "SetIntArrayRegion") (given (codes "a") ∷ Value (Number 0 false) ∷ Value (Number 1 false) ∷ given (codes "b") ∷ [])))
    ∷ Return 5 None
    ∷ [])
    5
    ∷ [])

a_copy_is_written_back_and_kept-accepted : IsAccepted a_copy_is_written_back_and_kept
unfolding opened
a_copy_is_written_back_and_kept-accepted = accepted a_copy_is_written_back_and_kept refl refl refl

a_copy_is_written_back_and_kept-run : IsWorkedRun a_copy_is_written_back_and_kept (codes "heap 512\nclass A\narray @a I 1 2\nthread Java_A_f @a\nthread Java_A_g @a\n") (codes "1*7 2*9 1*9\n")
    (codes "T1 ended\nT2 ended\n#46 [I 9 2\njournal 1 1 1 1 1 1 1 2 2 2 2 2 2 2 2 2 1 1 1 1 1 1 1\n")
unfolding opened
a_copy_is_written_back_and_kept-run = worked-run a_copy_is_written_back_and_kept a_copy_is_written_back-world ((Turn 1, Some 7) ∷ (Turn 2, Some 9) ∷ (Turn 1, Some 9) ∷ []) [] a_copy_is_written_back_and_kept-accepted a_copy_is_written_back-means refl refl refl refl

-- a copy is kept after a commit
-- JNIEXPORT void JNICALL Java_A_f(JNIEnv *env, jclass cls, jintArray a) {
-- jint *p = (*env)->GetIntArrayElements(env, a, NULL);
-- if (p != NULL) { p[0] = 9; (*env)->ReleaseIntArrayElements(env, a, p, JNI_COMMIT); p[1] = 4; (*env)->ReleaseIntArrayElements(env, a, p, JNI_ABORT); }
-- return; }
abbrev pub a_copy_is_kept_after_a_commit : SourceUnit
a_copy_is_kept_after_a_commit =
    unit_of
    (native 1 Void (codes "Java_A_f") (reference_parameter JIntArray (codes "a") ∷ [])
    (Plain 2 (Declare (Pointer JInt) (codes "p") (FromCall (call (codes "GetIntArrayElements") (given (codes "a") ∷ Value (Named Null) ∷ []))))
    ∷ If 3 (TestExpr (Binary NotEqual (Variable (codes "p")) (Named Null)))
    (block
    (Plain 3 (AssignElement (codes "p") (Number 0 false) (Number 9 false))
    ∷ Plain 3 (Perform (call (codes "ReleaseIntArrayElements") (given (codes "a") ∷ given (codes "p") ∷ Value (Named Commit) ∷ [])))
    ∷ Plain 3 (AssignElement (codes "p") (Number 1 false) (Number 4 false))
    ∷ Plain 3 (Perform (call (codes "ReleaseIntArrayElements") (given (codes "a") ∷ given (codes "p") ∷ Value (Named Abort) ∷ [])))
    ∷ [])
    3)
    NoElse
    ∷ Return 4 None
    ∷ [])
    4
    ∷ [])

abbrev a_copy_is_kept_after_a_commit-lines : Lines
a_copy_is_kept_after_a_commit-lines =
    (2, ClassLine (codes "A") None)
    ∷ (3, ArrayLine (codes "a") JInt (NumberValue (pos 1) ∷ NumberValue (pos 2) ∷ []))
    ∷ (4, ThreadLine (codes "Java_A_f") (NamedObject (codes "a") ∷ []))
    ∷ []

abbrev a_copy_is_kept_after_a_commit-world : World
a_copy_is_kept_after_a_commit-world = world_of 1 512 a_copy_is_kept_after_a_commit-lines

a_copy_is_kept_after_a_commit-means : IsWorldText (codes "heap 512\nclass A\narray @a I 1 2\nthread Java_A_f @a\n") a_copy_is_kept_after_a_commit-world
unfolding opened
a_copy_is_kept_after_a_commit-means = world-text (codes "heap 512\nclass A\narray @a I 1 2\nthread Java_A_f @a\n") 512 false a_copy_is_kept_after_a_commit-lines 1 refl refl refl refl refl

a_copy_is_kept_after_a_commit-accepted : IsAccepted a_copy_is_kept_after_a_commit
unfolding opened
a_copy_is_kept_after_a_commit-accepted = accepted a_copy_is_kept_after_a_commit refl refl refl

a_copy_is_kept_after_a_commit-run : IsWorkedRun a_copy_is_kept_after_a_commit (codes "heap 512\nclass A\narray @a I 1 2\nthread Java_A_f @a\n") (codes "1*20\n")
    (codes "T1 ended\n#46 [I 9 2\njournal 1 1 1 1 1 1 1 1 1 1 1 1 1 1\n")
unfolding opened
a_copy_is_kept_after_a_commit-run = worked-run a_copy_is_kept_after_a_commit a_copy_is_kept_after_a_commit-world ((Turn 1, Some 20) ∷ []) [] a_copy_is_kept_after_a_commit-accepted a_copy_is_kept_after_a_commit-means refl refl refl refl

-- a region past the end, and a call with its exception pending
-- JNIEXPORT void JNICALL Java_A_f(JNIEnv *env, jclass cls, jintArray a) {
-- jobject x = (*env)->NewLocalRef(env, a);
-- jint b[1] = {0};
-- (*env)->GetIntArrayRegion(env, a, 2, 1, b);
-- (*env)->DeleteLocalRef(env, x);
-- jint n = (*env)->GetArrayLength(env, a);
-- return; }
abbrev pub a_region_past_the_end_and_a_call_with_its_exception_pending : SourceUnit
a_region_past_the_end_and_a_call_with_its_exception_pending =
    unit_of
    (native 1 Void (codes "Java_A_f") (reference_parameter JIntArray (codes "a") ∷ [])
    (Plain 2 (Declare (Simple (ReferenceVariable JObject)) (codes "x") (FromCall (call (codes "NewLocalRef") (given (codes "a") ∷ []))))
    ∷ Plain 3 (DeclareArray JInt (codes "b") 1)
    ∷ Plain 4 (Perform (call (codes "GetIntArrayRegion") (given (codes "a") ∷ Value (Number 2 false) ∷ Value (Number 1 false) ∷ given (codes "b") ∷ [])))
    ∷ Plain 5 (Perform (call (codes "DeleteLocalRef") (given (codes "x") ∷ [])))
    ∷ Plain 6 (Declare (Simple JIntVariable) (codes "n") (FromCall (call (codes "GetArrayLength") (given (codes "a") ∷ []))))
    ∷ Return 7 None
    ∷ [])
    7
    ∷ [])

a_region_past_the_end_and_a_call_with_its_exception_pending-accepted : IsAccepted a_region_past_the_end_and_a_call_with_its_exception_pending
unfolding opened
a_region_past_the_end_and_a_call_with_its_exception_pending-accepted = accepted a_region_past_the_end_and_a_call_with_its_exception_pending refl refl refl

a_region_past_the_end_and_a_call_with_its_exception_pending-run : IsWorkedRun a_region_past_the_end_and_a_call_with_its_exception_pending (codes "heap 512\nclass A\narray @a I 1 2\nthread Java_A_f @a\n") (codes "1*9\n")
    (codes "T1 trap 5 line 6\n#46 [I 1 2\n#47 java/lang/ArrayIndexOutOfBoundsException null\njournal 1 1 1 1 1 1 1 1\n")
unfolding opened
a_region_past_the_end_and_a_call_with_its_exception_pending-run = worked-run a_region_past_the_end_and_a_call_with_its_exception_pending a_copy_is_kept_after_a_commit-world ((Turn 1, Some 9) ∷ []) [] a_region_past_the_end_and_a_call_with_its_exception_pending-accepted a_copy_is_kept_after_a_commit-means refl refl refl refl
