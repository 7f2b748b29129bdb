-- The cases of texts/exceptions_pending.cases, as gate/worked_equations writes them.
use Rattle.std.specs.Prelude.{◌∷◌, pos, false, [], Some, None, codes, refl}
use Rattle.base.specs.declared.element.ElementType.TheVariants.{Int as JInt}
use Rattle.syntax.specs.declared.declared_type.ReferenceType.TheVariants.{Object as JObject, Class as JClass, Throwable as JThrowable, IntArray as JIntArray}
use Rattle.syntax.specs.declared.declared_type.VariableType.TheVariants.{Jint as JIntVariable, Jboolean as JBoolean, JfieldId as JFieldId, Reference as ReferenceVariable}
use Rattle.syntax.specs.declared.declared_type.DeclaredType.TheVariants.{Simple, Pointer}
use Rattle.syntax.specs.declared.unit.ResultType.TheVariants.{Void}
use Rattle.syntax.specs.declared.expr.Constant.TheVariants.{Null}
use Rattle.syntax.specs.declared.expr.PrefixOp.TheVariants.{ToInt}
use Rattle.syntax.specs.declared.expr.BinaryOp.TheVariants.{Equal, NotEqual}
use Rattle.syntax.specs.Tree.{Number, Named, Variable, Prefix, Binary, Value, Text, FromCall, TestExpr, TestCall, Declare, Assign, AssignElement, Perform, PutJint, Plain, If, NoElse, Return, SourceUnit}
use Rattle.semantics.specs.declared.schedule.ScheduleWord.TheVariants.{Turn}
use Rattle.semantics.specs.World.{World}
use Rattle.world_values.specs.WorldLines.{NumberValue, NamedObject, NamedClass, ClassLine, FieldLine, ObjectLine, ArrayLine, ThreadLine, CallLine, Lines}
use Rattle.world_values.specs.WorldMeaning.{world_of}
use Rattle.world_values.specs.WorldRules.{IsWorldText}
use Rattle.test_equations.specs.Claims.{IsAccepted, IsWorkedRun}
use Rattle.test_equations.proofs.Programs.{unit_of, native, block, reference_parameter, call, given}
use Rattle.test_equations.proofs.Computed.{opened, accepted, world-text, worked-run}

-- an exception is thrown and cleared
-- JNIEXPORT void JNICALL Java_A_f(JNIEnv *env, jclass cls) {
-- jclass c = (*env)->FindClass(env, "java/lang/Exception");
-- jthrowable t = (*env)->AllocObject(env, c);
-- jint r = (*env)->Throw(env, t);
-- jboolean before = (*env)->ExceptionCheck(env);
-- jthrowable u = (*env)->ExceptionOccurred(env);
-- (*env)->ExceptionClear(env);
-- jboolean after = (*env)->ExceptionCheck(env);
-- jthrowable none = (*env)->ExceptionOccurred(env);
-- jboolean same = (*env)->IsSameObject(env, t, u);
-- put_jint(r);
-- put_jint((jint)before);
-- put_jint((jint)after);
-- put_jint((jint)same);
-- if (none == NULL) { put_jint(7); }
-- return;
-- }
abbrev pub an_exception_is_thrown_and_cleared : SourceUnit
an_exception_is_thrown_and_cleared =
    unit_of
    (native 1 Void (codes "Java_A_f") []
    (Plain 2 (Declare (Simple (ReferenceVariable JClass)) (codes "c") (FromCall (call (codes "FindClass") (Text (codes "java/lang/Exception") ∷ []))))
    ∷ Plain 3 (Declare (Simple (ReferenceVariable JThrowable)) (codes "t") (FromCall (call (codes "AllocObject") (given (codes "c") ∷ []))))
    ∷ Plain 4 (Declare (Simple JIntVariable) (codes "r") (FromCall (call (codes "Throw") (given (codes "t") ∷ []))))
    ∷ Plain 5 (Declare (Simple JBoolean) (codes "before") (FromCall (call (codes "ExceptionCheck") [])))
    ∷ Plain 6 (Declare (Simple (ReferenceVariable JThrowable)) (codes "u") (FromCall (call (codes "ExceptionOccurred") [])))
    ∷ Plain 7 (Perform (call (codes "ExceptionClear") []))
    ∷ Plain 8 (Declare (Simple JBoolean) (codes "after") (FromCall (call (codes "ExceptionCheck") [])))
    ∷ Plain 9 (Declare (Simple (ReferenceVariable JThrowable)) (codes "none") (FromCall (call (codes "ExceptionOccurred") [])))
    ∷ Plain 10 (Declare (Simple JBoolean) (codes "same") (FromCall (call (codes "IsSameObject") (given (codes "t") ∷ given (codes "u") ∷ []))))
    ∷ Plain 11 (PutJint (Variable (codes "r")))
    ∷ Plain 12 (PutJint (Prefix ToInt (Variable (codes "before"))))
    ∷ Plain 13 (PutJint (Prefix ToInt (Variable (codes "after"))))
    ∷ Plain 14 (PutJint (Prefix ToInt (Variable (codes "same"))))
    ∷ If 15 (TestExpr (Binary Equal (Variable (codes "none")) (Named Null)))
    (block
    (Plain 15 (PutJint (Number 7 false))
    ∷ [])
    15)
    NoElse
    ∷ Return 16 None
    ∷ [])
    17
    ∷ [])

abbrev an_exception_is_thrown_and_cleared-lines : Lines
an_exception_is_thrown_and_cleared-lines =
    (2, ClassLine (codes "A") None)
    ∷ (3, ThreadLine (codes "Java_A_f") [])
    ∷ []

abbrev an_exception_is_thrown_and_cleared-world : World
an_exception_is_thrown_and_cleared-world = world_of 1 512 an_exception_is_thrown_and_cleared-lines

an_exception_is_thrown_and_cleared-means : IsWorldText (codes "heap 512\nclass A\nthread Java_A_f\n") an_exception_is_thrown_and_cleared-world
unfolding opened
an_exception_is_thrown_and_cleared-means = world-text (codes "heap 512\nclass A\nthread Java_A_f\n") 512 false an_exception_is_thrown_and_cleared-lines 1 refl refl refl refl refl

an_exception_is_thrown_and_cleared-accepted : IsAccepted an_exception_is_thrown_and_cleared
unfolding opened
an_exception_is_thrown_and_cleared-accepted = accepted an_exception_is_thrown_and_cleared refl refl refl

an_exception_is_thrown_and_cleared-run : IsWorkedRun an_exception_is_thrown_and_cleared (codes "heap 512\nclass A\nthread Java_A_f\n") (codes "1*28\n")
    (codes "T1 0\nT1 1\nT1 0\nT1 1\nT1 7\nT1 ended\njournal 1 1 1 1 1 1 1 1 1 1 1 1 1 1 1 1 1 1 1 1 1 1 1 1 1 1 1\n")
unfolding opened
an_exception_is_thrown_and_cleared-run = worked-run an_exception_is_thrown_and_cleared an_exception_is_thrown_and_cleared-world ((Turn 1, Some 28) ∷ []) [] an_exception_is_thrown_and_cleared-accepted an_exception_is_thrown_and_cleared-means refl refl refl refl

-- what may be called while an exception is pending
-- JNIEXPORT void JNICALL Java_A_f(JNIEnv *env, jclass cls, jintArray a) {
-- jint *p = (*env)->GetIntArrayElements(env, a, NULL);
-- if (p != NULL) {
-- (*env)->MonitorEnter(env, a);
-- jobject x = (*env)->NewLocalRef(env, a);
-- if ((*env)->PushLocalFrame(env, 2) == 0) {
-- jclass c = (*env)->FindClass(env, "java/lang/Exception");
-- jint r = (*env)->ThrowNew(env, c, "");
-- x = (*env)->PopLocalFrame(env, NULL);
-- }
-- p[0] = 5;
-- (*env)->ReleaseIntArrayElements(env, a, p, 0);
-- (*env)->DeleteLocalRef(env, x);
-- (*env)->MonitorExit(env, a);
-- put_jint(4);
-- }
-- return;
-- }
abbrev pub what_may_be_called_while_an_exception_is_pending : SourceUnit
what_may_be_called_while_an_exception_is_pending =
    unit_of
    (native 1 Void (codes "Java_A_f") (reference_parameter JIntArray (codes "a") ∷ [])
    (Plain 2 (Declare (Pointer JInt) (codes "p") (FromCall (call (codes "GetIntArrayElements") (given (codes "a") ∷ Value (Named Null) ∷ []))))
    ∷ If 3 (TestExpr (Binary NotEqual (Variable (codes "p")) (Named Null)))
    (block
    (Plain 4 (Perform (call (codes "MonitorEnter") (given (codes "a") ∷ [])))
    ∷ Plain 5 (Declare (Simple (ReferenceVariable JObject)) (codes "x") (FromCall (call (codes "NewLocalRef") (given (codes "a") ∷ []))))
    ∷ If 6 (TestCall (call (codes "PushLocalFrame") (Value (Number 2 false) ∷ [])))
    (block
    (Plain 7 (Declare (Simple (ReferenceVariable JClass)) (codes "c") (FromCall (call (codes "FindClass") (Text (codes "java/lang/Exception") ∷ []))))
    ∷ Plain 8 (Declare (Simple JIntVariable) (codes "r") (FromCall (call (codes "ThrowNew") (given (codes "c") ∷ Text [] ∷ []))))
    ∷ Plain 9 (Assign (codes "x") (FromCall (call (codes "PopLocalFrame") (Value (Named Null) ∷ []))))
    ∷ [])
    10)
    NoElse
    ∷ Plain 11 (AssignElement (codes "p") (Number 0 false) (Number 5 false))
    ∷ Plain 12 (Perform (call (codes "ReleaseIntArrayElements") (given (codes "a") ∷ given (codes "p") ∷ Value (Number 0 false) ∷ [])))
    ∷ Plain 13 (Perform (call (codes "DeleteLocalRef") (given (codes "x") ∷ [])))
    ∷ Plain 14 (Perform (call (codes "MonitorExit") (given (codes "a") ∷ [])))
    ∷ Plain 15 (PutJint (Number 4 false))
    ∷ [])
    16)
    NoElse
    ∷ Return 17 None
    ∷ [])
    18
    ∷ [])

abbrev what_may_be_called_while_an_exception_is_pending-lines : Lines
what_may_be_called_while_an_exception_is_pending-lines =
    (2, ClassLine (codes "A") None)
    ∷ (3, ArrayLine (codes "a") JInt (NumberValue (pos 1) ∷ []))
    ∷ (4, ThreadLine (codes "Java_A_f") (NamedObject (codes "a") ∷ []))
    ∷ []

abbrev what_may_be_called_while_an_exception_is_pending-world : World
what_may_be_called_while_an_exception_is_pending-world = world_of 1 512 what_may_be_called_while_an_exception_is_pending-lines

what_may_be_called_while_an_exception_is_pending-means : IsWorldText (codes "heap 512\nclass A\narray @a I 1\nthread Java_A_f @a\n") what_may_be_called_while_an_exception_is_pending-world
unfolding opened
what_may_be_called_while_an_exception_is_pending-means = world-text (codes "heap 512\nclass A\narray @a I 1\nthread Java_A_f @a\n") 512 false what_may_be_called_while_an_exception_is_pending-lines 1 refl refl refl refl refl

what_may_be_called_while_an_exception_is_pending-accepted : IsAccepted what_may_be_called_while_an_exception_is_pending
unfolding opened
what_may_be_called_while_an_exception_is_pending-accepted = accepted what_may_be_called_while_an_exception_is_pending refl refl refl

what_may_be_called_while_an_exception_is_pending-run : IsWorkedRun what_may_be_called_while_an_exception_is_pending (codes "heap 512\nclass A\narray @a I 1\nthread Java_A_f @a\n") (codes "1*24\n")
    (codes "T1 4\nT1 uncaught java/lang/Exception\n#46 [I 5\njournal 1 1 1 1 1 1 1 1 1 1 1 1 1 1 1 1 1 1 1 1 1 1 1\n")
unfolding opened
what_may_be_called_while_an_exception_is_pending-run = worked-run what_may_be_called_while_an_exception_is_pending what_may_be_called_while_an_exception_is_pending-world ((Turn 1, Some 24) ∷ []) [] what_may_be_called_while_an_exception_is_pending-accepted what_may_be_called_while_an_exception_is_pending-means refl refl refl refl

-- an uncaught exception ends all calls of its thread
-- JNIEXPORT void JNICALL Java_A_f(JNIEnv *env, jclass cls) {
-- jfieldID i = (*env)->GetFieldID(env, cls, "n", "I");
-- return;
-- }
abbrev pub an_uncaught_exception_ends_all_calls_of_its_thread : SourceUnit
an_uncaught_exception_ends_all_calls_of_its_thread =
    unit_of
    (native 1 Void (codes "Java_A_f") []
    (Plain 2 (Declare (Simple JFieldId) (codes "i") (FromCall (call (codes "GetFieldID") (given (codes "cls") ∷ Text (codes "n") ∷ Text (codes "I") ∷ []))))
    ∷ Return 3 None
    ∷ [])
    4
    ∷ [])

abbrev an_uncaught_exception_ends_all_calls_of_its_thread-lines : Lines
an_uncaught_exception_ends_all_calls_of_its_thread-lines =
    (2, ClassLine (codes "A") None)
    ∷ (3, ThreadLine (codes "Java_A_f") [])
    ∷ (4, CallLine (codes "Java_A_f") [])
    ∷ []

abbrev an_uncaught_exception_ends_all_calls_of_its_thread-world : World
an_uncaught_exception_ends_all_calls_of_its_thread-world = world_of 1 512 an_uncaught_exception_ends_all_calls_of_its_thread-lines

an_uncaught_exception_ends_all_calls_of_its_thread-means : IsWorldText (codes "heap 512\nclass A\nthread Java_A_f\ncall Java_A_f\n") an_uncaught_exception_ends_all_calls_of_its_thread-world
unfolding opened
an_uncaught_exception_ends_all_calls_of_its_thread-means = world-text (codes "heap 512\nclass A\nthread Java_A_f\ncall Java_A_f\n") 512 false an_uncaught_exception_ends_all_calls_of_its_thread-lines 1 refl refl refl refl refl

an_uncaught_exception_ends_all_calls_of_its_thread-accepted : IsAccepted an_uncaught_exception_ends_all_calls_of_its_thread
unfolding opened
an_uncaught_exception_ends_all_calls_of_its_thread-accepted = accepted an_uncaught_exception_ends_all_calls_of_its_thread refl refl refl

an_uncaught_exception_ends_all_calls_of_its_thread-run : IsWorkedRun an_uncaught_exception_ends_all_calls_of_its_thread (codes "heap 512\nclass A\nthread Java_A_f\ncall Java_A_f\n") (codes "1*4\n")
    (codes "T1 uncaught java/lang/NoSuchFieldError\njournal 1 1 1\n")
unfolding opened
an_uncaught_exception_ends_all_calls_of_its_thread-run = worked-run an_uncaught_exception_ends_all_calls_of_its_thread an_uncaught_exception_ends_all_calls_of_its_thread-world ((Turn 1, Some 4) ∷ []) [] an_uncaught_exception_ends_all_calls_of_its_thread-accepted an_uncaught_exception_ends_all_calls_of_its_thread-means refl refl refl refl

-- an object that cannot be thrown
-- JNIEXPORT void JNICALL Java_A_f(JNIEnv *env, jclass cls, jobject o) {
-- jint r = (*env)->Throw(env, o);
-- return;
-- }
abbrev pub an_object_that_cannot_be_thrown : SourceUnit
an_object_that_cannot_be_thrown =
    unit_of
    (native 1 Void (codes "Java_A_f") (reference_parameter JObject (codes "o") ∷ [])
    (Plain 2 (Declare (Simple JIntVariable) (codes "r") (FromCall (call (codes "Throw") (given (codes "o") ∷ []))))
    ∷ Return 3 None
    ∷ [])
    4
    ∷ [])

abbrev an_object_that_cannot_be_thrown-lines : Lines
an_object_that_cannot_be_thrown-lines =
    (2, ClassLine (codes "A") None)
    ∷ (3, ObjectLine (codes "o") (codes "A") [])
    ∷ (4, ThreadLine (codes "Java_A_f") (NamedObject (codes "o") ∷ []))
    ∷ []

abbrev an_object_that_cannot_be_thrown-world : World
an_object_that_cannot_be_thrown-world = world_of 1 512 an_object_that_cannot_be_thrown-lines

an_object_that_cannot_be_thrown-means : IsWorldText (codes "heap 512\nclass A\nobject @o A\nthread Java_A_f @o\n") an_object_that_cannot_be_thrown-world
unfolding opened
an_object_that_cannot_be_thrown-means = world-text (codes "heap 512\nclass A\nobject @o A\nthread Java_A_f @o\n") 512 false an_object_that_cannot_be_thrown-lines 1 refl refl refl refl refl

an_object_that_cannot_be_thrown-accepted : IsAccepted an_object_that_cannot_be_thrown
unfolding opened
an_object_that_cannot_be_thrown-accepted = accepted an_object_that_cannot_be_thrown refl refl refl

an_object_that_cannot_be_thrown-run : IsWorkedRun an_object_that_cannot_be_thrown (codes "heap 512\nclass A\nobject @o A\nthread Java_A_f @o\n") (codes "1*3\n")
    (codes "T1 trap 6 line 2\n#46 A\njournal 1 1\n")
unfolding opened
an_object_that_cannot_be_thrown-run = worked-run an_object_that_cannot_be_thrown an_object_that_cannot_be_thrown-world ((Turn 1, Some 3) ∷ []) [] an_object_that_cannot_be_thrown-accepted an_object_that_cannot_be_thrown-means refl refl refl refl

-- a class that cannot be thrown
-- JNIEXPORT void JNICALL Java_A_f(JNIEnv *env, jclass cls) {
-- jint r = (*env)->ThrowNew(env, cls, "no");
-- return;
-- }
abbrev pub a_class_that_cannot_be_thrown : SourceUnit
a_class_that_cannot_be_thrown =
    unit_of
    (native 1 Void (codes "Java_A_f") []
    (Plain 2 (Declare (Simple JIntVariable) (codes "r") (FromCall (call (codes "ThrowNew") (given (codes "cls") ∷ Text (codes "no") ∷ []))))
    ∷ Return 3 None
    ∷ [])
    4
    ∷ [])

a_class_that_cannot_be_thrown-accepted : IsAccepted a_class_that_cannot_be_thrown
unfolding opened
a_class_that_cannot_be_thrown-accepted = accepted a_class_that_cannot_be_thrown refl refl refl

a_class_that_cannot_be_thrown-run : IsWorkedRun a_class_that_cannot_be_thrown (codes "heap 512\nclass A\nthread Java_A_f\n") (codes "1*3\n")
    (codes "T1 trap 6 line 2\njournal 1 1\n")
unfolding opened
a_class_that_cannot_be_thrown-run = worked-run a_class_that_cannot_be_thrown an_exception_is_thrown_and_cleared-world ((Turn 1, Some 3) ∷ []) [] a_class_that_cannot_be_thrown-accepted an_exception_is_thrown_and_cleared-means refl refl refl refl

-- a class of the program that can be thrown
-- JNIEXPORT void JNICALL Java_A_f(JNIEnv *env, jclass cls, jclass b) {
-- jint r = (*env)->ThrowNew(env, b, "x");
-- return;
-- }
abbrev pub a_class_of_the_program_that_can_be_thrown : SourceUnit
a_class_of_the_program_that_can_be_thrown =
    unit_of
    (native 1 Void (codes "Java_A_f") (reference_parameter JClass (codes "b") ∷ [])
    (Plain 2 (Declare (Simple JIntVariable) (codes "r") (FromCall (call (codes "ThrowNew") (given (codes "b") ∷ Text (codes "x") ∷ []))))
    ∷ Return 3 None
    ∷ [])
    4
    ∷ [])

abbrev a_class_of_the_program_that_can_be_thrown-lines : Lines
a_class_of_the_program_that_can_be_thrown-lines =
    (2, ClassLine (codes "A") None)
    ∷ (3, ClassLine (codes "B") (Some (codes "java/lang/Throwable")))
    ∷ (4, FieldLine (codes "B") (codes "n") (codes "I"))
    ∷ (5, ThreadLine (codes "Java_A_f") (NamedClass (codes "B") ∷ []))
    ∷ []

abbrev a_class_of_the_program_that_can_be_thrown-world : World
a_class_of_the_program_that_can_be_thrown-world = world_of 1 512 a_class_of_the_program_that_can_be_thrown-lines

a_class_of_the_program_that_can_be_thrown-means : IsWorldText (codes "heap 512\nclass A\nclass B extends java/lang/Throwable\nfield B n I\nthread Java_A_f class:B\n") a_class_of_the_program_that_can_be_thrown-world
unfolding opened
a_class_of_the_program_that_can_be_thrown-means = world-text (codes "heap 512\nclass A\nclass B extends java/lang/Throwable\nfield B n I\nthread Java_A_f class:B\n") 512 false a_class_of_the_program_that_can_be_thrown-lines 1 refl refl refl refl refl

a_class_of_the_program_that_can_be_thrown-accepted : IsAccepted a_class_of_the_program_that_can_be_thrown
unfolding opened
a_class_of_the_program_that_can_be_thrown-accepted = accepted a_class_of_the_program_that_can_be_thrown refl refl refl

a_class_of_the_program_that_can_be_thrown-run : IsWorkedRun a_class_of_the_program_that_can_be_thrown (codes "heap 512\nclass A\nclass B extends java/lang/Throwable\nfield B n I\nthread Java_A_f class:B\n") (codes "1*2\n")
    (codes "T1 running\n#48 java/lang/String 120\n#49 B #48 0\njournal 1 1\n")
unfolding opened
a_class_of_the_program_that_can_be_thrown-run = worked-run a_class_of_the_program_that_can_be_thrown a_class_of_the_program_that_can_be_thrown-world ((Turn 1, Some 2) ∷ []) [] a_class_of_the_program_that_can_be_thrown-accepted a_class_of_the_program_that_can_be_thrown-means refl refl refl refl

-- an exception that replaces a pending one
-- JNIEXPORT void JNICALL Java_A_f(JNIEnv *env, jclass cls) {
-- jfieldID i = (*env)->GetFieldID(env, cls, "n", "I");
-- (*env)->MonitorExit(env, cls);
-- jthrowable t = (*env)->ExceptionOccurred(env);
-- (*env)->ExceptionClear(env);
-- return;
-- }
abbrev pub an_exception_that_replaces_a_pending_one : SourceUnit
an_exception_that_replaces_a_pending_one =
    unit_of
    (native 1 Void (codes "Java_A_f") []
    (Plain 2 (Declare (Simple JFieldId) (codes "i") (FromCall (call (codes "GetFieldID") (given (codes "cls") ∷ Text (codes "n") ∷ Text (codes "I") ∷ []))))
    ∷ Plain 3 (Perform (call (codes "MonitorExit") (given (codes "cls") ∷ [])))
    ∷ Plain 4 (Declare (Simple (ReferenceVariable JThrowable)) (codes "t") (FromCall (call (codes "ExceptionOccurred") [])))
    ∷ Plain 5 (Perform (call (codes "ExceptionClear") []))
    ∷ Return 6 None
    ∷ [])
    7
    ∷ [])

an_exception_that_replaces_a_pending_one-accepted : IsAccepted an_exception_that_replaces_a_pending_one
unfolding opened
an_exception_that_replaces_a_pending_one-accepted = accepted an_exception_that_replaces_a_pending_one refl refl refl

an_exception_that_replaces_a_pending_one-run : IsWorkedRun an_exception_that_replaces_a_pending_one (codes "heap 512\nclass A\nthread Java_A_f\n") (codes "1*5\n")
    (codes "T1 running\n#47 java/lang/IllegalMonitorStateException null\njournal 1 1 1 1 1\n")
unfolding opened
an_exception_that_replaces_a_pending_one-run = worked-run an_exception_that_replaces_a_pending_one an_exception_is_thrown_and_cleared-world ((Turn 1, Some 5) ∷ []) [] an_exception_that_replaces_a_pending_one-accepted an_exception_is_thrown_and_cleared-means refl refl refl refl
