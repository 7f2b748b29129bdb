-- The cases of texts/memory.cases, as gate/worked_equations writes them.
use Rattle.std.specs.Prelude.{◌∷◌, ◌++◌, true, false, [], Some, None, codes, refl, replicate}
use Rattle.syntax.specs.declared.declared_type.ReferenceType.TheVariants.{Class as JClass, Throwable as JThrowable, IntArray as JIntArray}
use Rattle.syntax.specs.declared.declared_type.VariableType.TheVariants.{Jint as JIntVariable, Jboolean as JBoolean, Reference as ReferenceVariable}
use Rattle.syntax.specs.declared.declared_type.DeclaredType.TheVariants.{Simple}
use Rattle.syntax.specs.declared.unit.ResultType.TheVariants.{Void}
use Rattle.syntax.specs.declared.expr.Constant.TheVariants.{Null}
use Rattle.syntax.specs.declared.expr.PrefixOp.TheVariants.{ToInt}
use Rattle.syntax.specs.declared.expr.BinaryOp.TheVariants.{Equal}
use Rattle.syntax.specs.Tree.{Number, Named, Variable, Prefix, Binary, Value, Text, FromCall, TestExpr, Declare, Perform, PutJint, Plain, If, NoElse, Return, SourceUnit}
use Rattle.semantics.specs.declared.schedule.ScheduleWord.TheVariants.{Turn}
use Rattle.semantics.specs.World.{World}
use Rattle.world_values.specs.WorldLines.{ClassLine, ThreadLine, Lines}
use Rattle.world_values.specs.WorldMeaning.{world_of}
use Rattle.world_values.specs.WorldRules.{IsWorldText}
use Rattle.test_equations.specs.Claims.{IsAccepted, IsWorkedRun}
use Rattle.test_equations.proofs.Programs.{unit_of, native, block, call, given}
use Rattle.test_equations.proofs.Computed.{opened, accepted, world-text, Alone, worked-run}

-- an exception object that has no room
-- JNIEXPORT void JNICALL Java_A_f(JNIEnv *env, jclass cls) {
-- jintArray a = (*env)->NewIntArray(env, 373);
-- jclass c = (*env)->FindClass(env, "B");
-- jthrowable t = (*env)->ExceptionOccurred(env);
-- (*env)->ExceptionClear(env);
-- jboolean same = (*env)->IsInstanceOf(env, t, cls);
-- put_jint((jint)same);
-- return;
-- }
abbrev pub an_exception_object_that_has_no_room : SourceUnit
an_exception_object_that_has_no_room =
    unit_of
    (native 1 Void (codes "Java_A_f") []
    (Plain 2 (Declare (Simple (ReferenceVariable JIntArray)) (codes "a") (FromCall (call (codes "NewIntArray") (Value (Number 373 false) ∷ []))))
    ∷ Plain 3 (Declare (Simple (ReferenceVariable JClass)) (codes "c") (FromCall (call (codes "FindClass") (Text (codes "B") ∷ []))))
    ∷ Plain 4 (Declare (Simple (ReferenceVariable JThrowable)) (codes "t") (FromCall (call (codes "ExceptionOccurred") [])))
    ∷ Plain 5 (Perform (call (codes "ExceptionClear") []))
    ∷ Plain 6 (Declare (Simple JBoolean) (codes "same") (FromCall (call (codes "IsInstanceOf") (given (codes "t") ∷ given (codes "cls") ∷ []))))
    ∷ Plain 7 (PutJint (Prefix ToInt (Variable (codes "same"))))
    ∷ Return 8 None
    ∷ [])
    9
    ∷ [])

abbrev an_exception_object_that_has_no_room-lines : Lines
an_exception_object_that_has_no_room-lines =
    (2, ClassLine (codes "A") None)
    ∷ (3, ThreadLine (codes "Java_A_f") [])
    ∷ []

abbrev an_exception_object_that_has_no_room-world : World
an_exception_object_that_has_no_room-world = world_of 1 512 an_exception_object_that_has_no_room-lines

an_exception_object_that_has_no_room-means : IsWorldText (codes "heap 512\nclass A\nthread Java_A_f\n") an_exception_object_that_has_no_room-world
unfolding opened
an_exception_object_that_has_no_room-means = world-text (codes "heap 512\nclass A\nthread Java_A_f\n") 512 false an_exception_object_that_has_no_room-lines 1 refl refl refl refl refl

an_exception_object_that_has_no_room-accepted : IsAccepted an_exception_object_that_has_no_room
unfolding opened
an_exception_object_that_has_no_room-accepted = accepted an_exception_object_that_has_no_room refl refl refl

an_exception_object_that_has_no_room-run : IsWorkedRun an_exception_object_that_has_no_room (codes "heap 512\nclass A\nthread Java_A_f\n") (codes "1*12\n")
    (codes "T1 0\nT1 ended\njournal 1 1 1 1! 1 1 1 1 1 1 1\n")
unfolding opened
an_exception_object_that_has_no_room-run = worked-run an_exception_object_that_has_no_room an_exception_object_that_has_no_room-world ((Turn 1, Some 12) ∷ []) (replicate 3 (Alone false) ++ Alone true ∷ []) an_exception_object_that_has_no_room-accepted an_exception_object_that_has_no_room-means refl refl refl refl

-- a message and its exception are made both or neither
-- JNIEXPORT void JNICALL Java_A_f(JNIEnv *env, jclass cls) {
-- jintArray a = (*env)->NewIntArray(env, 368);
-- jclass c = (*env)->FindClass(env, "java/lang/Error");
-- jint r = (*env)->ThrowNew(env, c, "x");
-- (*env)->ExceptionClear(env);
-- put_jint(r);
-- return;
-- }
abbrev pub a_message_and_its_exception_are_made_both_or_neither : SourceUnit
a_message_and_its_exception_are_made_both_or_neither =
    unit_of
    (native 1 Void (codes "Java_A_f") []
    (Plain 2 (Declare (Simple (ReferenceVariable JIntArray)) (codes "a") (FromCall (call (codes "NewIntArray") (Value (Number 368 false) ∷ []))))
    ∷ Plain 3 (Declare (Simple (ReferenceVariable JClass)) (codes "c") (FromCall (call (codes "FindClass") (Text (codes "java/lang/Error") ∷ []))))
    ∷ Plain 4 (Declare (Simple JIntVariable) (codes "r") (FromCall (call (codes "ThrowNew") (given (codes "c") ∷ Text (codes "x") ∷ []))))
    ∷ Plain 5 (Perform (call (codes "ExceptionClear") []))
    ∷ Plain 6 (PutJint (Variable (codes "r")))
    ∷ Return 7 None
    ∷ [])
    8
    ∷ [])

a_message_and_its_exception_are_made_both_or_neither-accepted : IsAccepted a_message_and_its_exception_are_made_both_or_neither
unfolding opened
a_message_and_its_exception_are_made_both_or_neither-accepted = accepted a_message_and_its_exception_are_made_both_or_neither refl refl refl

a_message_and_its_exception_are_made_both_or_neither-run : IsWorkedRun a_message_and_its_exception_are_made_both_or_neither (codes "heap 512\nclass A\nthread Java_A_f\n") (codes "1*10\n")
    (codes "T1 -1\nT1 ended\njournal 1 1 1 1 1! 1 1 1 1\n")
unfolding opened
a_message_and_its_exception_are_made_both_or_neither-run = worked-run a_message_and_its_exception_are_made_both_or_neither an_exception_object_that_has_no_room-world ((Turn 1, Some 10) ∷ []) (replicate 4 (Alone false) ++ Alone true ∷ []) a_message_and_its_exception_are_made_both_or_neither-accepted an_exception_object_that_has_no_room-means refl refl refl refl

-- room after a reference is deleted
-- JNIEXPORT void JNICALL Java_A_f(JNIEnv *env, jclass cls) {
-- jintArray a = (*env)->NewIntArray(env, 300);
-- jintArray b = (*env)->NewIntArray(env, 100);
-- if (b == NULL) { (*env)->ExceptionClear(env); }
-- (*env)->DeleteLocalRef(env, a);
-- jintArray c = (*env)->NewIntArray(env, 100);
-- jint n = (*env)->GetArrayLength(env, c);
-- put_jint(n);
-- return;
-- }
abbrev pub room_after_a_reference_is_deleted : SourceUnit
room_after_a_reference_is_deleted =
    unit_of
    (native 1 Void (codes "Java_A_f") []
    (Plain 2 (Declare (Simple (ReferenceVariable JIntArray)) (codes "a") (FromCall (call (codes "NewIntArray") (Value (Number 300 false) ∷ []))))
    ∷ Plain 3 (Declare (Simple (ReferenceVariable JIntArray)) (codes "b") (FromCall (call (codes "NewIntArray") (Value (Number 100 false) ∷ []))))
    ∷ If 4 (TestExpr (Binary Equal (Variable (codes "b")) (Named Null)))
    (block
    (Plain 4 (Perform (call (codes "ExceptionClear") []))
    ∷ [])
    4)
    NoElse
    ∷ Plain 5 (Perform (call (codes "DeleteLocalRef") (given (codes "a") ∷ [])))
    ∷ Plain 6 (Declare (Simple (ReferenceVariable JIntArray)) (codes "c") (FromCall (call (codes "NewIntArray") (Value (Number 100 false) ∷ []))))
    ∷ Plain 7 (Declare (Simple JIntVariable) (codes "n") (FromCall (call (codes "GetArrayLength") (given (codes "c") ∷ []))))
    ∷ Plain 8 (PutJint (Variable (codes "n")))
    ∷ Return 9 None
    ∷ [])
    10
    ∷ [])

room_after_a_reference_is_deleted-accepted : IsAccepted room_after_a_reference_is_deleted
unfolding opened
room_after_a_reference_is_deleted-accepted = accepted room_after_a_reference_is_deleted refl refl refl

room_after_a_reference_is_deleted-run : IsWorkedRun room_after_a_reference_is_deleted (codes "heap 512\nclass A\nthread Java_A_f\n") (codes "1*17\n")
    (codes "T1 100\nT1 ended\njournal 1 1 1 1 1! 1 1 1 1 1 1 1 1 1 1 1\n")
unfolding opened
room_after_a_reference_is_deleted-run = worked-run room_after_a_reference_is_deleted an_exception_object_that_has_no_room-world ((Turn 1, Some 17) ∷ []) (replicate 4 (Alone false) ++ Alone true ∷ []) room_after_a_reference_is_deleted-accepted an_exception_object_that_has_no_room-means refl refl refl refl
