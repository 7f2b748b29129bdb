-- The cases of texts/references.cases, as gate/worked_equations writes them.
use Rattle.std.specs.Prelude.{◌∷◌, true, false, [], Some, None, codes, refl}
use Rattle.syntax.specs.declared.declared_type.ReferenceType.TheVariants.{Object as JObject, Class as JClass, Throwable as JThrowable}
use Rattle.syntax.specs.declared.declared_type.VariableType.TheVariants.{Jboolean as JBoolean, Reference as ReferenceVariable}
use Rattle.syntax.specs.declared.declared_type.DeclaredType.TheVariants.{Simple}
use Rattle.syntax.specs.declared.unit.ResultType.TheVariants.{Void, Reference as ReferenceResult}
use Rattle.syntax.specs.declared.expr.Constant.TheVariants.{Null}
use Rattle.syntax.specs.declared.expr.PrefixOp.TheVariants.{Complement, ToInt}
use Rattle.syntax.specs.declared.expr.BinaryOp.TheVariants.{Equal, NotEqual}
use Rattle.syntax.specs.Tree.{Number, Named, Variable, Prefix, Binary, Value, Text, FromExpr, FromCall, TestExpr, TestCall, Declare, Assign, Perform, PutJint, Plain, If, NoElse, ElseBlock, Return, SourceUnit}
use Rattle.semantics.specs.declared.schedule.ScheduleWord.TheVariants.{Turn}
use Rattle.semantics.specs.World.{World}
use Rattle.world_values.specs.WorldLines.{ClassLine, ThreadLine, CallLine, Lines}
use Rattle.world_values.specs.WorldMeaning.{world_of}
use Rattle.world_values.specs.WorldRules.{IsWorldText}
use Rattle.test_equations.specs.Claims.{IsAccepted, IsWorkedRun}
use Rattle.test_equations.proofs.Programs.{unit_of, native, block, static_reference, call, given}
use Rattle.test_equations.proofs.Computed.{opened, accepted, world-text, worked-run}

-- references to null
-- static jobject g = NULL;
-- JNIEXPORT void JNICALL Java_A_f(JNIEnv *env, jclass cls) {
-- jobject x = (*env)->NewLocalRef(env, NULL);
-- jboolean b = (*env)->IsSameObject(env, x, NULL);
-- put_jint((jint)b);
-- (*env)->DeleteLocalRef(env, x);
-- g = (*env)->NewGlobalRef(env, NULL);
-- if (g == NULL) { put_jint(2); }
-- (*env)->DeleteGlobalRef(env, g);
-- return;
-- }
abbrev pub references_to_null : SourceUnit
references_to_null =
    unit_of
    (static_reference 1 JObject (codes "g")
    ∷ native 2 Void (codes "Java_A_f") []
    (Plain 3 (Declare (Simple (ReferenceVariable JObject)) (codes "x") (FromCall (call (codes "NewLocalRef") (Value (Named Null) ∷ []))))
    ∷ Plain 4 (Declare (Simple JBoolean) (codes "b") (FromCall (call (codes "IsSameObject") (given (codes "x") ∷ Value (Named Null) ∷ []))))
    ∷ Plain 5 (PutJint (Prefix ToInt (Variable (codes "b"))))
    ∷ Plain 6 (Perform (call (codes "DeleteLocalRef") (given (codes "x") ∷ [])))
    ∷ Plain 7 (Assign (codes "g") (FromCall (call (codes "NewGlobalRef") (Value (Named Null) ∷ []))))
    ∷ If 8 (TestExpr (Binary Equal (Variable (codes "g")) (Named Null)))
    (block
    (Plain 8 (PutJint (Number 2 false))
    ∷ [])
    8)
    NoElse
    ∷ Plain 9 (Perform (call (codes "DeleteGlobalRef") (given (codes "g") ∷ [])))
    ∷ Return 10 None
    ∷ [])
    11
    ∷ [])

abbrev references_to_null-lines : Lines
references_to_null-lines =
    (2, ClassLine (codes "A") None)
    ∷ (3, ThreadLine (codes "Java_A_f") [])
    ∷ []

abbrev references_to_null-world : World
references_to_null-world = world_of 1 512 references_to_null-lines

references_to_null-means : IsWorldText (codes "heap 512\nclass A\nthread Java_A_f\n") references_to_null-world
unfolding opened
references_to_null-means = world-text (codes "heap 512\nclass A\nthread Java_A_f\n") 512 false references_to_null-lines 1 refl refl refl refl refl

references_to_null-accepted : IsAccepted references_to_null
unfolding opened
references_to_null-accepted = accepted references_to_null refl refl refl

references_to_null-run : IsWorkedRun references_to_null (codes "heap 512\nclass A\nthread Java_A_f\n") (codes "1*16\n")
    (codes "T1 1\nT1 2\nT1 ended\njournal 1 1 1 1 1 1 1 1 1 1 1 1 1 1 1\n")
unfolding opened
references_to_null-run = worked-run references_to_null references_to_null-world ((Turn 1, Some 16) ∷ []) [] references_to_null-accepted references_to_null-means refl refl refl refl

-- a deleted reference makes room
-- JNIEXPORT void JNICALL Java_A_f(JNIEnv *env, jclass cls) {
-- if ((*env)->PushLocalFrame(env, 1) == 0) {
-- jobject x = (*env)->NewLocalRef(env, cls);
-- (*env)->DeleteLocalRef(env, x);
-- jobject y = (*env)->NewLocalRef(env, cls);
-- jobject z = (*env)->NewLocalRef(env, cls);
-- (*env)->PopLocalFrame(env, NULL);
-- }
-- return;
-- }
abbrev pub a_deleted_reference_makes_room : SourceUnit
a_deleted_reference_makes_room =
    unit_of
    (native 1 Void (codes "Java_A_f") []
    (If 2 (TestCall (call (codes "PushLocalFrame") (Value (Number 1 false) ∷ [])))
    (block
    (Plain 3 (Declare (Simple (ReferenceVariable JObject)) (codes "x") (FromCall (call (codes "NewLocalRef") (given (codes "cls") ∷ []))))
    ∷ Plain 4 (Perform (call (codes "DeleteLocalRef") (given (codes "x") ∷ [])))
    ∷ Plain 5 (Declare (Simple (ReferenceVariable JObject)) (codes "y") (FromCall (call (codes "NewLocalRef") (given (codes "cls") ∷ []))))
    ∷ Plain 6 (Declare (Simple (ReferenceVariable JObject)) (codes "z") (FromCall (call (codes "NewLocalRef") (given (codes "cls") ∷ []))))
    ∷ Plain 7 (Perform (call (codes "PopLocalFrame") (Value (Named Null) ∷ [])))
    ∷ [])
    8)
    NoElse
    ∷ Return 9 None
    ∷ [])
    10
    ∷ [])

a_deleted_reference_makes_room-accepted : IsAccepted a_deleted_reference_makes_room
unfolding opened
a_deleted_reference_makes_room-accepted = accepted a_deleted_reference_makes_room refl refl refl

a_deleted_reference_makes_room-run : IsWorkedRun a_deleted_reference_makes_room (codes "heap 512\nclass A\nthread Java_A_f\n") (codes "1*9\n")
    (codes "T1 trap 8 line 6\njournal 1 1 1 1 1 1 1 1\n")
unfolding opened
a_deleted_reference_makes_room-run = worked-run a_deleted_reference_makes_room references_to_null-world ((Turn 1, Some 9) ∷ []) [] a_deleted_reference_makes_room-accepted references_to_null-means refl refl refl refl

-- a global reference keeps an object between calls
-- static jobject g = NULL;
-- JNIEXPORT void JNICALL Java_A_f(JNIEnv *env, jclass cls) {
-- jobject x = (*env)->AllocObject(env, cls);
-- g = (*env)->NewGlobalRef(env, x);
-- return;
-- }
-- JNIEXPORT jobject JNICALL Java_A_g(JNIEnv *env, jclass cls) {
-- jobject y = (*env)->NewLocalRef(env, g);
-- if (y != NULL) { put_jint(1); }
-- return y;
-- }
abbrev pub a_global_reference_keeps_an_object_between_calls : SourceUnit
a_global_reference_keeps_an_object_between_calls =
    unit_of
    (static_reference 1 JObject (codes "g")
    ∷ native 2 Void (codes "Java_A_f") []
    (Plain 3 (Declare (Simple (ReferenceVariable JObject)) (codes "x") (FromCall (call (codes "AllocObject") (given (codes "cls") ∷ []))))
    ∷ Plain 4 (Assign (codes "g") (FromCall (call (codes "NewGlobalRef") (given (codes "x") ∷ []))))
    ∷ Return 5 None
    ∷ [])
    6
    ∷ native 7 (ReferenceResult JObject) (codes "Java_A_g") []
    (Plain 8 (Declare (Simple (ReferenceVariable JObject)) (codes "y") (FromCall (call (codes "NewLocalRef") (given (codes "g") ∷ []))))
    ∷ If 9 (TestExpr (Binary NotEqual (Variable (codes "y")) (Named Null)))
    (block
    (Plain 9 (PutJint (Number 1 false))
    ∷ [])
    9)
    NoElse
    ∷ Return 10 (Some (Variable (codes "y")))
    ∷ [])
    11
    ∷ [])

abbrev a_global_reference_keeps_an_object_between_calls-lines : Lines
a_global_reference_keeps_an_object_between_calls-lines =
    (2, ClassLine (codes "A") None)
    ∷ (3, ThreadLine (codes "Java_A_f") [])
    ∷ (4, CallLine (codes "Java_A_g") [])
    ∷ []

abbrev a_global_reference_keeps_an_object_between_calls-world : World
a_global_reference_keeps_an_object_between_calls-world = world_of 1 512 a_global_reference_keeps_an_object_between_calls-lines

a_global_reference_keeps_an_object_between_calls-means : IsWorldText (codes "heap 512\nclass A\nthread Java_A_f\ncall Java_A_g\n") a_global_reference_keeps_an_object_between_calls-world
unfolding opened
a_global_reference_keeps_an_object_between_calls-means = world-text (codes "heap 512\nclass A\nthread Java_A_f\ncall Java_A_g\n") 512 false a_global_reference_keeps_an_object_between_calls-lines 1 refl refl refl refl refl

a_global_reference_keeps_an_object_between_calls-accepted : IsAccepted a_global_reference_keeps_an_object_between_calls
unfolding opened
a_global_reference_keeps_an_object_between_calls-accepted = accepted a_global_reference_keeps_an_object_between_calls refl refl refl

a_global_reference_keeps_an_object_between_calls-run : IsWorkedRun a_global_reference_keeps_an_object_between_calls (codes "heap 512\nclass A\nthread Java_A_f\ncall Java_A_g\n") (codes "1*13\n")
    (codes "T1 1\nT1 ended\n#46 A\njournal 1 1 1 1 1 1 1 1 1 1 1 1\n")
unfolding opened
a_global_reference_keeps_an_object_between_calls-run = worked-run a_global_reference_keeps_an_object_between_calls a_global_reference_keeps_an_object_between_calls-world ((Turn 1, Some 13) ∷ []) [] a_global_reference_keeps_an_object_between_calls-accepted a_global_reference_keeps_an_object_between_calls-means refl refl refl refl

-- a static holds null until it is set
-- static jobject g = NULL;
-- JNIEXPORT void JNICALL Java_A_f(JNIEnv *env, jclass cls) {
-- if (g == NULL) { put_jint(1); } else { put_jint(2); }
-- return;
-- }
-- JNIEXPORT void JNICALL Java_A_g(JNIEnv *env, jclass cls) {
-- g = (*env)->NewGlobalRef(env, cls);
-- return;
-- }
abbrev pub a_static_holds_null_until_it_is_set : SourceUnit
a_static_holds_null_until_it_is_set =
    unit_of
    (static_reference 1 JObject (codes "g")
    ∷ native 2 Void (codes "Java_A_f") []
    (If 3 (TestExpr (Binary Equal (Variable (codes "g")) (Named Null)))
    (block
    (Plain 3 (PutJint (Number 1 false))
    ∷ [])
    3)
    (ElseBlock (block
    (Plain 3 (PutJint (Number 2 false))
    ∷ [])
    3))
    ∷ Return 4 None
    ∷ [])
    5
    ∷ native 6 Void (codes "Java_A_g") []
    (Plain 7 (Assign (codes "g") (FromCall (call (codes "NewGlobalRef") (given (codes "cls") ∷ []))))
    ∷ Return 8 None
    ∷ [])
    9
    ∷ [])

abbrev a_static_holds_null_until_it_is_set-lines : Lines
a_static_holds_null_until_it_is_set-lines =
    (2, ClassLine (codes "A") None)
    ∷ (3, ThreadLine (codes "Java_A_f") [])
    ∷ (4, CallLine (codes "Java_A_f") [])
    ∷ (5, ThreadLine (codes "Java_A_g") [])
    ∷ []

abbrev a_static_holds_null_until_it_is_set-world : World
a_static_holds_null_until_it_is_set-world = world_of 1 512 a_static_holds_null_until_it_is_set-lines

a_static_holds_null_until_it_is_set-means : IsWorldText (codes "heap 512\nclass A\nthread Java_A_f\ncall Java_A_f\nthread Java_A_g\n") a_static_holds_null_until_it_is_set-world
unfolding opened
a_static_holds_null_until_it_is_set-means = world-text (codes "heap 512\nclass A\nthread Java_A_f\ncall Java_A_f\nthread Java_A_g\n") 512 false a_static_holds_null_until_it_is_set-lines 1 refl refl refl refl refl

a_static_holds_null_until_it_is_set-accepted : IsAccepted a_static_holds_null_until_it_is_set
unfolding opened
a_static_holds_null_until_it_is_set-accepted = accepted a_static_holds_null_until_it_is_set refl refl refl

a_static_holds_null_until_it_is_set-run : IsWorkedRun a_static_holds_null_until_it_is_set (codes "heap 512\nclass A\nthread Java_A_f\ncall Java_A_f\nthread Java_A_g\n") (codes "1*6 2*3 1*6\n")
    (codes "T1 1\nT1 2\nT1 running\nT2 ended\njournal 1 1 1 1 1 1 2 2 2 1 1 1 1 1 1\n")
unfolding opened
a_static_holds_null_until_it_is_set-run = worked-run a_static_holds_null_until_it_is_set a_static_holds_null_until_it_is_set-world ((Turn 1, Some 6) ∷ (Turn 2, Some 3) ∷ (Turn 1, Some 6) ∷ []) [] a_static_holds_null_until_it_is_set-accepted a_static_holds_null_until_it_is_set-means refl refl refl refl

-- a frame within a frame
-- JNIEXPORT void JNICALL Java_A_f(JNIEnv *env, jclass cls) {
-- jobject x = NULL;
-- if ((*env)->PushLocalFrame(env, 2) == 0) {
-- jobject y = (*env)->AllocObject(env, cls);
-- if ((*env)->PushLocalFrame(env, 1) == 0) {
-- jobject z = (*env)->AllocObject(env, cls);
-- (*env)->PopLocalFrame(env, NULL);
-- }
-- x = (*env)->PopLocalFrame(env, y);
-- }
-- return;
-- }
abbrev pub a_frame_within_a_frame : SourceUnit
a_frame_within_a_frame =
    unit_of
    (native 1 Void (codes "Java_A_f") []
    (Plain 2 (Declare (Simple (ReferenceVariable JObject)) (codes "x") (FromExpr (Named Null)))
    ∷ If 3 (TestCall (call (codes "PushLocalFrame") (Value (Number 2 false) ∷ [])))
    (block
    (Plain 4 (Declare (Simple (ReferenceVariable JObject)) (codes "y") (FromCall (call (codes "AllocObject") (given (codes "cls") ∷ []))))
    ∷ If 5 (TestCall (call (codes "PushLocalFrame") (Value (Number 1 false) ∷ [])))
    (block
    (Plain 6 (Declare (Simple (ReferenceVariable JObject)) (codes "z") (FromCall (call (codes "AllocObject") (given (codes "cls") ∷ []))))
    ∷ Plain 7 (Perform (call (codes "PopLocalFrame") (Value (Named Null) ∷ [])))
    ∷ [])
    8)
    NoElse
    ∷ Plain 9 (Assign (codes "x") (FromCall (call (codes "PopLocalFrame") (given (codes "y") ∷ []))))
    ∷ [])
    10)
    NoElse
    ∷ Return 11 None
    ∷ [])
    12
    ∷ [])

a_frame_within_a_frame-accepted : IsAccepted a_frame_within_a_frame
unfolding opened
a_frame_within_a_frame-accepted = accepted a_frame_within_a_frame refl refl refl

a_frame_within_a_frame-run : IsWorkedRun a_frame_within_a_frame (codes "heap 512\nclass A\nthread Java_A_f\n") (codes "1*16\n")
    (codes "T1 ended\njournal 1 1 1 1 1 1 1 1 1 1 1 1 1 1 1\n")
unfolding opened
a_frame_within_a_frame-run = worked-run a_frame_within_a_frame references_to_null-world ((Turn 1, Some 16) ∷ []) [] a_frame_within_a_frame-accepted references_to_null-means refl refl refl refl

-- the frame below has no room
-- JNIEXPORT void JNICALL Java_A_f(JNIEnv *env, jclass cls) {
-- if ((*env)->PushLocalFrame(env, 0) == 0) {
-- if ((*env)->PushLocalFrame(env, 1) == 0) { (*env)->PopLocalFrame(env, NULL); }
-- (*env)->PopLocalFrame(env, NULL);
-- }
-- return;
-- }
abbrev pub the_frame_below_has_no_room : SourceUnit
the_frame_below_has_no_room =
    unit_of
    (native 1 Void (codes "Java_A_f") []
    (If 2 (TestCall (call (codes "PushLocalFrame") (Value (Number 0 false) ∷ [])))
    (block
    (If 3 (TestCall (call (codes "PushLocalFrame") (Value (Number 1 false) ∷ [])))
    (block
    (Plain 3 (Perform (call (codes "PopLocalFrame") (Value (Named Null) ∷ [])))
    ∷ [])
    3)
    NoElse
    ∷ Plain 4 (Perform (call (codes "PopLocalFrame") (Value (Named Null) ∷ [])))
    ∷ [])
    5)
    NoElse
    ∷ Return 6 None
    ∷ [])
    7
    ∷ [])

the_frame_below_has_no_room-accepted : IsAccepted the_frame_below_has_no_room
unfolding opened
the_frame_below_has_no_room-accepted = accepted the_frame_below_has_no_room refl refl refl

the_frame_below_has_no_room-run : IsWorkedRun the_frame_below_has_no_room (codes "heap 512\nclass A\nthread Java_A_f\n") (codes "1*9\n")
    (codes "T1 trap 8 line 3\njournal 1 1 1 1 1 1 1 1\n")
unfolding opened
the_frame_below_has_no_room-run = worked-run the_frame_below_has_no_room references_to_null-world ((Turn 1, Some 9) ∷ []) [] the_frame_below_has_no_room-accepted references_to_null-means refl refl refl refl

-- a frame that cannot be had
-- JNIEXPORT void JNICALL Java_A_f(JNIEnv *env, jclass cls) {
-- if ((*env)->PushLocalFrame(env, (jint)~0u) == 0) { (*env)->PopLocalFrame(env, NULL); } else { put_jint(1); }
-- jthrowable t = (*env)->ExceptionOccurred(env);
-- (*env)->ExceptionClear(env);
-- jclass c = (*env)->GetObjectClass(env, t);
-- jclass d = (*env)->FindClass(env, "java/lang/OutOfMemoryError");
-- jboolean same = (*env)->IsSameObject(env, c, d);
-- put_jint((jint)same);
-- return;
-- }
abbrev pub a_frame_that_cannot_be_had : SourceUnit
a_frame_that_cannot_be_had =
    unit_of
    (native 1 Void (codes "Java_A_f") []
    (If 2 (TestCall (call (codes "PushLocalFrame") (Value (Prefix ToInt (Prefix Complement (Number 0 true))) ∷ [])))
    (block
    (Plain 2 (Perform (call (codes "PopLocalFrame") (Value (Named Null) ∷ [])))
    ∷ [])
    2)
    (ElseBlock (block
    (Plain 2 (PutJint (Number 1 false))
    ∷ [])
    2))
    ∷ Plain 3 (Declare (Simple (ReferenceVariable JThrowable)) (codes "t") (FromCall (call (codes "ExceptionOccurred") [])))
    ∷ Plain 4 (Perform (call (codes "ExceptionClear") []))
    ∷ Plain 5 (Declare (Simple (ReferenceVariable JClass)) (codes "c") (FromCall (call (codes "GetObjectClass") (given (codes "t") ∷ []))))
    ∷ Plain 6 (Declare (Simple (ReferenceVariable JClass)) (codes "d") (FromCall (call (codes "FindClass") (Text (codes "java/lang/OutOfMemoryError") ∷ []))))
    ∷ Plain 7 (Declare (Simple JBoolean) (codes "same") (FromCall (call (codes "IsSameObject") (given (codes "c") ∷ given (codes "d") ∷ []))))
    ∷ Plain 8 (PutJint (Prefix ToInt (Variable (codes "same"))))
    ∷ Return 9 None
    ∷ [])
    10
    ∷ [])

a_frame_that_cannot_be_had-accepted : IsAccepted a_frame_that_cannot_be_had
unfolding opened
a_frame_that_cannot_be_had-accepted = accepted a_frame_that_cannot_be_had refl refl refl

a_frame_that_cannot_be_had-run : IsWorkedRun a_frame_that_cannot_be_had (codes "heap 512\nclass A\nthread Java_A_f\n") (codes "1*19\n")
    (codes "T1 1\nT1 1\nT1 ended\njournal 1 1 1 1 1 1 1 1 1 1 1 1 1 1 1 1 1 1\n")
unfolding opened
a_frame_that_cannot_be_had-run = worked-run a_frame_that_cannot_be_had references_to_null-world ((Turn 1, Some 19) ∷ []) [] a_frame_that_cannot_be_had-accepted references_to_null-means refl refl refl refl
