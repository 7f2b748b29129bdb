-- The cases of texts/method_calls.cases, as gate/worked_equations writes them.
use Rattle.std.specs.Prelude.{◌∷◌, true, false, [], Some, None, codes, refl}
use Rattle.syntax.specs.declared.declared_type.ReferenceType.TheVariants.{Object as JObject, Class as JClass}
use Rattle.syntax.specs.declared.declared_type.VariableType.TheVariants.{Jint as JIntVariable, Jboolean as JBoolean, JmethodId as JMethodId, Reference as ReferenceVariable}
use Rattle.syntax.specs.declared.declared_type.DeclaredType.TheVariants.{Simple}
use Rattle.syntax.specs.declared.unit.ResultType.TheVariants.{Void, Jint as IntResult, Reference as ReferenceResult}
use Rattle.syntax.specs.declared.expr.PrefixOp.TheVariants.{ToInt}
use Rattle.syntax.specs.Tree.{Number, Variable, Prefix, Value, Text, FromCall, Declare, Assign, Perform, PutJint, Plain, Return, SourceUnit}
use Rattle.semantics.specs.declared.schedule.ScheduleWord.TheVariants.{Turn}
use Rattle.semantics.specs.World.{World}
use Rattle.world_values.specs.WorldLines.{MethodsLine, ClassLine, ThreadLine, Lines}
use Rattle.world_values.specs.WorldMeaning.{world_of}
use Rattle.world_values.specs.WorldRules.{IsWorldText}
use Rattle.test_equations.specs.Claims.{IsAccepted, IsWorkedRun}
use Rattle.test_equations.proofs.Programs.{unit_of, native, static_reference, reference_parameter, int_parameter, call, given}
use Rattle.test_equations.proofs.Computed.{opened, accepted, world-text, worked-run}

-- a number is passed to a method and comes back
-- JNIEXPORT void JNICALL Java_A_f(JNIEnv *env, jclass cls) {
-- jmethodID m = (*env)->GetStaticMethodID(env, cls, "g", "(I)I");
-- jint r = (*env)->CallStaticIntMethod(env, cls, m, 20);
-- put_jint(r);
-- return; }
-- JNIEXPORT jint JNICALL Java_A_g(JNIEnv *env, jclass cls, jint n) { return n; }
abbrev pub a_number_is_passed_to_a_method_and_comes_back : SourceUnit
a_number_is_passed_to_a_method_and_comes_back =
    unit_of
    (native 1 Void (codes "Java_A_f") []
    (Plain 2 (Declare (Simple JMethodId) (codes "m") (FromCall (call (codes "GetStaticMethodID") (given (codes "cls") ∷ Text (codes "g") ∷ Text (codes "(I)I") ∷ []))))
    ∷ Plain 3 (Declare (Simple JIntVariable) (codes "r") (FromCall (call (codes "CallStaticIntMethod") (given (codes "cls") ∷ given (codes "m") ∷ Value (Number 20 false) ∷ []))))
    ∷ Plain 4 (PutJint (Variable (codes "r")))
    ∷ Return 5 None
    ∷ [])
    5
    ∷ native 6 IntResult (codes "Java_A_g") (int_parameter (codes "n") ∷ [])
    (Return 6 (Some (Variable (codes "n")))
    ∷ [])
    6
    ∷ [])

abbrev a_number_is_passed_to_a_method_and_comes_back-lines : Lines
a_number_is_passed_to_a_method_and_comes_back-lines =
    (2, ClassLine (codes "A") None)
    ∷ (3, ThreadLine (codes "Java_A_f") [])
    ∷ []

abbrev a_number_is_passed_to_a_method_and_comes_back-world : World
a_number_is_passed_to_a_method_and_comes_back-world = world_of 1 512 ((1, MethodsLine) ∷ a_number_is_passed_to_a_method_and_comes_back-lines)

a_number_is_passed_to_a_method_and_comes_back-means : IsWorldText (codes "heap 512 methods\nclass A\nthread Java_A_f\n") a_number_is_passed_to_a_method_and_comes_back-world
unfolding opened
a_number_is_passed_to_a_method_and_comes_back-means = world-text (codes "heap 512 methods\nclass A\nthread Java_A_f\n") 512 true a_number_is_passed_to_a_method_and_comes_back-lines 1 refl refl refl refl refl

a_number_is_passed_to_a_method_and_comes_back-accepted : IsAccepted a_number_is_passed_to_a_method_and_comes_back
unfolding opened
a_number_is_passed_to_a_method_and_comes_back-accepted = accepted a_number_is_passed_to_a_method_and_comes_back refl refl refl

a_number_is_passed_to_a_method_and_comes_back-run : IsWorkedRun a_number_is_passed_to_a_method_and_comes_back (codes "heap 512 methods\nclass A\nthread Java_A_f\n") (codes "1*300\n")
    (codes "T1 20\nT1 ended\njournal 1 1 1 1 1 1 1 1 1 1\n")
unfolding opened
a_number_is_passed_to_a_method_and_comes_back-run = worked-run a_number_is_passed_to_a_method_and_comes_back a_number_is_passed_to_a_method_and_comes_back-world ((Turn 1, Some 300) ∷ []) [] a_number_is_passed_to_a_method_and_comes_back-accepted a_number_is_passed_to_a_method_and_comes_back-means refl refl refl refl

-- an object that a method made comes into the frame of its caller
-- JNIEXPORT void JNICALL Java_A_f(JNIEnv *env, jclass cls) {
-- jmethodID m = (*env)->GetStaticMethodID(env, cls, "g", "()Ljava/lang/Object;");
-- jobject p = (*env)->CallStaticObjectMethod(env, cls, m);
-- return; }
-- JNIEXPORT jobject JNICALL Java_A_g(JNIEnv *env, jclass cls) {
-- jobject made = (*env)->AllocObject(env, cls);
-- return made; }
abbrev pub an_object_that_a_method_made_comes_into_the_frame_of_its_caller : SourceUnit
an_object_that_a_method_made_comes_into_the_frame_of_its_caller =
    unit_of
    (native 1 Void (codes "Java_A_f") []
    (Plain 2 (Declare (Simple JMethodId) (codes "m") (FromCall (call (codes "GetStaticMethodID") (given (codes "cls") ∷ Text (codes "g") ∷ Text (codes "()Ljava/lang/Object;") ∷ []))))
    ∷ Plain 3 (Declare (Simple (ReferenceVariable JObject)) (codes "p") (FromCall (call (codes "CallStaticObjectMethod") (given (codes "cls") ∷ given (codes "m") ∷ []))))
    ∷ Return 4 None
    ∷ [])
    4
    ∷ native 5 (ReferenceResult JObject) (codes "Java_A_g") []
    (Plain 6 (Declare (Simple (ReferenceVariable JObject)) (codes "made") (FromCall (call (codes "AllocObject") (given (codes "cls") ∷ []))))
    ∷ Return 7 (Some (Variable (codes "made")))
    ∷ [])
    7
    ∷ [])

an_object_that_a_method_made_comes_into_the_frame_of_its_caller-accepted : IsAccepted an_object_that_a_method_made_comes_into_the_frame_of_its_caller
unfolding opened
an_object_that_a_method_made_comes_into_the_frame_of_its_caller-accepted = accepted an_object_that_a_method_made_comes_into_the_frame_of_its_caller refl refl refl

an_object_that_a_method_made_comes_into_the_frame_of_its_caller-run : IsWorkedRun an_object_that_a_method_made_comes_into_the_frame_of_its_caller (codes "heap 512 methods\nclass A\nthread Java_A_f\n") (codes "1*6\n")
    (codes "T1 running\n#48 A\njournal 1 1 1 1 1 1\n")
unfolding opened
an_object_that_a_method_made_comes_into_the_frame_of_its_caller-run = worked-run an_object_that_a_method_made_comes_into_the_frame_of_its_caller a_number_is_passed_to_a_method_and_comes_back-world ((Turn 1, Some 6) ∷ []) [] an_object_that_a_method_made_comes_into_the_frame_of_its_caller-accepted a_number_is_passed_to_a_method_and_comes_back-means refl refl refl refl

-- an exception stays pending in the caller of a method
-- JNIEXPORT void JNICALL Java_A_f(JNIEnv *env, jclass cls) {
-- jmethodID m = (*env)->GetStaticMethodID(env, cls, "g", "()I");
-- jint r = (*env)->CallStaticIntMethod(env, cls, m);
-- jboolean thrown = (*env)->ExceptionCheck(env);
-- (*env)->ExceptionClear(env);
-- put_jint(r);
-- put_jint((jint)thrown);
-- return; }
-- JNIEXPORT jint JNICALL Java_A_g(JNIEnv *env, jclass cls) {
-- jclass missing = (*env)->FindClass(env, "B");
-- return 7; }
abbrev pub an_exception_stays_pending_in_the_caller_of_a_method : SourceUnit
an_exception_stays_pending_in_the_caller_of_a_method =
    unit_of
    (native 1 Void (codes "Java_A_f") []
    (Plain 2 (Declare (Simple JMethodId) (codes "m") (FromCall (call (codes "GetStaticMethodID") (given (codes "cls") ∷ Text (codes "g") ∷ Text (codes "()I") ∷ []))))
    ∷ Plain 3 (Declare (Simple JIntVariable) (codes "r") (FromCall (call (codes "CallStaticIntMethod") (given (codes "cls") ∷ given (codes "m") ∷ []))))
    ∷ Plain 4 (Declare (Simple JBoolean) (codes "thrown") (FromCall (call (codes "ExceptionCheck") [])))
    ∷ Plain 5 (Perform (call (codes "ExceptionClear") []))
    ∷ Plain 6 (PutJint (Variable (codes "r")))
    ∷ Plain 7 (PutJint (Prefix ToInt (Variable (codes "thrown"))))
    ∷ Return 8 None
    ∷ [])
    8
    ∷ native 9 IntResult (codes "Java_A_g") []
    (Plain 10 (Declare (Simple (ReferenceVariable JClass)) (codes "missing") (FromCall (call (codes "FindClass") (Text (codes "B") ∷ []))))
    ∷ Return 11 (Some (Number 7 false))
    ∷ [])
    11
    ∷ [])

an_exception_stays_pending_in_the_caller_of_a_method-accepted : IsAccepted an_exception_stays_pending_in_the_caller_of_a_method
unfolding opened
an_exception_stays_pending_in_the_caller_of_a_method-accepted = accepted an_exception_stays_pending_in_the_caller_of_a_method refl refl refl

an_exception_stays_pending_in_the_caller_of_a_method-run : IsWorkedRun an_exception_stays_pending_in_the_caller_of_a_method (codes "heap 512 methods\nclass A\nthread Java_A_f\n") (codes "1*20\n")
    (codes "T1 0\nT1 1\nT1 ended\njournal 1 1 1 1 1 1 1 1 1 1 1 1 1 1 1\n")
unfolding opened
an_exception_stays_pending_in_the_caller_of_a_method-run = worked-run an_exception_stays_pending_in_the_caller_of_a_method a_number_is_passed_to_a_method_and_comes_back-world ((Turn 1, Some 20) ∷ []) [] an_exception_stays_pending_in_the_caller_of_a_method-accepted a_number_is_passed_to_a_method_and_comes_back-means refl refl refl refl

-- a reference lives between its call and the entry of the method
-- static jobject s = NULL;
-- JNIEXPORT void JNICALL Java_A_f(JNIEnv *env, jclass cls) {
-- jobject o = (*env)->AllocObject(env, cls);
-- s = (*env)->NewGlobalRef(env, o);
-- (*env)->DeleteLocalRef(env, o);
-- jmethodID m = (*env)->GetStaticMethodID(env, cls, "g", "(Ljava/lang/Object;)V");
-- (*env)->CallStaticVoidMethod(env, cls, m, s);
-- return; }
-- JNIEXPORT void JNICALL Java_A_g(JNIEnv *env, jclass cls, jobject p) { return; }
-- JNIEXPORT void JNICALL Java_A_h(JNIEnv *env, jclass cls) {
-- (*env)->DeleteGlobalRef(env, s);
-- return; }
abbrev pub a_reference_lives_between_its_call_and_the_entry_of_the_method : SourceUnit
a_reference_lives_between_its_call_and_the_entry_of_the_method =
    unit_of
    (static_reference 1 JObject (codes "s")
    ∷ native 2 Void (codes "Java_A_f") []
    (Plain 3 (Declare (Simple (ReferenceVariable JObject)) (codes "o") (FromCall (call (codes "AllocObject") (given (codes "cls") ∷ []))))
    ∷ Plain 4 (Assign (codes "s") (FromCall (call (codes "NewGlobalRef") (given (codes "o") ∷ []))))
    ∷ Plain 5 (Perform (call (codes "DeleteLocalRef") (given (codes "o") ∷ [])))
    ∷ Plain 6 (Declare (Simple JMethodId) (codes "m") (FromCall (call (codes "GetStaticMethodID") (given (codes "cls") ∷ Text (codes "g") ∷ Text (codes "(Ljava/lang/Object;)V") ∷ []))))
    ∷ Plain 7 (Perform (call (codes "CallStaticVoidMethod") (given (codes "cls") ∷ given (codes "m") ∷ given (codes "s") ∷ [])))
    ∷ Return 8 None
    ∷ [])
    8
    ∷ native 9 Void (codes "Java_A_g") (reference_parameter JObject (codes "p") ∷ [])
    (Return 9 None
    ∷ [])
    9
    ∷ native 10 Void (codes "Java_A_h") []
    (Plain 11 (Perform (call (codes "DeleteGlobalRef") (given (codes "s") ∷ [])))
    ∷ Return 12 None
    ∷ [])
    12
    ∷ [])

abbrev a_reference_lives_between_its_call_and_the_entry_of_the_method-lines : Lines
a_reference_lives_between_its_call_and_the_entry_of_the_method-lines =
    (2, ClassLine (codes "A") None)
    ∷ (3, ThreadLine (codes "Java_A_f") [])
    ∷ (4, ThreadLine (codes "Java_A_h") [])
    ∷ []

abbrev a_reference_lives_between_its_call_and_the_entry_of_the_method-world : World
a_reference_lives_between_its_call_and_the_entry_of_the_method-world = world_of 1 512 ((1, MethodsLine) ∷ a_reference_lives_between_its_call_and_the_entry_of_the_method-lines)

a_reference_lives_between_its_call_and_the_entry_of_the_method-means : IsWorldText (codes "heap 512 methods\nclass A\nthread Java_A_f\nthread Java_A_h\n") a_reference_lives_between_its_call_and_the_entry_of_the_method-world
unfolding opened
a_reference_lives_between_its_call_and_the_entry_of_the_method-means = world-text (codes "heap 512 methods\nclass A\nthread Java_A_f\nthread Java_A_h\n") 512 true a_reference_lives_between_its_call_and_the_entry_of_the_method-lines 1 refl refl refl refl refl

a_reference_lives_between_its_call_and_the_entry_of_the_method-accepted : IsAccepted a_reference_lives_between_its_call_and_the_entry_of_the_method
unfolding opened
a_reference_lives_between_its_call_and_the_entry_of_the_method-accepted = accepted a_reference_lives_between_its_call_and_the_entry_of_the_method refl refl refl

a_reference_lives_between_its_call_and_the_entry_of_the_method-run : IsWorkedRun a_reference_lives_between_its_call_and_the_entry_of_the_method (codes "heap 512 methods\nclass A\nthread Java_A_f\nthread Java_A_h\n") (codes "1*6 2*3\n")
    (codes "T1 running\nT2 ended\n#48 A\njournal 1 1 1 1 1 1 2 2 2\n")
unfolding opened
a_reference_lives_between_its_call_and_the_entry_of_the_method-run = worked-run a_reference_lives_between_its_call_and_the_entry_of_the_method a_reference_lives_between_its_call_and_the_entry_of_the_method-world ((Turn 1, Some 6) ∷ (Turn 2, Some 3) ∷ []) [] a_reference_lives_between_its_call_and_the_entry_of_the_method-accepted a_reference_lives_between_its_call_and_the_entry_of_the_method-means refl refl refl refl

-- a method is called by the class that its ID was got from
-- JNIEXPORT void JNICALL Java_A_f(JNIEnv *env, jclass cls) {
-- jclass b = (*env)->FindClass(env, "B");
-- jmethodID m = (*env)->GetStaticMethodID(env, b, "g", "()V");
-- (*env)->CallStaticVoidMethod(env, cls, m);
-- return; }
-- JNIEXPORT void JNICALL Java_B_g(JNIEnv *env, jclass cls) { return; }
abbrev pub a_method_is_called_by_the_class_that_its_id_was_got_from : SourceUnit
a_method_is_called_by_the_class_that_its_id_was_got_from =
    unit_of
    (native 1 Void (codes "Java_A_f") []
    (Plain 2 (Declare (Simple (ReferenceVariable JClass)) (codes "b") (FromCall (call (codes "FindClass") (Text (codes "B") ∷ []))))
    ∷ Plain 3 (Declare (Simple JMethodId) (codes "m") (FromCall (call (codes "GetStaticMethodID") (given (codes "b") ∷ Text (codes "g") ∷ Text (codes "()V") ∷ []))))
    ∷ Plain 4 (Perform (call (codes "CallStaticVoidMethod") (given (codes "cls") ∷ given (codes "m") ∷ [])))
    ∷ Return 5 None
    ∷ [])
    5
    ∷ native 6 Void (codes "Java_B_g") []
    (Return 6 None
    ∷ [])
    6
    ∷ [])

abbrev a_method_is_called_by_the_class_that_its_id_was_got_from-lines : Lines
a_method_is_called_by_the_class_that_its_id_was_got_from-lines =
    (2, ClassLine (codes "B") None)
    ∷ (3, ClassLine (codes "A") (Some (codes "B")))
    ∷ (4, ThreadLine (codes "Java_A_f") [])
    ∷ []

abbrev a_method_is_called_by_the_class_that_its_id_was_got_from-world : World
a_method_is_called_by_the_class_that_its_id_was_got_from-world = world_of 1 512 ((1, MethodsLine) ∷ a_method_is_called_by_the_class_that_its_id_was_got_from-lines)

a_method_is_called_by_the_class_that_its_id_was_got_from-means : IsWorldText (codes "heap 512 methods\nclass B\nclass A extends B\nthread Java_A_f\n") a_method_is_called_by_the_class_that_its_id_was_got_from-world
unfolding opened
a_method_is_called_by_the_class_that_its_id_was_got_from-means = world-text (codes "heap 512 methods\nclass B\nclass A extends B\nthread Java_A_f\n") 512 true a_method_is_called_by_the_class_that_its_id_was_got_from-lines 1 refl refl refl refl refl

a_method_is_called_by_the_class_that_its_id_was_got_from-accepted : IsAccepted a_method_is_called_by_the_class_that_its_id_was_got_from
unfolding opened
a_method_is_called_by_the_class_that_its_id_was_got_from-accepted = accepted a_method_is_called_by_the_class_that_its_id_was_got_from refl refl refl

a_method_is_called_by_the_class_that_its_id_was_got_from-run : IsWorkedRun a_method_is_called_by_the_class_that_its_id_was_got_from (codes "heap 512 methods\nclass B\nclass A extends B\nthread Java_A_f\n") (codes "1*9\n")
    (codes "T1 trap 6 line 4\njournal 1 1 1 1\n")
unfolding opened
a_method_is_called_by_the_class_that_its_id_was_got_from-run = worked-run a_method_is_called_by_the_class_that_its_id_was_got_from a_method_is_called_by_the_class_that_its_id_was_got_from-world ((Turn 1, Some 9) ∷ []) [] a_method_is_called_by_the_class_that_its_id_was_got_from-accepted a_method_is_called_by_the_class_that_its_id_was_got_from-means refl refl refl refl
