-- The cases of texts/globals.cases, as gate/worked_equations writes them.
use Rattle.std.specs.Prelude.{◌∷◌, true, false, [], Some, None, codes, refl}
use Rattle.syntax.specs.declared.declared_type.ReferenceType.TheVariants.{Object as JObject}
use Rattle.syntax.specs.declared.declared_type.VariableType.TheVariants.{Jint as JIntVariable, Reference as ReferenceVariable}
use Rattle.syntax.specs.declared.declared_type.DeclaredType.TheVariants.{Simple}
use Rattle.syntax.specs.declared.unit.ResultType.TheVariants.{Void}
use Rattle.syntax.specs.declared.expr.PrefixOp.TheVariants.{ToInt}
use Rattle.syntax.specs.Tree.{Number, Prefix, Value, FromCall, Declare, Assign, Perform, Plain, Return, SourceUnit}
use Rattle.semantics.specs.declared.schedule.ScheduleWord.TheVariants.{Turn}
use Rattle.semantics.specs.World.{World}
use Rattle.world_values.specs.WorldLines.{NamedObject, ClassLine, ObjectLine, ThreadLine, Lines}
use Rattle.world_values.specs.WorldMeaning.{world_of}
use Rattle.world_values.specs.WorldRules.{IsWorldText}
use Rattle.test_equations.specs.Claims.{IsAccepted, IsWorkedRun}
use Rattle.test_equations.proofs.Programs.{unit_of, native, static_reference, reference_parameter, call, given}
use Rattle.test_equations.proofs.Computed.{opened, accepted, world-text, worked-run}

-- a global reference that another thread deletes
-- static jobject g = NULL;
-- JNIEXPORT void JNICALL Java_A_f(JNIEnv *env, jclass cls, jobject o) {
-- g = (*env)->NewGlobalRef(env, o);
-- jobject x = (*env)->NewLocalRef(env, g);
-- jobject y = (*env)->NewLocalRef(env, g);
-- return; }
-- JNIEXPORT void JNICALL Java_A_h(JNIEnv *env, jclass cls) { (*env)->DeleteGlobalRef(env, g); return; }
abbrev pub a_global_reference_that_another_thread_deletes : SourceUnit
a_global_reference_that_another_thread_deletes =
    unit_of
    (static_reference 1 JObject (codes "g")
    ∷ native 2 Void (codes "Java_A_f") (reference_parameter JObject (codes "o") ∷ [])
    (Plain 3 (Assign (codes "g") (FromCall (call (codes "NewGlobalRef") (given (codes "o") ∷ []))))
    ∷ Plain 4 (Declare (Simple (ReferenceVariable JObject)) (codes "x") (FromCall (call (codes "NewLocalRef") (given (codes "g") ∷ []))))
    ∷ Plain 5 (Declare (Simple (ReferenceVariable JObject)) (codes "y") (FromCall (call (codes "NewLocalRef") (given (codes "g") ∷ []))))
    ∷ Return 6 None
    ∷ [])
    6
    ∷ native 7 Void (codes "Java_A_h") []
    (Plain 7 (Perform (call (codes "DeleteGlobalRef") (given (codes "g") ∷ [])))
    ∷ Return 7 None
    ∷ [])
    7
    ∷ [])

abbrev a_global_reference_that_another_thread_deletes-lines : Lines
a_global_reference_that_another_thread_deletes-lines =
    (2, ClassLine (codes "A") None)
    ∷ (3, ObjectLine (codes "o") (codes "A") [])
    ∷ (4, ThreadLine (codes "Java_A_f") (NamedObject (codes "o") ∷ []))
    ∷ (5, ThreadLine (codes "Java_A_h") [])
    ∷ []

abbrev a_global_reference_that_another_thread_deletes-world : World
a_global_reference_that_another_thread_deletes-world = world_of 1 512 a_global_reference_that_another_thread_deletes-lines

a_global_reference_that_another_thread_deletes-means : IsWorldText (codes "heap 512\nclass A\nobject @o A\nthread Java_A_f @o\nthread Java_A_h\n") a_global_reference_that_another_thread_deletes-world
unfolding opened
a_global_reference_that_another_thread_deletes-means = world-text (codes "heap 512\nclass A\nobject @o A\nthread Java_A_f @o\nthread Java_A_h\n") 512 false a_global_reference_that_another_thread_deletes-lines 1 refl refl refl refl refl

a_global_reference_that_another_thread_deletes-accepted : IsAccepted a_global_reference_that_another_thread_deletes
unfolding opened
a_global_reference_that_another_thread_deletes-accepted = accepted a_global_reference_that_another_thread_deletes refl refl refl

a_global_reference_that_another_thread_deletes-run : IsWorkedRun a_global_reference_that_another_thread_deletes (codes "heap 512\nclass A\nobject @o A\nthread Java_A_f @o\nthread Java_A_h\n") (codes "1*3 2*3 1\n")
    (codes "T1 trap 7 line 5\nT2 ended\n#46 A\njournal 1 1 1 2 2 2 1\n")
unfolding opened
a_global_reference_that_another_thread_deletes-run = worked-run a_global_reference_that_another_thread_deletes a_global_reference_that_another_thread_deletes-world ((Turn 1, Some 3) ∷ (Turn 2, Some 3) ∷ (Turn 1, None) ∷ []) [] a_global_reference_that_another_thread_deletes-accepted a_global_reference_that_another_thread_deletes-means refl refl refl refl

-- an exception is checked before a deleted global reference
-- static jobject g = NULL;
-- JNIEXPORT void JNICALL Java_A_f(JNIEnv *env, jclass cls) {
-- g = (*env)->NewGlobalRef(env, cls);
-- (*env)->DeleteGlobalRef(env, g);
-- jint e = (*env)->EnsureLocalCapacity(env, (jint)4294967295u);
-- jobject x = (*env)->NewLocalRef(env, g);
-- return; }
abbrev pub an_exception_is_checked_before_a_deleted_global_reference : SourceUnit
an_exception_is_checked_before_a_deleted_global_reference =
    unit_of
    (static_reference 1 JObject (codes "g")
    ∷ native 2 Void (codes "Java_A_f") []
    (Plain 3 (Assign (codes "g") (FromCall (call (codes "NewGlobalRef") (given (codes "cls") ∷ []))))
    ∷ Plain 4 (Perform (call (codes "DeleteGlobalRef") (given (codes "g") ∷ [])))
    ∷ Plain 5 (Declare (Simple JIntVariable) (codes "e") (FromCall (call (codes "EnsureLocalCapacity") (Value (Prefix ToInt (Number 4294967295 true)) ∷ []))))
    ∷ Plain 6 (Declare (Simple (ReferenceVariable JObject)) (codes "x") (FromCall (call (codes "NewLocalRef") (given (codes "g") ∷ []))))
    ∷ Return 7 None
    ∷ [])
    7
    ∷ [])

abbrev an_exception_is_checked_before_a_deleted_global_reference-lines : Lines
an_exception_is_checked_before_a_deleted_global_reference-lines =
    (2, ClassLine (codes "A") None)
    ∷ (3, ThreadLine (codes "Java_A_f") [])
    ∷ []

abbrev an_exception_is_checked_before_a_deleted_global_reference-world : World
an_exception_is_checked_before_a_deleted_global_reference-world = world_of 1 512 an_exception_is_checked_before_a_deleted_global_reference-lines

an_exception_is_checked_before_a_deleted_global_reference-means : IsWorldText (codes "heap 512\nclass A\nthread Java_A_f\n") an_exception_is_checked_before_a_deleted_global_reference-world
unfolding opened
an_exception_is_checked_before_a_deleted_global_reference-means = world-text (codes "heap 512\nclass A\nthread Java_A_f\n") 512 false an_exception_is_checked_before_a_deleted_global_reference-lines 1 refl refl refl refl refl

an_exception_is_checked_before_a_deleted_global_reference-accepted : IsAccepted an_exception_is_checked_before_a_deleted_global_reference
unfolding opened
an_exception_is_checked_before_a_deleted_global_reference-accepted = accepted an_exception_is_checked_before_a_deleted_global_reference refl refl refl

an_exception_is_checked_before_a_deleted_global_reference-run : IsWorkedRun an_exception_is_checked_before_a_deleted_global_reference (codes "heap 512\nclass A\nthread Java_A_f\n") (codes "1*20\n")
    (codes "T1 trap 5 line 6\njournal 1 1 1 1 1 1 1\n")
unfolding opened
an_exception_is_checked_before_a_deleted_global_reference-run = worked-run an_exception_is_checked_before_a_deleted_global_reference an_exception_is_checked_before_a_deleted_global_reference-world ((Turn 1, Some 20) ∷ []) [] an_exception_is_checked_before_a_deleted_global_reference-accepted an_exception_is_checked_before_a_deleted_global_reference-means refl refl refl refl

-- a deleted global reference
-- static jobject g = NULL;
-- JNIEXPORT void JNICALL Java_A_f(JNIEnv *env, jclass cls) {
-- g = (*env)->NewGlobalRef(env, cls);
-- (*env)->DeleteGlobalRef(env, g);
-- jint e = (*env)->EnsureLocalCapacity(env, (jint)4294967295u); (*env)->ExceptionClear(env);
-- jobject x = (*env)->NewLocalRef(env, g);
-- return; }
abbrev pub a_deleted_global_reference : SourceUnit
a_deleted_global_reference =
    unit_of
    (static_reference 1 JObject (codes "g")
    ∷ native 2 Void (codes "Java_A_f") []
    (Plain 3 (Assign (codes "g") (FromCall (call (codes "NewGlobalRef") (given (codes "cls") ∷ []))))
    ∷ Plain 4 (Perform (call (codes "DeleteGlobalRef") (given (codes "g") ∷ [])))
    ∷ Plain 5 (Declare (Simple JIntVariable) (codes "e") (FromCall (call (codes "EnsureLocalCapacity") (Value (Prefix ToInt (Number 4294967295 true)) ∷ []))))
    ∷ Plain 5 (Perform (call (codes "ExceptionClear") []))
    ∷ Plain 6 (Declare (Simple (ReferenceVariable JObject)) (codes "x") (FromCall (call (codes "NewLocalRef") (given (codes "g") ∷ []))))
    ∷ Return 7 None
    ∷ [])
    7
    ∷ [])

a_deleted_global_reference-accepted : IsAccepted a_deleted_global_reference
unfolding opened
a_deleted_global_reference-accepted = accepted a_deleted_global_reference refl refl refl

a_deleted_global_reference-run : IsWorkedRun a_deleted_global_reference (codes "heap 512\nclass A\nthread Java_A_f\n") (codes "1*20\n")
    (codes "T1 trap 7 line 6\njournal 1 1 1 1 1 1 1 1\n")
unfolding opened
a_deleted_global_reference-run = worked-run a_deleted_global_reference an_exception_is_checked_before_a_deleted_global_reference-world ((Turn 1, Some 20) ∷ []) [] a_deleted_global_reference-accepted an_exception_is_checked_before_a_deleted_global_reference-means refl refl refl refl
