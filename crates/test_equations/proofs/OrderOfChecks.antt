-- The cases of texts/order_of_checks.cases, as gate/worked_equations writes them.
use Rattle.std.specs.Prelude.{◌∷◌, false, [], Some, None, codes, refl}
use Rattle.base.specs.declared.element.ElementType.TheVariants.{Int as JInt}
use Rattle.syntax.specs.declared.declared_type.ReferenceType.TheVariants.{Object as JObject, Class as JClass}
use Rattle.syntax.specs.declared.declared_type.VariableType.TheVariants.{Jint as JIntVariable, Jboolean as JBoolean, Reference as ReferenceVariable}
use Rattle.syntax.specs.declared.declared_type.DeclaredType.TheVariants.{Simple}
use Rattle.syntax.specs.declared.unit.ResultType.TheVariants.{Void}
use Rattle.syntax.specs.declared.expr.Constant.TheVariants.{Null}
use Rattle.syntax.specs.Tree.{Number, Named, Value, Text, FromCall, TestCall, Declare, Assign, Perform, Plain, If, NoElse, Return, SourceUnit}
use Rattle.semantics.specs.declared.schedule.ScheduleWord.TheVariants.{Turn}
use Rattle.semantics.specs.World.{World}
use Rattle.world_values.specs.WorldLines.{NullValue, NamedObject, ClassLine, ArrayLine, ThreadLine, Lines}
use Rattle.world_values.specs.WorldMeaning.{world_of}
use Rattle.world_values.specs.WorldRules.{IsWorldText}
use Rattle.test_equations.specs.Claims.{IsAccepted, IsWorkedRun}
use Rattle.test_equations.proofs.Programs.{unit_of, native, block, static_reference, reference_parameter, call, given}
use Rattle.test_equations.proofs.Computed.{opened, accepted, world-text, worked-run}

-- a pending exception is checked before null
-- JNIEXPORT void JNICALL Java_A_f(JNIEnv *env, jclass cls, jobject o) {
-- jclass c = (*env)->FindClass(env, "B");
-- jint n = (*env)->GetArrayLength(env, o);
-- return;
-- }
abbrev pub a_pending_exception_is_checked_before_null : SourceUnit
a_pending_exception_is_checked_before_null =
    unit_of
    (native 1 Void (codes "Java_A_f") (reference_parameter JObject (codes "o") ∷ [])
    (Plain 2 (Declare (Simple (ReferenceVariable JClass)) (codes "c") (FromCall (call (codes "FindClass") (Text (codes "B") ∷ []))))
    ∷ Plain 3 (Declare (Simple JIntVariable) (codes "n") (FromCall (call (codes "GetArrayLength") (given (codes "o") ∷ []))))
    ∷ Return 4 None
    ∷ [])
    5
    ∷ [])

abbrev a_pending_exception_is_checked_before_null-lines : Lines
a_pending_exception_is_checked_before_null-lines =
    (2, ClassLine (codes "A") None)
    ∷ (3, ThreadLine (codes "Java_A_f") (NullValue ∷ []))
    ∷ []

abbrev a_pending_exception_is_checked_before_null-world : World
a_pending_exception_is_checked_before_null-world = world_of 1 512 a_pending_exception_is_checked_before_null-lines

a_pending_exception_is_checked_before_null-means : IsWorldText (codes "heap 512\nclass A\nthread Java_A_f null\n") a_pending_exception_is_checked_before_null-world
unfolding opened
a_pending_exception_is_checked_before_null-means = world-text (codes "heap 512\nclass A\nthread Java_A_f null\n") 512 false a_pending_exception_is_checked_before_null-lines 1 refl refl refl refl refl

a_pending_exception_is_checked_before_null-accepted : IsAccepted a_pending_exception_is_checked_before_null
unfolding opened
a_pending_exception_is_checked_before_null-accepted = accepted a_pending_exception_is_checked_before_null refl refl refl

a_pending_exception_is_checked_before_null-run : IsWorkedRun a_pending_exception_is_checked_before_null (codes "heap 512\nclass A\nthread Java_A_f null\n") (codes "1*4\n")
    (codes "T1 trap 5 line 3\n#46 java/lang/NoClassDefFoundError null\njournal 1 1 1\n")
unfolding opened
a_pending_exception_is_checked_before_null-run = worked-run a_pending_exception_is_checked_before_null a_pending_exception_is_checked_before_null-world ((Turn 1, Some 4) ∷ []) [] a_pending_exception_is_checked_before_null-accepted a_pending_exception_is_checked_before_null-means refl refl refl refl

-- a deleted global reference is checked before null
-- static jobject g = NULL;
-- JNIEXPORT void JNICALL Java_A_f(JNIEnv *env, jclass cls, jobject o) {
-- g = (*env)->NewGlobalRef(env, cls);
-- (*env)->DeleteGlobalRef(env, g);
-- jboolean b = (*env)->IsInstanceOf(env, g, o);
-- return;
-- }
abbrev pub a_deleted_global_reference_is_checked_before_null : SourceUnit
a_deleted_global_reference_is_checked_before_null =
    unit_of
    (static_reference 1 JObject (codes "g")
    ∷ native 2 Void (codes "Java_A_f") (reference_parameter JObject (codes "o") ∷ [])
    (Plain 3 (Assign (codes "g") (FromCall (call (codes "NewGlobalRef") (given (codes "cls") ∷ []))))
    ∷ Plain 4 (Perform (call (codes "DeleteGlobalRef") (given (codes "g") ∷ [])))
    ∷ Plain 5 (Declare (Simple JBoolean) (codes "b") (FromCall (call (codes "IsInstanceOf") (given (codes "g") ∷ given (codes "o") ∷ []))))
    ∷ Return 6 None
    ∷ [])
    7
    ∷ [])

a_deleted_global_reference_is_checked_before_null-accepted : IsAccepted a_deleted_global_reference_is_checked_before_null
unfolding opened
a_deleted_global_reference_is_checked_before_null-accepted = accepted a_deleted_global_reference_is_checked_before_null refl refl refl

a_deleted_global_reference_is_checked_before_null-run : IsWorkedRun a_deleted_global_reference_is_checked_before_null (codes "heap 512\nclass A\nthread Java_A_f null\n") (codes "1*5\n")
    (codes "T1 trap 7 line 5\njournal 1 1 1 1\n")
unfolding opened
a_deleted_global_reference_is_checked_before_null-run = worked-run a_deleted_global_reference_is_checked_before_null a_pending_exception_is_checked_before_null-world ((Turn 1, Some 5) ∷ []) [] a_deleted_global_reference_is_checked_before_null-accepted a_pending_exception_is_checked_before_null-means refl refl refl refl

-- null is checked before the kind of an object
-- JNIEXPORT void JNICALL Java_A_f(JNIEnv *env, jclass cls, jobject a, jobject o) {
-- jboolean b = (*env)->IsAssignableFrom(env, a, o);
-- return;
-- }
abbrev pub null_is_checked_before_the_kind_of_an_object : SourceUnit
null_is_checked_before_the_kind_of_an_object =
    unit_of
    (native 1 Void (codes "Java_A_f") (reference_parameter JObject (codes "a") ∷ reference_parameter JObject (codes "o") ∷ [])
    (Plain 2 (Declare (Simple JBoolean) (codes "b") (FromCall (call (codes "IsAssignableFrom") (given (codes "a") ∷ given (codes "o") ∷ []))))
    ∷ Return 3 None
    ∷ [])
    4
    ∷ [])

abbrev null_is_checked_before_the_kind_of_an_object-lines : Lines
null_is_checked_before_the_kind_of_an_object-lines =
    (2, ClassLine (codes "A") None)
    ∷ (3, ArrayLine (codes "a") JInt [])
    ∷ (4, ThreadLine (codes "Java_A_f") (NamedObject (codes "a") ∷ NullValue ∷ []))
    ∷ []

abbrev null_is_checked_before_the_kind_of_an_object-world : World
null_is_checked_before_the_kind_of_an_object-world = world_of 1 512 null_is_checked_before_the_kind_of_an_object-lines

null_is_checked_before_the_kind_of_an_object-means : IsWorldText (codes "heap 512\nclass A\narray @a I\nthread Java_A_f @a null\n") null_is_checked_before_the_kind_of_an_object-world
unfolding opened
null_is_checked_before_the_kind_of_an_object-means = world-text (codes "heap 512\nclass A\narray @a I\nthread Java_A_f @a null\n") 512 false null_is_checked_before_the_kind_of_an_object-lines 1 refl refl refl refl refl

null_is_checked_before_the_kind_of_an_object-accepted : IsAccepted null_is_checked_before_the_kind_of_an_object
unfolding opened
null_is_checked_before_the_kind_of_an_object-accepted = accepted null_is_checked_before_the_kind_of_an_object refl refl refl

null_is_checked_before_the_kind_of_an_object-run : IsWorkedRun null_is_checked_before_the_kind_of_an_object (codes "heap 512\nclass A\narray @a I\nthread Java_A_f @a null\n") (codes "1*3\n")
    (codes "T1 trap 4 line 2\n#46 [I\njournal 1 1\n")
unfolding opened
null_is_checked_before_the_kind_of_an_object-run = worked-run null_is_checked_before_the_kind_of_an_object null_is_checked_before_the_kind_of_an_object-world ((Turn 1, Some 3) ∷ []) [] null_is_checked_before_the_kind_of_an_object-accepted null_is_checked_before_the_kind_of_an_object-means refl refl refl refl

-- the kind of an object is checked before the capacity
-- JNIEXPORT void JNICALL Java_A_f(JNIEnv *env, jclass cls, jobject a) {
-- if ((*env)->PushLocalFrame(env, 0) == 0) {
-- jclass c = (*env)->GetSuperclass(env, a);
-- (*env)->PopLocalFrame(env, NULL);
-- }
-- return;
-- }
abbrev pub the_kind_of_an_object_is_checked_before_the_capacity : SourceUnit
the_kind_of_an_object_is_checked_before_the_capacity =
    unit_of
    (native 1 Void (codes "Java_A_f") (reference_parameter JObject (codes "a") ∷ [])
    (If 2 (TestCall (call (codes "PushLocalFrame") (Value (Number 0 false) ∷ [])))
    (block
    (Plain 3 (Declare (Simple (ReferenceVariable JClass)) (codes "c") (FromCall (call (codes "GetSuperclass") (given (codes "a") ∷ []))))
    ∷ Plain 4 (Perform (call (codes "PopLocalFrame") (Value (Named Null) ∷ [])))
    ∷ [])
    5)
    NoElse
    ∷ Return 6 None
    ∷ [])
    7
    ∷ [])

abbrev the_kind_of_an_object_is_checked_before_the_capacity-lines : Lines
the_kind_of_an_object_is_checked_before_the_capacity-lines =
    (2, ClassLine (codes "A") None)
    ∷ (3, ArrayLine (codes "a") JInt [])
    ∷ (4, ThreadLine (codes "Java_A_f") (NamedObject (codes "a") ∷ []))
    ∷ []

abbrev the_kind_of_an_object_is_checked_before_the_capacity-world : World
the_kind_of_an_object_is_checked_before_the_capacity-world = world_of 1 512 the_kind_of_an_object_is_checked_before_the_capacity-lines

the_kind_of_an_object_is_checked_before_the_capacity-means : IsWorldText (codes "heap 512\nclass A\narray @a I\nthread Java_A_f @a\n") the_kind_of_an_object_is_checked_before_the_capacity-world
unfolding opened
the_kind_of_an_object_is_checked_before_the_capacity-means = world-text (codes "heap 512\nclass A\narray @a I\nthread Java_A_f @a\n") 512 false the_kind_of_an_object_is_checked_before_the_capacity-lines 1 refl refl refl refl refl

the_kind_of_an_object_is_checked_before_the_capacity-accepted : IsAccepted the_kind_of_an_object_is_checked_before_the_capacity
unfolding opened
the_kind_of_an_object_is_checked_before_the_capacity-accepted = accepted the_kind_of_an_object_is_checked_before_the_capacity refl refl refl

the_kind_of_an_object_is_checked_before_the_capacity-run : IsWorkedRun the_kind_of_an_object_is_checked_before_the_capacity (codes "heap 512\nclass A\narray @a I\nthread Java_A_f @a\n") (codes "1*6\n")
    (codes "T1 trap 6 line 3\n#46 [I\njournal 1 1 1 1 1\n")
unfolding opened
the_kind_of_an_object_is_checked_before_the_capacity-run = worked-run the_kind_of_an_object_is_checked_before_the_capacity the_kind_of_an_object_is_checked_before_the_capacity-world ((Turn 1, Some 6) ∷ []) [] the_kind_of_an_object_is_checked_before_the_capacity-accepted the_kind_of_an_object_is_checked_before_the_capacity-means refl refl refl refl

-- the capacity is checked before an exception
-- JNIEXPORT void JNICALL Java_A_f(JNIEnv *env, jclass cls) {
-- if ((*env)->PushLocalFrame(env, 0) == 0) {
-- jclass c = (*env)->FindClass(env, "B");
-- (*env)->PopLocalFrame(env, NULL);
-- }
-- return;
-- }
abbrev pub the_capacity_is_checked_before_an_exception : SourceUnit
the_capacity_is_checked_before_an_exception =
    unit_of
    (native 1 Void (codes "Java_A_f") []
    (If 2 (TestCall (call (codes "PushLocalFrame") (Value (Number 0 false) ∷ [])))
    (block
    (Plain 3 (Declare (Simple (ReferenceVariable JClass)) (codes "c") (FromCall (call (codes "FindClass") (Text (codes "B") ∷ []))))
    ∷ Plain 4 (Perform (call (codes "PopLocalFrame") (Value (Named Null) ∷ [])))
    ∷ [])
    5)
    NoElse
    ∷ Return 6 None
    ∷ [])
    7
    ∷ [])

abbrev the_capacity_is_checked_before_an_exception-lines : Lines
the_capacity_is_checked_before_an_exception-lines =
    (2, ClassLine (codes "A") None)
    ∷ (3, ThreadLine (codes "Java_A_f") [])
    ∷ []

abbrev the_capacity_is_checked_before_an_exception-world : World
the_capacity_is_checked_before_an_exception-world = world_of 1 512 the_capacity_is_checked_before_an_exception-lines

the_capacity_is_checked_before_an_exception-means : IsWorldText (codes "heap 512\nclass A\nthread Java_A_f\n") the_capacity_is_checked_before_an_exception-world
unfolding opened
the_capacity_is_checked_before_an_exception-means = world-text (codes "heap 512\nclass A\nthread Java_A_f\n") 512 false the_capacity_is_checked_before_an_exception-lines 1 refl refl refl refl refl

the_capacity_is_checked_before_an_exception-accepted : IsAccepted the_capacity_is_checked_before_an_exception
unfolding opened
the_capacity_is_checked_before_an_exception-accepted = accepted the_capacity_is_checked_before_an_exception refl refl refl

the_capacity_is_checked_before_an_exception-run : IsWorkedRun the_capacity_is_checked_before_an_exception (codes "heap 512\nclass A\nthread Java_A_f\n") (codes "1*6\n")
    (codes "T1 trap 8 line 3\njournal 1 1 1 1 1\n")
unfolding opened
the_capacity_is_checked_before_an_exception-run = worked-run the_capacity_is_checked_before_an_exception the_capacity_is_checked_before_an_exception-world ((Turn 1, Some 6) ∷ []) [] the_capacity_is_checked_before_an_exception-accepted the_capacity_is_checked_before_an_exception-means refl refl refl refl

-- the capacity is checked where null is the result
-- JNIEXPORT void JNICALL Java_A_f(JNIEnv *env, jclass cls) {
-- if ((*env)->PushLocalFrame(env, 0) == 0) {
-- jobject x = (*env)->NewLocalRef(env, NULL);
-- (*env)->PopLocalFrame(env, NULL);
-- }
-- return;
-- }
abbrev pub the_capacity_is_checked_where_null_is_the_result : SourceUnit
the_capacity_is_checked_where_null_is_the_result =
    unit_of
    (native 1 Void (codes "Java_A_f") []
    (If 2 (TestCall (call (codes "PushLocalFrame") (Value (Number 0 false) ∷ [])))
    (block
    (Plain 3 (Declare (Simple (ReferenceVariable JObject)) (codes "x") (FromCall (call (codes "NewLocalRef") (Value (Named Null) ∷ []))))
    ∷ Plain 4 (Perform (call (codes "PopLocalFrame") (Value (Named Null) ∷ [])))
    ∷ [])
    5)
    NoElse
    ∷ Return 6 None
    ∷ [])
    7
    ∷ [])

the_capacity_is_checked_where_null_is_the_result-accepted : IsAccepted the_capacity_is_checked_where_null_is_the_result
unfolding opened
the_capacity_is_checked_where_null_is_the_result-accepted = accepted the_capacity_is_checked_where_null_is_the_result refl refl refl

the_capacity_is_checked_where_null_is_the_result-run : IsWorkedRun the_capacity_is_checked_where_null_is_the_result (codes "heap 512\nclass A\nthread Java_A_f\n") (codes "1*6\n")
    (codes "T1 trap 8 line 3\njournal 1 1 1 1 1\n")
unfolding opened
the_capacity_is_checked_where_null_is_the_result-run = worked-run the_capacity_is_checked_where_null_is_the_result the_capacity_is_checked_before_an_exception-world ((Turn 1, Some 6) ∷ []) [] the_capacity_is_checked_where_null_is_the_result-accepted the_capacity_is_checked_before_an_exception-means refl refl refl refl
