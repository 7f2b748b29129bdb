-- The cases of texts/buffers_checked.cases, as gate/worked_equations writes them.
use Rattle.std.specs.Prelude.{◌∷◌, pos, true, false, [], Some, None, codes, refl}
use Rattle.base.specs.declared.element.ElementType.TheVariants.{Int as JInt, Short as JShort, Char as JChar}
use Rattle.syntax.specs.declared.declared_type.ReferenceType.TheVariants.{Object as JObject, Class as JClass, String as JString, IntArray as JIntArray}
use Rattle.syntax.specs.declared.declared_type.VariableType.TheVariants.{Reference as ReferenceVariable}
use Rattle.syntax.specs.declared.declared_type.DeclaredType.TheVariants.{Simple, Pointer, ConstChars}
use Rattle.syntax.specs.declared.unit.ResultType.TheVariants.{Void}
use Rattle.syntax.specs.declared.expr.Constant.TheVariants.{Null}
use Rattle.syntax.specs.declared.expr.BinaryOp.TheVariants.{LogicalAnd, Equal, NotEqual}
use Rattle.syntax.specs.Tree.{Number, Named, Variable, Element, Binary, Value, Text, FromCall, TestExpr, Declare, AssignElement, Perform, PutJint, Plain, If, NoElse, While, Return, SourceUnit}
use Rattle.semantics.specs.declared.schedule.ScheduleWord.TheVariants.{Turn}
use Rattle.semantics.specs.World.{World}
use Rattle.world_values.specs.WorldLines.{NumberValue, NullValue, NamedObject, ClassLine, ArrayLine, ThreadLine, Lines}
use Rattle.world_values.specs.WorldMeaning.{world_of}
use Rattle.world_values.specs.WorldRules.{IsWorldText}
use Rattle.region_rules.specs.declared.rule.RegionRule.TheVariants.{CallWhileCritical, ReturnWithBuffer, HeldBuffer, UntestedBuffer, WrongBuffer, PathsDiffer}
use Rattle.test_equations.specs.Claims.{IsAccepted, IsRefused, IsWorkedRun}
use Rattle.test_equations.proofs.Programs.{unit_of, native, block, reference_parameter, call, given}
use Rattle.test_equations.proofs.Computed.{opened, accepted, bad_path, world-text, worked-run}

-- GetIntArrayElements of an array of another kind
-- JNIEXPORT void JNICALL Java_A_f(JNIEnv *env, jclass cls, jobject a) {
-- jint *p = (*env)->GetIntArrayElements(env, a, NULL);
-- if (p != NULL) {
-- (*env)->ReleaseIntArrayElements(env, a, p, 0);
-- }
-- return;
-- }
abbrev pub getintarrayelements_of_an_array_of_another_kind : SourceUnit
getintarrayelements_of_an_array_of_another_kind =
    unit_of
    (native 1 Void (codes "Java_A_f") (reference_parameter JObject (codes "a") ∷ [])
    (Plain 2 (Declare (Pointer JInt) (codes "p") (FromCall (call (codes "GetIntArrayElements") (given (codes "a") ∷ Value (Named Null) ∷ []))))
    ∷ If 3 (TestExpr (Binary NotEqual (Variable (codes "p")) (Named Null)))
    (block
    (Plain 4 (Perform (call (codes "ReleaseIntArrayElements") (given (codes "a") ∷ given (codes "p") ∷ Value (Number 0 false) ∷ [])))
    ∷ [])
    5)
    NoElse
    ∷ Return 6 None
    ∷ [])
    7
    ∷ [])

abbrev getintarrayelements_of_an_array_of_another_kind-lines : Lines
getintarrayelements_of_an_array_of_another_kind-lines =
    (2, ClassLine (codes "A") None)
    ∷ (3, ArrayLine (codes "a") JShort (NumberValue (pos 1) ∷ NumberValue (pos 2) ∷ []))
    ∷ (4, ThreadLine (codes "Java_A_f") (NamedObject (codes "a") ∷ []))
    ∷ []

abbrev getintarrayelements_of_an_array_of_another_kind-world : World
getintarrayelements_of_an_array_of_another_kind-world = world_of 1 512 getintarrayelements_of_an_array_of_another_kind-lines

getintarrayelements_of_an_array_of_another_kind-means : IsWorldText (codes "heap 512\nclass A\narray @a S 1 2\nthread Java_A_f @a\n") getintarrayelements_of_an_array_of_another_kind-world
unfolding opened
getintarrayelements_of_an_array_of_another_kind-means = world-text (codes "heap 512\nclass A\narray @a S 1 2\nthread Java_A_f @a\n") 512 false getintarrayelements_of_an_array_of_another_kind-lines 1 refl refl refl refl refl

getintarrayelements_of_an_array_of_another_kind-accepted : IsAccepted getintarrayelements_of_an_array_of_another_kind
unfolding opened
getintarrayelements_of_an_array_of_another_kind-accepted = accepted getintarrayelements_of_an_array_of_another_kind refl refl refl

getintarrayelements_of_an_array_of_another_kind-run : IsWorkedRun getintarrayelements_of_an_array_of_another_kind (codes "heap 512\nclass A\narray @a S 1 2\nthread Java_A_f @a\n") (codes "1*99\n")
    (codes "T1 trap 6 line 2\n#46 [S 1 2\njournal 1 1\n")
unfolding opened
getintarrayelements_of_an_array_of_another_kind-run = worked-run getintarrayelements_of_an_array_of_another_kind getintarrayelements_of_an_array_of_another_kind-world ((Turn 1, Some 99) ∷ []) [] getintarrayelements_of_an_array_of_another_kind-accepted getintarrayelements_of_an_array_of_another_kind-means refl refl refl refl

-- GetPrimitiveArrayCritical of NULL
-- JNIEXPORT void JNICALL Java_A_f(JNIEnv *env, jclass cls, jintArray a) {
-- jint *p = (*env)->GetPrimitiveArrayCritical(env, a, NULL);
-- if (p != NULL) {
-- (*env)->ReleasePrimitiveArrayCritical(env, a, p, 0);
-- }
-- return;
-- }
abbrev pub getprimitivearraycritical_of_null : SourceUnit
getprimitivearraycritical_of_null =
    unit_of
    (native 1 Void (codes "Java_A_f") (reference_parameter JIntArray (codes "a") ∷ [])
    (Plain 2 (Declare (Pointer JInt) (codes "p") (FromCall (call (codes "GetPrimitiveArrayCritical") (given (codes "a") ∷ Value (Named Null) ∷ []))))
    ∷ If 3 (TestExpr (Binary NotEqual (Variable (codes "p")) (Named Null)))
    (block
    (Plain 4 (Perform (call (codes "ReleasePrimitiveArrayCritical") (given (codes "a") ∷ given (codes "p") ∷ Value (Number 0 false) ∷ [])))
    ∷ [])
    5)
    NoElse
    ∷ Return 6 None
    ∷ [])
    7
    ∷ [])

abbrev getprimitivearraycritical_of_null-lines : Lines
getprimitivearraycritical_of_null-lines =
    (2, ClassLine (codes "A") None)
    ∷ (3, ThreadLine (codes "Java_A_f") (NullValue ∷ []))
    ∷ []

abbrev getprimitivearraycritical_of_null-world : World
getprimitivearraycritical_of_null-world = world_of 1 512 getprimitivearraycritical_of_null-lines

getprimitivearraycritical_of_null-means : IsWorldText (codes "heap 512\nclass A\nthread Java_A_f null\n") getprimitivearraycritical_of_null-world
unfolding opened
getprimitivearraycritical_of_null-means = world-text (codes "heap 512\nclass A\nthread Java_A_f null\n") 512 false getprimitivearraycritical_of_null-lines 1 refl refl refl refl refl

getprimitivearraycritical_of_null-accepted : IsAccepted getprimitivearraycritical_of_null
unfolding opened
getprimitivearraycritical_of_null-accepted = accepted getprimitivearraycritical_of_null refl refl refl

getprimitivearraycritical_of_null-run : IsWorkedRun getprimitivearraycritical_of_null (codes "heap 512\nclass A\nthread Java_A_f null\n") (codes "1*99\n")
    (codes "T1 trap 4 line 2\njournal 1 1\n")
unfolding opened
getprimitivearraycritical_of_null-run = worked-run getprimitivearraycritical_of_null getprimitivearraycritical_of_null-world ((Turn 1, Some 99) ∷ []) [] getprimitivearraycritical_of_null-accepted getprimitivearraycritical_of_null-means refl refl refl refl

-- GetPrimitiveArrayCritical while an exception is pending
-- JNIEXPORT void JNICALL Java_A_f(JNIEnv *env, jclass cls, jintArray a) {
-- jclass b = (*env)->FindClass(env, "B");
-- jint *p = (*env)->GetPrimitiveArrayCritical(env, a, NULL);
-- if (p != NULL) {
-- (*env)->ReleasePrimitiveArrayCritical(env, a, p, 0);
-- }
-- return;
-- }
abbrev pub getprimitivearraycritical_while_an_exception_is_pending : SourceUnit
getprimitivearraycritical_while_an_exception_is_pending =
    unit_of
    (native 1 Void (codes "Java_A_f") (reference_parameter JIntArray (codes "a") ∷ [])
    (Plain 2 (Declare (Simple (ReferenceVariable JClass)) (codes "b") (FromCall (call (codes "FindClass") (Text (codes "B") ∷ []))))
    ∷ Plain 3 (Declare (Pointer JInt) (codes "p") (FromCall (call (codes "GetPrimitiveArrayCritical") (given (codes "a") ∷ Value (Named Null) ∷ []))))
    ∷ If 4 (TestExpr (Binary NotEqual (Variable (codes "p")) (Named Null)))
    (block
    (Plain 5 (Perform (call (codes "ReleasePrimitiveArrayCritical") (given (codes "a") ∷ given (codes "p") ∷ Value (Number 0 false) ∷ [])))
    ∷ [])
    6)
    NoElse
    ∷ Return 7 None
    ∷ [])
    8
    ∷ [])

getprimitivearraycritical_while_an_exception_is_pending-accepted : IsAccepted getprimitivearraycritical_while_an_exception_is_pending
unfolding opened
getprimitivearraycritical_while_an_exception_is_pending-accepted = accepted getprimitivearraycritical_while_an_exception_is_pending refl refl refl

getprimitivearraycritical_while_an_exception_is_pending-run : IsWorkedRun getprimitivearraycritical_while_an_exception_is_pending (codes "heap 512\nclass A\nthread Java_A_f null\n") (codes "1*99\n")
    (codes "T1 trap 5 line 3\n#46 java/lang/NoClassDefFoundError null\njournal 1 1 1\n")
unfolding opened
getprimitivearraycritical_while_an_exception_is_pending-run = worked-run getprimitivearraycritical_while_an_exception_is_pending getprimitivearraycritical_of_null-world ((Turn 1, Some 99) ∷ []) [] getprimitivearraycritical_while_an_exception_is_pending-accepted getprimitivearraycritical_of_null-means refl refl refl refl

-- GetStringChars of NULL
-- JNIEXPORT void JNICALL Java_A_f(JNIEnv *env, jclass cls, jstring a) {
-- const jchar *p = (*env)->GetStringChars(env, a, NULL);
-- if (p != NULL) {
-- (*env)->ReleaseStringChars(env, a, p);
-- }
-- return;
-- }
abbrev pub getstringchars_of_null : SourceUnit
getstringchars_of_null =
    unit_of
    (native 1 Void (codes "Java_A_f") (reference_parameter JString (codes "a") ∷ [])
    (Plain 2 (Declare ConstChars (codes "p") (FromCall (call (codes "GetStringChars") (given (codes "a") ∷ Value (Named Null) ∷ []))))
    ∷ If 3 (TestExpr (Binary NotEqual (Variable (codes "p")) (Named Null)))
    (block
    (Plain 4 (Perform (call (codes "ReleaseStringChars") (given (codes "a") ∷ given (codes "p") ∷ [])))
    ∷ [])
    5)
    NoElse
    ∷ Return 6 None
    ∷ [])
    7
    ∷ [])

getstringchars_of_null-accepted : IsAccepted getstringchars_of_null
unfolding opened
getstringchars_of_null-accepted = accepted getstringchars_of_null refl refl refl

getstringchars_of_null-run : IsWorkedRun getstringchars_of_null (codes "heap 512\nclass A\nthread Java_A_f null\n") (codes "1*99\n")
    (codes "T1 trap 4 line 2\njournal 1 1\n")
unfolding opened
getstringchars_of_null-run = worked-run getstringchars_of_null getprimitivearraycritical_of_null-world ((Turn 1, Some 99) ∷ []) [] getstringchars_of_null-accepted getprimitivearraycritical_of_null-means refl refl refl refl

-- GetStringChars while an exception is pending
-- JNIEXPORT void JNICALL Java_A_f(JNIEnv *env, jclass cls, jstring a) {
-- jclass b = (*env)->FindClass(env, "B");
-- const jchar *p = (*env)->GetStringChars(env, a, NULL);
-- if (p != NULL) {
-- (*env)->ReleaseStringChars(env, a, p);
-- }
-- return;
-- }
abbrev pub getstringchars_while_an_exception_is_pending : SourceUnit
getstringchars_while_an_exception_is_pending =
    unit_of
    (native 1 Void (codes "Java_A_f") (reference_parameter JString (codes "a") ∷ [])
    (Plain 2 (Declare (Simple (ReferenceVariable JClass)) (codes "b") (FromCall (call (codes "FindClass") (Text (codes "B") ∷ []))))
    ∷ Plain 3 (Declare ConstChars (codes "p") (FromCall (call (codes "GetStringChars") (given (codes "a") ∷ Value (Named Null) ∷ []))))
    ∷ If 4 (TestExpr (Binary NotEqual (Variable (codes "p")) (Named Null)))
    (block
    (Plain 5 (Perform (call (codes "ReleaseStringChars") (given (codes "a") ∷ given (codes "p") ∷ [])))
    ∷ [])
    6)
    NoElse
    ∷ Return 7 None
    ∷ [])
    8
    ∷ [])

getstringchars_while_an_exception_is_pending-accepted : IsAccepted getstringchars_while_an_exception_is_pending
unfolding opened
getstringchars_while_an_exception_is_pending-accepted = accepted getstringchars_while_an_exception_is_pending refl refl refl

getstringchars_while_an_exception_is_pending-run : IsWorkedRun getstringchars_while_an_exception_is_pending (codes "heap 512\nclass A\nthread Java_A_f null\n") (codes "1*99\n")
    (codes "T1 trap 5 line 3\n#46 java/lang/NoClassDefFoundError null\njournal 1 1 1\n")
unfolding opened
getstringchars_while_an_exception_is_pending-run = worked-run getstringchars_while_an_exception_is_pending getprimitivearraycritical_of_null-world ((Turn 1, Some 99) ∷ []) [] getstringchars_while_an_exception_is_pending-accepted getprimitivearraycritical_of_null-means refl refl refl refl

-- GetStringCritical of an array of another kind
-- JNIEXPORT void JNICALL Java_A_f(JNIEnv *env, jclass cls, jobject a) {
-- const jchar *p = (*env)->GetStringCritical(env, a, NULL);
-- if (p != NULL) {
-- (*env)->ReleaseStringCritical(env, a, p);
-- }
-- return;
-- }
abbrev pub getstringcritical_of_an_array_of_another_kind : SourceUnit
getstringcritical_of_an_array_of_another_kind =
    unit_of
    (native 1 Void (codes "Java_A_f") (reference_parameter JObject (codes "a") ∷ [])
    (Plain 2 (Declare ConstChars (codes "p") (FromCall (call (codes "GetStringCritical") (given (codes "a") ∷ Value (Named Null) ∷ []))))
    ∷ If 3 (TestExpr (Binary NotEqual (Variable (codes "p")) (Named Null)))
    (block
    (Plain 4 (Perform (call (codes "ReleaseStringCritical") (given (codes "a") ∷ given (codes "p") ∷ [])))
    ∷ [])
    5)
    NoElse
    ∷ Return 6 None
    ∷ [])
    7
    ∷ [])

abbrev getstringcritical_of_an_array_of_another_kind-lines : Lines
getstringcritical_of_an_array_of_another_kind-lines =
    (2, ClassLine (codes "A") None)
    ∷ (3, ArrayLine (codes "a") JChar (NumberValue (pos 1) ∷ NumberValue (pos 2) ∷ []))
    ∷ (4, ThreadLine (codes "Java_A_f") (NamedObject (codes "a") ∷ []))
    ∷ []

abbrev getstringcritical_of_an_array_of_another_kind-world : World
getstringcritical_of_an_array_of_another_kind-world = world_of 1 512 getstringcritical_of_an_array_of_another_kind-lines

getstringcritical_of_an_array_of_another_kind-means : IsWorldText (codes "heap 512\nclass A\narray @a C 1 2\nthread Java_A_f @a\n") getstringcritical_of_an_array_of_another_kind-world
unfolding opened
getstringcritical_of_an_array_of_another_kind-means = world-text (codes "heap 512\nclass A\narray @a C 1 2\nthread Java_A_f @a\n") 512 false getstringcritical_of_an_array_of_another_kind-lines 1 refl refl refl refl refl

getstringcritical_of_an_array_of_another_kind-accepted : IsAccepted getstringcritical_of_an_array_of_another_kind
unfolding opened
getstringcritical_of_an_array_of_another_kind-accepted = accepted getstringcritical_of_an_array_of_another_kind refl refl refl

getstringcritical_of_an_array_of_another_kind-run : IsWorkedRun getstringcritical_of_an_array_of_another_kind (codes "heap 512\nclass A\narray @a C 1 2\nthread Java_A_f @a\n") (codes "1*99\n")
    (codes "T1 trap 6 line 2\n#46 [C 1 2\njournal 1 1\n")
unfolding opened
getstringcritical_of_an_array_of_another_kind-run = worked-run getstringcritical_of_an_array_of_another_kind getstringcritical_of_an_array_of_another_kind-world ((Turn 1, Some 99) ∷ []) [] getstringcritical_of_an_array_of_another_kind-accepted getstringcritical_of_an_array_of_another_kind-means refl refl refl refl

-- a copy is made while a buffer is critical
-- JNIEXPORT void JNICALL Java_A_f(JNIEnv *env, jclass cls, jintArray a) {
-- jint *q = (*env)->GetPrimitiveArrayCritical(env, a, NULL);
-- if (q != NULL) {
-- jint *p = (*env)->GetIntArrayElements(env, a, NULL);
-- (*env)->ReleasePrimitiveArrayCritical(env, a, q, 0);
-- }
-- return;
-- }
abbrev pub a_copy_is_made_while_a_buffer_is_critical : SourceUnit
a_copy_is_made_while_a_buffer_is_critical =
    unit_of
    (native 1 Void (codes "Java_A_f") (reference_parameter JIntArray (codes "a") ∷ [])
    (Plain 2 (Declare (Pointer JInt) (codes "q") (FromCall (call (codes "GetPrimitiveArrayCritical") (given (codes "a") ∷ Value (Named Null) ∷ []))))
    ∷ If 3 (TestExpr (Binary NotEqual (Variable (codes "q")) (Named Null)))
    (block
    (Plain 4 (Declare (Pointer JInt) (codes "p") (FromCall (call (codes "GetIntArrayElements") (given (codes "a") ∷ Value (Named Null) ∷ []))))
    ∷ Plain 5 (Perform (call (codes "ReleasePrimitiveArrayCritical") (given (codes "a") ∷ given (codes "q") ∷ Value (Number 0 false) ∷ [])))
    ∷ [])
    6)
    NoElse
    ∷ Return 7 None
    ∷ [])
    8
    ∷ [])

a_copy_is_made_while_a_buffer_is_critical-refused : IsRefused a_copy_is_made_while_a_buffer_is_critical 31 4
unfolding opened
a_copy_is_made_while_a_buffer_is_critical-refused = bad_path a_copy_is_made_while_a_buffer_is_critical CallWhileCritical 4 refl refl refl

-- a return on the path where the second buffer is NULL
-- JNIEXPORT void JNICALL Java_A_f(JNIEnv *env, jclass cls, jintArray a) {
-- jint *p = (*env)->GetIntArrayElements(env, a, NULL);
-- if (p == NULL) {
-- return;
-- }
-- jint *q = (*env)->GetIntArrayElements(env, a, NULL);
-- if (q == NULL) {
-- return;
-- }
-- return;
-- }
abbrev pub a_return_on_the_path_where_the_second_buffer_is_null : SourceUnit
a_return_on_the_path_where_the_second_buffer_is_null =
    unit_of
    (native 1 Void (codes "Java_A_f") (reference_parameter JIntArray (codes "a") ∷ [])
    (Plain 2 (Declare (Pointer JInt) (codes "p") (FromCall (call (codes "GetIntArrayElements") (given (codes "a") ∷ Value (Named Null) ∷ []))))
    ∷ If 3 (TestExpr (Binary Equal (Variable (codes "p")) (Named Null)))
    (block
    (Return 4 None
    ∷ [])
    5)
    NoElse
    ∷ Plain 6 (Declare (Pointer JInt) (codes "q") (FromCall (call (codes "GetIntArrayElements") (given (codes "a") ∷ Value (Named Null) ∷ []))))
    ∷ If 7 (TestExpr (Binary Equal (Variable (codes "q")) (Named Null)))
    (block
    (Return 8 None
    ∷ [])
    9)
    NoElse
    ∷ Return 10 None
    ∷ [])
    11
    ∷ [])

a_return_on_the_path_where_the_second_buffer_is_null-refused : IsRefused a_return_on_the_path_where_the_second_buffer_is_null 32 8
unfolding opened
a_return_on_the_path_where_the_second_buffer_is_null-refused = bad_path a_return_on_the_path_where_the_second_buffer_is_null ReturnWithBuffer 8 refl refl refl

-- a loop's body ends with a buffer that it declares
-- JNIEXPORT void JNICALL Java_A_f(JNIEnv *env, jclass cls, jintArray a) {
-- while (1u == 1u) {
-- jint *p = (*env)->GetIntArrayElements(env, a, NULL);
-- }
-- return;
-- }
abbrev pub a_loop_s_body_ends_with_a_buffer_that_it_declares : SourceUnit
a_loop_s_body_ends_with_a_buffer_that_it_declares =
    unit_of
    (native 1 Void (codes "Java_A_f") (reference_parameter JIntArray (codes "a") ∷ [])
    (While 2 (Binary Equal (Number 1 true) (Number 1 true))
    (block
    (Plain 3 (Declare (Pointer JInt) (codes "p") (FromCall (call (codes "GetIntArrayElements") (given (codes "a") ∷ Value (Named Null) ∷ []))))
    ∷ [])
    4)
    ∷ Return 5 None
    ∷ [])
    6
    ∷ [])

a_loop_s_body_ends_with_a_buffer_that_it_declares-refused : IsRefused a_loop_s_body_ends_with_a_buffer_that_it_declares 33 4
unfolding opened
a_loop_s_body_ends_with_a_buffer_that_it_declares-refused = bad_path a_loop_s_body_ends_with_a_buffer_that_it_declares HeldBuffer 4 refl refl refl

-- a test beside another teaches nothing
-- JNIEXPORT void JNICALL Java_A_f(JNIEnv *env, jclass cls, jintArray a) {
-- jint *p = (*env)->GetIntArrayElements(env, a, NULL);
-- if (p != NULL && 1u == 1u) {
-- p[0] = 1;
-- }
-- return;
-- }
abbrev pub a_test_beside_another_teaches_nothing : SourceUnit
a_test_beside_another_teaches_nothing =
    unit_of
    (native 1 Void (codes "Java_A_f") (reference_parameter JIntArray (codes "a") ∷ [])
    (Plain 2 (Declare (Pointer JInt) (codes "p") (FromCall (call (codes "GetIntArrayElements") (given (codes "a") ∷ Value (Named Null) ∷ []))))
    ∷ If 3 (TestExpr (Binary LogicalAnd (Binary NotEqual (Variable (codes "p")) (Named Null)) (Binary Equal (Number 1 true) (Number 1 true))))
    (block
    (Plain 4 (AssignElement (codes "p") (Number 0 false) (Number 1 false))
    ∷ [])
    5)
    NoElse
    ∷ Return 6 None
    ∷ [])
    7
    ∷ [])

a_test_beside_another_teaches_nothing-refused : IsRefused a_test_beside_another_teaches_nothing 34 4
unfolding opened
a_test_beside_another_teaches_nothing-refused = bad_path a_test_beside_another_teaches_nothing UntestedBuffer 4 refl refl refl

-- a loop's test teaches nothing
-- JNIEXPORT void JNICALL Java_A_f(JNIEnv *env, jclass cls, jintArray a) {
-- jint *p = (*env)->GetIntArrayElements(env, a, NULL);
-- while (p != NULL) {
-- (*env)->ReleaseIntArrayElements(env, a, p, 0);
-- }
-- return;
-- }
abbrev pub a_loop_s_test_teaches_nothing : SourceUnit
a_loop_s_test_teaches_nothing =
    unit_of
    (native 1 Void (codes "Java_A_f") (reference_parameter JIntArray (codes "a") ∷ [])
    (Plain 2 (Declare (Pointer JInt) (codes "p") (FromCall (call (codes "GetIntArrayElements") (given (codes "a") ∷ Value (Named Null) ∷ []))))
    ∷ While 3 (Binary NotEqual (Variable (codes "p")) (Named Null))
    (block
    (Plain 4 (Perform (call (codes "ReleaseIntArrayElements") (given (codes "a") ∷ given (codes "p") ∷ Value (Number 0 false) ∷ [])))
    ∷ [])
    5)
    ∷ Return 6 None
    ∷ [])
    7
    ∷ [])

a_loop_s_test_teaches_nothing-refused : IsRefused a_loop_s_test_teaches_nothing 34 4
unfolding opened
a_loop_s_test_teaches_nothing-refused = bad_path a_loop_s_test_teaches_nothing UntestedBuffer 4 refl refl refl

-- a buffer is read where it is NULL
-- JNIEXPORT void JNICALL Java_A_f(JNIEnv *env, jclass cls, jintArray a) {
-- jint *p = (*env)->GetIntArrayElements(env, a, NULL);
-- if (p == NULL) {
-- put_jint(p[0]);
-- }
-- return;
-- }
abbrev pub a_buffer_is_read_where_it_is_null : SourceUnit
a_buffer_is_read_where_it_is_null =
    unit_of
    (native 1 Void (codes "Java_A_f") (reference_parameter JIntArray (codes "a") ∷ [])
    (Plain 2 (Declare (Pointer JInt) (codes "p") (FromCall (call (codes "GetIntArrayElements") (given (codes "a") ∷ Value (Named Null) ∷ []))))
    ∷ If 3 (TestExpr (Binary Equal (Variable (codes "p")) (Named Null)))
    (block
    (Plain 4 (PutJint (Element (codes "p") (Number 0 false)))
    ∷ [])
    5)
    NoElse
    ∷ Return 6 None
    ∷ [])
    7
    ∷ [])

a_buffer_is_read_where_it_is_null-refused : IsRefused a_buffer_is_read_where_it_is_null 35 4
unfolding opened
a_buffer_is_read_where_it_is_null-refused = bad_path a_buffer_is_read_where_it_is_null WrongBuffer 4 refl refl refl

-- a buffer is released with another reference to its array
-- JNIEXPORT void JNICALL Java_A_f(JNIEnv *env, jclass cls, jintArray a) {
-- jobject b = (*env)->NewLocalRef(env, a);
-- jint *p = (*env)->GetIntArrayElements(env, a, NULL);
-- if (p != NULL) {
-- (*env)->ReleaseIntArrayElements(env, b, p, 0);
-- }
-- return;
-- }
abbrev pub a_buffer_is_released_with_another_reference_to_its_array : SourceUnit
a_buffer_is_released_with_another_reference_to_its_array =
    unit_of
    (native 1 Void (codes "Java_A_f") (reference_parameter JIntArray (codes "a") ∷ [])
    (Plain 2 (Declare (Simple (ReferenceVariable JObject)) (codes "b") (FromCall (call (codes "NewLocalRef") (given (codes "a") ∷ []))))
    ∷ Plain 3 (Declare (Pointer JInt) (codes "p") (FromCall (call (codes "GetIntArrayElements") (given (codes "a") ∷ Value (Named Null) ∷ []))))
    ∷ If 4 (TestExpr (Binary NotEqual (Variable (codes "p")) (Named Null)))
    (block
    (Plain 5 (Perform (call (codes "ReleaseIntArrayElements") (given (codes "b") ∷ given (codes "p") ∷ Value (Number 0 false) ∷ [])))
    ∷ [])
    6)
    NoElse
    ∷ Return 7 None
    ∷ [])
    8
    ∷ [])

a_buffer_is_released_with_another_reference_to_its_array-refused : IsRefused a_buffer_is_released_with_another_reference_to_its_array 35 5
unfolding opened
a_buffer_is_released_with_another_reference_to_its_array-refused = bad_path a_buffer_is_released_with_another_reference_to_its_array WrongBuffer 5 refl refl refl

-- a buffer is held on one path alone
-- JNIEXPORT void JNICALL Java_A_f(JNIEnv *env, jclass cls, jintArray a) {
-- jint *p = (*env)->GetIntArrayElements(env, a, NULL);
-- if (p != NULL) {
-- p[0] = 1;
-- }
-- return;
-- }
abbrev pub a_buffer_is_held_on_one_path_alone : SourceUnit
a_buffer_is_held_on_one_path_alone =
    unit_of
    (native 1 Void (codes "Java_A_f") (reference_parameter JIntArray (codes "a") ∷ [])
    (Plain 2 (Declare (Pointer JInt) (codes "p") (FromCall (call (codes "GetIntArrayElements") (given (codes "a") ∷ Value (Named Null) ∷ []))))
    ∷ If 3 (TestExpr (Binary NotEqual (Variable (codes "p")) (Named Null)))
    (block
    (Plain 4 (AssignElement (codes "p") (Number 0 false) (Number 1 false))
    ∷ [])
    5)
    NoElse
    ∷ Return 6 None
    ∷ [])
    7
    ∷ [])

a_buffer_is_held_on_one_path_alone-refused : IsRefused a_buffer_is_held_on_one_path_alone 40 3
unfolding opened
a_buffer_is_held_on_one_path_alone-refused = bad_path a_buffer_is_held_on_one_path_alone PathsDiffer 3 refl refl refl
