-- The cases of texts/buffer_faults.cases, as gate/worked_equations writes them.
use Rattle.std.specs.Prelude.{◌∷◌, true, false, [], None, codes, refl}
use Rattle.base.specs.declared.element.ElementType.TheVariants.{Int as JInt}
use Rattle.syntax.specs.declared.declared_type.ReferenceType.TheVariants.{Object as JObject, IntArray as JIntArray}
use Rattle.syntax.specs.declared.declared_type.VariableType.TheVariants.{Reference as ReferenceVariable}
use Rattle.syntax.specs.declared.declared_type.DeclaredType.TheVariants.{Simple, Pointer}
use Rattle.syntax.specs.declared.unit.ResultType.TheVariants.{Void}
use Rattle.syntax.specs.declared.expr.Constant.TheVariants.{Commit, Null}
use Rattle.syntax.specs.declared.expr.BinaryOp.TheVariants.{Equal, NotEqual}
use Rattle.syntax.specs.Tree.{Number, Named, Variable, Element, Binary, Value, FromExpr, FromCall, TestExpr, TestCall, Declare, Assign, AssignElement, Perform, PutJint, Plain, If, NoElse, Return, SourceUnit}
use Rattle.region_rules.specs.declared.rule.RegionRule.TheVariants.{CallWhileCritical, HeldBuffer, UntestedBuffer, WrongBuffer, ArrayInUse}
use Rattle.test_equations.specs.Claims.{IsRefused}
use Rattle.test_equations.proofs.Programs.{unit_of, native, block, static_reference, reference_parameter, call, given}
use Rattle.test_equations.proofs.Computed.{opened, bad_path}

-- got twice
-- JNIEXPORT void JNICALL Java_A_f(JNIEnv *env, jclass cls, jintArray a) {
-- jint *p = (*env)->GetIntArrayElements(env, a, NULL);
-- p = (*env)->GetIntArrayElements(env, a, NULL);
-- return; }
abbrev pub got_twice : SourceUnit
got_twice =
    unit_of
    (native 1 Void (codes "Java_A_f") (reference_parameter JIntArray (codes "a") ∷ [])
    (Plain 2 (Declare (Pointer JInt) (codes "p") (FromCall (call (codes "GetIntArrayElements") (given (codes "a") ∷ Value (Named Null) ∷ []))))
    ∷ Plain 3 (Assign (codes "p") (FromCall (call (codes "GetIntArrayElements") (given (codes "a") ∷ Value (Named Null) ∷ []))))
    ∷ Return 4 None
    ∷ [])
    4
    ∷ [])

got_twice-refused : IsRefused got_twice 33 3
unfolding opened
got_twice-refused = bad_path got_twice HeldBuffer 3 refl refl refl

-- held at the end
-- JNIEXPORT void JNICALL Java_A_f(JNIEnv *env, jclass cls, jintArray a) {
-- if (1u == 1u) { jint *p = (*env)->GetIntArrayElements(env, a, NULL);
-- }
-- return; }
abbrev pub held_at_the_end : SourceUnit
held_at_the_end =
    unit_of
    (native 1 Void (codes "Java_A_f") (reference_parameter JIntArray (codes "a") ∷ [])
    (If 2 (TestExpr (Binary Equal (Number 1 true) (Number 1 true)))
    (block
    (Plain 2 (Declare (Pointer JInt) (codes "p") (FromCall (call (codes "GetIntArrayElements") (given (codes "a") ∷ Value (Named Null) ∷ []))))
    ∷ [])
    3)
    NoElse
    ∷ Return 4 None
    ∷ [])
    4
    ∷ [])

held_at_the_end-refused : IsRefused held_at_the_end 33 3
unfolding opened
held_at_the_end-refused = bad_path held_at_the_end HeldBuffer 3 refl refl refl

-- read untested
-- JNIEXPORT void JNICALL Java_A_f(JNIEnv *env, jclass cls, jintArray a) {
-- jint *p = (*env)->GetIntArrayElements(env, a, NULL);
-- put_jint(p[0]);
-- return; }
abbrev pub read_untested : SourceUnit
read_untested =
    unit_of
    (native 1 Void (codes "Java_A_f") (reference_parameter JIntArray (codes "a") ∷ [])
    (Plain 2 (Declare (Pointer JInt) (codes "p") (FromCall (call (codes "GetIntArrayElements") (given (codes "a") ∷ Value (Named Null) ∷ []))))
    ∷ Plain 3 (PutJint (Element (codes "p") (Number 0 false)))
    ∷ Return 4 None
    ∷ [])
    4
    ∷ [])

read_untested-refused : IsRefused read_untested 34 3
unfolding opened
read_untested-refused = bad_path read_untested UntestedBuffer 3 refl refl refl

-- released untested
-- JNIEXPORT void JNICALL Java_A_f(JNIEnv *env, jclass cls, jintArray a) {
-- jint *p = (*env)->GetIntArrayElements(env, a, NULL);
-- (*env)->ReleaseIntArrayElements(env, a, p, 0);
-- return; }
abbrev pub released_untested : SourceUnit
released_untested =
    unit_of
    (native 1 Void (codes "Java_A_f") (reference_parameter JIntArray (codes "a") ∷ [])
    (Plain 2 (Declare (Pointer JInt) (codes "p") (FromCall (call (codes "GetIntArrayElements") (given (codes "a") ∷ Value (Named Null) ∷ []))))
    ∷ Plain 3 (Perform (call (codes "ReleaseIntArrayElements") (given (codes "a") ∷ given (codes "p") ∷ Value (Number 0 false) ∷ [])))
    ∷ Return 4 None
    ∷ [])
    4
    ∷ [])

released_untested-refused : IsRefused released_untested 34 3
unfolding opened
released_untested-refused = bad_path released_untested UntestedBuffer 3 refl refl refl

-- never got
-- JNIEXPORT void JNICALL Java_A_f(JNIEnv *env, jclass cls, jintArray a) {
-- jint *p = NULL;
-- if (p == NULL) { }
-- return; }
abbrev pub never_got : SourceUnit
never_got =
    unit_of
    (native 1 Void (codes "Java_A_f") (reference_parameter JIntArray (codes "a") ∷ [])
    (Plain 2 (Declare (Pointer JInt) (codes "p") (FromExpr (Named Null)))
    ∷ If 3 (TestExpr (Binary Equal (Variable (codes "p")) (Named Null)))
    (block
    []
    3)
    NoElse
    ∷ Return 4 None
    ∷ [])
    4
    ∷ [])

never_got-refused : IsRefused never_got 35 3
unfolding opened
never_got-refused = bad_path never_got WrongBuffer 3 refl refl refl

-- released for another
-- JNIEXPORT void JNICALL Java_A_f(JNIEnv *env, jclass cls, jintArray a, jintArray b) {
-- jint *p = (*env)->GetIntArrayElements(env, a, NULL);
-- if (p != NULL) {
-- (*env)->ReleaseIntArrayElements(env, b, p, 0); }
-- return; }
abbrev pub released_for_another : SourceUnit
released_for_another =
    unit_of
    (native 1 Void (codes "Java_A_f") (reference_parameter JIntArray (codes "a") ∷ reference_parameter JIntArray (codes "b") ∷ [])
    (Plain 2 (Declare (Pointer JInt) (codes "p") (FromCall (call (codes "GetIntArrayElements") (given (codes "a") ∷ Value (Named Null) ∷ []))))
    ∷ If 3 (TestExpr (Binary NotEqual (Variable (codes "p")) (Named Null)))
    (block
    (Plain 4 (Perform (call (codes "ReleaseIntArrayElements") (given (codes "b") ∷ given (codes "p") ∷ Value (Number 0 false) ∷ [])))
    ∷ [])
    4)
    NoElse
    ∷ Return 5 None
    ∷ [])
    5
    ∷ [])

released_for_another-refused : IsRefused released_for_another 35 4
unfolding opened
released_for_another-refused = bad_path released_for_another WrongBuffer 4 refl refl refl

-- released as critical
-- JNIEXPORT void JNICALL Java_A_f(JNIEnv *env, jclass cls, jintArray a) {
-- jint *p = (*env)->GetIntArrayElements(env, a, NULL);
-- if (p != NULL) {
-- (*env)->ReleasePrimitiveArrayCritical(env, a, p, 0); }
-- return; }
abbrev pub released_as_critical : SourceUnit
released_as_critical =
    unit_of
    (native 1 Void (codes "Java_A_f") (reference_parameter JIntArray (codes "a") ∷ [])
    (Plain 2 (Declare (Pointer JInt) (codes "p") (FromCall (call (codes "GetIntArrayElements") (given (codes "a") ∷ Value (Named Null) ∷ []))))
    ∷ If 3 (TestExpr (Binary NotEqual (Variable (codes "p")) (Named Null)))
    (block
    (Plain 4 (Perform (call (codes "ReleasePrimitiveArrayCritical") (given (codes "a") ∷ given (codes "p") ∷ Value (Number 0 false) ∷ [])))
    ∷ [])
    4)
    NoElse
    ∷ Return 5 None
    ∷ [])
    5
    ∷ [])

released_as_critical-refused : IsRefused released_as_critical 35 4
unfolding opened
released_as_critical-refused = bad_path released_as_critical WrongBuffer 4 refl refl refl

-- committed critical
-- JNIEXPORT void JNICALL Java_A_f(JNIEnv *env, jclass cls, jintArray a) {
-- jint *q = (*env)->GetPrimitiveArrayCritical(env, a, NULL);
-- if (q != NULL) {
-- (*env)->ReleasePrimitiveArrayCritical(env, a, q, JNI_COMMIT); }
-- return; }
abbrev pub committed_critical : SourceUnit
committed_critical =
    unit_of
    (native 1 Void (codes "Java_A_f") (reference_parameter JIntArray (codes "a") ∷ [])
    (Plain 2 (Declare (Pointer JInt) (codes "q") (FromCall (call (codes "GetPrimitiveArrayCritical") (given (codes "a") ∷ Value (Named Null) ∷ []))))
    ∷ If 3 (TestExpr (Binary NotEqual (Variable (codes "q")) (Named Null)))
    (block
    (Plain 4 (Perform (call (codes "ReleasePrimitiveArrayCritical") (given (codes "a") ∷ given (codes "q") ∷ Value (Named Commit) ∷ [])))
    ∷ [])
    4)
    NoElse
    ∷ Return 5 None
    ∷ [])
    5
    ∷ [])

committed_critical-refused : IsRefused committed_critical 35 4
unfolding opened
committed_critical-refused = bad_path committed_critical WrongBuffer 4 refl refl refl

-- used after release
-- JNIEXPORT void JNICALL Java_A_f(JNIEnv *env, jclass cls, jintArray a) {
-- jint *p = (*env)->GetIntArrayElements(env, a, NULL);
-- if (p != NULL) { (*env)->ReleaseIntArrayElements(env, a, p, 0);
-- p[0] = 1; }
-- return; }
abbrev pub used_after_release : SourceUnit
used_after_release =
    unit_of
    (native 1 Void (codes "Java_A_f") (reference_parameter JIntArray (codes "a") ∷ [])
    (Plain 2 (Declare (Pointer JInt) (codes "p") (FromCall (call (codes "GetIntArrayElements") (given (codes "a") ∷ Value (Named Null) ∷ []))))
    ∷ If 3 (TestExpr (Binary NotEqual (Variable (codes "p")) (Named Null)))
    (block
    (Plain 3 (Perform (call (codes "ReleaseIntArrayElements") (given (codes "a") ∷ given (codes "p") ∷ Value (Number 0 false) ∷ [])))
    ∷ Plain 4 (AssignElement (codes "p") (Number 0 false) (Number 1 false))
    ∷ [])
    4)
    NoElse
    ∷ Return 5 None
    ∷ [])
    5
    ∷ [])

used_after_release-refused : IsRefused used_after_release 35 4
unfolding opened
used_after_release-refused = bad_path used_after_release WrongBuffer 4 refl refl refl

-- printed while critical
-- JNIEXPORT void JNICALL Java_A_f(JNIEnv *env, jclass cls, jintArray a) {
-- jint *q = (*env)->GetPrimitiveArrayCritical(env, a, NULL);
-- put_jint(1);
-- return; }
abbrev pub printed_while_critical : SourceUnit
printed_while_critical =
    unit_of
    (native 1 Void (codes "Java_A_f") (reference_parameter JIntArray (codes "a") ∷ [])
    (Plain 2 (Declare (Pointer JInt) (codes "q") (FromCall (call (codes "GetPrimitiveArrayCritical") (given (codes "a") ∷ Value (Named Null) ∷ []))))
    ∷ Plain 3 (PutJint (Number 1 false))
    ∷ Return 4 None
    ∷ [])
    4
    ∷ [])

printed_while_critical-refused : IsRefused printed_while_critical 31 3
unfolding opened
printed_while_critical-refused = bad_path printed_while_critical CallWhileCritical 3 refl refl refl

-- released as copy
-- JNIEXPORT void JNICALL Java_A_f(JNIEnv *env, jclass cls, jintArray a) {
-- jint *q = (*env)->GetPrimitiveArrayCritical(env, a, NULL);
-- if (q != NULL) {
-- (*env)->ReleaseIntArrayElements(env, a, q, 0); }
-- return; }
abbrev pub released_as_copy : SourceUnit
released_as_copy =
    unit_of
    (native 1 Void (codes "Java_A_f") (reference_parameter JIntArray (codes "a") ∷ [])
    (Plain 2 (Declare (Pointer JInt) (codes "q") (FromCall (call (codes "GetPrimitiveArrayCritical") (given (codes "a") ∷ Value (Named Null) ∷ []))))
    ∷ If 3 (TestExpr (Binary NotEqual (Variable (codes "q")) (Named Null)))
    (block
    (Plain 4 (Perform (call (codes "ReleaseIntArrayElements") (given (codes "a") ∷ given (codes "q") ∷ Value (Number 0 false) ∷ [])))
    ∷ [])
    4)
    NoElse
    ∷ Return 5 None
    ∷ [])
    5
    ∷ [])

released_as_copy-refused : IsRefused released_as_copy 31 4
unfolding opened
released_as_copy-refused = bad_path released_as_copy CallWhileCritical 4 refl refl refl

-- array set
-- JNIEXPORT void JNICALL Java_A_f(JNIEnv *env, jclass cls, jintArray a) {
-- jint *p = (*env)->GetIntArrayElements(env, a, NULL);
-- a = NULL;
-- return; }
abbrev pub array_set : SourceUnit
array_set =
    unit_of
    (native 1 Void (codes "Java_A_f") (reference_parameter JIntArray (codes "a") ∷ [])
    (Plain 2 (Declare (Pointer JInt) (codes "p") (FromCall (call (codes "GetIntArrayElements") (given (codes "a") ∷ Value (Named Null) ∷ []))))
    ∷ Plain 3 (Assign (codes "a") (FromExpr (Named Null)))
    ∷ Return 4 None
    ∷ [])
    4
    ∷ [])

array_set-refused : IsRefused array_set 39 3
unfolding opened
array_set-refused = bad_path array_set ArrayInUse 3 refl refl refl

-- array deleted
-- JNIEXPORT void JNICALL Java_A_f(JNIEnv *env, jclass cls, jintArray a) {
-- jint *p = (*env)->GetIntArrayElements(env, a, NULL);
-- (*env)->DeleteLocalRef(env, a);
-- return; }
abbrev pub array_deleted : SourceUnit
array_deleted =
    unit_of
    (native 1 Void (codes "Java_A_f") (reference_parameter JIntArray (codes "a") ∷ [])
    (Plain 2 (Declare (Pointer JInt) (codes "p") (FromCall (call (codes "GetIntArrayElements") (given (codes "a") ∷ Value (Named Null) ∷ []))))
    ∷ Plain 3 (Perform (call (codes "DeleteLocalRef") (given (codes "a") ∷ [])))
    ∷ Return 4 None
    ∷ [])
    4
    ∷ [])

array_deleted-refused : IsRefused array_deleted 39 3
unfolding opened
array_deleted-refused = bad_path array_deleted ArrayInUse 3 refl refl refl

-- array of a static
-- static jobject g = NULL;
-- JNIEXPORT void JNICALL Java_A_f(JNIEnv *env, jclass cls) {
-- jint *p = (*env)->GetIntArrayElements(env, g, NULL);
-- return; }
abbrev pub array_of_a_static : SourceUnit
array_of_a_static =
    unit_of
    (static_reference 1 JObject (codes "g")
    ∷ native 2 Void (codes "Java_A_f") []
    (Plain 3 (Declare (Pointer JInt) (codes "p") (FromCall (call (codes "GetIntArrayElements") (given (codes "g") ∷ Value (Named Null) ∷ []))))
    ∷ Return 4 None
    ∷ [])
    4
    ∷ [])

array_of_a_static-refused : IsRefused array_of_a_static 39 3
unfolding opened
array_of_a_static-refused = bad_path array_of_a_static ArrayInUse 3 refl refl refl

-- array popped
-- JNIEXPORT void JNICALL Java_A_f(JNIEnv *env, jclass cls) {
-- if ((*env)->PushLocalFrame(env, 4) == 0) {
-- jintArray y = (*env)->NewIntArray(env, 1);
-- jint *p = (*env)->GetIntArrayElements(env, y, NULL);
-- jobject z = (*env)->PopLocalFrame(env, NULL);
-- }
-- return; }
abbrev pub array_popped : SourceUnit
array_popped =
    unit_of
    (native 1 Void (codes "Java_A_f") []
    (If 2 (TestCall (call (codes "PushLocalFrame") (Value (Number 4 false) ∷ [])))
    (block
    (Plain 3 (Declare (Simple (ReferenceVariable JIntArray)) (codes "y") (FromCall (call (codes "NewIntArray") (Value (Number 1 false) ∷ []))))
    ∷ Plain 4 (Declare (Pointer JInt) (codes "p") (FromCall (call (codes "GetIntArrayElements") (given (codes "y") ∷ Value (Named Null) ∷ []))))
    ∷ Plain 5 (Declare (Simple (ReferenceVariable JObject)) (codes "z") (FromCall (call (codes "PopLocalFrame") (Value (Named Null) ∷ []))))
    ∷ [])
    6)
    NoElse
    ∷ Return 7 None
    ∷ [])
    7
    ∷ [])

array_popped-refused : IsRefused array_popped 39 5
unfolding opened
array_popped-refused = bad_path array_popped ArrayInUse 5 refl refl refl

-- array null
-- JNIEXPORT void JNICALL Java_A_f(JNIEnv *env, jclass cls) {
-- jint *p = (*env)->GetIntArrayElements(env, NULL, NULL);
-- return; }
abbrev pub array_null : SourceUnit
array_null =
    unit_of
    (native 1 Void (codes "Java_A_f") []
    (Plain 2 (Declare (Pointer JInt) (codes "p") (FromCall (call (codes "GetIntArrayElements") (Value (Named Null) ∷ Value (Named Null) ∷ []))))
    ∷ Return 3 None
    ∷ [])
    3
    ∷ [])

array_null-refused : IsRefused array_null 39 2
unfolding opened
array_null-refused = bad_path array_null ArrayInUse 2 refl refl refl
