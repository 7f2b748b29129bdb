-- The cases of texts/broken_rules.cases, as gate/worked_equations writes them.
use Rattle.std.specs.Prelude.{◌∷◌, true, false, [], None, codes, refl}
use Rattle.base.specs.declared.element.ElementType.TheVariants.{Int as JInt}
use Rattle.syntax.specs.declared.declared_type.ReferenceType.TheVariants.{Object as JObject, IntArray as JIntArray}
use Rattle.syntax.specs.declared.declared_type.VariableType.TheVariants.{Jint as JIntVariable, Reference as ReferenceVariable}
use Rattle.syntax.specs.declared.declared_type.DeclaredType.TheVariants.{Simple, Pointer}
use Rattle.syntax.specs.declared.unit.ResultType.TheVariants.{Void}
use Rattle.syntax.specs.declared.expr.Constant.TheVariants.{Null}
use Rattle.syntax.specs.declared.expr.BinaryOp.TheVariants.{Equal, NotEqual}
use Rattle.syntax.specs.Tree.{Number, Named, Variable, Binary, Value, FromCall, TestExpr, TestCall, Declare, AssignElement, Perform, Plain, If, NoElse, Return, SourceUnit}
use Rattle.region_rules.specs.declared.rule.RegionRule.TheVariants.{CallWhileCritical, ReturnWithBuffer, UntestedBuffer, ReturnInFrame, DeadReference, PathsDiffer, NoReturn}
use Rattle.test_equations.specs.Claims.{IsRefused}
use Rattle.test_equations.proofs.Programs.{unit_of, native, block, reference_parameter, call, given}
use Rattle.test_equations.proofs.Computed.{opened, bad_path}

-- length while critical
-- JNIEXPORT void JNICALL Java_A_f(JNIEnv *env, jclass cls, jintArray a) {
-- jint *q = (*env)->GetPrimitiveArrayCritical(env, a, NULL);
-- if (q != NULL) {
-- jint n = (*env)->GetArrayLength(env, a);
-- (*env)->ReleasePrimitiveArrayCritical(env, a, q, 0); }
-- return; }
abbrev pub length_while_critical : SourceUnit
length_while_critical =
    unit_of
    (native 1 Void (codes "Java_A_f") (reference_parameter JIntArray (codes "a") ∷ [])
    (Plain 2 (Declare (Pointer JInt) (codes "q") (FromCall (call (codes "GetPrimitiveArrayCritical") (given (codes "a") ∷ Value (Named Null) ∷ []))))
    ∷ If 3 (TestExpr (Binary NotEqual (Variable (codes "q")) (Named Null)))
    (block
    (Plain 4 (Declare (Simple JIntVariable) (codes "n") (FromCall (call (codes "GetArrayLength") (given (codes "a") ∷ []))))
    ∷ Plain 5 (Perform (call (codes "ReleasePrimitiveArrayCritical") (given (codes "a") ∷ given (codes "q") ∷ Value (Number 0 false) ∷ [])))
    ∷ [])
    5)
    NoElse
    ∷ Return 6 None
    ∷ [])
    6
    ∷ [])

length_while_critical-refused : IsRefused length_while_critical 31 4
unfolding opened
length_while_critical-refused = bad_path length_while_critical CallWhileCritical 4 refl refl refl

-- returned with buffer
-- JNIEXPORT void JNICALL Java_A_f(JNIEnv *env, jclass cls, jintArray a) {
-- jint *p = (*env)->GetIntArrayElements(env, a, NULL);
-- if (p != NULL) {
-- return; }
-- return; }
abbrev pub returned_with_buffer : SourceUnit
returned_with_buffer =
    unit_of
    (native 1 Void (codes "Java_A_f") (reference_parameter JIntArray (codes "a") ∷ [])
    (Plain 2 (Declare (Pointer JInt) (codes "p") (FromCall (call (codes "GetIntArrayElements") (given (codes "a") ∷ Value (Named Null) ∷ []))))
    ∷ If 3 (TestExpr (Binary NotEqual (Variable (codes "p")) (Named Null)))
    (block
    (Return 4 None
    ∷ [])
    4)
    NoElse
    ∷ Return 5 None
    ∷ [])
    5
    ∷ [])

returned_with_buffer-refused : IsRefused returned_with_buffer 32 4
unfolding opened
returned_with_buffer-refused = bad_path returned_with_buffer ReturnWithBuffer 4 refl refl refl

-- set untested
-- JNIEXPORT void JNICALL Java_A_f(JNIEnv *env, jclass cls, jintArray a) {
-- jint *p = (*env)->GetIntArrayElements(env, a, NULL);
-- p[0] = 1;
-- return; }
abbrev pub set_untested : SourceUnit
set_untested =
    unit_of
    (native 1 Void (codes "Java_A_f") (reference_parameter JIntArray (codes "a") ∷ [])
    (Plain 2 (Declare (Pointer JInt) (codes "p") (FromCall (call (codes "GetIntArrayElements") (given (codes "a") ∷ Value (Named Null) ∷ []))))
    ∷ Plain 3 (AssignElement (codes "p") (Number 0 false) (Number 1 false))
    ∷ Return 4 None
    ∷ [])
    4
    ∷ [])

set_untested-refused : IsRefused set_untested 34 3
unfolding opened
set_untested-refused = bad_path set_untested UntestedBuffer 3 refl refl refl

-- returned between frames
-- JNIEXPORT void JNICALL Java_A_f(JNIEnv *env, jclass cls) {
-- if ((*env)->PushLocalFrame(env, 2) == 0) {
-- return; }
-- return; }
abbrev pub returned_between_frames : SourceUnit
returned_between_frames =
    unit_of
    (native 1 Void (codes "Java_A_f") []
    (If 2 (TestCall (call (codes "PushLocalFrame") (Value (Number 2 false) ∷ [])))
    (block
    (Return 3 None
    ∷ [])
    3)
    NoElse
    ∷ Return 4 None
    ∷ [])
    4
    ∷ [])

returned_between_frames-refused : IsRefused returned_between_frames 36 3
unfolding opened
returned_between_frames-refused = bad_path returned_between_frames ReturnInFrame 3 refl refl refl

-- used after delete
-- JNIEXPORT void JNICALL Java_A_f(JNIEnv *env, jclass cls) {
-- jobject x = (*env)->NewLocalRef(env, cls);
-- (*env)->DeleteLocalRef(env, x);
-- jobject y = (*env)->NewLocalRef(env, x);
-- return; }
abbrev pub used_after_delete : SourceUnit
used_after_delete =
    unit_of
    (native 1 Void (codes "Java_A_f") []
    (Plain 2 (Declare (Simple (ReferenceVariable JObject)) (codes "x") (FromCall (call (codes "NewLocalRef") (given (codes "cls") ∷ []))))
    ∷ Plain 3 (Perform (call (codes "DeleteLocalRef") (given (codes "x") ∷ [])))
    ∷ Plain 4 (Declare (Simple (ReferenceVariable JObject)) (codes "y") (FromCall (call (codes "NewLocalRef") (given (codes "x") ∷ []))))
    ∷ Return 5 None
    ∷ [])
    5
    ∷ [])

used_after_delete-refused : IsRefused used_after_delete 38 4
unfolding opened
used_after_delete-refused = bad_path used_after_delete DeadReference 4 refl refl refl

-- deleted on one path
-- JNIEXPORT void JNICALL Java_A_f(JNIEnv *env, jclass cls) {
-- jobject x = (*env)->NewLocalRef(env, cls);
-- if (1u == 1u) { (*env)->DeleteLocalRef(env, x); }
-- return; }
abbrev pub deleted_on_one_path : SourceUnit
deleted_on_one_path =
    unit_of
    (native 1 Void (codes "Java_A_f") []
    (Plain 2 (Declare (Simple (ReferenceVariable JObject)) (codes "x") (FromCall (call (codes "NewLocalRef") (given (codes "cls") ∷ []))))
    ∷ If 3 (TestExpr (Binary Equal (Number 1 true) (Number 1 true)))
    (block
    (Plain 3 (Perform (call (codes "DeleteLocalRef") (given (codes "x") ∷ [])))
    ∷ [])
    3)
    NoElse
    ∷ Return 4 None
    ∷ [])
    4
    ∷ [])

deleted_on_one_path-refused : IsRefused deleted_on_one_path 40 3
unfolding opened
deleted_on_one_path-refused = bad_path deleted_on_one_path PathsDiffer 3 refl refl refl

-- empty body
-- JNIEXPORT void JNICALL Java_A_f(JNIEnv *env, jclass cls) { }
abbrev pub empty_body : SourceUnit
empty_body =
    unit_of
    (native 1 Void (codes "Java_A_f") []
    []
    1
    ∷ [])

empty_body-refused : IsRefused empty_body 42 1
unfolding opened
empty_body-refused = bad_path empty_body NoReturn 1 refl refl refl
