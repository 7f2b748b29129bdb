-- The cases of texts/reference_faults.cases, as gate/worked_equations writes them.
use Rattle.std.specs.Prelude.{◌∷◌, true, false, [], None, codes, refl}
use Rattle.base.specs.declared.element.ElementType.TheVariants.{Int as JInt}
use Rattle.syntax.specs.declared.declared_type.ReferenceType.TheVariants.{Object as JObject, IntArray as JIntArray}
use Rattle.syntax.specs.declared.declared_type.VariableType.TheVariants.{Jint as JIntVariable, Reference as ReferenceVariable}
use Rattle.syntax.specs.declared.declared_type.DeclaredType.TheVariants.{Simple, Pointer}
use Rattle.syntax.specs.declared.unit.ResultType.TheVariants.{Void}
use Rattle.syntax.specs.declared.expr.Constant.TheVariants.{Null}
use Rattle.syntax.specs.declared.expr.BinaryOp.TheVariants.{Equal}
use Rattle.syntax.specs.Tree.{Number, Named, Binary, Value, FromExpr, FromCall, TestExpr, TestCall, Declare, Assign, Perform, PutJint, Plain, If, NoElse, ElseBlock, While, Return, SourceUnit}
use Rattle.region_rules.specs.declared.rule.RegionRule.TheVariants.{HeldBuffer, ReturnInFrame, PopLastFrame, DeadReference, PathsDiffer, WrongLevel, NoReturn}
use Rattle.test_equations.specs.Claims.{IsRefused}
use Rattle.test_equations.proofs.Programs.{unit_of, native, block, reference_parameter, call, given}
use Rattle.test_equations.proofs.Computed.{opened, bad_path}

-- returned in frame
-- JNIEXPORT void JNICALL Java_A_f(JNIEnv *env, jclass cls) {
-- if ((*env)->PushLocalFrame(env, 2) == 0) {
-- return; }
-- return; }
abbrev pub returned_in_frame : SourceUnit
returned_in_frame =
    unit_of
    (native 1 Void (codes "Java_A_f") []
    (If 2 (TestCall (call (codes "PushLocalFrame") (Value (Number 2 false) ∷ [])))
    (block
    (Return 3 None
    ∷ [])
    3)
    NoElse
    ∷ Return 4 None
    ∷ [])
    4
    ∷ [])

returned_in_frame-refused : IsRefused returned_in_frame 36 3
unfolding opened
returned_in_frame-refused = bad_path returned_in_frame ReturnInFrame 3 refl refl refl

-- popped last frame
-- JNIEXPORT void JNICALL Java_A_f(JNIEnv *env, jclass cls) {
-- (*env)->PopLocalFrame(env, NULL);
-- return; }
abbrev pub popped_last_frame : SourceUnit
popped_last_frame =
    unit_of
    (native 1 Void (codes "Java_A_f") []
    (Plain 2 (Perform (call (codes "PopLocalFrame") (Value (Named Null) ∷ [])))
    ∷ Return 3 None
    ∷ [])
    3
    ∷ [])

popped_last_frame-refused : IsRefused popped_last_frame 37 2
unfolding opened
popped_last_frame-refused = bad_path popped_last_frame PopLastFrame 2 refl refl refl

-- deleted twice
-- JNIEXPORT void JNICALL Java_A_f(JNIEnv *env, jclass cls) {
-- jobject x = (*env)->NewLocalRef(env, cls);
-- (*env)->DeleteLocalRef(env, x);
-- (*env)->DeleteLocalRef(env, x);
-- return; }
abbrev pub deleted_twice : SourceUnit
deleted_twice =
    unit_of
    (native 1 Void (codes "Java_A_f") []
    (Plain 2 (Declare (Simple (ReferenceVariable JObject)) (codes "x") (FromCall (call (codes "NewLocalRef") (given (codes "cls") ∷ []))))
    ∷ Plain 3 (Perform (call (codes "DeleteLocalRef") (given (codes "x") ∷ [])))
    ∷ Plain 4 (Perform (call (codes "DeleteLocalRef") (given (codes "x") ∷ [])))
    ∷ Return 5 None
    ∷ [])
    5
    ∷ [])

deleted_twice-refused : IsRefused deleted_twice 38 4
unfolding opened
deleted_twice-refused = bad_path deleted_twice DeadReference 4 refl refl refl

-- used after its frame
-- JNIEXPORT void JNICALL Java_A_f(JNIEnv *env, jclass cls) {
-- if ((*env)->PushLocalFrame(env, 4) == 0) {
-- jintArray y = (*env)->NewIntArray(env, 1);
-- jobject z = (*env)->PopLocalFrame(env, y);
-- jint n = (*env)->GetArrayLength(env, y);
-- }
-- return; }
abbrev pub used_after_its_frame : SourceUnit
used_after_its_frame =
    unit_of
    (native 1 Void (codes "Java_A_f") []
    (If 2 (TestCall (call (codes "PushLocalFrame") (Value (Number 4 false) ∷ [])))
    (block
    (Plain 3 (Declare (Simple (ReferenceVariable JIntArray)) (codes "y") (FromCall (call (codes "NewIntArray") (Value (Number 1 false) ∷ []))))
    ∷ Plain 4 (Declare (Simple (ReferenceVariable JObject)) (codes "z") (FromCall (call (codes "PopLocalFrame") (given (codes "y") ∷ []))))
    ∷ Plain 5 (Declare (Simple JIntVariable) (codes "n") (FromCall (call (codes "GetArrayLength") (given (codes "y") ∷ []))))
    ∷ [])
    6)
    NoElse
    ∷ Return 7 None
    ∷ [])
    7
    ∷ [])

used_after_its_frame-refused : IsRefused used_after_its_frame 38 5
unfolding opened
used_after_its_frame-refused = bad_path used_after_its_frame DeadReference 5 refl refl refl

-- deleted in a loop
-- JNIEXPORT void JNICALL Java_A_f(JNIEnv *env, jclass cls) {
-- jobject x = (*env)->NewLocalRef(env, cls);
-- while (1u == 2u) { (*env)->DeleteLocalRef(env, x); }
-- return; }
abbrev pub deleted_in_a_loop : SourceUnit
deleted_in_a_loop =
    unit_of
    (native 1 Void (codes "Java_A_f") []
    (Plain 2 (Declare (Simple (ReferenceVariable JObject)) (codes "x") (FromCall (call (codes "NewLocalRef") (given (codes "cls") ∷ []))))
    ∷ While 3 (Binary Equal (Number 1 true) (Number 2 true))
    (block
    (Plain 3 (Perform (call (codes "DeleteLocalRef") (given (codes "x") ∷ [])))
    ∷ [])
    3)
    ∷ Return 4 None
    ∷ [])
    4
    ∷ [])

deleted_in_a_loop-refused : IsRefused deleted_in_a_loop 40 3
unfolding opened
deleted_in_a_loop-refused = bad_path deleted_in_a_loop PathsDiffer 3 refl refl refl

-- pushed on one path
-- JNIEXPORT void JNICALL Java_A_f(JNIEnv *env, jclass cls) {
-- if ((*env)->PushLocalFrame(env, 4) == 0) { put_jint(1); }
-- return; }
abbrev pub pushed_on_one_path : SourceUnit
pushed_on_one_path =
    unit_of
    (native 1 Void (codes "Java_A_f") []
    (If 2 (TestCall (call (codes "PushLocalFrame") (Value (Number 4 false) ∷ [])))
    (block
    (Plain 2 (PutJint (Number 1 false))
    ∷ [])
    2)
    NoElse
    ∷ Return 3 None
    ∷ [])
    3
    ∷ [])

pushed_on_one_path-refused : IsRefused pushed_on_one_path 40 2
unfolding opened
pushed_on_one_path-refused = bad_path pushed_on_one_path PathsDiffer 2 refl refl refl

-- deleted twice on one path
-- JNIEXPORT void JNICALL Java_A_f(JNIEnv *env, jclass cls) {
-- jobject x = (*env)->NewLocalRef(env, cls);
-- if (1u == 2u) { (*env)->DeleteLocalRef(env, x);
-- (*env)->DeleteLocalRef(env, x); }
-- return; }
abbrev pub deleted_twice_on_one_path : SourceUnit
deleted_twice_on_one_path =
    unit_of
    (native 1 Void (codes "Java_A_f") []
    (Plain 2 (Declare (Simple (ReferenceVariable JObject)) (codes "x") (FromCall (call (codes "NewLocalRef") (given (codes "cls") ∷ []))))
    ∷ If 3 (TestExpr (Binary Equal (Number 1 true) (Number 2 true)))
    (block
    (Plain 3 (Perform (call (codes "DeleteLocalRef") (given (codes "x") ∷ [])))
    ∷ Plain 4 (Perform (call (codes "DeleteLocalRef") (given (codes "x") ∷ [])))
    ∷ [])
    4)
    NoElse
    ∷ Return 5 None
    ∷ [])
    5
    ∷ [])

deleted_twice_on_one_path-refused : IsRefused deleted_twice_on_one_path 38 4
unfolding opened
deleted_twice_on_one_path-refused = bad_path deleted_twice_on_one_path DeadReference 4 refl refl refl

-- outer set in frame
-- JNIEXPORT void JNICALL Java_A_f(JNIEnv *env, jclass cls) {
-- jobject x = NULL;
-- if ((*env)->PushLocalFrame(env, 4) == 0) {
-- x = (*env)->NewLocalRef(env, cls);
-- x = (*env)->PopLocalFrame(env, x); }
-- return; }
abbrev pub outer_set_in_frame : SourceUnit
outer_set_in_frame =
    unit_of
    (native 1 Void (codes "Java_A_f") []
    (Plain 2 (Declare (Simple (ReferenceVariable JObject)) (codes "x") (FromExpr (Named Null)))
    ∷ If 3 (TestCall (call (codes "PushLocalFrame") (Value (Number 4 false) ∷ [])))
    (block
    (Plain 4 (Assign (codes "x") (FromCall (call (codes "NewLocalRef") (given (codes "cls") ∷ []))))
    ∷ Plain 5 (Assign (codes "x") (FromCall (call (codes "PopLocalFrame") (given (codes "x") ∷ []))))
    ∷ [])
    5)
    NoElse
    ∷ Return 6 None
    ∷ [])
    6
    ∷ [])

outer_set_in_frame-refused : IsRefused outer_set_in_frame 41 4
unfolding opened
outer_set_in_frame-refused = bad_path outer_set_in_frame WrongLevel 4 refl refl refl

-- after two returns
-- JNIEXPORT void JNICALL Java_A_f(JNIEnv *env, jclass cls) {
-- if (1u == 1u) { return; } else { return; }
-- put_jint(1); }
abbrev pub after_two_returns : SourceUnit
after_two_returns =
    unit_of
    (native 1 Void (codes "Java_A_f") []
    (If 2 (TestExpr (Binary Equal (Number 1 true) (Number 1 true)))
    (block
    (Return 2 None
    ∷ [])
    2)
    (ElseBlock (block
    (Return 2 None
    ∷ [])
    2))
    ∷ Plain 3 (PutJint (Number 1 false))
    ∷ [])
    3
    ∷ [])

after_two_returns-refused : IsRefused after_two_returns 42 3
unfolding opened
after_two_returns-refused = bad_path after_two_returns NoReturn 3 refl refl refl

-- returned in a loop
-- JNIEXPORT void JNICALL Java_A_f(JNIEnv *env, jclass cls) {
-- while (1u == 1u) { return; }
-- }
abbrev pub returned_in_a_loop : SourceUnit
returned_in_a_loop =
    unit_of
    (native 1 Void (codes "Java_A_f") []
    (While 2 (Binary Equal (Number 1 true) (Number 1 true))
    (block
    (Return 2 None
    ∷ [])
    2)
    ∷ [])
    3
    ∷ [])

returned_in_a_loop-refused : IsRefused returned_in_a_loop 42 3
unfolding opened
returned_in_a_loop-refused = bad_path returned_in_a_loop NoReturn 3 refl refl refl

-- held at the last brace
-- JNIEXPORT void JNICALL Java_A_f(JNIEnv *env, jclass cls, jintArray a) {
-- jint *p = (*env)->GetIntArrayElements(env, a, NULL);
-- }
abbrev pub held_at_the_last_brace : SourceUnit
held_at_the_last_brace =
    unit_of
    (native 1 Void (codes "Java_A_f") (reference_parameter JIntArray (codes "a") ∷ [])
    (Plain 2 (Declare (Pointer JInt) (codes "p") (FromCall (call (codes "GetIntArrayElements") (given (codes "a") ∷ Value (Named Null) ∷ []))))
    ∷ [])
    3
    ∷ [])

held_at_the_last_brace-refused : IsRefused held_at_the_last_brace 33 3
unfolding opened
held_at_the_last_brace-refused = bad_path held_at_the_last_brace HeldBuffer 3 refl refl refl
