-- The cases of texts/type_faults.cases, as gate/worked_equations writes them.
use Rattle.std.specs.Prelude.{◌∷◌, true, false, [], None, codes, refl}
use Rattle.base.specs.declared.element.ElementType.TheVariants.{Int as JInt}
use Rattle.syntax.specs.declared.declared_type.ReferenceType.TheVariants.{Object as JObject, String as JString, IntArray as JIntArray}
use Rattle.syntax.specs.declared.declared_type.VariableType.TheVariants.{Uint32 as UInt32, Jint as JIntVariable, Reference as ReferenceVariable}
use Rattle.syntax.specs.declared.declared_type.DeclaredType.TheVariants.{Simple, Pointer, ConstChars}
use Rattle.syntax.specs.declared.unit.ResultType.TheVariants.{Void}
use Rattle.syntax.specs.declared.expr.Constant.TheVariants.{True, Null}
use Rattle.syntax.specs.declared.expr.BinaryOp.TheVariants.{Equal, Add}
use Rattle.syntax.specs.Tree.{Number, Named, Variable, Binary, Value, FromExpr, FromCall, TestExpr, Declare, Assign, AssignElement, Perform, PutJint, Plain, If, NoElse, Return, SourceUnit}
use Rattle.type_rules.specs.declared.rule.TypeRule.TheVariants.{UnknownName, DeclaredTwice, TypeMisfit, UnknownFunction, ArgumentCount, ReferenceCopied, BadMode, ReadOnlyWrite}
use Rattle.test_equations.specs.Claims.{IsRefused}
use Rattle.test_equations.proofs.Programs.{unit_of, native, block, static_reference, reference_parameter, int_parameter, call, given}
use Rattle.test_equations.proofs.Computed.{opened, ill_typed}

-- unknown name
-- JNIEXPORT void JNICALL Java_A_f(JNIEnv *env, jclass cls) { put_jint(x); return; }
abbrev pub unknown_name : SourceUnit
unknown_name =
    unit_of
    (native 1 Void (codes "Java_A_f") []
    (Plain 1 (PutJint (Variable (codes "x")))
    ∷ Return 1 None
    ∷ [])
    1
    ∷ [])

unknown_name-refused : IsRefused unknown_name 21 1
unfolding opened
unknown_name-refused = ill_typed unknown_name UnknownName 1 refl refl

-- not a native name
-- JNIEXPORT void JNICALL f(JNIEnv *env, jclass cls) { return; }
abbrev pub not_a_native_name : SourceUnit
not_a_native_name =
    unit_of
    (native 1 Void (codes "f") []
    (Return 1 None
    ∷ [])
    1
    ∷ [])

not_a_native_name-refused : IsRefused not_a_native_name 21 1
unfolding opened
not_a_native_name-refused = ill_typed not_a_native_name UnknownName 1 refl refl

-- out of its block
-- JNIEXPORT void JNICALL Java_A_f(JNIEnv *env, jclass cls) { if (1u == 1u) { jint x = 1; }
-- put_jint(x); return; }
abbrev pub out_of_its_block : SourceUnit
out_of_its_block =
    unit_of
    (native 1 Void (codes "Java_A_f") []
    (If 1 (TestExpr (Binary Equal (Number 1 true) (Number 1 true)))
    (block
    (Plain 1 (Declare (Simple JIntVariable) (codes "x") (FromExpr (Number 1 false)))
    ∷ [])
    1)
    NoElse
    ∷ Plain 2 (PutJint (Variable (codes "x")))
    ∷ Return 2 None
    ∷ [])
    2
    ∷ [])

out_of_its_block-refused : IsRefused out_of_its_block 21 2
unfolding opened
out_of_its_block-refused = ill_typed out_of_its_block UnknownName 2 refl refl

-- parameter twice
-- JNIEXPORT void JNICALL Java_A_f(JNIEnv *env, jclass cls, jint cls) { return; }
abbrev pub parameter_twice : SourceUnit
parameter_twice =
    unit_of
    (native 1 Void (codes "Java_A_f") (int_parameter (codes "cls") ∷ [])
    (Return 1 None
    ∷ [])
    1
    ∷ [])

parameter_twice-refused : IsRefused parameter_twice 22 1
unfolding opened
parameter_twice-refused = ill_typed parameter_twice DeclaredTwice 1 refl refl

-- taken to the end
-- JNIEXPORT void JNICALL Java_A_f(JNIEnv *env, jclass cls) { if (1u == 1u) { jint x = 1; }
-- jint x = 2; return; }
abbrev pub taken_to_the_end : SourceUnit
taken_to_the_end =
    unit_of
    (native 1 Void (codes "Java_A_f") []
    (If 1 (TestExpr (Binary Equal (Number 1 true) (Number 1 true)))
    (block
    (Plain 1 (Declare (Simple JIntVariable) (codes "x") (FromExpr (Number 1 false)))
    ∷ [])
    1)
    NoElse
    ∷ Plain 2 (Declare (Simple JIntVariable) (codes "x") (FromExpr (Number 2 false)))
    ∷ Return 2 None
    ∷ [])
    2
    ∷ [])

taken_to_the_end-refused : IsRefused taken_to_the_end 22 2
unfolding opened
taken_to_the_end-refused = ill_typed taken_to_the_end DeclaredTwice 2 refl refl

-- static twice
-- static jobject g = NULL; static jobject g = NULL;
abbrev pub static_twice : SourceUnit
static_twice =
    unit_of
    (static_reference 1 JObject (codes "g")
    ∷ static_reference 1 JObject (codes "g")
    ∷ [])

static_twice-refused : IsRefused static_twice 22 1
unfolding opened
static_twice-refused = ill_typed static_twice DeclaredTwice 1 refl refl

-- null on the left
-- JNIEXPORT void JNICALL Java_A_f(JNIEnv *env, jclass cls, jobject o) { if (NULL == o) { return; } return; }
abbrev pub null_on_the_left : SourceUnit
null_on_the_left =
    unit_of
    (native 1 Void (codes "Java_A_f") (reference_parameter JObject (codes "o") ∷ [])
    (If 1 (TestExpr (Binary Equal (Named Null) (Variable (codes "o"))))
    (block
    (Return 1 None
    ∷ [])
    1)
    NoElse
    ∷ Return 1 None
    ∷ [])
    1
    ∷ [])

null_on_the_left-refused : IsRefused null_on_the_left 23 1
unfolding opened
null_on_the_left-refused = ill_typed null_on_the_left TypeMisfit 1 refl refl

-- jint plus
-- JNIEXPORT void JNICALL Java_A_f(JNIEnv *env, jclass cls, jint n) { jint m = n + 1; return; }
abbrev pub jint_plus : SourceUnit
jint_plus =
    unit_of
    (native 1 Void (codes "Java_A_f") (int_parameter (codes "n") ∷ [])
    (Plain 1 (Declare (Simple JIntVariable) (codes "m") (FromExpr (Binary Add (Variable (codes "n")) (Number 1 false))))
    ∷ Return 1 None
    ∷ [])
    1
    ∷ [])

jint_plus-refused : IsRefused jint_plus 23 1
unfolding opened
jint_plus-refused = ill_typed jint_plus TypeMisfit 1 refl refl

-- result dropped
-- JNIEXPORT void JNICALL Java_A_f(JNIEnv *env, jclass cls, jobject o) { (*env)->GetIntArrayElements(env, o, NULL); return; }
abbrev pub result_dropped : SourceUnit
result_dropped =
    unit_of
    (native 1 Void (codes "Java_A_f") (reference_parameter JObject (codes "o") ∷ [])
    (Plain 1 (Perform (call (codes "GetIntArrayElements") (given (codes "o") ∷ Value (Named Null) ∷ [])))
    ∷ Return 1 None
    ∷ [])
    1
    ∷ [])

result_dropped-refused : IsRefused result_dropped 23 1
unfolding opened
result_dropped-refused = ill_typed result_dropped TypeMisfit 1 refl refl

-- pushed outside a test
-- JNIEXPORT void JNICALL Java_A_f(JNIEnv *env, jclass cls) { jint r = (*env)->PushLocalFrame(env, 1); return; }
abbrev pub pushed_outside_a_test : SourceUnit
pushed_outside_a_test =
    unit_of
    (native 1 Void (codes "Java_A_f") []
    (Plain 1 (Declare (Simple JIntVariable) (codes "r") (FromCall (call (codes "PushLocalFrame") (Value (Number 1 false) ∷ []))))
    ∷ Return 1 None
    ∷ [])
    1
    ∷ [])

pushed_outside_a_test-refused : IsRefused pushed_outside_a_test 23 1
unfolding opened
pushed_outside_a_test-refused = ill_typed pushed_outside_a_test TypeMisfit 1 refl refl

-- static copied
-- static jobject g = NULL;
-- JNIEXPORT void JNICALL Java_A_f(JNIEnv *env, jclass cls, jobject o) {
-- g = o;
-- g = g;
-- g = NULL;
-- return; }
abbrev pub static_copied : SourceUnit
static_copied =
    unit_of
    (static_reference 1 JObject (codes "g")
    ∷ native 2 Void (codes "Java_A_f") (reference_parameter JObject (codes "o") ∷ [])
    (Plain 3 (Assign (codes "g") (FromExpr (Variable (codes "o"))))
    ∷ Plain 4 (Assign (codes "g") (FromExpr (Variable (codes "g"))))
    ∷ Plain 5 (Assign (codes "g") (FromExpr (Named Null)))
    ∷ Return 6 None
    ∷ [])
    6
    ∷ [])

static_copied-refused : IsRefused static_copied 23 3
unfolding opened
static_copied-refused = ill_typed static_copied TypeMisfit 3 refl refl

-- unknown function
-- JNIEXPORT void JNICALL Java_A_f(JNIEnv *env, jclass cls) { (*env)->Nope(env, 1); return; }
abbrev pub unknown_function : SourceUnit
unknown_function =
    unit_of
    (native 1 Void (codes "Java_A_f") []
    (Plain 1 (Perform (call (codes "Nope") (Value (Number 1 false) ∷ [])))
    ∷ Return 1 None
    ∷ [])
    1
    ∷ [])

unknown_function-refused : IsRefused unknown_function 24 1
unfolding opened
unknown_function-refused = ill_typed unknown_function UnknownFunction 1 refl refl

-- unknown function and misfit
-- JNIEXPORT void JNICALL Java_A_f(JNIEnv *env, jclass cls) { (*env)->Nope(env, 1u + 1); return; }
abbrev pub unknown_function_and_misfit : SourceUnit
unknown_function_and_misfit =
    unit_of
    (native 1 Void (codes "Java_A_f") []
    (Plain 1 (Perform (call (codes "Nope") (Value (Binary Add (Number 1 true) (Number 1 false)) ∷ [])))
    ∷ Return 1 None
    ∷ [])
    1
    ∷ [])

unknown_function_and_misfit-refused : IsRefused unknown_function_and_misfit 23 1
unfolding opened
unknown_function_and_misfit-refused = ill_typed unknown_function_and_misfit TypeMisfit 1 refl refl

-- too few arguments
-- JNIEXPORT void JNICALL Java_A_f(JNIEnv *env, jclass cls) { jint n = (*env)->GetArrayLength(env); return; }
abbrev pub too_few_arguments : SourceUnit
too_few_arguments =
    unit_of
    (native 1 Void (codes "Java_A_f") []
    (Plain 1 (Declare (Simple JIntVariable) (codes "n") (FromCall (call (codes "GetArrayLength") [])))
    ∷ Return 1 None
    ∷ [])
    1
    ∷ [])

too_few_arguments-refused : IsRefused too_few_arguments 25 1
unfolding opened
too_few_arguments-refused = ill_typed too_few_arguments ArgumentCount 1 refl refl

-- a method without its ID
-- JNIEXPORT void JNICALL Java_A_f(JNIEnv *env, jclass cls) { (*env)->CallStaticVoidMethod(env, cls); return; }
abbrev pub a_method_without_its_id : SourceUnit
a_method_without_its_id =
    unit_of
    (native 1 Void (codes "Java_A_f") []
    (Plain 1 (Perform (call (codes "CallStaticVoidMethod") (given (codes "cls") ∷ [])))
    ∷ Return 1 None
    ∷ [])
    1
    ∷ [])

a_method_without_its_id-refused : IsRefused a_method_without_its_id 25 1
unfolding opened
a_method_without_its_id-refused = ill_typed a_method_without_its_id ArgumentCount 1 refl refl

-- seventeen arguments for a method
-- JNIEXPORT void JNICALL Java_A_f(JNIEnv *env, jclass cls) {
-- (*env)->CallStaticVoidMethod(env, cls, NULL, 1, 2, 3, 4, 5, 6, 7, 8, 9, 10, 11, 12, 13, 14, 15, 16, 17); return; }
abbrev pub seventeen_arguments_for_a_method : SourceUnit
seventeen_arguments_for_a_method =
    unit_of
    (native 1 Void (codes "Java_A_f") []
    (Plain 2 (Perform (call (codes "CallStaticVoidMethod") (given (codes "cls") ∷ Value (Named Null) ∷ Value (Number 1 false) ∷ Value (Number 2 false) ∷ Value (Number 3 false) ∷ Value (Number 4 false) ∷ Value (Number 5 false) ∷ Value (Number 6 false) ∷ Value (Number 7 false) ∷ Value (Number 8 false) ∷ Value (Number 9 false) ∷ Value (Number 10 false) ∷ Value (Number 11 false) ∷ Value (Number 12 false) ∷ Value (Number 13 false) ∷ Value (Number 14 false) ∷ Value (Number 15 false) ∷ Value (Number 16 false) ∷ Value (Number 17 false) ∷ [])))
    ∷ Return 2 None
    ∷ [])
    2
    ∷ [])

seventeen_arguments_for_a_method-refused : IsRefused seventeen_arguments_for_a_method 25 2
unfolding opened
seventeen_arguments_for_a_method-refused = ill_typed seventeen_arguments_for_a_method ArgumentCount 2 refl refl

-- a flag for a method
-- JNIEXPORT void JNICALL Java_A_f(JNIEnv *env, jclass cls) { (*env)->CallStaticVoidMethod(env, cls, NULL, 1, JNI_TRUE); return; }
abbrev pub a_flag_for_a_method : SourceUnit
a_flag_for_a_method =
    unit_of
    (native 1 Void (codes "Java_A_f") []
    (Plain 1 (Perform (call (codes "CallStaticVoidMethod") (given (codes "cls") ∷ Value (Named Null) ∷ Value (Number 1 false) ∷ Value (Named True) ∷ [])))
    ∷ Return 1 None
    ∷ [])
    1
    ∷ [])

a_flag_for_a_method-refused : IsRefused a_flag_for_a_method 23 1
unfolding opened
a_flag_for_a_method-refused = ill_typed a_flag_for_a_method TypeMisfit 1 refl refl

-- nothing as a number
-- JNIEXPORT void JNICALL Java_A_f(JNIEnv *env, jclass cls) { jint n = (*env)->CallStaticVoidMethod(env, cls, NULL); return; }
abbrev pub nothing_as_a_number : SourceUnit
nothing_as_a_number =
    unit_of
    (native 1 Void (codes "Java_A_f") []
    (Plain 1 (Declare (Simple JIntVariable) (codes "n") (FromCall (call (codes "CallStaticVoidMethod") (given (codes "cls") ∷ Value (Named Null) ∷ []))))
    ∷ Return 1 None
    ∷ [])
    1
    ∷ [])

nothing_as_a_number-refused : IsRefused nothing_as_a_number 23 1
unfolding opened
nothing_as_a_number-refused = ill_typed nothing_as_a_number TypeMisfit 1 refl refl

-- copied reference
-- JNIEXPORT void JNICALL Java_A_f(JNIEnv *env, jclass cls, jobject o) { jobject x = o;
-- x = o; return; }
abbrev pub copied_reference : SourceUnit
copied_reference =
    unit_of
    (native 1 Void (codes "Java_A_f") (reference_parameter JObject (codes "o") ∷ [])
    (Plain 1 (Declare (Simple (ReferenceVariable JObject)) (codes "x") (FromExpr (Variable (codes "o"))))
    ∷ Plain 2 (Assign (codes "x") (FromExpr (Variable (codes "o"))))
    ∷ Return 2 None
    ∷ [])
    2
    ∷ [])

copied_reference-refused : IsRefused copied_reference 26 1
unfolding opened
copied_reference-refused = ill_typed copied_reference ReferenceCopied 1 refl refl

-- copied known names
-- JNIEXPORT void JNICALL Java_A_f(JNIEnv *env, jclass cls, jint n) { jobject x = n;
-- uint32_t w = 1u;
-- x = w; return; }
abbrev pub copied_known_names : SourceUnit
copied_known_names =
    unit_of
    (native 1 Void (codes "Java_A_f") (int_parameter (codes "n") ∷ [])
    (Plain 1 (Declare (Simple (ReferenceVariable JObject)) (codes "x") (FromExpr (Variable (codes "n"))))
    ∷ Plain 2 (Declare (Simple UInt32) (codes "w") (FromExpr (Number 1 true)))
    ∷ Plain 3 (Assign (codes "x") (FromExpr (Variable (codes "w"))))
    ∷ Return 3 None
    ∷ [])
    3
    ∷ [])

copied_known_names-refused : IsRefused copied_known_names 26 1
unfolding opened
copied_known_names-refused = ill_typed copied_known_names ReferenceCopied 1 refl refl

-- bad mode
-- JNIEXPORT void JNICALL Java_A_f(JNIEnv *env, jclass cls, jintArray a) { jint *p = (*env)->GetIntArrayElements(env, a, NULL); (*env)->ReleaseIntArrayElements(env, a, p, 1); return; }
abbrev pub bad_mode : SourceUnit
bad_mode =
    unit_of
    (native 1 Void (codes "Java_A_f") (reference_parameter JIntArray (codes "a") ∷ [])
    (Plain 1 (Declare (Pointer JInt) (codes "p") (FromCall (call (codes "GetIntArrayElements") (given (codes "a") ∷ Value (Named Null) ∷ []))))
    ∷ Plain 1 (Perform (call (codes "ReleaseIntArrayElements") (given (codes "a") ∷ given (codes "p") ∷ Value (Number 1 false) ∷ [])))
    ∷ Return 1 None
    ∷ [])
    1
    ∷ [])

bad_mode-refused : IsRefused bad_mode 27 1
unfolding opened
bad_mode-refused = ill_typed bad_mode BadMode 1 refl refl

-- read only
-- JNIEXPORT void JNICALL Java_A_f(JNIEnv *env, jclass cls, jstring s) { const jchar *p = (*env)->GetStringChars(env, s, NULL); p[0] = 1; return; }
abbrev pub read_only : SourceUnit
read_only =
    unit_of
    (native 1 Void (codes "Java_A_f") (reference_parameter JString (codes "s") ∷ [])
    (Plain 1 (Declare ConstChars (codes "p") (FromCall (call (codes "GetStringChars") (given (codes "s") ∷ Value (Named Null) ∷ []))))
    ∷ Plain 1 (AssignElement (codes "p") (Number 0 false) (Number 1 false))
    ∷ Return 1 None
    ∷ [])
    1
    ∷ [])

read_only-refused : IsRefused read_only 28 1
unfolding opened
read_only-refused = ill_typed read_only ReadOnlyWrite 1 refl refl

-- word printed
-- JNIEXPORT void JNICALL Java_A_f(JNIEnv *env, jclass cls) { put_jint(1u); return; }
abbrev pub word_printed : SourceUnit
word_printed =
    unit_of
    (native 1 Void (codes "Java_A_f") []
    (Plain 1 (PutJint (Number 1 true))
    ∷ Return 1 None
    ∷ [])
    1
    ∷ [])

word_printed-refused : IsRefused word_printed 23 1
unfolding opened
word_printed-refused = ill_typed word_printed TypeMisfit 1 refl refl
