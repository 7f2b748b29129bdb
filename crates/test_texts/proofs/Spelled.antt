-- The cases of texts/spelled.cases, as gate/worked_equations writes them.
use Rattle.std.specs.Prelude.{◌∷◌, true, false, [], Some, None, codes, refl}
use Rattle.base.specs.declared.element.ElementType.TheVariants.{Int as JInt}
use Rattle.syntax.specs.declared.declared_type.ReferenceType.TheVariants.{Object as JObject, String as JString, IntArray as JIntArray}
use Rattle.syntax.specs.declared.declared_type.VariableType.TheVariants.{Uint32 as UInt32, Jboolean as JBoolean, JmethodId as JMethodId, Reference as ReferenceVariable}
use Rattle.syntax.specs.declared.declared_type.DeclaredType.TheVariants.{Simple, Pointer}
use Rattle.syntax.specs.declared.unit.ResultType.TheVariants.{Void, Jint as IntResult, Reference as ReferenceResult}
use Rattle.syntax.specs.declared.expr.Constant.TheVariants.{False, Abort, Null}
use Rattle.syntax.specs.declared.expr.PrefixOp.TheVariants.{LogicalNot, Complement, ToWord, ToInt}
use Rattle.syntax.specs.declared.expr.BinaryOp.TheVariants.{LogicalAnd, BitOr, BitAnd, Equal, NotEqual, Less, ShiftLeft, Add}
use Rattle.syntax.specs.Tree.{Number, Named, Variable, Element, Prefix, Binary, Paren, Value, Text, AddressOf, FromExpr, FromCall, TestExpr, TestCall, Declare, DeclareArray, Assign, AssignElement, Perform, PutJint, Plain, If, NoElse, ElseBlock, While, Return, SourceUnit}
use Rattle.test_equations.proofs.Programs.{unit_of, native, block, static_reference, reference_parameter, int_parameter, call, given}
use Rattle.parse.specs.Spelling.{SpellsUnit}
use Rattle.test_equations.proofs.Computed.{a_tree}
use Rattle.test_texts.proofs.Spelling.{spelled}
use Rattle.test_texts.proofs.Spelling.{opened}

-- comments, blanks and numbers
-- /* A native method (JNI Specification, chapter 2)
--    of the class A. */
-- JNIEXPORT jint JNICALL Java_A_f(JNIEnv *env, jclass cls, jint n)
-- {
--     uint32_t word = (uint32_t)n+0x1Fu; // no space is needed
--     return (jint)(~word << 2u | 1u & word);
-- }
abbrev pub comments_blanks_and_numbers : SourceUnit
comments_blanks_and_numbers =
    unit_of
    (native 3 IntResult (codes "Java_A_f") (int_parameter (codes "n") ∷ [])
    (Plain 5 (Declare (Simple UInt32) (codes "word") (FromExpr (Binary Add (Prefix ToWord (Variable (codes "n"))) (Number 31 true))))
    ∷ Return 6 (Some (Prefix ToInt (Paren (Binary BitOr (Binary ShiftLeft (Prefix Complement (Variable (codes "word"))) (Number 2 true)) (Binary BitAnd (Number 1 true) (Variable (codes "word")))))))
    ∷ [])
    7
    ∷ [])

comments_blanks_and_numbers-spelled : SpellsUnit (codes "/* A native method (JNI Specification, chapter 2)\n   of the class A. */\nJNIEXPORT jint JNICALL Java_A_f(JNIEnv *env, jclass cls, jint n)\n{\n\tuint32_t word = (uint32_t)n+0x1Fu; // no space is needed\n    return (jint)(~word << 2u | 1u & word);\n}\n") comments_blanks_and_numbers
unfolding opened
comments_blanks_and_numbers-spelled = spelled (codes "/* A native method (JNI Specification, chapter 2)\n   of the class A. */\nJNIEXPORT jint JNICALL Java_A_f(JNIEnv *env, jclass cls, jint n)\n{\n\tuint32_t word = (uint32_t)n+0x1Fu; // no space is needed\n    return (jint)(~word << 2u | 1u & word);\n}\n") comments_blanks_and_numbers (a_tree comments_blanks_and_numbers refl) refl

-- a static and calls
-- static jobject g = NULL;
-- JNIEXPORT jstring JNICALL Java_A_f(JNIEnv *env, jclass cls, jobject o) {
--     g = (*env)->NewGlobalRef(env, o);
--     if ((*env)->PushLocalFrame(env, 1) == 0) { (*env)->PopLocalFrame(env, NULL); } else { return NULL; }
--     jstring s = (*env)->NewStringUTF(env, "a /* b */ c");
--     return s;
-- }
abbrev pub a_static_and_calls : SourceUnit
a_static_and_calls =
    unit_of
    (static_reference 1 JObject (codes "g")
    ∷ native 2 (ReferenceResult JString) (codes "Java_A_f") (reference_parameter JObject (codes "o") ∷ [])
    (Plain 3 (Assign (codes "g") (FromCall (call (codes "NewGlobalRef") (given (codes "o") ∷ []))))
    ∷ If 4 (TestCall (call (codes "PushLocalFrame") (Value (Number 1 false) ∷ [])))
    (block
    (Plain 4 (Perform (call (codes "PopLocalFrame") (Value (Named Null) ∷ [])))
    ∷ [])
    4)
    (ElseBlock (block
    (Return 4 (Some (Named Null))
    ∷ [])
    4))
    ∷ Plain 5 (Declare (Simple (ReferenceVariable JString)) (codes "s") (FromCall (call (codes "NewStringUTF") (Text (codes "a /* b */ c") ∷ []))))
    ∷ Return 6 (Some (Variable (codes "s")))
    ∷ [])
    7
    ∷ [])

a_static_and_calls-spelled : SpellsUnit (codes "static jobject g = NULL;\nJNIEXPORT jstring JNICALL Java_A_f(JNIEnv *env, jclass cls, jobject o) {\n    g = (*env)->NewGlobalRef(env, o);\n    if ((*env)->PushLocalFrame(env, 1) == 0) { (*env)->PopLocalFrame(env, NULL); } else { return NULL; }\n    jstring s = (*env)->NewStringUTF(env, \"a /* b */ c\");\n    return s;\n}\n") a_static_and_calls
unfolding opened
a_static_and_calls-spelled = spelled (codes "static jobject g = NULL;\nJNIEXPORT jstring JNICALL Java_A_f(JNIEnv *env, jclass cls, jobject o) {\n    g = (*env)->NewGlobalRef(env, o);\n    if ((*env)->PushLocalFrame(env, 1) == 0) { (*env)->PopLocalFrame(env, NULL); } else { return NULL; }\n    jstring s = (*env)->NewStringUTF(env, \"a /* b */ c\");\n    return s;\n}\n") a_static_and_calls (a_tree a_static_and_calls refl) refl

-- a buffer in a loop
-- JNIEXPORT void JNICALL Java_A_f(JNIEnv *env, jclass cls, jintArray a) {
--     jint b[2] = {0};
--     jboolean copied = JNI_FALSE;
--     uint32_t i = 0u;
--     jint *p = (*env)->GetIntArrayElements(env, a, &copied);
--     if (p != NULL) {
--         while (i < 2u && !(copied == JNI_FALSE)) {
--             b[i] = p[i];
--             i = i + 1u;
--         }
--         (*env)->ReleaseIntArrayElements(env, a, p, JNI_ABORT);
--     }
--     put_jint(b[1]);
--     return;
-- }
abbrev pub a_buffer_in_a_loop : SourceUnit
a_buffer_in_a_loop =
    unit_of
    (native 1 Void (codes "Java_A_f") (reference_parameter JIntArray (codes "a") ∷ [])
    (Plain 2 (DeclareArray JInt (codes "b") 2)
    ∷ Plain 3 (Declare (Simple JBoolean) (codes "copied") (FromExpr (Named False)))
    ∷ Plain 4 (Declare (Simple UInt32) (codes "i") (FromExpr (Number 0 true)))
    ∷ Plain 5 (Declare (Pointer JInt) (codes "p") (FromCall (call (codes "GetIntArrayElements") (given (codes "a") ∷ AddressOf (codes "copied") ∷ []))))
    ∷ If 6 (TestExpr (Binary NotEqual (Variable (codes "p")) (Named Null)))
    (block
    (While 7 (Binary LogicalAnd (Binary Less (Variable (codes "i")) (Number 2 true)) (Prefix LogicalNot (Paren (Binary Equal (Variable (codes "copied")) (Named False)))))
    (block
    (Plain 8 (AssignElement (codes "b") (Variable (codes "i")) (Element (codes "p") (Variable (codes "i"))))
    ∷ Plain 9 (Assign (codes "i") (FromExpr (Binary Add (Variable (codes "i")) (Number 1 true))))
    ∷ [])
    10)
    ∷ Plain 11 (Perform (call (codes "ReleaseIntArrayElements") (given (codes "a") ∷ given (codes "p") ∷ Value (Named Abort) ∷ [])))
    ∷ [])
    12)
    NoElse
    ∷ Plain 13 (PutJint (Element (codes "b") (Number 1 false)))
    ∷ Return 14 None
    ∷ [])
    15
    ∷ [])

a_buffer_in_a_loop-spelled : SpellsUnit (codes "JNIEXPORT void JNICALL Java_A_f(JNIEnv *env, jclass cls, jintArray a) {\n    jint b[2] = {0};\n    jboolean copied = JNI_FALSE;\n    uint32_t i = 0u;\n    jint *p = (*env)->GetIntArrayElements(env, a, &copied);\n    if (p != NULL) {\n        while (i < 2u && !(copied == JNI_FALSE)) {\n            b[i] = p[i];\n            i = i + 1u;\n        }\n        (*env)->ReleaseIntArrayElements(env, a, p, JNI_ABORT);\n    }\n    put_jint(b[1]);\n    return;\n}\n") a_buffer_in_a_loop
unfolding opened
a_buffer_in_a_loop-spelled = spelled (codes "JNIEXPORT void JNICALL Java_A_f(JNIEnv *env, jclass cls, jintArray a) {\n    jint b[2] = {0};\n    jboolean copied = JNI_FALSE;\n    uint32_t i = 0u;\n    jint *p = (*env)->GetIntArrayElements(env, a, &copied);\n    if (p != NULL) {\n        while (i < 2u && !(copied == JNI_FALSE)) {\n            b[i] = p[i];\n            i = i + 1u;\n        }\n        (*env)->ReleaseIntArrayElements(env, a, p, JNI_ABORT);\n    }\n    put_jint(b[1]);\n    return;\n}\n") a_buffer_in_a_loop (a_tree a_buffer_in_a_loop refl) refl

-- a method ID that is declared, set and tested
-- JNIEXPORT void JNICALL Java_A_f(JNIEnv *env, jclass cls, jint n)
-- {
--     jmethodID m = NULL;
--     jmethodID own = (*env)->GetStaticMethodID(env, cls, "f", "(I)V");
--     if (own != NULL) { m = (*env)->GetStaticMethodID(env, cls, "g", "()I"); }
--     if (m == NULL) { m = NULL; }
--     return;
-- }
abbrev pub a_method_id_that_is_declared_set_and_tested : SourceUnit
a_method_id_that_is_declared_set_and_tested =
    unit_of
    (native 1 Void (codes "Java_A_f") (int_parameter (codes "n") ∷ [])
    (Plain 3 (Declare (Simple JMethodId) (codes "m") (FromExpr (Named Null)))
    ∷ Plain 4 (Declare (Simple JMethodId) (codes "own") (FromCall (call (codes "GetStaticMethodID") (given (codes "cls") ∷ Text (codes "f") ∷ Text (codes "(I)V") ∷ []))))
    ∷ If 5 (TestExpr (Binary NotEqual (Variable (codes "own")) (Named Null)))
    (block
    (Plain 5 (Assign (codes "m") (FromCall (call (codes "GetStaticMethodID") (given (codes "cls") ∷ Text (codes "g") ∷ Text (codes "()I") ∷ []))))
    ∷ [])
    5)
    NoElse
    ∷ If 6 (TestExpr (Binary Equal (Variable (codes "m")) (Named Null)))
    (block
    (Plain 6 (Assign (codes "m") (FromExpr (Named Null)))
    ∷ [])
    6)
    NoElse
    ∷ Return 7 None
    ∷ [])
    8
    ∷ [])

a_method_id_that_is_declared_set_and_tested-spelled : SpellsUnit (codes "JNIEXPORT void JNICALL Java_A_f(JNIEnv *env, jclass cls, jint n)\n{\n    jmethodID m = NULL;\n    jmethodID own = (*env)->GetStaticMethodID(env, cls, \"f\", \"(I)V\");\n    if (own != NULL) { m = (*env)->GetStaticMethodID(env, cls, \"g\", \"()I\"); }\n    if (m == NULL) { m = NULL; }\n    return;\n}\n") a_method_id_that_is_declared_set_and_tested
unfolding opened
a_method_id_that_is_declared_set_and_tested-spelled = spelled (codes "JNIEXPORT void JNICALL Java_A_f(JNIEnv *env, jclass cls, jint n)\n{\n    jmethodID m = NULL;\n    jmethodID own = (*env)->GetStaticMethodID(env, cls, \"f\", \"(I)V\");\n    if (own != NULL) { m = (*env)->GetStaticMethodID(env, cls, \"g\", \"()I\"); }\n    if (m == NULL) { m = NULL; }\n    return;\n}\n") a_method_id_that_is_declared_set_and_tested (a_tree a_method_id_that_is_declared_set_and_tested refl) refl
