-- The cases of texts/trees.cases, as gate/worked_equations writes them.
use Rattle.std.specs.Prelude.{◌∷◌, true, false, [], None, codes}
use Rattle.base.specs.declared.element.ElementType.TheVariants.{Int as JInt}
use Rattle.syntax.specs.declared.declared_type.ReferenceType.TheVariants.{Object as JObject, IntArray as JIntArray}
use Rattle.syntax.specs.declared.declared_type.VariableType.TheVariants.{Uint32 as UInt32, Jint as JIntVariable, Reference as ReferenceVariable}
use Rattle.syntax.specs.declared.declared_type.DeclaredType.TheVariants.{Simple, Pointer}
use Rattle.syntax.specs.declared.unit.ResultType.TheVariants.{Void}
use Rattle.syntax.specs.declared.expr.Constant.TheVariants.{Null}
use Rattle.syntax.specs.declared.expr.BinaryOp.TheVariants.{Equal, Less, Add}
use Rattle.syntax.specs.Tree.{Number, Named, Variable, Binary, Paren, Value, FromExpr, FromCall, TestExpr, Declare, Assign, Perform, PutJint, Plain, If, NoElse, ElseBlock, While, Return, SourceUnit}
use Rattle.test_equations.proofs.Programs.{unit_of, native, block, reference_parameter, call, given}

-- highest
-- JNIEXPORT void JNICALL Java_A_f(JNIEnv *env, jclass cls) { put_jint((((((((((((((((((((((((((((((((1)))))))))))))))))))))))))))))))); return; }
abbrev pub highest : SourceUnit
highest =
    unit_of
    (native 1 Void (codes "Java_A_f") []
    (Plain 1 (PutJint (Paren (Paren (Paren (Paren (Paren (Paren (Paren (Paren (Paren (Paren (Paren (Paren (Paren (Paren (Paren (Paren (Paren (Paren (Paren (Paren (Paren (Paren (Paren (Paren (Paren (Paren (Paren (Paren (Paren (Paren (Paren (Number 1 false)))))))))))))))))))))))))))))))))
    ∷ Return 1 None
    ∷ [])
    1
    ∷ [])

-- too high
-- JNIEXPORT void JNICALL Java_A_f(JNIEnv *env, jclass cls) { put_jint(((((((((((((((((((((((((((((((((1))))))))))))))))))))))))))))))))); return; }
abbrev pub too_high : SourceUnit
too_high =
    unit_of
    (native 1 Void (codes "Java_A_f") []
    (Plain 1 (PutJint (Paren (Paren (Paren (Paren (Paren (Paren (Paren (Paren (Paren (Paren (Paren (Paren (Paren (Paren (Paren (Paren (Paren (Paren (Paren (Paren (Paren (Paren (Paren (Paren (Paren (Paren (Paren (Paren (Paren (Paren (Paren (Paren (Number 1 false))))))))))))))))))))))))))))))))))
    ∷ Return 1 None
    ∷ [])
    1
    ∷ [])

-- enters
-- JNIEXPORT void JNICALL Java_A_f(JNIEnv *env, jclass cls, jobject o) {
-- uint32_t i = 0u;
-- while (i < 256u) { jint r = (*env)->MonitorEnter(env, o); if (r == 0) { } else { put_jint(r); } i = i + 1u; }
-- return; }
abbrev pub enters : SourceUnit
enters =
    unit_of
    (native 1 Void (codes "Java_A_f") (reference_parameter JObject (codes "o") ∷ [])
    (Plain 2 (Declare (Simple UInt32) (codes "i") (FromExpr (Number 0 true)))
    ∷ While 3 (Binary Less (Variable (codes "i")) (Number 256 true))
    (block
    (Plain 3 (Declare (Simple JIntVariable) (codes "r") (FromCall (call (codes "MonitorEnter") (given (codes "o") ∷ []))))
    ∷ If 3 (TestExpr (Binary Equal (Variable (codes "r")) (Number 0 false)))
    (block
    []
    3)
    (ElseBlock (block
    (Plain 3 (PutJint (Variable (codes "r")))
    ∷ [])
    3))
    ∷ Plain 3 (Assign (codes "i") (FromExpr (Binary Add (Variable (codes "i")) (Number 1 true))))
    ∷ [])
    3)
    ∷ Return 4 None
    ∷ [])
    4
    ∷ [])

-- copies
-- JNIEXPORT void JNICALL Java_A_f(JNIEnv *env, jclass cls) {
-- jintArray a = (*env)->NewIntArray(env, 32768);
-- jint *p = (*env)->GetIntArrayElements(env, a, NULL);
-- jint *q = (*env)->GetIntArrayElements(env, a, NULL);
-- if (q == NULL) { put_jint(1); } else { put_jint(2); }
-- return; }
abbrev pub copies : SourceUnit
copies =
    unit_of
    (native 1 Void (codes "Java_A_f") []
    (Plain 2 (Declare (Simple (ReferenceVariable JIntArray)) (codes "a") (FromCall (call (codes "NewIntArray") (Value (Number 32768 false) ∷ []))))
    ∷ Plain 3 (Declare (Pointer JInt) (codes "p") (FromCall (call (codes "GetIntArrayElements") (given (codes "a") ∷ Value (Named Null) ∷ []))))
    ∷ Plain 4 (Declare (Pointer JInt) (codes "q") (FromCall (call (codes "GetIntArrayElements") (given (codes "a") ∷ Value (Named Null) ∷ []))))
    ∷ If 5 (TestExpr (Binary Equal (Variable (codes "q")) (Named Null)))
    (block
    (Plain 5 (PutJint (Number 1 false))
    ∷ [])
    5)
    (ElseBlock (block
    (Plain 5 (PutJint (Number 2 false))
    ∷ [])
    5))
    ∷ Return 6 None
    ∷ [])
    6
    ∷ [])

-- copies too many
-- JNIEXPORT void JNICALL Java_A_f(JNIEnv *env, jclass cls) {
-- jintArray a = (*env)->NewIntArray(env, 32769);
-- jint *p = (*env)->GetIntArrayElements(env, a, NULL);
-- jint *q = (*env)->GetIntArrayElements(env, a, NULL);
-- if (q == NULL) { put_jint(1); } else { put_jint(2); }
-- return; }
abbrev pub copies_too_many : SourceUnit
copies_too_many =
    unit_of
    (native 1 Void (codes "Java_A_f") []
    (Plain 2 (Declare (Simple (ReferenceVariable JIntArray)) (codes "a") (FromCall (call (codes "NewIntArray") (Value (Number 32769 false) ∷ []))))
    ∷ Plain 3 (Declare (Pointer JInt) (codes "p") (FromCall (call (codes "GetIntArrayElements") (given (codes "a") ∷ Value (Named Null) ∷ []))))
    ∷ Plain 4 (Declare (Pointer JInt) (codes "q") (FromCall (call (codes "GetIntArrayElements") (given (codes "a") ∷ Value (Named Null) ∷ []))))
    ∷ If 5 (TestExpr (Binary Equal (Variable (codes "q")) (Named Null)))
    (block
    (Plain 5 (PutJint (Number 1 false))
    ∷ [])
    5)
    (ElseBlock (block
    (Plain 5 (PutJint (Number 2 false))
    ∷ [])
    5))
    ∷ Return 6 None
    ∷ [])
    6
    ∷ [])

-- views 64
-- JNIEXPORT void JNICALL Java_A_f(JNIEnv *env, jclass cls, jintArray a) {
-- jint *p0 = (*env)->GetPrimitiveArrayCritical(env, a, NULL);
-- jint *p1 = (*env)->GetPrimitiveArrayCritical(env, a, NULL);
-- jint *p2 = (*env)->GetPrimitiveArrayCritical(env, a, NULL);
-- jint *p3 = (*env)->GetPrimitiveArrayCritical(env, a, NULL);
-- jint *p4 = (*env)->GetPrimitiveArrayCritical(env, a, NULL);
-- jint *p5 = (*env)->GetPrimitiveArrayCritical(env, a, NULL);
-- jint *p6 = (*env)->GetPrimitiveArrayCritical(env, a, NULL);
-- jint *p7 = (*env)->GetPrimitiveArrayCritical(env, a, NULL);
-- jint *p8 = (*env)->GetPrimitiveArrayCritical(env, a, NULL);
-- jint *p9 = (*env)->GetPrimitiveArrayCritical(env, a, NULL);
-- jint *p10 = (*env)->GetPrimitiveArrayCritical(env, a, NULL);
-- jint *p11 = (*env)->GetPrimitiveArrayCritical(env, a, NULL);
-- jint *p12 = (*env)->GetPrimitiveArrayCritical(env, a, NULL);
-- jint *p13 = (*env)->GetPrimitiveArrayCritical(env, a, NULL);
-- jint *p14 = (*env)->GetPrimitiveArrayCritical(env, a, NULL);
-- jint *p15 = (*env)->GetPrimitiveArrayCritical(env, a, NULL);
-- jint *p16 = (*env)->GetPrimitiveArrayCritical(env, a, NULL);
-- jint *p17 = (*env)->GetPrimitiveArrayCritical(env, a, NULL);
-- jint *p18 = (*env)->GetPrimitiveArrayCritical(env, a, NULL);
-- jint *p19 = (*env)->GetPrimitiveArrayCritical(env, a, NULL);
-- jint *p20 = (*env)->GetPrimitiveArrayCritical(env, a, NULL);
-- jint *p21 = (*env)->GetPrimitiveArrayCritical(env, a, NULL);
-- jint *p22 = (*env)->GetPrimitiveArrayCritical(env, a, NULL);
-- jint *p23 = (*env)->GetPrimitiveArrayCritical(env, a, NULL);
-- jint *p24 = (*env)->GetPrimitiveArrayCritical(env, a, NULL);
-- jint *p25 = (*env)->GetPrimitiveArrayCritical(env, a, NULL);
-- jint *p26 = (*env)->GetPrimitiveArrayCritical(env, a, NULL);
-- jint *p27 = (*env)->GetPrimitiveArrayCritical(env, a, NULL);
-- jint *p28 = (*env)->GetPrimitiveArrayCritical(env, a, NULL);
-- jint *p29 = (*env)->GetPrimitiveArrayCritical(env, a, NULL);
-- jint *p30 = (*env)->GetPrimitiveArrayCritical(env, a, NULL);
-- jint *p31 = (*env)->GetPrimitiveArrayCritical(env, a, NULL);
-- jint *p32 = (*env)->GetPrimitiveArrayCritical(env, a, NULL);
-- jint *p33 = (*env)->GetPrimitiveArrayCritical(env, a, NULL);
-- jint *p34 = (*env)->GetPrimitiveArrayCritical(env, a, NULL);
-- jint *p35 = (*env)->GetPrimitiveArrayCritical(env, a, NULL);
-- jint *p36 = (*env)->GetPrimitiveArrayCritical(env, a, NULL);
-- jint *p37 = (*env)->GetPrimitiveArrayCritical(env, a, NULL);
-- jint *p38 = (*env)->GetPrimitiveArrayCritical(env, a, NULL);
-- jint *p39 = (*env)->GetPrimitiveArrayCritical(env, a, NULL);
-- jint *p40 = (*env)->GetPrimitiveArrayCritical(env, a, NULL);
-- jint *p41 = (*env)->GetPrimitiveArrayCritical(env, a, NULL);
-- jint *p42 = (*env)->GetPrimitiveArrayCritical(env, a, NULL);
-- jint *p43 = (*env)->GetPrimitiveArrayCritical(env, a, NULL);
-- jint *p44 = (*env)->GetPrimitiveArrayCritical(env, a, NULL);
-- jint *p45 = (*env)->GetPrimitiveArrayCritical(env, a, NULL);
-- jint *p46 = (*env)->GetPrimitiveArrayCritical(env, a, NULL);
-- jint *p47 = (*env)->GetPrimitiveArrayCritical(env, a, NULL);
-- jint *p48 = (*env)->GetPrimitiveArrayCritical(env, a, NULL);
-- jint *p49 = (*env)->GetPrimitiveArrayCritical(env, a, NULL);
-- jint *p50 = (*env)->GetPrimitiveArrayCritical(env, a, NULL);
-- jint *p51 = (*env)->GetPrimitiveArrayCritical(env, a, NULL);
-- jint *p52 = (*env)->GetPrimitiveArrayCritical(env, a, NULL);
-- jint *p53 = (*env)->GetPrimitiveArrayCritical(env, a, NULL);
-- jint *p54 = (*env)->GetPrimitiveArrayCritical(env, a, NULL);
-- jint *p55 = (*env)->GetPrimitiveArrayCritical(env, a, NULL);
-- jint *p56 = (*env)->GetPrimitiveArrayCritical(env, a, NULL);
-- jint *p57 = (*env)->GetPrimitiveArrayCritical(env, a, NULL);
-- jint *p58 = (*env)->GetPrimitiveArrayCritical(env, a, NULL);
-- jint *p59 = (*env)->GetPrimitiveArrayCritical(env, a, NULL);
-- jint *p60 = (*env)->GetPrimitiveArrayCritical(env, a, NULL);
-- jint *p61 = (*env)->GetPrimitiveArrayCritical(env, a, NULL);
-- jint *p62 = (*env)->GetPrimitiveArrayCritical(env, a, NULL);
-- jint *p63 = (*env)->GetPrimitiveArrayCritical(env, a, NULL);
-- jint *p64 = (*env)->GetPrimitiveArrayCritical(env, a, NULL);
-- if (p63 == NULL) { put_jint(1); }
-- if (p64 == NULL) { put_jint(2); }
-- return; }
abbrev pub views_64 : SourceUnit
views_64 =
    unit_of
    (native 1 Void (codes "Java_A_f") (reference_parameter JIntArray (codes "a") ∷ [])
    (Plain 2 (Declare (Pointer JInt) (codes "p0") (FromCall (call (codes "GetPrimitiveArrayCritical") (given (codes "a") ∷ Value (Named Null) ∷ []))))
    ∷ Plain 3 (Declare (Pointer JInt) (codes "p1") (FromCall (call (codes "GetPrimitiveArrayCritical") (given (codes "a") ∷ Value (Named Null) ∷ []))))
    ∷ Plain 4 (Declare (Pointer JInt) (codes "p2") (FromCall (call (codes "GetPrimitiveArrayCritical") (given (codes "a") ∷ Value (Named Null) ∷ []))))
    ∷ Plain 5 (Declare (Pointer JInt) (codes "p3") (FromCall (call (codes "GetPrimitiveArrayCritical") (given (codes "a") ∷ Value (Named Null) ∷ []))))
    ∷ Plain 6 (Declare (Pointer JInt) (codes "p4") (FromCall (call (codes "GetPrimitiveArrayCritical") (given (codes "a") ∷ Value (Named Null) ∷ []))))
    ∷ Plain 7 (Declare (Pointer JInt) (codes "p5") (FromCall (call (codes "GetPrimitiveArrayCritical") (given (codes "a") ∷ Value (Named Null) ∷ []))))
    ∷ Plain 8 (Declare (Pointer JInt) (codes "p6") (FromCall (call (codes "GetPrimitiveArrayCritical") (given (codes "a") ∷ Value (Named Null) ∷ []))))
    ∷ Plain 9 (Declare (Pointer JInt) (codes "p7") (FromCall (call (codes "GetPrimitiveArrayCritical") (given (codes "a") ∷ Value (Named Null) ∷ []))))
    ∷ Plain 10 (Declare (Pointer JInt) (codes "p8") (FromCall (call (codes "GetPrimitiveArrayCritical") (given (codes "a") ∷ Value (Named Null) ∷ []))))
    ∷ Plain 11 (Declare (Pointer JInt) (codes "p9") (FromCall (call (codes "GetPrimitiveArrayCritical") (given (codes "a") ∷ Value (Named Null) ∷ []))))
    ∷ Plain 12 (Declare (Pointer JInt) (codes "p10") (FromCall (call (codes "GetPrimitiveArrayCritical") (given (codes "a") ∷ Value (Named Null) ∷ []))))
    ∷ Plain 13 (Declare (Pointer JInt) (codes "p11") (FromCall (call (codes "GetPrimitiveArrayCritical") (given (codes "a") ∷ Value (Named Null) ∷ []))))
    ∷ Plain 14 (Declare (Pointer JInt) (codes "p12") (FromCall (call (codes "GetPrimitiveArrayCritical") (given (codes "a") ∷ Value (Named Null) ∷ []))))
    ∷ Plain 15 (Declare (Pointer JInt) (codes "p13") (FromCall (call (codes "GetPrimitiveArrayCritical") (given (codes "a") ∷ Value (Named Null) ∷ []))))
    ∷ Plain 16 (Declare (Pointer JInt) (codes "p14") (FromCall (call (codes "GetPrimitiveArrayCritical") (given (codes "a") ∷ Value (Named Null) ∷ []))))
    ∷ Plain 17 (Declare (Pointer JInt) (codes "p15") (FromCall (call (codes "GetPrimitiveArrayCritical") (given (codes "a") ∷ Value (Named Null) ∷ []))))
    ∷ Plain 18 (Declare (Pointer JInt) (codes "p16") (FromCall (call (codes "GetPrimitiveArrayCritical") (given (codes "a") ∷ Value (Named Null) ∷ []))))
    ∷ Plain 19 (Declare (Pointer JInt) (codes "p17") (FromCall (call (codes "GetPrimitiveArrayCritical") (given (codes "a") ∷ Value (Named Null) ∷ []))))
    ∷ Plain 20 (Declare (Pointer JInt) (codes "p18") (FromCall (call (codes "GetPrimitiveArrayCritical") (given (codes "a") ∷ Value (Named Null) ∷ []))))
    ∷ Plain 21 (Declare (Pointer JInt) (codes "p19") (FromCall (call (codes "GetPrimitiveArrayCritical") (given (codes "a") ∷ Value (Named Null) ∷ []))))
    ∷ Plain 22 (Declare (Pointer JInt) (codes "p20") (FromCall (call (codes "GetPrimitiveArrayCritical") (given (codes "a") ∷ Value (Named Null) ∷ []))))
    ∷ Plain 23 (Declare (Pointer JInt) (codes "p21") (FromCall (call (codes "GetPrimitiveArrayCritical") (given (codes "a") ∷ Value (Named Null) ∷ []))))
    ∷ Plain 24 (Declare (Pointer JInt) (codes "p22") (FromCall (call (codes "GetPrimitiveArrayCritical") (given (codes "a") ∷ Value (Named Null) ∷ []))))
    ∷ Plain 25 (Declare (Pointer JInt) (codes "p23") (FromCall (call (codes "GetPrimitiveArrayCritical") (given (codes "a") ∷ Value (Named Null) ∷ []))))
    ∷ Plain 26 (Declare (Pointer JInt) (codes "p24") (FromCall (call (codes "GetPrimitiveArrayCritical") (given (codes "a") ∷ Value (Named Null) ∷ []))))
    ∷ Plain 27 (Declare (Pointer JInt) (codes "p25") (FromCall (call (codes "GetPrimitiveArrayCritical") (given (codes "a") ∷ Value (Named Null) ∷ []))))
    ∷ Plain 28 (Declare (Pointer JInt) (codes "p26") (FromCall (call (codes "GetPrimitiveArrayCritical") (given (codes "a") ∷ Value (Named Null) ∷ []))))
    ∷ Plain 29 (Declare (Pointer JInt) (codes "p27") (FromCall (call (codes "GetPrimitiveArrayCritical") (given (codes "a") ∷ Value (Named Null) ∷ []))))
    ∷ Plain 30 (Declare (Pointer JInt) (codes "p28") (FromCall (call (codes "GetPrimitiveArrayCritical") (given (codes "a") ∷ Value (Named Null) ∷ []))))
    ∷ Plain 31 (Declare (Pointer JInt) (codes "p29") (FromCall (call (codes "GetPrimitiveArrayCritical") (given (codes "a") ∷ Value (Named Null) ∷ []))))
    ∷ Plain 32 (Declare (Pointer JInt) (codes "p30") (FromCall (call (codes "GetPrimitiveArrayCritical") (given (codes "a") ∷ Value (Named Null) ∷ []))))
    ∷ Plain 33 (Declare (Pointer JInt) (codes "p31") (FromCall (call (codes "GetPrimitiveArrayCritical") (given (codes "a") ∷ Value (Named Null) ∷ []))))
    ∷ Plain 34 (Declare (Pointer JInt) (codes "p32") (FromCall (call (codes "GetPrimitiveArrayCritical") (given (codes "a") ∷ Value (Named Null) ∷ []))))
    ∷ Plain 35 (Declare (Pointer JInt) (codes "p33") (FromCall (call (codes "GetPrimitiveArrayCritical") (given (codes "a") ∷ Value (Named Null) ∷ []))))
    ∷ Plain 36 (Declare (Pointer JInt) (codes "p34") (FromCall (call (codes "GetPrimitiveArrayCritical") (given (codes "a") ∷ Value (Named Null) ∷ []))))
    ∷ Plain 37 (Declare (Pointer JInt) (codes "p35") (FromCall (call (codes "GetPrimitiveArrayCritical") (given (codes "a") ∷ Value (Named Null) ∷ []))))
    ∷ Plain 38 (Declare (Pointer JInt) (codes "p36") (FromCall (call (codes "GetPrimitiveArrayCritical") (given (codes "a") ∷ Value (Named Null) ∷ []))))
    ∷ Plain 39 (Declare (Pointer JInt) (codes "p37") (FromCall (call (codes "GetPrimitiveArrayCritical") (given (codes "a") ∷ Value (Named Null) ∷ []))))
    ∷ Plain 40 (Declare (Pointer JInt) (codes "p38") (FromCall (call (codes "GetPrimitiveArrayCritical") (given (codes "a") ∷ Value (Named Null) ∷ []))))
    ∷ Plain 41 (Declare (Pointer JInt) (codes "p39") (FromCall (call (codes "GetPrimitiveArrayCritical") (given (codes "a") ∷ Value (Named Null) ∷ []))))
    ∷ Plain 42 (Declare (Pointer JInt) (codes "p40") (FromCall (call (codes "GetPrimitiveArrayCritical") (given (codes "a") ∷ Value (Named Null) ∷ []))))
    ∷ Plain 43 (Declare (Pointer JInt) (codes "p41") (FromCall (call (codes "GetPrimitiveArrayCritical") (given (codes "a") ∷ Value (Named Null) ∷ []))))
    ∷ Plain 44 (Declare (Pointer JInt) (codes "p42") (FromCall (call (codes "GetPrimitiveArrayCritical") (given (codes "a") ∷ Value (Named Null) ∷ []))))
    ∷ Plain 45 (Declare (Pointer JInt) (codes "p43") (FromCall (call (codes "GetPrimitiveArrayCritical") (given (codes "a") ∷ Value (Named Null) ∷ []))))
    ∷ Plain 46 (Declare (Pointer JInt) (codes "p44") (FromCall (call (codes "GetPrimitiveArrayCritical") (given (codes "a") ∷ Value (Named Null) ∷ []))))
    ∷ Plain 47 (Declare (Pointer JInt) (codes "p45") (FromCall (call (codes "GetPrimitiveArrayCritical") (given (codes "a") ∷ Value (Named Null) ∷ []))))
    ∷ Plain 48 (Declare (Pointer JInt) (codes "p46") (FromCall (call (codes "GetPrimitiveArrayCritical") (given (codes "a") ∷ Value (Named Null) ∷ []))))
    ∷ Plain 49 (Declare (Pointer JInt) (codes "p47") (FromCall (call (codes "GetPrimitiveArrayCritical") (given (codes "a") ∷ Value (Named Null) ∷ []))))
    ∷ Plain 50 (Declare (Pointer JInt) (codes "p48") (FromCall (call (codes "GetPrimitiveArrayCritical") (given (codes "a") ∷ Value (Named Null) ∷ []))))
    ∷ Plain 51 (Declare (Pointer JInt) (codes "p49") (FromCall (call (codes "GetPrimitiveArrayCritical") (given (codes "a") ∷ Value (Named Null) ∷ []))))
    ∷ Plain 52 (Declare (Pointer JInt) (codes "p50") (FromCall (call (codes "GetPrimitiveArrayCritical") (given (codes "a") ∷ Value (Named Null) ∷ []))))
    ∷ Plain 53 (Declare (Pointer JInt) (codes "p51") (FromCall (call (codes "GetPrimitiveArrayCritical") (given (codes "a") ∷ Value (Named Null) ∷ []))))
    ∷ Plain 54 (Declare (Pointer JInt) (codes "p52") (FromCall (call (codes "GetPrimitiveArrayCritical") (given (codes "a") ∷ Value (Named Null) ∷ []))))
    ∷ Plain 55 (Declare (Pointer JInt) (codes "p53") (FromCall (call (codes "GetPrimitiveArrayCritical") (given (codes "a") ∷ Value (Named Null) ∷ []))))
    ∷ Plain 56 (Declare (Pointer JInt) (codes "p54") (FromCall (call (codes "GetPrimitiveArrayCritical") (given (codes "a") ∷ Value (Named Null) ∷ []))))
    ∷ Plain 57 (Declare (Pointer JInt) (codes "p55") (FromCall (call (codes "GetPrimitiveArrayCritical") (given (codes "a") ∷ Value (Named Null) ∷ []))))
    ∷ Plain 58 (Declare (Pointer JInt) (codes "p56") (FromCall (call (codes "GetPrimitiveArrayCritical") (given (codes "a") ∷ Value (Named Null) ∷ []))))
    ∷ Plain 59 (Declare (Pointer JInt) (codes "p57") (FromCall (call (codes "GetPrimitiveArrayCritical") (given (codes "a") ∷ Value (Named Null) ∷ []))))
    ∷ Plain 60 (Declare (Pointer JInt) (codes "p58") (FromCall (call (codes "GetPrimitiveArrayCritical") (given (codes "a") ∷ Value (Named Null) ∷ []))))
    ∷ Plain 61 (Declare (Pointer JInt) (codes "p59") (FromCall (call (codes "GetPrimitiveArrayCritical") (given (codes "a") ∷ Value (Named Null) ∷ []))))
    ∷ Plain 62 (Declare (Pointer JInt) (codes "p60") (FromCall (call (codes "GetPrimitiveArrayCritical") (given (codes "a") ∷ Value (Named Null) ∷ []))))
    ∷ Plain 63 (Declare (Pointer JInt) (codes "p61") (FromCall (call (codes "GetPrimitiveArrayCritical") (given (codes "a") ∷ Value (Named Null) ∷ []))))
    ∷ Plain 64 (Declare (Pointer JInt) (codes "p62") (FromCall (call (codes "GetPrimitiveArrayCritical") (given (codes "a") ∷ Value (Named Null) ∷ []))))
    ∷ Plain 65 (Declare (Pointer JInt) (codes "p63") (FromCall (call (codes "GetPrimitiveArrayCritical") (given (codes "a") ∷ Value (Named Null) ∷ []))))
    ∷ Plain 66 (Declare (Pointer JInt) (codes "p64") (FromCall (call (codes "GetPrimitiveArrayCritical") (given (codes "a") ∷ Value (Named Null) ∷ []))))
    ∷ If 67 (TestExpr (Binary Equal (Variable (codes "p63")) (Named Null)))
    (block
    (Plain 67 (PutJint (Number 1 false))
    ∷ [])
    67)
    NoElse
    ∷ If 68 (TestExpr (Binary Equal (Variable (codes "p64")) (Named Null)))
    (block
    (Plain 68 (PutJint (Number 2 false))
    ∷ [])
    68)
    NoElse
    ∷ Return 69 None
    ∷ [])
    69
    ∷ [])

-- capacities 1024
-- JNIEXPORT void JNICALL Java_A_f(JNIEnv *env, jclass cls) { jint e = (*env)->EnsureLocalCapacity(env, 1); jint d = (*env)->PushLocalFrame(env, 1007); put_jint(d); jint c = (*env)->PushLocalFrame(env, 1); put_jint(c); (*env)->ExceptionClear(env); jint b = (*env)->PushLocalFrame(env, 0); put_jint(b); return; }
abbrev pub capacities_1024 : SourceUnit
capacities_1024 =
    unit_of
    (native 1 Void (codes "Java_A_f") []
    (Plain 1 (Declare (Simple JIntVariable) (codes "e") (FromCall (call (codes "EnsureLocalCapacity") (Value (Number 1 false) ∷ []))))
    ∷ Plain 1 (Declare (Simple JIntVariable) (codes "d") (FromCall (call (codes "PushLocalFrame") (Value (Number 1007 false) ∷ []))))
    ∷ Plain 1 (PutJint (Variable (codes "d")))
    ∷ Plain 1 (Declare (Simple JIntVariable) (codes "c") (FromCall (call (codes "PushLocalFrame") (Value (Number 1 false) ∷ []))))
    ∷ Plain 1 (PutJint (Variable (codes "c")))
    ∷ Plain 1 (Perform (call (codes "ExceptionClear") []))
    ∷ Plain 1 (Declare (Simple JIntVariable) (codes "b") (FromCall (call (codes "PushLocalFrame") (Value (Number 0 false) ∷ []))))
    ∷ Plain 1 (PutJint (Variable (codes "b")))
    ∷ Return 1 None
    ∷ [])
    1
    ∷ [])
