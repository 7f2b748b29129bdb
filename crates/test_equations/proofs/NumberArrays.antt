-- The cases of texts/number_arrays.cases, as gate/worked_equations writes them.
use Rattle.std.specs.Prelude.{◌∷◌, pos, false, [], Some, None, codes, refl}
use Rattle.base.specs.declared.element.ElementType.TheVariants.{Int as JInt, Short as JShort, Byte as JByte, Char as JChar}
use Rattle.syntax.specs.declared.declared_type.ReferenceType.TheVariants.{IntArray as JIntArray, ShortArray as JShortArray, ByteArray as JByteArray, CharArray as JCharArray}
use Rattle.syntax.specs.declared.declared_type.VariableType.TheVariants.{Jint as JIntVariable, Jboolean as JBoolean, Reference as ReferenceVariable}
use Rattle.syntax.specs.declared.declared_type.DeclaredType.TheVariants.{Simple, Pointer}
use Rattle.syntax.specs.declared.unit.ResultType.TheVariants.{Void}
use Rattle.syntax.specs.declared.expr.Constant.TheVariants.{True, False, Commit, Abort, Null}
use Rattle.syntax.specs.declared.expr.PrefixOp.TheVariants.{ToInt}
use Rattle.syntax.specs.declared.expr.BinaryOp.TheVariants.{NotEqual}
use Rattle.syntax.specs.Tree.{Number, Named, Variable, Element, Prefix, Binary, Value, AddressOf, FromExpr, FromCall, TestExpr, Declare, DeclareArray, Assign, AssignElement, Perform, PutJint, Plain, If, NoElse, Return, SourceUnit}
use Rattle.semantics.specs.declared.schedule.ScheduleWord.TheVariants.{Turn}
use Rattle.semantics.specs.World.{World}
use Rattle.world_values.specs.WorldLines.{NumberValue, NamedObject, ClassLine, ArrayLine, ThreadLine, Lines}
use Rattle.world_values.specs.WorldMeaning.{world_of}
use Rattle.world_values.specs.WorldRules.{IsWorldText}
use Rattle.test_equations.specs.Claims.{IsAccepted, IsWorkedRun}
use Rattle.test_equations.proofs.Programs.{unit_of, native, block, reference_parameter, call, given}
use Rattle.test_equations.proofs.Computed.{opened, accepted, world-text, worked-run}

-- an array of jshort, by regions
-- JNIEXPORT void JNICALL Java_A_f(JNIEnv *env, jclass cls) {
-- jshortArray a = (*env)->NewShortArray(env, 3);
-- jshort x[2] = {0};
-- x[0] = 40000;
-- x[1] = 5;
-- (*env)->SetShortArrayRegion(env, a, 1, 2, x);
-- jshort y[3] = {0};
-- (*env)->GetShortArrayRegion(env, a, 0, 2, y);
-- put_jint(y[1]);
-- put_jint(y[2]);
-- return;
-- }
abbrev pub an_array_of_jshort_by_regions : SourceUnit
an_array_of_jshort_by_regions =
    unit_of
    (native 1 Void (codes "Java_A_f") []
    (Plain 2 (Declare (Simple (ReferenceVariable JShortArray)) (codes "a") (FromCall (call (codes "NewShortArray") (Value (Number 3 false) ∷ []))))
    ∷ Plain 3 (DeclareArray JShort (codes "x") 2)
    ∷ Plain 4 (AssignElement (codes "x") (Number 0 false) (Number 40000 false))
    ∷ Plain 5 (AssignElement (codes "x") (Number 1 false) (Number 5 false))
    ∷ Plain 6 (Perform (call (codes "SetShortArrayRegion") (given (codes "a") ∷ Value (Number 1 false) ∷ Value (Number 2 false) ∷ given (codes "x") ∷ [])))
    ∷ Plain 7 (DeclareArray JShort (codes "y") 3)
    ∷ Plain 8 (Perform (call (codes "GetShortArrayRegion") (given (codes "a") ∷ Value (Number 0 false) ∷ Value (Number 2 false) ∷ given (codes "y") ∷ [])))
    ∷ Plain 9 (PutJint (Element (codes "y") (Number 1 false)))
    ∷ Plain 10 (PutJint (Element (codes "y") (Number 2 false)))
    ∷ Return 11 None
    ∷ [])
    12
    ∷ [])

abbrev an_array_of_jshort_by_regions-lines : Lines
an_array_of_jshort_by_regions-lines =
    (2, ClassLine (codes "A") None)
    ∷ (3, ThreadLine (codes "Java_A_f") [])
    ∷ []

abbrev an_array_of_jshort_by_regions-world : World
an_array_of_jshort_by_regions-world = world_of 1 512 an_array_of_jshort_by_regions-lines

an_array_of_jshort_by_regions-means : IsWorldText (codes "heap 512\nclass A\nthread Java_A_f\n") an_array_of_jshort_by_regions-world
unfolding opened
an_array_of_jshort_by_regions-means = world-text (codes "heap 512\nclass A\nthread Java_A_f\n") 512 false an_array_of_jshort_by_regions-lines 1 refl refl refl refl refl

an_array_of_jshort_by_regions-accepted : IsAccepted an_array_of_jshort_by_regions
unfolding opened
an_array_of_jshort_by_regions-accepted = accepted an_array_of_jshort_by_regions refl refl refl

an_array_of_jshort_by_regions-run : IsWorkedRun an_array_of_jshort_by_regions (codes "heap 512\nclass A\nthread Java_A_f\n") (codes "1*23\n")
    (codes "T1 -25536\nT1 0\nT1 running\n#46 [S 0 -25536 5\njournal 1 1 1 1 1 1 1 1 1 1 1 1 1 1 1 1 1 1 1 1 1 1 1\n")
unfolding opened
an_array_of_jshort_by_regions-run = worked-run an_array_of_jshort_by_regions an_array_of_jshort_by_regions-world ((Turn 1, Some 23) ∷ []) [] an_array_of_jshort_by_regions-accepted an_array_of_jshort_by_regions-means refl refl refl refl

-- an array of jshort, by its elements
-- JNIEXPORT void JNICALL Java_A_f(JNIEnv *env, jclass cls, jshortArray a) {
-- jboolean copied = JNI_FALSE;
-- jshort *p = (*env)->GetShortArrayElements(env, a, &copied);
-- if (p != NULL) {
-- put_jint((jint)copied);
-- p[1] = 40000;
-- (*env)->ReleaseShortArrayElements(env, a, p, JNI_COMMIT);
-- p[0] = 5;
-- put_jint(p[1]);
-- (*env)->ReleaseShortArrayElements(env, a, p, 0);
-- }
-- p = (*env)->GetShortArrayElements(env, a, NULL);
-- if (p != NULL) { p[1] = 9; (*env)->ReleaseShortArrayElements(env, a, p, JNI_ABORT); }
-- return;
-- }
abbrev pub an_array_of_jshort_by_its_elements : SourceUnit
an_array_of_jshort_by_its_elements =
    unit_of
    (native 1 Void (codes "Java_A_f") (reference_parameter JShortArray (codes "a") ∷ [])
    (Plain 2 (Declare (Simple JBoolean) (codes "copied") (FromExpr (Named False)))
    ∷ Plain 3 (Declare (Pointer JShort) (codes "p") (FromCall (call (codes "GetShortArrayElements") (given (codes "a") ∷ AddressOf (codes "copied") ∷ []))))
    ∷ If 4 (TestExpr (Binary NotEqual (Variable (codes "p")) (Named Null)))
    (block
    (Plain 5 (PutJint (Prefix ToInt (Variable (codes "copied"))))
    ∷ Plain 6 (AssignElement (codes "p") (Number 1 false) (Number 40000 false))
    ∷ Plain 7 (Perform (call (codes "ReleaseShortArrayElements") (given (codes "a") ∷ given (codes "p") ∷ Value (Named Commit) ∷ [])))
    ∷ Plain 8 (AssignElement (codes "p") (Number 0 false) (Number 5 false))
    ∷ Plain 9 (PutJint (Element (codes "p") (Number 1 false)))
    ∷ Plain 10 (Perform (call (codes "ReleaseShortArrayElements") (given (codes "a") ∷ given (codes "p") ∷ Value (Number 0 false) ∷ [])))
    ∷ [])
    11)
    NoElse
    ∷ Plain 12 (Assign (codes "p") (FromCall (call (codes "GetShortArrayElements") (given (codes "a") ∷ Value (Named Null) ∷ []))))
    ∷ If 13 (TestExpr (Binary NotEqual (Variable (codes "p")) (Named Null)))
    (block
    (Plain 13 (AssignElement (codes "p") (Number 1 false) (Number 9 false))
    ∷ Plain 13 (Perform (call (codes "ReleaseShortArrayElements") (given (codes "a") ∷ given (codes "p") ∷ Value (Named Abort) ∷ [])))
    ∷ [])
    13)
    NoElse
    ∷ Return 14 None
    ∷ [])
    15
    ∷ [])

abbrev an_array_of_jshort_by_its_elements-lines : Lines
an_array_of_jshort_by_its_elements-lines =
    (2, ClassLine (codes "A") None)
    ∷ (3, ArrayLine (codes "a") JShort (NumberValue (pos 1) ∷ NumberValue (pos 2) ∷ []))
    ∷ (4, ThreadLine (codes "Java_A_f") (NamedObject (codes "a") ∷ []))
    ∷ []

abbrev an_array_of_jshort_by_its_elements-world : World
an_array_of_jshort_by_its_elements-world = world_of 1 512 an_array_of_jshort_by_its_elements-lines

an_array_of_jshort_by_its_elements-means : IsWorldText (codes "heap 512\nclass A\narray @a S 1 2\nthread Java_A_f @a\n") an_array_of_jshort_by_its_elements-world
unfolding opened
an_array_of_jshort_by_its_elements-means = world-text (codes "heap 512\nclass A\narray @a S 1 2\nthread Java_A_f @a\n") 512 false an_array_of_jshort_by_its_elements-lines 1 refl refl refl refl refl

an_array_of_jshort_by_its_elements-accepted : IsAccepted an_array_of_jshort_by_its_elements
unfolding opened
an_array_of_jshort_by_its_elements-accepted = accepted an_array_of_jshort_by_its_elements refl refl refl

an_array_of_jshort_by_its_elements-run : IsWorkedRun an_array_of_jshort_by_its_elements (codes "heap 512\nclass A\narray @a S 1 2\nthread Java_A_f @a\n") (codes "1*31\n")
    (codes "T1 1\nT1 -25536\nT1 ended\n#46 [S 5 -25536\njournal 1 1 1 1 1 1 1 1 1 1 1 1 1 1 1 1 1 1 1 1 1 1 1 1 1 1 1 1 1 1\n")
unfolding opened
an_array_of_jshort_by_its_elements-run = worked-run an_array_of_jshort_by_its_elements an_array_of_jshort_by_its_elements-world ((Turn 1, Some 31) ∷ []) [] an_array_of_jshort_by_its_elements-accepted an_array_of_jshort_by_its_elements-means refl refl refl refl

-- a view of an array of jshort
-- JNIEXPORT void JNICALL Java_A_f(JNIEnv *env, jclass cls, jshortArray a) {
-- jboolean copied = JNI_TRUE;
-- jshort *p = (*env)->GetPrimitiveArrayCritical(env, a, &copied);
-- if (p != NULL) {
-- p[0] = 40000;
-- jint n = p[0];
-- (*env)->ReleasePrimitiveArrayCritical(env, a, p, JNI_ABORT);
-- put_jint(n);
-- put_jint((jint)copied);
-- }
-- return;
-- }
abbrev pub a_view_of_an_array_of_jshort : SourceUnit
a_view_of_an_array_of_jshort =
    unit_of
    (native 1 Void (codes "Java_A_f") (reference_parameter JShortArray (codes "a") ∷ [])
    (Plain 2 (Declare (Simple JBoolean) (codes "copied") (FromExpr (Named True)))
    ∷ Plain 3 (Declare (Pointer JShort) (codes "p") (FromCall (call (codes "GetPrimitiveArrayCritical") (given (codes "a") ∷ AddressOf (codes "copied") ∷ []))))
    ∷ If 4 (TestExpr (Binary NotEqual (Variable (codes "p")) (Named Null)))
    (block
    (Plain 5 (AssignElement (codes "p") (Number 0 false) (Number 40000 false))
    ∷ Plain 6 (Declare (Simple JIntVariable) (codes "n") (FromExpr (Element (codes "p") (Number 0 false))))
    ∷ Plain 7 (Perform (call (codes "ReleasePrimitiveArrayCritical") (given (codes "a") ∷ given (codes "p") ∷ Value (Named Abort) ∷ [])))
    ∷ Plain 8 (PutJint (Variable (codes "n")))
    ∷ Plain 9 (PutJint (Prefix ToInt (Variable (codes "copied"))))
    ∷ [])
    10)
    NoElse
    ∷ Return 11 None
    ∷ [])
    12
    ∷ [])

a_view_of_an_array_of_jshort-accepted : IsAccepted a_view_of_an_array_of_jshort
unfolding opened
a_view_of_an_array_of_jshort-accepted = accepted a_view_of_an_array_of_jshort refl refl refl

a_view_of_an_array_of_jshort-run : IsWorkedRun a_view_of_an_array_of_jshort (codes "heap 512\nclass A\narray @a S 1 2\nthread Java_A_f @a\n") (codes "1*21\n")
    (codes "T1 -25536\nT1 0\nT1 ended\n#46 [S -25536 2\njournal 1 1 1 1 1 1 1 1 1 1 1 1 1 1 1 1 1 1 1 1\n")
unfolding opened
a_view_of_an_array_of_jshort-run = worked-run a_view_of_an_array_of_jshort an_array_of_jshort_by_its_elements-world ((Turn 1, Some 21) ∷ []) [] a_view_of_an_array_of_jshort-accepted an_array_of_jshort_by_its_elements-means refl refl refl refl

-- an array of jbyte, by regions
-- JNIEXPORT void JNICALL Java_A_f(JNIEnv *env, jclass cls) {
-- jbyteArray a = (*env)->NewByteArray(env, 3);
-- jbyte x[2] = {0};
-- x[0] = 129;
-- x[1] = 6;
-- (*env)->SetByteArrayRegion(env, a, 1, 2, x);
-- jbyte y[3] = {0};
-- (*env)->GetByteArrayRegion(env, a, 0, 2, y);
-- put_jint(y[1]);
-- put_jint(y[2]);
-- return;
-- }
abbrev pub an_array_of_jbyte_by_regions : SourceUnit
an_array_of_jbyte_by_regions =
    unit_of
    (native 1 Void (codes "Java_A_f") []
    (Plain 2 (Declare (Simple (ReferenceVariable JByteArray)) (codes "a") (FromCall (call (codes "NewByteArray") (Value (Number 3 false) ∷ []))))
    ∷ Plain 3 (DeclareArray JByte (codes "x") 2)
    ∷ Plain 4 (AssignElement (codes "x") (Number 0 false) (Number 129 false))
    ∷ Plain 5 (AssignElement (codes "x") (Number 1 false) (Number 6 false))
    ∷ Plain 6 (Perform (call (codes "SetByteArrayRegion") (given (codes "a") ∷ Value (Number 1 false) ∷ Value (Number 2 false) ∷ given (codes "x") ∷ [])))
    ∷ Plain 7 (DeclareArray JByte (codes "y") 3)
    ∷ Plain 8 (Perform (call (codes "GetByteArrayRegion") (given (codes "a") ∷ Value (Number 0 false) ∷ Value (Number 2 false) ∷ given (codes "y") ∷ [])))
    ∷ Plain 9 (PutJint (Element (codes "y") (Number 1 false)))
    ∷ Plain 10 (PutJint (Element (codes "y") (Number 2 false)))
    ∷ Return 11 None
    ∷ [])
    12
    ∷ [])

an_array_of_jbyte_by_regions-accepted : IsAccepted an_array_of_jbyte_by_regions
unfolding opened
an_array_of_jbyte_by_regions-accepted = accepted an_array_of_jbyte_by_regions refl refl refl

an_array_of_jbyte_by_regions-run : IsWorkedRun an_array_of_jbyte_by_regions (codes "heap 512\nclass A\nthread Java_A_f\n") (codes "1*23\n")
    (codes "T1 -127\nT1 0\nT1 running\n#46 [B 0 -127 6\njournal 1 1 1 1 1 1 1 1 1 1 1 1 1 1 1 1 1 1 1 1 1 1 1\n")
unfolding opened
an_array_of_jbyte_by_regions-run = worked-run an_array_of_jbyte_by_regions an_array_of_jshort_by_regions-world ((Turn 1, Some 23) ∷ []) [] an_array_of_jbyte_by_regions-accepted an_array_of_jshort_by_regions-means refl refl refl refl

-- an array of jbyte, by its elements
-- JNIEXPORT void JNICALL Java_A_f(JNIEnv *env, jclass cls, jbyteArray a) {
-- jboolean copied = JNI_FALSE;
-- jbyte *p = (*env)->GetByteArrayElements(env, a, &copied);
-- if (p != NULL) {
-- put_jint((jint)copied);
-- p[1] = 129;
-- (*env)->ReleaseByteArrayElements(env, a, p, JNI_COMMIT);
-- p[0] = 6;
-- put_jint(p[1]);
-- (*env)->ReleaseByteArrayElements(env, a, p, 0);
-- }
-- p = (*env)->GetByteArrayElements(env, a, NULL);
-- if (p != NULL) { p[1] = 9; (*env)->ReleaseByteArrayElements(env, a, p, JNI_ABORT); }
-- return;
-- }
abbrev pub an_array_of_jbyte_by_its_elements : SourceUnit
an_array_of_jbyte_by_its_elements =
    unit_of
    (native 1 Void (codes "Java_A_f") (reference_parameter JByteArray (codes "a") ∷ [])
    (Plain 2 (Declare (Simple JBoolean) (codes "copied") (FromExpr (Named False)))
    ∷ Plain 3 (Declare (Pointer JByte) (codes "p") (FromCall (call (codes "GetByteArrayElements") (given (codes "a") ∷ AddressOf (codes "copied") ∷ []))))
    ∷ If 4 (TestExpr (Binary NotEqual (Variable (codes "p")) (Named Null)))
    (block
    (Plain 5 (PutJint (Prefix ToInt (Variable (codes "copied"))))
    ∷ Plain 6 (AssignElement (codes "p") (Number 1 false) (Number 129 false))
    ∷ Plain 7 (Perform (call (codes "ReleaseByteArrayElements") (given (codes "a") ∷ given (codes "p") ∷ Value (Named Commit) ∷ [])))
    ∷ Plain 8 (AssignElement (codes "p") (Number 0 false) (Number 6 false))
    ∷ Plain 9 (PutJint (Element (codes "p") (Number 1 false)))
    ∷ Plain 10 (Perform (call (codes "ReleaseByteArrayElements") (given (codes "a") ∷ given (codes "p") ∷ Value (Number 0 false) ∷ [])))
    ∷ [])
    11)
    NoElse
    ∷ Plain 12 (Assign (codes "p") (FromCall (call (codes "GetByteArrayElements") (given (codes "a") ∷ Value (Named Null) ∷ []))))
    ∷ If 13 (TestExpr (Binary NotEqual (Variable (codes "p")) (Named Null)))
    (block
    (Plain 13 (AssignElement (codes "p") (Number 1 false) (Number 9 false))
    ∷ Plain 13 (Perform (call (codes "ReleaseByteArrayElements") (given (codes "a") ∷ given (codes "p") ∷ Value (Named Abort) ∷ [])))
    ∷ [])
    13)
    NoElse
    ∷ Return 14 None
    ∷ [])
    15
    ∷ [])

abbrev an_array_of_jbyte_by_its_elements-lines : Lines
an_array_of_jbyte_by_its_elements-lines =
    (2, ClassLine (codes "A") None)
    ∷ (3, ArrayLine (codes "a") JByte (NumberValue (pos 1) ∷ NumberValue (pos 2) ∷ []))
    ∷ (4, ThreadLine (codes "Java_A_f") (NamedObject (codes "a") ∷ []))
    ∷ []

abbrev an_array_of_jbyte_by_its_elements-world : World
an_array_of_jbyte_by_its_elements-world = world_of 1 512 an_array_of_jbyte_by_its_elements-lines

an_array_of_jbyte_by_its_elements-means : IsWorldText (codes "heap 512\nclass A\narray @a B 1 2\nthread Java_A_f @a\n") an_array_of_jbyte_by_its_elements-world
unfolding opened
an_array_of_jbyte_by_its_elements-means = world-text (codes "heap 512\nclass A\narray @a B 1 2\nthread Java_A_f @a\n") 512 false an_array_of_jbyte_by_its_elements-lines 1 refl refl refl refl refl

an_array_of_jbyte_by_its_elements-accepted : IsAccepted an_array_of_jbyte_by_its_elements
unfolding opened
an_array_of_jbyte_by_its_elements-accepted = accepted an_array_of_jbyte_by_its_elements refl refl refl

an_array_of_jbyte_by_its_elements-run : IsWorkedRun an_array_of_jbyte_by_its_elements (codes "heap 512\nclass A\narray @a B 1 2\nthread Java_A_f @a\n") (codes "1*31\n")
    (codes "T1 1\nT1 -127\nT1 ended\n#46 [B 6 -127\njournal 1 1 1 1 1 1 1 1 1 1 1 1 1 1 1 1 1 1 1 1 1 1 1 1 1 1 1 1 1 1\n")
unfolding opened
an_array_of_jbyte_by_its_elements-run = worked-run an_array_of_jbyte_by_its_elements an_array_of_jbyte_by_its_elements-world ((Turn 1, Some 31) ∷ []) [] an_array_of_jbyte_by_its_elements-accepted an_array_of_jbyte_by_its_elements-means refl refl refl refl

-- a view of an array of jbyte
-- JNIEXPORT void JNICALL Java_A_f(JNIEnv *env, jclass cls, jbyteArray a) {
-- jboolean copied = JNI_TRUE;
-- jbyte *p = (*env)->GetPrimitiveArrayCritical(env, a, &copied);
-- if (p != NULL) {
-- p[0] = 129;
-- jint n = p[0];
-- (*env)->ReleasePrimitiveArrayCritical(env, a, p, JNI_ABORT);
-- put_jint(n);
-- put_jint((jint)copied);
-- }
-- return;
-- }
abbrev pub a_view_of_an_array_of_jbyte : SourceUnit
a_view_of_an_array_of_jbyte =
    unit_of
    (native 1 Void (codes "Java_A_f") (reference_parameter JByteArray (codes "a") ∷ [])
    (Plain 2 (Declare (Simple JBoolean) (codes "copied") (FromExpr (Named True)))
    ∷ Plain 3 (Declare (Pointer JByte) (codes "p") (FromCall (call (codes "GetPrimitiveArrayCritical") (given (codes "a") ∷ AddressOf (codes "copied") ∷ []))))
    ∷ If 4 (TestExpr (Binary NotEqual (Variable (codes "p")) (Named Null)))
    (block
    (Plain 5 (AssignElement (codes "p") (Number 0 false) (Number 129 false))
    ∷ Plain 6 (Declare (Simple JIntVariable) (codes "n") (FromExpr (Element (codes "p") (Number 0 false))))
    ∷ Plain 7 (Perform (call (codes "ReleasePrimitiveArrayCritical") (given (codes "a") ∷ given (codes "p") ∷ Value (Named Abort) ∷ [])))
    ∷ Plain 8 (PutJint (Variable (codes "n")))
    ∷ Plain 9 (PutJint (Prefix ToInt (Variable (codes "copied"))))
    ∷ [])
    10)
    NoElse
    ∷ Return 11 None
    ∷ [])
    12
    ∷ [])

a_view_of_an_array_of_jbyte-accepted : IsAccepted a_view_of_an_array_of_jbyte
unfolding opened
a_view_of_an_array_of_jbyte-accepted = accepted a_view_of_an_array_of_jbyte refl refl refl

a_view_of_an_array_of_jbyte-run : IsWorkedRun a_view_of_an_array_of_jbyte (codes "heap 512\nclass A\narray @a B 1 2\nthread Java_A_f @a\n") (codes "1*21\n")
    (codes "T1 -127\nT1 0\nT1 ended\n#46 [B -127 2\njournal 1 1 1 1 1 1 1 1 1 1 1 1 1 1 1 1 1 1 1 1\n")
unfolding opened
a_view_of_an_array_of_jbyte-run = worked-run a_view_of_an_array_of_jbyte an_array_of_jbyte_by_its_elements-world ((Turn 1, Some 21) ∷ []) [] a_view_of_an_array_of_jbyte-accepted an_array_of_jbyte_by_its_elements-means refl refl refl refl

-- an array of jchar, by regions
-- JNIEXPORT void JNICALL Java_A_f(JNIEnv *env, jclass cls) {
-- jcharArray a = (*env)->NewCharArray(env, 3);
-- jchar x[2] = {0};
-- x[0] = 65535;
-- x[1] = 7;
-- (*env)->SetCharArrayRegion(env, a, 1, 2, x);
-- jchar y[3] = {0};
-- (*env)->GetCharArrayRegion(env, a, 0, 2, y);
-- put_jint(y[1]);
-- put_jint(y[2]);
-- return;
-- }
abbrev pub an_array_of_jchar_by_regions : SourceUnit
an_array_of_jchar_by_regions =
    unit_of
    (native 1 Void (codes "Java_A_f") []
    (Plain 2 (Declare (Simple (ReferenceVariable JCharArray)) (codes "a") (FromCall (call (codes "NewCharArray") (Value (Number 3 false) ∷ []))))
    ∷ Plain 3 (DeclareArray JChar (codes "x") 2)
    ∷ Plain 4 (AssignElement (codes "x") (Number 0 false) (Number 65535 false))
    ∷ Plain 5 (AssignElement (codes "x") (Number 1 false) (Number 7 false))
    ∷ Plain 6 (Perform (call (codes "SetCharArrayRegion") (given (codes "a") ∷ Value (Number 1 false) ∷ Value (Number 2 false) ∷ given (codes "x") ∷ [])))
    ∷ Plain 7 (DeclareArray JChar (codes "y") 3)
    ∷ Plain 8 (Perform (call (codes "GetCharArrayRegion") (given (codes "a") ∷ Value (Number 0 false) ∷ Value (Number 2 false) ∷ given (codes "y") ∷ [])))
    ∷ Plain 9 (PutJint (Element (codes "y") (Number 1 false)))
    ∷ Plain 10 (PutJint (Element (codes "y") (Number 2 false)))
    ∷ Return 11 None
    ∷ [])
    12
    ∷ [])

an_array_of_jchar_by_regions-accepted : IsAccepted an_array_of_jchar_by_regions
unfolding opened
an_array_of_jchar_by_regions-accepted = accepted an_array_of_jchar_by_regions refl refl refl

an_array_of_jchar_by_regions-run : IsWorkedRun an_array_of_jchar_by_regions (codes "heap 512\nclass A\nthread Java_A_f\n") (codes "1*23\n")
    (codes "T1 65535\nT1 0\nT1 running\n#46 [C 0 65535 7\njournal 1 1 1 1 1 1 1 1 1 1 1 1 1 1 1 1 1 1 1 1 1 1 1\n")
unfolding opened
an_array_of_jchar_by_regions-run = worked-run an_array_of_jchar_by_regions an_array_of_jshort_by_regions-world ((Turn 1, Some 23) ∷ []) [] an_array_of_jchar_by_regions-accepted an_array_of_jshort_by_regions-means refl refl refl refl

-- an array of jchar, by its elements
-- JNIEXPORT void JNICALL Java_A_f(JNIEnv *env, jclass cls, jcharArray a) {
-- jboolean copied = JNI_FALSE;
-- jchar *p = (*env)->GetCharArrayElements(env, a, &copied);
-- if (p != NULL) {
-- put_jint((jint)copied);
-- p[1] = 65535;
-- (*env)->ReleaseCharArrayElements(env, a, p, JNI_COMMIT);
-- p[0] = 7;
-- put_jint(p[1]);
-- (*env)->ReleaseCharArrayElements(env, a, p, 0);
-- }
-- p = (*env)->GetCharArrayElements(env, a, NULL);
-- if (p != NULL) { p[1] = 9; (*env)->ReleaseCharArrayElements(env, a, p, JNI_ABORT); }
-- return;
-- }
abbrev pub an_array_of_jchar_by_its_elements : SourceUnit
an_array_of_jchar_by_its_elements =
    unit_of
    (native 1 Void (codes "Java_A_f") (reference_parameter JCharArray (codes "a") ∷ [])
    (Plain 2 (Declare (Simple JBoolean) (codes "copied") (FromExpr (Named False)))
    ∷ Plain 3 (Declare (Pointer JChar) (codes "p") (FromCall (call (codes "GetCharArrayElements") (given (codes "a") ∷ AddressOf (codes "copied") ∷ []))))
    ∷ If 4 (TestExpr (Binary NotEqual (Variable (codes "p")) (Named Null)))
    (block
    (Plain 5 (PutJint (Prefix ToInt (Variable (codes "copied"))))
    ∷ Plain 6 (AssignElement (codes "p") (Number 1 false) (Number 65535 false))
    ∷ Plain 7 (Perform (call (codes "ReleaseCharArrayElements") (given (codes "a") ∷ given (codes "p") ∷ Value (Named Commit) ∷ [])))
    ∷ Plain 8 (AssignElement (codes "p") (Number 0 false) (Number 7 false))
    ∷ Plain 9 (PutJint (Element (codes "p") (Number 1 false)))
    ∷ Plain 10 (Perform (call (codes "ReleaseCharArrayElements") (given (codes "a") ∷ given (codes "p") ∷ Value (Number 0 false) ∷ [])))
    ∷ [])
    11)
    NoElse
    ∷ Plain 12 (Assign (codes "p") (FromCall (call (codes "GetCharArrayElements") (given (codes "a") ∷ Value (Named Null) ∷ []))))
    ∷ If 13 (TestExpr (Binary NotEqual (Variable (codes "p")) (Named Null)))
    (block
    (Plain 13 (AssignElement (codes "p") (Number 1 false) (Number 9 false))
    ∷ Plain 13 (Perform (call (codes "ReleaseCharArrayElements") (given (codes "a") ∷ given (codes "p") ∷ Value (Named Abort) ∷ [])))
    ∷ [])
    13)
    NoElse
    ∷ Return 14 None
    ∷ [])
    15
    ∷ [])

abbrev an_array_of_jchar_by_its_elements-lines : Lines
an_array_of_jchar_by_its_elements-lines =
    (2, ClassLine (codes "A") None)
    ∷ (3, ArrayLine (codes "a") JChar (NumberValue (pos 1) ∷ NumberValue (pos 2) ∷ []))
    ∷ (4, ThreadLine (codes "Java_A_f") (NamedObject (codes "a") ∷ []))
    ∷ []

abbrev an_array_of_jchar_by_its_elements-world : World
an_array_of_jchar_by_its_elements-world = world_of 1 512 an_array_of_jchar_by_its_elements-lines

an_array_of_jchar_by_its_elements-means : IsWorldText (codes "heap 512\nclass A\narray @a C 1 2\nthread Java_A_f @a\n") an_array_of_jchar_by_its_elements-world
unfolding opened
an_array_of_jchar_by_its_elements-means = world-text (codes "heap 512\nclass A\narray @a C 1 2\nthread Java_A_f @a\n") 512 false an_array_of_jchar_by_its_elements-lines 1 refl refl refl refl refl

an_array_of_jchar_by_its_elements-accepted : IsAccepted an_array_of_jchar_by_its_elements
unfolding opened
an_array_of_jchar_by_its_elements-accepted = accepted an_array_of_jchar_by_its_elements refl refl refl

an_array_of_jchar_by_its_elements-run : IsWorkedRun an_array_of_jchar_by_its_elements (codes "heap 512\nclass A\narray @a C 1 2\nthread Java_A_f @a\n") (codes "1*31\n")
    (codes "T1 1\nT1 65535\nT1 ended\n#46 [C 7 65535\njournal 1 1 1 1 1 1 1 1 1 1 1 1 1 1 1 1 1 1 1 1 1 1 1 1 1 1 1 1 1 1\n")
unfolding opened
an_array_of_jchar_by_its_elements-run = worked-run an_array_of_jchar_by_its_elements an_array_of_jchar_by_its_elements-world ((Turn 1, Some 31) ∷ []) [] an_array_of_jchar_by_its_elements-accepted an_array_of_jchar_by_its_elements-means refl refl refl refl

-- a view of an array of jchar
-- JNIEXPORT void JNICALL Java_A_f(JNIEnv *env, jclass cls, jcharArray a) {
-- jboolean copied = JNI_TRUE;
-- jchar *p = (*env)->GetPrimitiveArrayCritical(env, a, &copied);
-- if (p != NULL) {
-- p[0] = 65535;
-- jint n = p[0];
-- (*env)->ReleasePrimitiveArrayCritical(env, a, p, JNI_ABORT);
-- put_jint(n);
-- put_jint((jint)copied);
-- }
-- return;
-- }
abbrev pub a_view_of_an_array_of_jchar : SourceUnit
a_view_of_an_array_of_jchar =
    unit_of
    (native 1 Void (codes "Java_A_f") (reference_parameter JCharArray (codes "a") ∷ [])
    (Plain 2 (Declare (Simple JBoolean) (codes "copied") (FromExpr (Named True)))
    ∷ Plain 3 (Declare (Pointer JChar) (codes "p") (FromCall (call (codes "GetPrimitiveArrayCritical") (given (codes "a") ∷ AddressOf (codes "copied") ∷ []))))
    ∷ If 4 (TestExpr (Binary NotEqual (Variable (codes "p")) (Named Null)))
    (block
    (Plain 5 (AssignElement (codes "p") (Number 0 false) (Number 65535 false))
    ∷ Plain 6 (Declare (Simple JIntVariable) (codes "n") (FromExpr (Element (codes "p") (Number 0 false))))
    ∷ Plain 7 (Perform (call (codes "ReleasePrimitiveArrayCritical") (given (codes "a") ∷ given (codes "p") ∷ Value (Named Abort) ∷ [])))
    ∷ Plain 8 (PutJint (Variable (codes "n")))
    ∷ Plain 9 (PutJint (Prefix ToInt (Variable (codes "copied"))))
    ∷ [])
    10)
    NoElse
    ∷ Return 11 None
    ∷ [])
    12
    ∷ [])

a_view_of_an_array_of_jchar-accepted : IsAccepted a_view_of_an_array_of_jchar
unfolding opened
a_view_of_an_array_of_jchar-accepted = accepted a_view_of_an_array_of_jchar refl refl refl

a_view_of_an_array_of_jchar-run : IsWorkedRun a_view_of_an_array_of_jchar (codes "heap 512\nclass A\narray @a C 1 2\nthread Java_A_f @a\n") (codes "1*21\n")
    (codes "T1 65535\nT1 0\nT1 ended\n#46 [C 65535 2\njournal 1 1 1 1 1 1 1 1 1 1 1 1 1 1 1 1 1 1 1 1\n")
unfolding opened
a_view_of_an_array_of_jchar-run = worked-run a_view_of_an_array_of_jchar an_array_of_jchar_by_its_elements-world ((Turn 1, Some 21) ∷ []) [] a_view_of_an_array_of_jchar-accepted an_array_of_jchar_by_its_elements-means refl refl refl refl

-- an array of jint, by regions
-- JNIEXPORT void JNICALL Java_A_f(JNIEnv *env, jclass cls) {
-- jintArray a = (*env)->NewIntArray(env, 3);
-- jint x[2] = {0};
-- x[0] = 70000;
-- x[1] = 8;
-- (*env)->SetIntArrayRegion(env, a, 1, 2, x);
-- jint y[3] = {0};
-- (*env)->GetIntArrayRegion(env, a, 0, 2, y);
-- put_jint(y[1]);
-- put_jint(y[2]);
-- return;
-- }
abbrev pub an_array_of_jint_by_regions : SourceUnit
an_array_of_jint_by_regions =
    unit_of
    (native 1 Void (codes "Java_A_f") []
    (Plain 2 (Declare (Simple (ReferenceVariable JIntArray)) (codes "a") (FromCall (call (codes "NewIntArray") (Value (Number 3 false) ∷ []))))
    ∷ Plain 3 (DeclareArray JInt (codes "x") 2)
    ∷ Plain 4 (AssignElement (codes "x") (Number 0 false) (Number 70000 false))
    ∷ Plain 5 (AssignElement (codes "x") (Number 1 false) (Number 8 false))
    ∷ Plain 6 (Perform (call (codes "SetIntArrayRegion") (given (codes "a") ∷ Value (Number 1 false) ∷ Value (Number 2 false) ∷ given (codes "x") ∷ [])))
    ∷ Plain 7 (DeclareArray JInt (codes "y") 3)
    ∷ Plain 8 (Perform (call (codes "GetIntArrayRegion") (given (codes "a") ∷ Value (Number 0 false) ∷ Value (Number 2 false) ∷ given (codes "y") ∷ [])))
    ∷ Plain 9 (PutJint (Element (codes "y") (Number 1 false)))
    ∷ Plain 10 (PutJint (Element (codes "y") (Number 2 false)))
    ∷ Return 11 None
    ∷ [])
    12
    ∷ [])

an_array_of_jint_by_regions-accepted : IsAccepted an_array_of_jint_by_regions
unfolding opened
an_array_of_jint_by_regions-accepted = accepted an_array_of_jint_by_regions refl refl refl

an_array_of_jint_by_regions-run : IsWorkedRun an_array_of_jint_by_regions (codes "heap 512\nclass A\nthread Java_A_f\n") (codes "1*23\n")
    (codes "T1 70000\nT1 0\nT1 running\n#46 [I 0 70000 8\njournal 1 1 1 1 1 1 1 1 1 1 1 1 1 1 1 1 1 1 1 1 1 1 1\n")
unfolding opened
an_array_of_jint_by_regions-run = worked-run an_array_of_jint_by_regions an_array_of_jshort_by_regions-world ((Turn 1, Some 23) ∷ []) [] an_array_of_jint_by_regions-accepted an_array_of_jshort_by_regions-means refl refl refl refl

-- an array of jint, by its elements
-- JNIEXPORT void JNICALL Java_A_f(JNIEnv *env, jclass cls, jintArray a) {
-- jboolean copied = JNI_FALSE;
-- jint *p = (*env)->GetIntArrayElements(env, a, &copied);
-- if (p != NULL) {
-- put_jint((jint)copied);
-- p[1] = 70000;
-- (*env)->ReleaseIntArrayElements(env, a, p, JNI_COMMIT);
-- p[0] = 8;
-- put_jint(p[1]);
-- (*env)->ReleaseIntArrayElements(env, a, p, 0);
-- }
-- p = (*env)->GetIntArrayElements(env, a, NULL);
-- if (p != NULL) { p[1] = 9; (*env)->ReleaseIntArrayElements(env, a, p, JNI_ABORT); }
-- return;
-- }
abbrev pub an_array_of_jint_by_its_elements : SourceUnit
an_array_of_jint_by_its_elements =
    unit_of
    (native 1 Void (codes "Java_A_f") (reference_parameter JIntArray (codes "a") ∷ [])
    (Plain 2 (Declare (Simple JBoolean) (codes "copied") (FromExpr (Named False)))
    ∷ Plain 3 (Declare (Pointer JInt) (codes "p") (FromCall (call (codes "GetIntArrayElements") (given (codes "a") ∷ AddressOf (codes "copied") ∷ []))))
    ∷ If 4 (TestExpr (Binary NotEqual (Variable (codes "p")) (Named Null)))
    (block
    (Plain 5 (PutJint (Prefix ToInt (Variable (codes "copied"))))
    ∷ Plain 6 (AssignElement (codes "p") (Number 1 false) (Number 70000 false))
    ∷ Plain 7 (Perform (call (codes "ReleaseIntArrayElements") (given (codes "a") ∷ given (codes "p") ∷ Value (Named Commit) ∷ [])))
    ∷ Plain 8 (AssignElement (codes "p") (Number 0 false) (Number 8 false))
    ∷ Plain 9 (PutJint (Element (codes "p") (Number 1 false)))
    ∷ Plain 10 (Perform (call (codes "ReleaseIntArrayElements") (given (codes "a") ∷ given (codes "p") ∷ Value (Number 0 false) ∷ [])))
    ∷ [])
    11)
    NoElse
    ∷ Plain 12 (Assign (codes "p") (FromCall (call (codes "GetIntArrayElements") (given (codes "a") ∷ Value (Named Null) ∷ []))))
    ∷ If 13 (TestExpr (Binary NotEqual (Variable (codes "p")) (Named Null)))
    (block
    (Plain 13 (AssignElement (codes "p") (Number 1 false) (Number 9 false))
    ∷ Plain 13 (Perform (call (codes "ReleaseIntArrayElements") (given (codes "a") ∷ given (codes "p") ∷ Value (Named Abort) ∷ [])))
    ∷ [])
    13)
    NoElse
    ∷ Return 14 None
    ∷ [])
    15
    ∷ [])

abbrev an_array_of_jint_by_its_elements-lines : Lines
an_array_of_jint_by_its_elements-lines =
    (2, ClassLine (codes "A") None)
    ∷ (3, ArrayLine (codes "a") JInt (NumberValue (pos 1) ∷ NumberValue (pos 2) ∷ []))
    ∷ (4, ThreadLine (codes "Java_A_f") (NamedObject (codes "a") ∷ []))
    ∷ []

abbrev an_array_of_jint_by_its_elements-world : World
an_array_of_jint_by_its_elements-world = world_of 1 512 an_array_of_jint_by_its_elements-lines

an_array_of_jint_by_its_elements-means : IsWorldText (codes "heap 512\nclass A\narray @a I 1 2\nthread Java_A_f @a\n") an_array_of_jint_by_its_elements-world
unfolding opened
an_array_of_jint_by_its_elements-means = world-text (codes "heap 512\nclass A\narray @a I 1 2\nthread Java_A_f @a\n") 512 false an_array_of_jint_by_its_elements-lines 1 refl refl refl refl refl

an_array_of_jint_by_its_elements-accepted : IsAccepted an_array_of_jint_by_its_elements
unfolding opened
an_array_of_jint_by_its_elements-accepted = accepted an_array_of_jint_by_its_elements refl refl refl

an_array_of_jint_by_its_elements-run : IsWorkedRun an_array_of_jint_by_its_elements (codes "heap 512\nclass A\narray @a I 1 2\nthread Java_A_f @a\n") (codes "1*31\n")
    (codes "T1 1\nT1 70000\nT1 ended\n#46 [I 8 70000\njournal 1 1 1 1 1 1 1 1 1 1 1 1 1 1 1 1 1 1 1 1 1 1 1 1 1 1 1 1 1 1\n")
unfolding opened
an_array_of_jint_by_its_elements-run = worked-run an_array_of_jint_by_its_elements an_array_of_jint_by_its_elements-world ((Turn 1, Some 31) ∷ []) [] an_array_of_jint_by_its_elements-accepted an_array_of_jint_by_its_elements-means refl refl refl refl

-- a view of an array of jint
-- JNIEXPORT void JNICALL Java_A_f(JNIEnv *env, jclass cls, jintArray a) {
-- jboolean copied = JNI_TRUE;
-- jint *p = (*env)->GetPrimitiveArrayCritical(env, a, &copied);
-- if (p != NULL) {
-- p[0] = 70000;
-- jint n = p[0];
-- (*env)->ReleasePrimitiveArrayCritical(env, a, p, JNI_ABORT);
-- put_jint(n);
-- put_jint((jint)copied);
-- }
-- return;
-- }
abbrev pub a_view_of_an_array_of_jint : SourceUnit
a_view_of_an_array_of_jint =
    unit_of
    (native 1 Void (codes "Java_A_f") (reference_parameter JIntArray (codes "a") ∷ [])
    (Plain 2 (Declare (Simple JBoolean) (codes "copied") (FromExpr (Named True)))
    ∷ Plain 3 (Declare (Pointer JInt) (codes "p") (FromCall (call (codes "GetPrimitiveArrayCritical") (given (codes "a") ∷ AddressOf (codes "copied") ∷ []))))
    ∷ If 4 (TestExpr (Binary NotEqual (Variable (codes "p")) (Named Null)))
    (block
    (Plain 5 (AssignElement (codes "p") (Number 0 false) (Number 70000 false))
    ∷ Plain 6 (Declare (Simple JIntVariable) (codes "n") (FromExpr (Element (codes "p") (Number 0 false))))
    ∷ Plain 7 (Perform (call (codes "ReleasePrimitiveArrayCritical") (given (codes "a") ∷ given (codes "p") ∷ Value (Named Abort) ∷ [])))
    ∷ Plain 8 (PutJint (Variable (codes "n")))
    ∷ Plain 9 (PutJint (Prefix ToInt (Variable (codes "copied"))))
    ∷ [])
    10)
    NoElse
    ∷ Return 11 None
    ∷ [])
    12
    ∷ [])

a_view_of_an_array_of_jint-accepted : IsAccepted a_view_of_an_array_of_jint
unfolding opened
a_view_of_an_array_of_jint-accepted = accepted a_view_of_an_array_of_jint refl refl refl

a_view_of_an_array_of_jint-run : IsWorkedRun a_view_of_an_array_of_jint (codes "heap 512\nclass A\narray @a I 1 2\nthread Java_A_f @a\n") (codes "1*21\n")
    (codes "T1 70000\nT1 0\nT1 ended\n#46 [I 70000 2\njournal 1 1 1 1 1 1 1 1 1 1 1 1 1 1 1 1 1 1 1 1\n")
unfolding opened
a_view_of_an_array_of_jint-run = worked-run a_view_of_an_array_of_jint an_array_of_jint_by_its_elements-world ((Turn 1, Some 21) ∷ []) [] a_view_of_an_array_of_jint-accepted an_array_of_jint_by_its_elements-means refl refl refl refl
