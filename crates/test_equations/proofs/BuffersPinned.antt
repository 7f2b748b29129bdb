-- The cases of texts/buffers_pinned.cases, as gate/worked_equations writes them.
use Rattle.std.specs.Prelude.{◌∷◌, pos, false, [], Some, None, codes, refl}
use Rattle.base.specs.declared.element.ElementType.TheVariants.{Int as JInt}
use Rattle.syntax.specs.declared.declared_type.ReferenceType.TheVariants.{IntArray as JIntArray}
use Rattle.syntax.specs.declared.declared_type.VariableType.TheVariants.{Uint32 as UInt32, Jint as JIntVariable, Reference as ReferenceVariable}
use Rattle.syntax.specs.declared.declared_type.DeclaredType.TheVariants.{Simple, Pointer}
use Rattle.syntax.specs.declared.unit.ResultType.TheVariants.{Void}
use Rattle.syntax.specs.declared.expr.Constant.TheVariants.{Null}
use Rattle.syntax.specs.declared.expr.PrefixOp.TheVariants.{ToWord, ToInt}
use Rattle.syntax.specs.declared.expr.BinaryOp.TheVariants.{NotEqual, Add}
use Rattle.syntax.specs.Tree.{Number, Named, Variable, Element, Prefix, Binary, Value, FromExpr, FromCall, TestExpr, Declare, DeclareArray, AssignElement, Perform, PutJint, Plain, If, NoElse, Return, SourceUnit}
use Rattle.semantics.specs.declared.schedule.ScheduleWord.TheVariants.{Turn, Collect}
use Rattle.semantics.specs.World.{World}
use Rattle.world_values.specs.WorldLines.{NumberValue, NamedObject, ClassLine, ArrayLine, ThreadLine, Lines}
use Rattle.world_values.specs.WorldMeaning.{world_of}
use Rattle.world_values.specs.WorldRules.{IsWorldText}
use Rattle.test_equations.specs.Claims.{IsAccepted, IsWorkedRun}
use Rattle.test_equations.proofs.Programs.{unit_of, native, block, reference_parameter, call, given}
use Rattle.test_equations.proofs.Computed.{opened, accepted, world-text, worked-run}

-- a pinned array between dropped ones
-- JNIEXPORT void JNICALL Java_A_f(JNIEnv *env, jclass cls) {
-- jintArray d = (*env)->NewIntArray(env, 3);
-- jintArray a = (*env)->NewIntArray(env, 2);
-- jintArray e = (*env)->NewIntArray(env, 3);
-- (*env)->DeleteLocalRef(env, d);
-- (*env)->DeleteLocalRef(env, e);
-- jint *q = (*env)->GetPrimitiveArrayCritical(env, a, NULL);
-- if (q != NULL) { q[0] = 7; q[1] = 8; jint s = q[0]; (*env)->ReleasePrimitiveArrayCritical(env, a, q, 0); put_jint(s); }
-- return; }
abbrev pub a_pinned_array_between_dropped_ones : SourceUnit
a_pinned_array_between_dropped_ones =
    unit_of
    (native 1 Void (codes "Java_A_f") []
    (Plain 2 (Declare (Simple (ReferenceVariable JIntArray)) (codes "d") (FromCall (call (codes "NewIntArray") (Value (Number 3 false) ∷ []))))
    ∷ Plain 3 (Declare (Simple (ReferenceVariable JIntArray)) (codes "a") (FromCall (call (codes "NewIntArray") (Value (Number 2 false) ∷ []))))
    ∷ Plain 4 (Declare (Simple (ReferenceVariable JIntArray)) (codes "e") (FromCall (call (codes "NewIntArray") (Value (Number 3 false) ∷ []))))
    ∷ Plain 5 (Perform (call (codes "DeleteLocalRef") (given (codes "d") ∷ [])))
    ∷ Plain 6 (Perform (call (codes "DeleteLocalRef") (given (codes "e") ∷ [])))
    ∷ Plain 7 (Declare (Pointer JInt) (codes "q") (FromCall (call (codes "GetPrimitiveArrayCritical") (given (codes "a") ∷ Value (Named Null) ∷ []))))
    ∷ If 8 (TestExpr (Binary NotEqual (Variable (codes "q")) (Named Null)))
    (block
    (Plain 8 (AssignElement (codes "q") (Number 0 false) (Number 7 false))
    ∷ Plain 8 (AssignElement (codes "q") (Number 1 false) (Number 8 false))
    ∷ Plain 8 (Declare (Simple JIntVariable) (codes "s") (FromExpr (Element (codes "q") (Number 0 false))))
    ∷ Plain 8 (Perform (call (codes "ReleasePrimitiveArrayCritical") (given (codes "a") ∷ given (codes "q") ∷ Value (Number 0 false) ∷ [])))
    ∷ Plain 8 (PutJint (Variable (codes "s")))
    ∷ [])
    8)
    NoElse
    ∷ Return 9 None
    ∷ [])
    9
    ∷ [])

abbrev a_pinned_array_between_dropped_ones-lines : Lines
a_pinned_array_between_dropped_ones-lines =
    (2, ClassLine (codes "A") None)
    ∷ (3, ThreadLine (codes "Java_A_f") [])
    ∷ []

abbrev a_pinned_array_between_dropped_ones-world : World
a_pinned_array_between_dropped_ones-world = world_of 1 512 a_pinned_array_between_dropped_ones-lines

a_pinned_array_between_dropped_ones-means : IsWorldText (codes "heap 512\nclass A\nthread Java_A_f\n") a_pinned_array_between_dropped_ones-world
unfolding opened
a_pinned_array_between_dropped_ones-means = world-text (codes "heap 512\nclass A\nthread Java_A_f\n") 512 false a_pinned_array_between_dropped_ones-lines 1 refl refl refl refl refl

a_pinned_array_between_dropped_ones-accepted : IsAccepted a_pinned_array_between_dropped_ones
unfolding opened
a_pinned_array_between_dropped_ones-accepted = accepted a_pinned_array_between_dropped_ones refl refl refl

a_pinned_array_between_dropped_ones-run : IsWorkedRun a_pinned_array_between_dropped_ones (codes "heap 512\nclass A\nthread Java_A_f\n") (codes "1*10 c 1 1 c 1 1 c 1 1 c 1 1 c 1 1 c 1 1 c 1 1 c 1 1\n")
    (codes "T1 7\nT1 ended\njournal 1 1 1 1 1 1 1 1 1 1 1 1 1 1 1 1 1 1 1 1 1 1 1 1 1 1\n")
unfolding opened
a_pinned_array_between_dropped_ones-run = worked-run a_pinned_array_between_dropped_ones a_pinned_array_between_dropped_ones-world ((Turn 1, Some 10) ∷ (Collect, None) ∷ (Turn 1, None) ∷ (Turn 1, None) ∷ (Collect, None) ∷ (Turn 1, None) ∷ (Turn 1, None) ∷ (Collect, None) ∷ (Turn 1, None) ∷ (Turn 1, None) ∷ (Collect, None) ∷ (Turn 1, None) ∷ (Turn 1, None) ∷ (Collect, None) ∷ (Turn 1, None) ∷ (Turn 1, None) ∷ (Collect, None) ∷ (Turn 1, None) ∷ (Turn 1, None) ∷ (Collect, None) ∷ (Turn 1, None) ∷ (Turn 1, None) ∷ (Collect, None) ∷ (Turn 1, None) ∷ (Turn 1, None) ∷ []) [] a_pinned_array_between_dropped_ones-accepted a_pinned_array_between_dropped_ones-means refl refl refl refl

-- a pinned array is written by another thread
-- JNIEXPORT void JNICALL Java_A_f(JNIEnv *env, jclass cls, jintArray a) {
-- jint *q = (*env)->GetPrimitiveArrayCritical(env, a, NULL);
-- if (q != NULL) { uint32_t s = (uint32_t)q[0] + (uint32_t)q[1]; (*env)->ReleasePrimitiveArrayCritical(env, a, q, 0); put_jint((jint)s); }
-- return; }
-- JNIEXPORT void JNICALL Java_A_g(JNIEnv *env, jclass cls, jintArray a) { jint b[2] = {0}; b[0] = 10; b[1] = 20; (*env)->SetIntArrayRegion(env, a, 0, 2, b); return; }
abbrev pub a_pinned_array_is_written_by_another_thread : SourceUnit
a_pinned_array_is_written_by_another_thread =
    unit_of
    (native 1 Void (codes "Java_A_f") (reference_parameter JIntArray (codes "a") ∷ [])
    (Plain 2 (Declare (Pointer JInt) (codes "q") (FromCall (call (codes "GetPrimitiveArrayCritical") (given (codes "a") ∷ Value (Named Null) ∷ []))))
    ∷ If 3 (TestExpr (Binary NotEqual (Variable (codes "q")) (Named Null)))
    (block
    (Plain 3 (Declare (Simple UInt32) (codes "s") (FromExpr (Binary Add (Prefix ToWord (Element (codes "q") (Number 0 false))) (Prefix ToWord (Element (codes "q") (Number 1 false))))))
    ∷ Plain 3 (Perform (call (codes "ReleasePrimitiveArrayCritical") (given (codes "a") ∷ given (codes "q") ∷ Value (Number 0 false) ∷ [])))
    ∷ Plain 3 (PutJint (Prefix ToInt (Variable (codes "s"))))
    ∷ [])
    3)
    NoElse
    ∷ Return 4 None
    ∷ [])
    4
    ∷ native 5 Void (codes "Java_A_g") (reference_parameter JIntArray (codes "a") ∷ [])
    (Plain 5 (DeclareArray JInt (codes "b") 2)
    ∷ Plain 5 (AssignElement (codes "b") (Number 0 false) (Number 10 false))
    ∷ Plain 5 (AssignElement (codes "b") (Number 1 false) (Number 20 false))
    ∷ Plain 5 (Perform (call (codes "SetIntArrayRegion") (given (codes "a") ∷ Value (Number 0 false) ∷ Value (Number 2 false) ∷ given (codes "b") ∷ [])))
    ∷ Return 5 None
    ∷ [])
    5
    ∷ [])

abbrev a_pinned_array_is_written_by_another_thread-lines : Lines
a_pinned_array_is_written_by_another_thread-lines =
    (2, ClassLine (codes "A") None)
    ∷ (3, ArrayLine (codes "a") JInt (NumberValue (pos 1) ∷ NumberValue (pos 2) ∷ []))
    ∷ (4, ThreadLine (codes "Java_A_f") (NamedObject (codes "a") ∷ []))
    ∷ (5, ThreadLine (codes "Java_A_g") (NamedObject (codes "a") ∷ []))
    ∷ []

abbrev a_pinned_array_is_written_by_another_thread-world : World
a_pinned_array_is_written_by_another_thread-world = world_of 1 512 a_pinned_array_is_written_by_another_thread-lines

a_pinned_array_is_written_by_another_thread-means : IsWorldText (codes "heap 512\nclass A\narray @a I 1 2\nthread Java_A_f @a\nthread Java_A_g @a\n") a_pinned_array_is_written_by_another_thread-world
unfolding opened
a_pinned_array_is_written_by_another_thread-means = world-text (codes "heap 512\nclass A\narray @a I 1 2\nthread Java_A_f @a\nthread Java_A_g @a\n") 512 false a_pinned_array_is_written_by_another_thread-lines 1 refl refl refl refl refl

a_pinned_array_is_written_by_another_thread-accepted : IsAccepted a_pinned_array_is_written_by_another_thread
unfolding opened
a_pinned_array_is_written_by_another_thread-accepted = accepted a_pinned_array_is_written_by_another_thread refl refl refl

a_pinned_array_is_written_by_another_thread-run : IsWorkedRun a_pinned_array_is_written_by_another_thread (codes "heap 512\nclass A\narray @a I 1 2\nthread Java_A_f @a\nthread Java_A_g @a\n") (codes "1*7 2*12 1*11\n")
    (codes "T1 21\nT1 ended\nT2 ended\n#46 [I 10 20\njournal 1 1 1 1 1 1 1 2 2 2 2 2 2 2 2 2 2 2 2 1 1 1 1 1 1 1 1 1 1 1\n")
unfolding opened
a_pinned_array_is_written_by_another_thread-run = worked-run a_pinned_array_is_written_by_another_thread a_pinned_array_is_written_by_another_thread-world ((Turn 1, Some 7) ∷ (Turn 2, Some 12) ∷ (Turn 1, Some 11) ∷ []) [] a_pinned_array_is_written_by_another_thread-accepted a_pinned_array_is_written_by_another_thread-means refl refl refl refl

-- a collection beside a pinned array
-- JNIEXPORT void JNICALL Java_A_f(JNIEnv *env, jclass cls, jintArray a) {
-- jint *q = (*env)->GetPrimitiveArrayCritical(env, a, NULL);
-- if (q != NULL) { uint32_t s = (uint32_t)q[0] + (uint32_t)q[1]; (*env)->ReleasePrimitiveArrayCritical(env, a, q, 0); put_jint((jint)s); }
-- return; }
-- JNIEXPORT void JNICALL Java_A_g(JNIEnv *env, jclass cls, jintArray a) { jintArray b = (*env)->NewIntArray(env, 2); return; }
abbrev pub a_collection_beside_a_pinned_array : SourceUnit
a_collection_beside_a_pinned_array =
    unit_of
    (native 1 Void (codes "Java_A_f") (reference_parameter JIntArray (codes "a") ∷ [])
    (Plain 2 (Declare (Pointer JInt) (codes "q") (FromCall (call (codes "GetPrimitiveArrayCritical") (given (codes "a") ∷ Value (Named Null) ∷ []))))
    ∷ If 3 (TestExpr (Binary NotEqual (Variable (codes "q")) (Named Null)))
    (block
    (Plain 3 (Declare (Simple UInt32) (codes "s") (FromExpr (Binary Add (Prefix ToWord (Element (codes "q") (Number 0 false))) (Prefix ToWord (Element (codes "q") (Number 1 false))))))
    ∷ Plain 3 (Perform (call (codes "ReleasePrimitiveArrayCritical") (given (codes "a") ∷ given (codes "q") ∷ Value (Number 0 false) ∷ [])))
    ∷ Plain 3 (PutJint (Prefix ToInt (Variable (codes "s"))))
    ∷ [])
    3)
    NoElse
    ∷ Return 4 None
    ∷ [])
    4
    ∷ native 5 Void (codes "Java_A_g") (reference_parameter JIntArray (codes "a") ∷ [])
    (Plain 5 (Declare (Simple (ReferenceVariable JIntArray)) (codes "b") (FromCall (call (codes "NewIntArray") (Value (Number 2 false) ∷ []))))
    ∷ Return 5 None
    ∷ [])
    5
    ∷ [])

a_collection_beside_a_pinned_array-accepted : IsAccepted a_collection_beside_a_pinned_array
unfolding opened
a_collection_beside_a_pinned_array-accepted = accepted a_collection_beside_a_pinned_array refl refl refl

a_collection_beside_a_pinned_array-run : IsWorkedRun a_collection_beside_a_pinned_array (codes "heap 512\nclass A\narray @a I 1 2\nthread Java_A_f @a\nthread Java_A_g @a\n") (codes "1*7 c 2*4 1*11\n")
    (codes "T1 3\nT1 ended\nT2 ended\n#46 [I 1 2\njournal 1 1 1 1 1 1 1 2 2 2 2 1 1 1 1 1 1 1 1 1 1 1\n")
unfolding opened
a_collection_beside_a_pinned_array-run = worked-run a_collection_beside_a_pinned_array a_pinned_array_is_written_by_another_thread-world ((Turn 1, Some 7) ∷ (Collect, None) ∷ (Turn 2, Some 4) ∷ (Turn 1, Some 11) ∷ []) [] a_collection_beside_a_pinned_array-accepted a_pinned_array_is_written_by_another_thread-means refl refl refl refl
