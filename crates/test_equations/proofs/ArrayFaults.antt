-- The cases of texts/array_faults.cases, as gate/worked_equations writes them.
use Rattle.std.specs.Prelude.{◌∷◌, pos, true, false, [], Some, None, codes, refl}
use Rattle.base.specs.declared.element.ElementType.TheVariants.{Int as JInt, Short as JShort, Byte as JByte, Char as JChar}
use Rattle.syntax.specs.declared.declared_type.ReferenceType.TheVariants.{Array as JArray, ShortArray as JShortArray, ByteArray as JByteArray, CharArray as JCharArray}
use Rattle.syntax.specs.declared.declared_type.VariableType.TheVariants.{Reference as ReferenceVariable}
use Rattle.syntax.specs.declared.declared_type.DeclaredType.TheVariants.{Simple, Pointer}
use Rattle.syntax.specs.declared.unit.ResultType.TheVariants.{Void}
use Rattle.syntax.specs.declared.expr.Constant.TheVariants.{Null}
use Rattle.syntax.specs.declared.expr.PrefixOp.TheVariants.{Complement, ToInt}
use Rattle.syntax.specs.declared.expr.BinaryOp.TheVariants.{Equal, NotEqual}
use Rattle.syntax.specs.Tree.{Number, Named, Variable, Element, Prefix, Binary, Value, FromCall, TestExpr, Declare, DeclareArray, AssignElement, Perform, PutJint, Plain, If, NoElse, Return, SourceUnit}
use Rattle.semantics.specs.declared.schedule.ScheduleWord.TheVariants.{Turn}
use Rattle.semantics.specs.World.{World}
use Rattle.world_values.specs.WorldLines.{NumberValue, NamedObject, ClassLine, ArrayLine, ThreadLine, Lines}
use Rattle.world_values.specs.WorldMeaning.{world_of}
use Rattle.world_values.specs.WorldRules.{IsWorldText}
use Rattle.test_equations.specs.Claims.{IsAccepted, IsWorkedRun}
use Rattle.test_equations.proofs.Programs.{unit_of, native, block, reference_parameter, call, given}
use Rattle.test_equations.proofs.Computed.{opened, accepted, world-text, worked-run}

-- an array of numbers of negative length
-- JNIEXPORT void JNICALL Java_A_f(JNIEnv *env, jclass cls) {
-- jbyteArray a = (*env)->NewByteArray(env, (jint)~0u);
-- if (a == NULL) { (*env)->ExceptionClear(env); }
-- jcharArray c = (*env)->NewCharArray(env, 0);
-- return;
-- }
abbrev pub an_array_of_numbers_of_negative_length : SourceUnit
an_array_of_numbers_of_negative_length =
    unit_of
    (native 1 Void (codes "Java_A_f") []
    (Plain 2 (Declare (Simple (ReferenceVariable JByteArray)) (codes "a") (FromCall (call (codes "NewByteArray") (Value (Prefix ToInt (Prefix Complement (Number 0 true))) ∷ []))))
    ∷ If 3 (TestExpr (Binary Equal (Variable (codes "a")) (Named Null)))
    (block
    (Plain 3 (Perform (call (codes "ExceptionClear") []))
    ∷ [])
    3)
    NoElse
    ∷ Plain 4 (Declare (Simple (ReferenceVariable JCharArray)) (codes "c") (FromCall (call (codes "NewCharArray") (Value (Number 0 false) ∷ []))))
    ∷ Return 5 None
    ∷ [])
    6
    ∷ [])

abbrev an_array_of_numbers_of_negative_length-lines : Lines
an_array_of_numbers_of_negative_length-lines =
    (2, ClassLine (codes "A") None)
    ∷ (3, ThreadLine (codes "Java_A_f") [])
    ∷ []

abbrev an_array_of_numbers_of_negative_length-world : World
an_array_of_numbers_of_negative_length-world = world_of 1 512 an_array_of_numbers_of_negative_length-lines

an_array_of_numbers_of_negative_length-means : IsWorldText (codes "heap 512\nclass A\nthread Java_A_f\n") an_array_of_numbers_of_negative_length-world
unfolding opened
an_array_of_numbers_of_negative_length-means = world-text (codes "heap 512\nclass A\nthread Java_A_f\n") 512 false an_array_of_numbers_of_negative_length-lines 1 refl refl refl refl refl

an_array_of_numbers_of_negative_length-accepted : IsAccepted an_array_of_numbers_of_negative_length
unfolding opened
an_array_of_numbers_of_negative_length-accepted = accepted an_array_of_numbers_of_negative_length refl refl refl

an_array_of_numbers_of_negative_length-run : IsWorkedRun an_array_of_numbers_of_negative_length (codes "heap 512\nclass A\nthread Java_A_f\n") (codes "1*13\n")
    (codes "T1 ended\njournal 1 1 1 1 1 1 1 1 1 1 1 1\n")
unfolding opened
an_array_of_numbers_of_negative_length-run = worked-run an_array_of_numbers_of_negative_length an_array_of_numbers_of_negative_length-world ((Turn 1, Some 13) ∷ []) [] an_array_of_numbers_of_negative_length-accepted an_array_of_numbers_of_negative_length-means refl refl refl refl

-- a region before the beginning
-- JNIEXPORT void JNICALL Java_A_f(JNIEnv *env, jclass cls, jshortArray a) {
-- jshort x[1] = {0};
-- (*env)->GetShortArrayRegion(env, a, (jint)~0u, 1, x);
-- return;
-- }
abbrev pub a_region_before_the_beginning : SourceUnit
a_region_before_the_beginning =
    unit_of
    (native 1 Void (codes "Java_A_f") (reference_parameter JShortArray (codes "a") ∷ [])
    (Plain 2 (DeclareArray JShort (codes "x") 1)
    ∷ Plain 3 (Perform (call (codes "GetShortArrayRegion") (given (codes "a") ∷ Value (Prefix ToInt (Prefix Complement (Number 0 true))) ∷ Value (Number 1 false) ∷ given (codes "x") ∷ [])))
    ∷ Return 4 None
    ∷ [])
    5
    ∷ [])

abbrev a_region_before_the_beginning-lines : Lines
a_region_before_the_beginning-lines =
    (2, ClassLine (codes "A") None)
    ∷ (3, ArrayLine (codes "a") JShort (NumberValue (pos 1) ∷ NumberValue (pos 2) ∷ []))
    ∷ (4, ThreadLine (codes "Java_A_f") (NamedObject (codes "a") ∷ []))
    ∷ []

abbrev a_region_before_the_beginning-world : World
a_region_before_the_beginning-world = world_of 1 512 a_region_before_the_beginning-lines

a_region_before_the_beginning-means : IsWorldText (codes "heap 512\nclass A\narray @a S 1 2\nthread Java_A_f @a\n") a_region_before_the_beginning-world
unfolding opened
a_region_before_the_beginning-means = world-text (codes "heap 512\nclass A\narray @a S 1 2\nthread Java_A_f @a\n") 512 false a_region_before_the_beginning-lines 1 refl refl refl refl refl

a_region_before_the_beginning-accepted : IsAccepted a_region_before_the_beginning
unfolding opened
a_region_before_the_beginning-accepted = accepted a_region_before_the_beginning refl refl refl

a_region_before_the_beginning-run : IsWorkedRun a_region_before_the_beginning (codes "heap 512\nclass A\narray @a S 1 2\nthread Java_A_f @a\n") (codes "1*9\n")
    (codes "T1 uncaught java/lang/ArrayIndexOutOfBoundsException\n#46 [S 1 2\njournal 1 1 1 1 1 1 1 1\n")
unfolding opened
a_region_before_the_beginning-run = worked-run a_region_before_the_beginning a_region_before_the_beginning-world ((Turn 1, Some 9) ∷ []) [] a_region_before_the_beginning-accepted a_region_before_the_beginning-means refl refl refl refl

-- a region of negative length
-- JNIEXPORT void JNICALL Java_A_f(JNIEnv *env, jclass cls, jshortArray a) {
-- jshort x[1] = {0};
-- (*env)->SetShortArrayRegion(env, a, 0, (jint)~0u, x);
-- return;
-- }
abbrev pub a_region_of_negative_length : SourceUnit
a_region_of_negative_length =
    unit_of
    (native 1 Void (codes "Java_A_f") (reference_parameter JShortArray (codes "a") ∷ [])
    (Plain 2 (DeclareArray JShort (codes "x") 1)
    ∷ Plain 3 (Perform (call (codes "SetShortArrayRegion") (given (codes "a") ∷ Value (Number 0 false) ∷ Value (Prefix ToInt (Prefix Complement (Number 0 true))) ∷ given (codes "x") ∷ [])))
    ∷ Return 4 None
    ∷ [])
    5
    ∷ [])

a_region_of_negative_length-accepted : IsAccepted a_region_of_negative_length
unfolding opened
a_region_of_negative_length-accepted = accepted a_region_of_negative_length refl refl refl

a_region_of_negative_length-run : IsWorkedRun a_region_of_negative_length (codes "heap 512\nclass A\narray @a S 1 2\nthread Java_A_f @a\n") (codes "1*9\n")
    (codes "T1 uncaught java/lang/ArrayIndexOutOfBoundsException\n#46 [S 1 2\njournal 1 1 1 1 1 1 1 1\n")
unfolding opened
a_region_of_negative_length-run = worked-run a_region_of_negative_length a_region_before_the_beginning-world ((Turn 1, Some 9) ∷ []) [] a_region_of_negative_length-accepted a_region_before_the_beginning-means refl refl refl refl

-- a region of no length at the end
-- JNIEXPORT void JNICALL Java_A_f(JNIEnv *env, jclass cls, jcharArray a) {
-- jchar x[1] = {0};
-- (*env)->GetCharArrayRegion(env, a, 2, 0, x);
-- put_jint(x[0]);
-- return;
-- }
abbrev pub a_region_of_no_length_at_the_end : SourceUnit
a_region_of_no_length_at_the_end =
    unit_of
    (native 1 Void (codes "Java_A_f") (reference_parameter JCharArray (codes "a") ∷ [])
    (Plain 2 (DeclareArray JChar (codes "x") 1)
    ∷ Plain 3 (Perform (call (codes "GetCharArrayRegion") (given (codes "a") ∷ Value (Number 2 false) ∷ Value (Number 0 false) ∷ given (codes "x") ∷ [])))
    ∷ Plain 4 (PutJint (Element (codes "x") (Number 0 false)))
    ∷ Return 5 None
    ∷ [])
    6
    ∷ [])

abbrev a_region_of_no_length_at_the_end-lines : Lines
a_region_of_no_length_at_the_end-lines =
    (2, ClassLine (codes "A") None)
    ∷ (3, ArrayLine (codes "a") JChar (NumberValue (pos 1) ∷ NumberValue (pos 2) ∷ []))
    ∷ (4, ThreadLine (codes "Java_A_f") (NamedObject (codes "a") ∷ []))
    ∷ []

abbrev a_region_of_no_length_at_the_end-world : World
a_region_of_no_length_at_the_end-world = world_of 1 512 a_region_of_no_length_at_the_end-lines

a_region_of_no_length_at_the_end-means : IsWorldText (codes "heap 512\nclass A\narray @a C 1 2\nthread Java_A_f @a\n") a_region_of_no_length_at_the_end-world
unfolding opened
a_region_of_no_length_at_the_end-means = world-text (codes "heap 512\nclass A\narray @a C 1 2\nthread Java_A_f @a\n") 512 false a_region_of_no_length_at_the_end-lines 1 refl refl refl refl refl

a_region_of_no_length_at_the_end-accepted : IsAccepted a_region_of_no_length_at_the_end
unfolding opened
a_region_of_no_length_at_the_end-accepted = accepted a_region_of_no_length_at_the_end refl refl refl

a_region_of_no_length_at_the_end-run : IsWorkedRun a_region_of_no_length_at_the_end (codes "heap 512\nclass A\narray @a C 1 2\nthread Java_A_f @a\n") (codes "1*10\n")
    (codes "T1 0\nT1 ended\n#46 [C 1 2\njournal 1 1 1 1 1 1 1 1 1\n")
unfolding opened
a_region_of_no_length_at_the_end-run = worked-run a_region_of_no_length_at_the_end a_region_of_no_length_at_the_end-world ((Turn 1, Some 10) ∷ []) [] a_region_of_no_length_at_the_end-accepted a_region_of_no_length_at_the_end-means refl refl refl refl

-- a region longer than the array of C
-- JNIEXPORT void JNICALL Java_A_f(JNIEnv *env, jclass cls, jbyteArray a) {
-- jbyte x[1] = {0};
-- (*env)->GetByteArrayRegion(env, a, 0, 2, x);
-- return;
-- }
abbrev pub a_region_longer_than_the_array_of_c : SourceUnit
a_region_longer_than_the_array_of_c =
    unit_of
    (native 1 Void (codes "Java_A_f") (reference_parameter JByteArray (codes "a") ∷ [])
    (Plain 2 (DeclareArray JByte (codes "x") 1)
    ∷ Plain 3 (Perform (call (codes "GetByteArrayRegion") (given (codes "a") ∷ Value (Number 0 false) ∷ Value (Number 2 false) ∷ given (codes "x") ∷ [])))
    ∷ Return 4 None
    ∷ [])
    5
    ∷ [])

abbrev a_region_longer_than_the_array_of_c-lines : Lines
a_region_longer_than_the_array_of_c-lines =
    (2, ClassLine (codes "A") None)
    ∷ (3, ArrayLine (codes "a") JByte (NumberValue (pos 1) ∷ NumberValue (pos 2) ∷ []))
    ∷ (4, ThreadLine (codes "Java_A_f") (NamedObject (codes "a") ∷ []))
    ∷ []

abbrev a_region_longer_than_the_array_of_c-world : World
a_region_longer_than_the_array_of_c-world = world_of 1 512 a_region_longer_than_the_array_of_c-lines

a_region_longer_than_the_array_of_c-means : IsWorldText (codes "heap 512\nclass A\narray @a B 1 2\nthread Java_A_f @a\n") a_region_longer_than_the_array_of_c-world
unfolding opened
a_region_longer_than_the_array_of_c-means = world-text (codes "heap 512\nclass A\narray @a B 1 2\nthread Java_A_f @a\n") 512 false a_region_longer_than_the_array_of_c-lines 1 refl refl refl refl refl

a_region_longer_than_the_array_of_c-accepted : IsAccepted a_region_longer_than_the_array_of_c
unfolding opened
a_region_longer_than_the_array_of_c-accepted = accepted a_region_longer_than_the_array_of_c refl refl refl

a_region_longer_than_the_array_of_c-run : IsWorkedRun a_region_longer_than_the_array_of_c (codes "heap 512\nclass A\narray @a B 1 2\nthread Java_A_f @a\n") (codes "1*6\n")
    (codes "T1 trap 3 line 3\n#46 [B 1 2\njournal 1 1 1 1 1\n")
unfolding opened
a_region_longer_than_the_array_of_c-run = worked-run a_region_longer_than_the_array_of_c a_region_longer_than_the_array_of_c-world ((Turn 1, Some 6) ∷ []) [] a_region_longer_than_the_array_of_c-accepted a_region_longer_than_the_array_of_c-means refl refl refl refl

-- an exception is thrown before the array of C is looked at
-- JNIEXPORT void JNICALL Java_A_f(JNIEnv *env, jclass cls, jbyteArray a) {
-- jbyte x[1] = {0};
-- (*env)->SetByteArrayRegion(env, a, 0, 3, x);
-- return;
-- }
abbrev pub an_exception_is_thrown_before_the_array_of_c_is_looked_at : SourceUnit
an_exception_is_thrown_before_the_array_of_c_is_looked_at =
    unit_of
    (native 1 Void (codes "Java_A_f") (reference_parameter JByteArray (codes "a") ∷ [])
    (Plain 2 (DeclareArray JByte (codes "x") 1)
    ∷ Plain 3 (Perform (call (codes "SetByteArrayRegion") (given (codes "a") ∷ Value (Number 0 false) ∷ Value (Number 3 false) ∷ given (codes "x") ∷ [])))
    ∷ Return 4 None
    ∷ [])
    5
    ∷ [])

an_exception_is_thrown_before_the_array_of_c_is_looked_at-accepted : IsAccepted an_exception_is_thrown_before_the_array_of_c_is_looked_at
unfolding opened
an_exception_is_thrown_before_the_array_of_c_is_looked_at-accepted = accepted an_exception_is_thrown_before_the_array_of_c_is_looked_at refl refl refl

an_exception_is_thrown_before_the_array_of_c_is_looked_at-run : IsWorkedRun an_exception_is_thrown_before_the_array_of_c_is_looked_at (codes "heap 512\nclass A\narray @a B 1 2\nthread Java_A_f @a\n") (codes "1*7\n")
    (codes "T1 uncaught java/lang/ArrayIndexOutOfBoundsException\n#46 [B 1 2\njournal 1 1 1 1 1 1\n")
unfolding opened
an_exception_is_thrown_before_the_array_of_c_is_looked_at-run = worked-run an_exception_is_thrown_before_the_array_of_c_is_looked_at a_region_longer_than_the_array_of_c-world ((Turn 1, Some 7) ∷ []) [] an_exception_is_thrown_before_the_array_of_c_is_looked_at-accepted a_region_longer_than_the_array_of_c-means refl refl refl refl

-- an index past a copy
-- JNIEXPORT void JNICALL Java_A_f(JNIEnv *env, jclass cls, jcharArray a) {
-- jchar *p = (*env)->GetCharArrayElements(env, a, NULL);
-- if (p != NULL) {
-- p[2] = 1;
-- (*env)->ReleaseCharArrayElements(env, a, p, 0);
-- }
-- return;
-- }
abbrev pub an_index_past_a_copy : SourceUnit
an_index_past_a_copy =
    unit_of
    (native 1 Void (codes "Java_A_f") (reference_parameter JCharArray (codes "a") ∷ [])
    (Plain 2 (Declare (Pointer JChar) (codes "p") (FromCall (call (codes "GetCharArrayElements") (given (codes "a") ∷ Value (Named Null) ∷ []))))
    ∷ If 3 (TestExpr (Binary NotEqual (Variable (codes "p")) (Named Null)))
    (block
    (Plain 4 (AssignElement (codes "p") (Number 2 false) (Number 1 false))
    ∷ Plain 5 (Perform (call (codes "ReleaseCharArrayElements") (given (codes "a") ∷ given (codes "p") ∷ Value (Number 0 false) ∷ [])))
    ∷ [])
    6)
    NoElse
    ∷ Return 7 None
    ∷ [])
    8
    ∷ [])

an_index_past_a_copy-accepted : IsAccepted an_index_past_a_copy
unfolding opened
an_index_past_a_copy-accepted = accepted an_index_past_a_copy refl refl refl

an_index_past_a_copy-run : IsWorkedRun an_index_past_a_copy (codes "heap 512\nclass A\narray @a C 1 2\nthread Java_A_f @a\n") (codes "1*8\n")
    (codes "T1 trap 3 line 4\n#46 [C 1 2\njournal 1 1 1 1 1 1 1\n")
unfolding opened
an_index_past_a_copy-run = worked-run an_index_past_a_copy a_region_of_no_length_at_the_end-world ((Turn 1, Some 8) ∷ []) [] an_index_past_a_copy-accepted a_region_of_no_length_at_the_end-means refl refl refl refl

-- an array of another type
-- JNIEXPORT void JNICALL Java_A_f(JNIEnv *env, jclass cls, jarray a) {
-- jint *p = (*env)->GetPrimitiveArrayCritical(env, a, NULL);
-- if (p != NULL) { (*env)->ReleasePrimitiveArrayCritical(env, a, p, 0); }
-- return;
-- }
abbrev pub an_array_of_another_type : SourceUnit
an_array_of_another_type =
    unit_of
    (native 1 Void (codes "Java_A_f") (reference_parameter JArray (codes "a") ∷ [])
    (Plain 2 (Declare (Pointer JInt) (codes "p") (FromCall (call (codes "GetPrimitiveArrayCritical") (given (codes "a") ∷ Value (Named Null) ∷ []))))
    ∷ If 3 (TestExpr (Binary NotEqual (Variable (codes "p")) (Named Null)))
    (block
    (Plain 3 (Perform (call (codes "ReleasePrimitiveArrayCritical") (given (codes "a") ∷ given (codes "p") ∷ Value (Number 0 false) ∷ [])))
    ∷ [])
    3)
    NoElse
    ∷ Return 4 None
    ∷ [])
    5
    ∷ [])

an_array_of_another_type-accepted : IsAccepted an_array_of_another_type
unfolding opened
an_array_of_another_type-accepted = accepted an_array_of_another_type refl refl refl

an_array_of_another_type-run : IsWorkedRun an_array_of_another_type (codes "heap 512\nclass A\narray @a S 1 2\nthread Java_A_f @a\n") (codes "1*3\n")
    (codes "T1 trap 6 line 2\n#46 [S 1 2\njournal 1 1\n")
unfolding opened
an_array_of_another_type-run = worked-run an_array_of_another_type a_region_before_the_beginning-world ((Turn 1, Some 3) ∷ []) [] an_array_of_another_type-accepted a_region_before_the_beginning-means refl refl refl refl
