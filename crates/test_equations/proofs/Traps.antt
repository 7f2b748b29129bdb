-- The cases of texts/traps.cases, as gate/worked_equations writes them.
use Rattle.std.specs.Prelude.{◌∷◌, pos, negsuc, true, false, [], Some, None, codes, refl}
use Rattle.base.specs.declared.element.ElementType.TheVariants.{Int as JInt}
use Rattle.syntax.specs.declared.declared_type.ReferenceType.TheVariants.{Object as JObject, Class as JClass}
use Rattle.syntax.specs.declared.declared_type.VariableType.TheVariants.{Uint32 as UInt32, Jboolean as JBoolean, Reference as ReferenceVariable}
use Rattle.syntax.specs.declared.declared_type.DeclaredType.TheVariants.{Simple}
use Rattle.syntax.specs.declared.unit.ResultType.TheVariants.{Void}
use Rattle.syntax.specs.declared.expr.PrefixOp.TheVariants.{Complement, ToWord, ToInt}
use Rattle.syntax.specs.declared.expr.BinaryOp.TheVariants.{ShiftLeft, ShiftRight, Divide, Remainder}
use Rattle.syntax.specs.Tree.{Number, Variable, Element, Prefix, Binary, Paren, Text, FromExpr, FromCall, Declare, DeclareArray, Perform, PutJint, Plain, Return, SourceUnit}
use Rattle.semantics.specs.declared.schedule.ScheduleWord.TheVariants.{Turn}
use Rattle.semantics.specs.World.{World}
use Rattle.world_values.specs.WorldLines.{NumberValue, NullValue, NamedObject, ClassLine, ArrayLine, ThreadLine, Lines}
use Rattle.world_values.specs.WorldMeaning.{world_of}
use Rattle.world_values.specs.WorldRules.{IsWorldText}
use Rattle.test_equations.specs.Claims.{IsAccepted, IsWorkedRun}
use Rattle.test_equations.proofs.Programs.{unit_of, native, reference_parameter, int_parameter, call, given}
use Rattle.test_equations.proofs.Computed.{opened, accepted, world-text, worked-run}

-- a division by zero
-- JNIEXPORT void JNICALL Java_A_f(JNIEnv *env, jclass cls, jint n) {
-- uint32_t u = 1u / (uint32_t)n;
-- return;
-- }
abbrev pub a_division_by_zero : SourceUnit
a_division_by_zero =
    unit_of
    (native 1 Void (codes "Java_A_f") (int_parameter (codes "n") ∷ [])
    (Plain 2 (Declare (Simple UInt32) (codes "u") (FromExpr (Binary Divide (Number 1 true) (Prefix ToWord (Variable (codes "n"))))))
    ∷ Return 3 None
    ∷ [])
    4
    ∷ [])

abbrev a_division_by_zero-lines : Lines
a_division_by_zero-lines =
    (2, ClassLine (codes "A") None)
    ∷ (3, ThreadLine (codes "Java_A_f") (NumberValue (pos 0) ∷ []))
    ∷ []

abbrev a_division_by_zero-world : World
a_division_by_zero-world = world_of 1 512 a_division_by_zero-lines

a_division_by_zero-means : IsWorldText (codes "heap 512\nclass A\nthread Java_A_f 0\n") a_division_by_zero-world
unfolding opened
a_division_by_zero-means = world-text (codes "heap 512\nclass A\nthread Java_A_f 0\n") 512 false a_division_by_zero-lines 1 refl refl refl refl refl

a_division_by_zero-accepted : IsAccepted a_division_by_zero
unfolding opened
a_division_by_zero-accepted = accepted a_division_by_zero refl refl refl

a_division_by_zero-run : IsWorkedRun a_division_by_zero (codes "heap 512\nclass A\nthread Java_A_f 0\n") (codes "1*6\n")
    (codes "T1 trap 1 line 2\njournal 1 1 1 1 1\n")
unfolding opened
a_division_by_zero-run = worked-run a_division_by_zero a_division_by_zero-world ((Turn 1, Some 6) ∷ []) [] a_division_by_zero-accepted a_division_by_zero-means refl refl refl refl

-- a remainder by zero
-- JNIEXPORT void JNICALL Java_A_f(JNIEnv *env, jclass cls, jint n) {
-- uint32_t u = 1u % (uint32_t)n;
-- return;
-- }
abbrev pub a_remainder_by_zero : SourceUnit
a_remainder_by_zero =
    unit_of
    (native 1 Void (codes "Java_A_f") (int_parameter (codes "n") ∷ [])
    (Plain 2 (Declare (Simple UInt32) (codes "u") (FromExpr (Binary Remainder (Number 1 true) (Prefix ToWord (Variable (codes "n"))))))
    ∷ Return 3 None
    ∷ [])
    4
    ∷ [])

a_remainder_by_zero-accepted : IsAccepted a_remainder_by_zero
unfolding opened
a_remainder_by_zero-accepted = accepted a_remainder_by_zero refl refl refl

a_remainder_by_zero-run : IsWorkedRun a_remainder_by_zero (codes "heap 512\nclass A\nthread Java_A_f 0\n") (codes "1*6\n")
    (codes "T1 trap 1 line 2\njournal 1 1 1 1 1\n")
unfolding opened
a_remainder_by_zero-run = worked-run a_remainder_by_zero a_division_by_zero-world ((Turn 1, Some 6) ∷ []) [] a_remainder_by_zero-accepted a_division_by_zero-means refl refl refl refl

-- a shift to the left by 31 and by 32
-- JNIEXPORT void JNICALL Java_A_f(JNIEnv *env, jclass cls, jint n) {
-- put_jint((jint)(1u << 31u));
-- uint32_t u = 1u << (uint32_t)n;
-- return;
-- }
abbrev pub a_shift_to_the_left_by_31_and_by_32 : SourceUnit
a_shift_to_the_left_by_31_and_by_32 =
    unit_of
    (native 1 Void (codes "Java_A_f") (int_parameter (codes "n") ∷ [])
    (Plain 2 (PutJint (Prefix ToInt (Paren (Binary ShiftLeft (Number 1 true) (Number 31 true)))))
    ∷ Plain 3 (Declare (Simple UInt32) (codes "u") (FromExpr (Binary ShiftLeft (Number 1 true) (Prefix ToWord (Variable (codes "n"))))))
    ∷ Return 4 None
    ∷ [])
    5
    ∷ [])

abbrev a_shift_to_the_left_by_31_and_by_32-lines : Lines
a_shift_to_the_left_by_31_and_by_32-lines =
    (2, ClassLine (codes "A") None)
    ∷ (3, ThreadLine (codes "Java_A_f") (NumberValue (pos 32) ∷ []))
    ∷ []

abbrev a_shift_to_the_left_by_31_and_by_32-world : World
a_shift_to_the_left_by_31_and_by_32-world = world_of 1 512 a_shift_to_the_left_by_31_and_by_32-lines

a_shift_to_the_left_by_31_and_by_32-means : IsWorldText (codes "heap 512\nclass A\nthread Java_A_f 32\n") a_shift_to_the_left_by_31_and_by_32-world
unfolding opened
a_shift_to_the_left_by_31_and_by_32-means = world-text (codes "heap 512\nclass A\nthread Java_A_f 32\n") 512 false a_shift_to_the_left_by_31_and_by_32-lines 1 refl refl refl refl refl

a_shift_to_the_left_by_31_and_by_32-accepted : IsAccepted a_shift_to_the_left_by_31_and_by_32
unfolding opened
a_shift_to_the_left_by_31_and_by_32-accepted = accepted a_shift_to_the_left_by_31_and_by_32 refl refl refl

a_shift_to_the_left_by_31_and_by_32-run : IsWorkedRun a_shift_to_the_left_by_31_and_by_32 (codes "heap 512\nclass A\nthread Java_A_f 32\n") (codes "1*11\n")
    (codes "T1 -2147483648\nT1 trap 2 line 3\njournal 1 1 1 1 1 1 1 1 1 1\n")
unfolding opened
a_shift_to_the_left_by_31_and_by_32-run = worked-run a_shift_to_the_left_by_31_and_by_32 a_shift_to_the_left_by_31_and_by_32-world ((Turn 1, Some 11) ∷ []) [] a_shift_to_the_left_by_31_and_by_32-accepted a_shift_to_the_left_by_31_and_by_32-means refl refl refl refl

-- a shift to the right by 31 and by 33
-- JNIEXPORT void JNICALL Java_A_f(JNIEnv *env, jclass cls, jint n) {
-- put_jint((jint)(~0u >> 31u));
-- uint32_t u = 1u >> (uint32_t)n;
-- return;
-- }
abbrev pub a_shift_to_the_right_by_31_and_by_33 : SourceUnit
a_shift_to_the_right_by_31_and_by_33 =
    unit_of
    (native 1 Void (codes "Java_A_f") (int_parameter (codes "n") ∷ [])
    (Plain 2 (PutJint (Prefix ToInt (Paren (Binary ShiftRight (Prefix Complement (Number 0 true)) (Number 31 true)))))
    ∷ Plain 3 (Declare (Simple UInt32) (codes "u") (FromExpr (Binary ShiftRight (Number 1 true) (Prefix ToWord (Variable (codes "n"))))))
    ∷ Return 4 None
    ∷ [])
    5
    ∷ [])

abbrev a_shift_to_the_right_by_31_and_by_33-lines : Lines
a_shift_to_the_right_by_31_and_by_33-lines =
    (2, ClassLine (codes "A") None)
    ∷ (3, ThreadLine (codes "Java_A_f") (NumberValue (pos 33) ∷ []))
    ∷ []

abbrev a_shift_to_the_right_by_31_and_by_33-world : World
a_shift_to_the_right_by_31_and_by_33-world = world_of 1 512 a_shift_to_the_right_by_31_and_by_33-lines

a_shift_to_the_right_by_31_and_by_33-means : IsWorldText (codes "heap 512\nclass A\nthread Java_A_f 33\n") a_shift_to_the_right_by_31_and_by_33-world
unfolding opened
a_shift_to_the_right_by_31_and_by_33-means = world-text (codes "heap 512\nclass A\nthread Java_A_f 33\n") 512 false a_shift_to_the_right_by_31_and_by_33-lines 1 refl refl refl refl refl

a_shift_to_the_right_by_31_and_by_33-accepted : IsAccepted a_shift_to_the_right_by_31_and_by_33
unfolding opened
a_shift_to_the_right_by_31_and_by_33-accepted = accepted a_shift_to_the_right_by_31_and_by_33 refl refl refl

a_shift_to_the_right_by_31_and_by_33-run : IsWorkedRun a_shift_to_the_right_by_31_and_by_33 (codes "heap 512\nclass A\nthread Java_A_f 33\n") (codes "1*12\n")
    (codes "T1 1\nT1 trap 2 line 3\njournal 1 1 1 1 1 1 1 1 1 1 1\n")
unfolding opened
a_shift_to_the_right_by_31_and_by_33-run = worked-run a_shift_to_the_right_by_31_and_by_33 a_shift_to_the_right_by_31_and_by_33-world ((Turn 1, Some 12) ∷ []) [] a_shift_to_the_right_by_31_and_by_33-accepted a_shift_to_the_right_by_31_and_by_33-means refl refl refl refl

-- an index of minus one
-- JNIEXPORT void JNICALL Java_A_f(JNIEnv *env, jclass cls, jint n) {
-- jint x[2] = {0};
-- put_jint(x[n]);
-- return;
-- }
abbrev pub an_index_of_minus_one : SourceUnit
an_index_of_minus_one =
    unit_of
    (native 1 Void (codes "Java_A_f") (int_parameter (codes "n") ∷ [])
    (Plain 2 (DeclareArray JInt (codes "x") 2)
    ∷ Plain 3 (PutJint (Element (codes "x") (Variable (codes "n"))))
    ∷ Return 4 None
    ∷ [])
    5
    ∷ [])

abbrev an_index_of_minus_one-lines : Lines
an_index_of_minus_one-lines =
    (2, ClassLine (codes "A") None)
    ∷ (3, ThreadLine (codes "Java_A_f") (NumberValue (negsuc 0) ∷ []))
    ∷ []

abbrev an_index_of_minus_one-world : World
an_index_of_minus_one-world = world_of 1 512 an_index_of_minus_one-lines

an_index_of_minus_one-means : IsWorldText (codes "heap 512\nclass A\nthread Java_A_f -1\n") an_index_of_minus_one-world
unfolding opened
an_index_of_minus_one-means = world-text (codes "heap 512\nclass A\nthread Java_A_f -1\n") 512 false an_index_of_minus_one-lines 1 refl refl refl refl refl

an_index_of_minus_one-accepted : IsAccepted an_index_of_minus_one
unfolding opened
an_index_of_minus_one-accepted = accepted an_index_of_minus_one refl refl refl

an_index_of_minus_one-run : IsWorkedRun an_index_of_minus_one (codes "heap 512\nclass A\nthread Java_A_f -1\n") (codes "1*5\n")
    (codes "T1 trap 3 line 3\njournal 1 1 1 1\n")
unfolding opened
an_index_of_minus_one-run = worked-run an_index_of_minus_one an_index_of_minus_one-world ((Turn 1, Some 5) ∷ []) [] an_index_of_minus_one-accepted an_index_of_minus_one-means refl refl refl refl

-- null where an object is wanted
-- JNIEXPORT void JNICALL Java_A_f(JNIEnv *env, jclass cls, jobject o) {
-- jclass c = (*env)->GetObjectClass(env, o);
-- return;
-- }
abbrev pub null_where_an_object_is_wanted : SourceUnit
null_where_an_object_is_wanted =
    unit_of
    (native 1 Void (codes "Java_A_f") (reference_parameter JObject (codes "o") ∷ [])
    (Plain 2 (Declare (Simple (ReferenceVariable JClass)) (codes "c") (FromCall (call (codes "GetObjectClass") (given (codes "o") ∷ []))))
    ∷ Return 3 None
    ∷ [])
    4
    ∷ [])

abbrev null_where_an_object_is_wanted-lines : Lines
null_where_an_object_is_wanted-lines =
    (2, ClassLine (codes "A") None)
    ∷ (3, ThreadLine (codes "Java_A_f") (NullValue ∷ []))
    ∷ []

abbrev null_where_an_object_is_wanted-world : World
null_where_an_object_is_wanted-world = world_of 1 512 null_where_an_object_is_wanted-lines

null_where_an_object_is_wanted-means : IsWorldText (codes "heap 512\nclass A\nthread Java_A_f null\n") null_where_an_object_is_wanted-world
unfolding opened
null_where_an_object_is_wanted-means = world-text (codes "heap 512\nclass A\nthread Java_A_f null\n") 512 false null_where_an_object_is_wanted-lines 1 refl refl refl refl refl

null_where_an_object_is_wanted-accepted : IsAccepted null_where_an_object_is_wanted
unfolding opened
null_where_an_object_is_wanted-accepted = accepted null_where_an_object_is_wanted refl refl refl

null_where_an_object_is_wanted-run : IsWorkedRun null_where_an_object_is_wanted (codes "heap 512\nclass A\nthread Java_A_f null\n") (codes "1*3\n")
    (codes "T1 trap 4 line 2\njournal 1 1\n")
unfolding opened
null_where_an_object_is_wanted-run = worked-run null_where_an_object_is_wanted null_where_an_object_is_wanted-world ((Turn 1, Some 3) ∷ []) [] null_where_an_object_is_wanted-accepted null_where_an_object_is_wanted-means refl refl refl refl

-- a call with an exception pending
-- JNIEXPORT void JNICALL Java_A_f(JNIEnv *env, jclass cls) {
-- jclass c = (*env)->FindClass(env, "B");
-- jboolean b = (*env)->IsSameObject(env, cls, cls);
-- return;
-- }
abbrev pub a_call_with_an_exception_pending : SourceUnit
a_call_with_an_exception_pending =
    unit_of
    (native 1 Void (codes "Java_A_f") []
    (Plain 2 (Declare (Simple (ReferenceVariable JClass)) (codes "c") (FromCall (call (codes "FindClass") (Text (codes "B") ∷ []))))
    ∷ Plain 3 (Declare (Simple JBoolean) (codes "b") (FromCall (call (codes "IsSameObject") (given (codes "cls") ∷ given (codes "cls") ∷ []))))
    ∷ Return 4 None
    ∷ [])
    5
    ∷ [])

abbrev a_call_with_an_exception_pending-lines : Lines
a_call_with_an_exception_pending-lines =
    (2, ClassLine (codes "A") None)
    ∷ (3, ThreadLine (codes "Java_A_f") [])
    ∷ []

abbrev a_call_with_an_exception_pending-world : World
a_call_with_an_exception_pending-world = world_of 1 512 a_call_with_an_exception_pending-lines

a_call_with_an_exception_pending-means : IsWorldText (codes "heap 512\nclass A\nthread Java_A_f\n") a_call_with_an_exception_pending-world
unfolding opened
a_call_with_an_exception_pending-means = world-text (codes "heap 512\nclass A\nthread Java_A_f\n") 512 false a_call_with_an_exception_pending-lines 1 refl refl refl refl refl

a_call_with_an_exception_pending-accepted : IsAccepted a_call_with_an_exception_pending
unfolding opened
a_call_with_an_exception_pending-accepted = accepted a_call_with_an_exception_pending refl refl refl

a_call_with_an_exception_pending-run : IsWorkedRun a_call_with_an_exception_pending (codes "heap 512\nclass A\nthread Java_A_f\n") (codes "1*4\n")
    (codes "T1 trap 5 line 3\n#46 java/lang/NoClassDefFoundError null\njournal 1 1 1\n")
unfolding opened
a_call_with_an_exception_pending-run = worked-run a_call_with_an_exception_pending a_call_with_an_exception_pending-world ((Turn 1, Some 4) ∷ []) [] a_call_with_an_exception_pending-accepted a_call_with_an_exception_pending-means refl refl refl refl

-- an array where a class is wanted
-- JNIEXPORT void JNICALL Java_A_f(JNIEnv *env, jclass cls, jobject a) {
-- jclass c = (*env)->GetSuperclass(env, a);
-- return;
-- }
abbrev pub an_array_where_a_class_is_wanted : SourceUnit
an_array_where_a_class_is_wanted =
    unit_of
    (native 1 Void (codes "Java_A_f") (reference_parameter JObject (codes "a") ∷ [])
    (Plain 2 (Declare (Simple (ReferenceVariable JClass)) (codes "c") (FromCall (call (codes "GetSuperclass") (given (codes "a") ∷ []))))
    ∷ Return 3 None
    ∷ [])
    4
    ∷ [])

abbrev an_array_where_a_class_is_wanted-lines : Lines
an_array_where_a_class_is_wanted-lines =
    (2, ClassLine (codes "A") None)
    ∷ (3, ArrayLine (codes "a") JInt [])
    ∷ (4, ThreadLine (codes "Java_A_f") (NamedObject (codes "a") ∷ []))
    ∷ []

abbrev an_array_where_a_class_is_wanted-world : World
an_array_where_a_class_is_wanted-world = world_of 1 512 an_array_where_a_class_is_wanted-lines

an_array_where_a_class_is_wanted-means : IsWorldText (codes "heap 512\nclass A\narray @a I\nthread Java_A_f @a\n") an_array_where_a_class_is_wanted-world
unfolding opened
an_array_where_a_class_is_wanted-means = world-text (codes "heap 512\nclass A\narray @a I\nthread Java_A_f @a\n") 512 false an_array_where_a_class_is_wanted-lines 1 refl refl refl refl refl

an_array_where_a_class_is_wanted-accepted : IsAccepted an_array_where_a_class_is_wanted
unfolding opened
an_array_where_a_class_is_wanted-accepted = accepted an_array_where_a_class_is_wanted refl refl refl

an_array_where_a_class_is_wanted-run : IsWorkedRun an_array_where_a_class_is_wanted (codes "heap 512\nclass A\narray @a I\nthread Java_A_f @a\n") (codes "1*3\n")
    (codes "T1 trap 6 line 2\n#46 [I\njournal 1 1\n")
unfolding opened
an_array_where_a_class_is_wanted-run = worked-run an_array_where_a_class_is_wanted an_array_where_a_class_is_wanted-world ((Turn 1, Some 3) ∷ []) [] an_array_where_a_class_is_wanted-accepted an_array_where_a_class_is_wanted-means refl refl refl refl

-- a fatal error
-- JNIEXPORT void JNICALL Java_A_f(JNIEnv *env, jclass cls) {
-- (*env)->FatalError(env, "the end");
-- return;
-- }
abbrev pub a_fatal_error : SourceUnit
a_fatal_error =
    unit_of
    (native 1 Void (codes "Java_A_f") []
    (Plain 2 (Perform (call (codes "FatalError") (Text (codes "the end") ∷ [])))
    ∷ Return 3 None
    ∷ [])
    4
    ∷ [])

a_fatal_error-accepted : IsAccepted a_fatal_error
unfolding opened
a_fatal_error-accepted = accepted a_fatal_error refl refl refl

a_fatal_error-run : IsWorkedRun a_fatal_error (codes "heap 512\nclass A\nthread Java_A_f\n") (codes "1*3\n")
    (codes "T1 trap 9 line 2\njournal 1 1\n")
unfolding opened
a_fatal_error-run = worked-run a_fatal_error a_call_with_an_exception_pending-world ((Turn 1, Some 3) ∷ []) [] a_fatal_error-accepted a_call_with_an_exception_pending-means refl refl refl refl

-- a fatal error with an exception pending
-- JNIEXPORT void JNICALL Java_A_f(JNIEnv *env, jclass cls) {
-- jclass c = (*env)->FindClass(env, "B");
-- (*env)->FatalError(env, "the end");
-- return;
-- }
abbrev pub a_fatal_error_with_an_exception_pending : SourceUnit
a_fatal_error_with_an_exception_pending =
    unit_of
    (native 1 Void (codes "Java_A_f") []
    (Plain 2 (Declare (Simple (ReferenceVariable JClass)) (codes "c") (FromCall (call (codes "FindClass") (Text (codes "B") ∷ []))))
    ∷ Plain 3 (Perform (call (codes "FatalError") (Text (codes "the end") ∷ [])))
    ∷ Return 4 None
    ∷ [])
    5
    ∷ [])

a_fatal_error_with_an_exception_pending-accepted : IsAccepted a_fatal_error_with_an_exception_pending
unfolding opened
a_fatal_error_with_an_exception_pending-accepted = accepted a_fatal_error_with_an_exception_pending refl refl refl

a_fatal_error_with_an_exception_pending-run : IsWorkedRun a_fatal_error_with_an_exception_pending (codes "heap 512\nclass A\nthread Java_A_f\n") (codes "1*4\n")
    (codes "T1 trap 5 line 3\n#46 java/lang/NoClassDefFoundError null\njournal 1 1 1\n")
unfolding opened
a_fatal_error_with_an_exception_pending-run = worked-run a_fatal_error_with_an_exception_pending a_call_with_an_exception_pending-world ((Turn 1, Some 4) ∷ []) [] a_fatal_error_with_an_exception_pending-accepted a_call_with_an_exception_pending-means refl refl refl refl
