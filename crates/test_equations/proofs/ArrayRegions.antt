-- The cases of texts/array_regions.cases, as gate/worked_equations writes them.
use Rattle.std.specs.Prelude.{◌∷◌, ◌++◌, pos, true, false, [], Some, None, codes, refl}
use Rattle.base.specs.declared.element.ElementType.TheVariants.{Int as JInt, Short as JShort, Byte as JByte, Char as JChar}
use Rattle.syntax.specs.declared.declared_type.ReferenceType.TheVariants.{String as JString, Throwable as JThrowable, IntArray as JIntArray, ShortArray as JShortArray, ByteArray as JByteArray, CharArray as JCharArray}
use Rattle.syntax.specs.declared.declared_type.VariableType.TheVariants.{Jint as JIntVariable, Reference as ReferenceVariable}
use Rattle.syntax.specs.declared.declared_type.DeclaredType.TheVariants.{Simple}
use Rattle.syntax.specs.declared.unit.ResultType.TheVariants.{Void}
use Rattle.syntax.specs.declared.expr.PrefixOp.TheVariants.{Complement, ToInt}
use Rattle.syntax.specs.Tree.{Number, Variable, Element, Prefix, Value, FromExpr, FromCall, Declare, DeclareArray, AssignElement, Perform, PutJint, Plain, Return, SourceUnit}
use Rattle.semantics.specs.declared.schedule.ScheduleWord.TheVariants.{Turn}
use Rattle.semantics.specs.World.{World}
use Rattle.world_values.specs.WorldLines.{NumberValue, NamedObject, ClassLine, ArrayLine, StringLine, ThreadLine, Lines}
use Rattle.world_values.specs.WorldMeaning.{world_of}
use Rattle.world_values.specs.WorldRules.{IsWorldText}
use Rattle.test_equations.specs.Claims.{IsAccepted, IsWorkedRun, IsWorkedReplay, IsStoppedReplay}
use Rattle.test_equations.proofs.Programs.{unit_of, native, reference_parameter, call, given, entry, entries}
use Rattle.test_equations.proofs.Computed.{opened, accepted, world-text, worked-run, worked-replay, stopped-replay}

-- a part of an array is read, turned round and written back
-- JNIEXPORT void JNICALL Java_A_f(JNIEnv *env, jclass cls, jintArray a) {
-- jint x[2] = {0};
-- (*env)->GetIntArrayRegion(env, a, 1, 2, x);
-- jint first = x[0];
-- x[0] = x[1];
-- x[1] = first;
-- (*env)->SetIntArrayRegion(env, a, 1, 2, x);
-- return;
-- }
abbrev pub a_part_of_an_array_is_read_turned_round_and_written_back : SourceUnit
a_part_of_an_array_is_read_turned_round_and_written_back =
    unit_of
    (native 1 Void (codes "Java_A_f") (reference_parameter JIntArray (codes "a") ∷ [])
    (Plain 2 (DeclareArray JInt (codes "x") 2)
    ∷ Plain 3 (Perform (call (codes "GetIntArrayRegion") (given (codes "a") ∷ Value (Number 1 false) ∷ Value (Number 2 false) ∷ given (codes "x") ∷ [])))
    ∷ Plain 4 (Declare (Simple JIntVariable) (codes "first") (FromExpr (Element (codes "x") (Number 0 false))))
    ∷ Plain 5 (AssignElement (codes "x") (Number 0 false) (Element (codes "x") (Number 1 false)))
    ∷ Plain 6 (AssignElement (codes "x") (Number 1 false) (Variable (codes "first")))
    ∷ Plain 7 (Perform (call (codes "SetIntArrayRegion") (given (codes "a") ∷ Value (Number 1 false) ∷ Value (Number 2 false) ∷ given (codes "x") ∷ [])))
    ∷ Return 8 None
    ∷ [])
    9
    ∷ [])

abbrev a_part_of_an_array_is_read_turned_round_and_written_back-lines : Lines
a_part_of_an_array_is_read_turned_round_and_written_back-lines =
    (2, ClassLine (codes "A") None)
    ∷ (3, ArrayLine (codes "a") JInt (NumberValue (pos 1) ∷ NumberValue (pos 2) ∷ NumberValue (pos 3) ∷ NumberValue (pos 4) ∷ []))
    ∷ (4, ThreadLine (codes "Java_A_f") (NamedObject (codes "a") ∷ []))
    ∷ []

abbrev a_part_of_an_array_is_read_turned_round_and_written_back-world : World
a_part_of_an_array_is_read_turned_round_and_written_back-world = world_of 1 512 a_part_of_an_array_is_read_turned_round_and_written_back-lines

a_part_of_an_array_is_read_turned_round_and_written_back-means : IsWorldText (codes "heap 512\nclass A\narray @a I 1 2 3 4\nthread Java_A_f @a\n") a_part_of_an_array_is_read_turned_round_and_written_back-world
unfolding opened
a_part_of_an_array_is_read_turned_round_and_written_back-means = world-text (codes "heap 512\nclass A\narray @a I 1 2 3 4\nthread Java_A_f @a\n") 512 false a_part_of_an_array_is_read_turned_round_and_written_back-lines 1 refl refl refl refl refl

a_part_of_an_array_is_read_turned_round_and_written_back-accepted : IsAccepted a_part_of_an_array_is_read_turned_round_and_written_back
unfolding opened
a_part_of_an_array_is_read_turned_round_and_written_back-accepted = accepted a_part_of_an_array_is_read_turned_round_and_written_back refl refl refl

a_part_of_an_array_is_read_turned_round_and_written_back-run : IsWorkedRun a_part_of_an_array_is_read_turned_round_and_written_back (codes "heap 512\nclass A\narray @a I 1 2 3 4\nthread Java_A_f @a\n") (codes "1*20\n")
    (codes "T1 ended\n#46 [I 1 3 2 4\njournal 1 1 1 1 1 1 1 1 1 1 1 1 1 1 1 1 1 1 1\n")
unfolding opened
a_part_of_an_array_is_read_turned_round_and_written_back-run = worked-run a_part_of_an_array_is_read_turned_round_and_written_back a_part_of_an_array_is_read_turned_round_and_written_back-world ((Turn 1, Some 20) ∷ []) [] a_part_of_an_array_is_read_turned_round_and_written_back-accepted a_part_of_an_array_is_read_turned_round_and_written_back-means refl refl refl refl

-- no region of an array begins before it, has a negative length or goes past its end
-- JNIEXPORT void JNICALL Java_A_f(JNIEnv *env, jclass cls, jintArray a) {
-- jint x[2] = {0};
-- (*env)->GetIntArrayRegion(env, a, (jint)~0u, 1, x);
-- jthrowable s = (*env)->ExceptionOccurred(env);
-- (*env)->ExceptionClear(env);
-- (*env)->GetIntArrayRegion(env, a, 0, (jint)~0u, x);
-- jthrowable t = (*env)->ExceptionOccurred(env);
-- (*env)->ExceptionClear(env);
-- (*env)->GetIntArrayRegion(env, a, 1, 2, x);
-- put_jint(x[0]);
-- return;
-- }
abbrev pub no_region_of_an_array_begins_before_it_has_a_negative_length_or_goes_past_its_end : SourceUnit
no_region_of_an_array_begins_before_it_has_a_negative_length_or_goes_past_its_end =
    unit_of
    (native 1 Void (codes "Java_A_f") (reference_parameter JIntArray (codes "a") ∷ [])
    (Plain 2 (DeclareArray JInt (codes "x") 2)
    ∷ Plain 3 (Perform (call (codes "GetIntArrayRegion") (given (codes "a") ∷ Value (Prefix ToInt (Prefix Complement (Number 0 true))) ∷ Value (Number 1 false) ∷ given (codes "x") ∷ [])))
    ∷ Plain 4 (Declare (Simple (ReferenceVariable JThrowable)) (codes "s") (FromCall (call (codes "ExceptionOccurred") [])))
    ∷ Plain 5 (Perform (call (codes "ExceptionClear") []))
    ∷ Plain 6 (Perform (call (codes "GetIntArrayRegion") (given (codes "a") ∷ Value (Number 0 false) ∷ Value (Prefix ToInt (Prefix Complement (Number 0 true))) ∷ given (codes "x") ∷ [])))
    ∷ Plain 7 (Declare (Simple (ReferenceVariable JThrowable)) (codes "t") (FromCall (call (codes "ExceptionOccurred") [])))
    ∷ Plain 8 (Perform (call (codes "ExceptionClear") []))
    ∷ Plain 9 (Perform (call (codes "GetIntArrayRegion") (given (codes "a") ∷ Value (Number 1 false) ∷ Value (Number 2 false) ∷ given (codes "x") ∷ [])))
    ∷ Plain 10 (PutJint (Element (codes "x") (Number 0 false)))
    ∷ Return 11 None
    ∷ [])
    12
    ∷ [])

abbrev no_region_of_an_array_begins_before_it_has_a_negative_length_or_goes_past_its_end-lines : Lines
no_region_of_an_array_begins_before_it_has_a_negative_length_or_goes_past_its_end-lines =
    (2, ClassLine (codes "A") None)
    ∷ (3, ArrayLine (codes "a") JInt (NumberValue (pos 5) ∷ NumberValue (pos 6) ∷ []))
    ∷ (4, ThreadLine (codes "Java_A_f") (NamedObject (codes "a") ∷ []))
    ∷ []

abbrev no_region_of_an_array_begins_before_it_has_a_negative_length_or_goes_past_its_end-world : World
no_region_of_an_array_begins_before_it_has_a_negative_length_or_goes_past_its_end-world = world_of 1 512 no_region_of_an_array_begins_before_it_has_a_negative_length_or_goes_past_its_end-lines

no_region_of_an_array_begins_before_it_has_a_negative_length_or_goes_past_its_end-means : IsWorldText (codes "heap 512\nclass A\narray @a I 5 6\nthread Java_A_f @a\n") no_region_of_an_array_begins_before_it_has_a_negative_length_or_goes_past_its_end-world
unfolding opened
no_region_of_an_array_begins_before_it_has_a_negative_length_or_goes_past_its_end-means = world-text (codes "heap 512\nclass A\narray @a I 5 6\nthread Java_A_f @a\n") 512 false no_region_of_an_array_begins_before_it_has_a_negative_length_or_goes_past_its_end-lines 1 refl refl refl refl refl

no_region_of_an_array_begins_before_it_has_a_negative_length_or_goes_past_its_end-accepted : IsAccepted no_region_of_an_array_begins_before_it_has_a_negative_length_or_goes_past_its_end
unfolding opened
no_region_of_an_array_begins_before_it_has_a_negative_length_or_goes_past_its_end-accepted = accepted no_region_of_an_array_begins_before_it_has_a_negative_length_or_goes_past_its_end refl refl refl

no_region_of_an_array_begins_before_it_has_a_negative_length_or_goes_past_its_end-run : IsWorkedRun no_region_of_an_array_begins_before_it_has_a_negative_length_or_goes_past_its_end (codes "heap 512\nclass A\narray @a I 5 6\nthread Java_A_f @a\n") (codes "1*22\n")
    (codes "T1 0\nT1 running\n#46 [I 5 6\n#47 java/lang/ArrayIndexOutOfBoundsException null\n#48 java/lang/ArrayIndexOutOfBoundsException null\n#49 java/lang/ArrayIndexOutOfBoundsException null\njournal 1 1 1 1 1 1 1 1 1 1 1 1 1 1 1 1 1 1 1 1 1 1\n")
unfolding opened
no_region_of_an_array_begins_before_it_has_a_negative_length_or_goes_past_its_end-run = worked-run no_region_of_an_array_begins_before_it_has_a_negative_length_or_goes_past_its_end no_region_of_an_array_begins_before_it_has_a_negative_length_or_goes_past_its_end-world ((Turn 1, Some 22) ∷ []) [] no_region_of_an_array_begins_before_it_has_a_negative_length_or_goes_past_its_end-accepted no_region_of_an_array_begins_before_it_has_a_negative_length_or_goes_past_its_end-means refl refl refl refl

-- a region whose end is past all numbers, and one of no length past the end
-- JNIEXPORT void JNICALL Java_A_f(JNIEnv *env, jclass cls, jintArray a) {
-- jint x[1] = {0};
-- x[0] = 7;
-- (*env)->SetIntArrayRegion(env, a, 2147483647, 2147483647, x);
-- jthrowable s = (*env)->ExceptionOccurred(env);
-- (*env)->ExceptionClear(env);
-- (*env)->SetIntArrayRegion(env, a, 3, 0, x);
-- return;
-- }
abbrev pub a_region_whose_end_is_past_all_numbers_and_one_of_no_length_past_the_end : SourceUnit
a_region_whose_end_is_past_all_numbers_and_one_of_no_length_past_the_end =
    unit_of
    (native 1 Void (codes "Java_A_f") (reference_parameter JIntArray (codes "a") ∷ [])
    (Plain 2 (DeclareArray JInt (codes "x") 1)
    ∷ Plain 3 (AssignElement (codes "x") (Number 0 false) (Number 7 false))
    ∷ Plain 4 (Perform (call (codes "SetIntArrayRegion") (given (codes "a") ∷ Value (Number 2147483647 false) ∷ Value (Number 2147483647 false) ∷ given (codes "x") ∷ [])))
    ∷ Plain 5 (Declare (Simple (ReferenceVariable JThrowable)) (codes "s") (FromCall (call (codes "ExceptionOccurred") [])))
    ∷ Plain 6 (Perform (call (codes "ExceptionClear") []))
    ∷ Plain 7 (Perform (call (codes "SetIntArrayRegion") (given (codes "a") ∷ Value (Number 3 false) ∷ Value (Number 0 false) ∷ given (codes "x") ∷ [])))
    ∷ Return 8 None
    ∷ [])
    9
    ∷ [])

a_region_whose_end_is_past_all_numbers_and_one_of_no_length_past_the_end-accepted : IsAccepted a_region_whose_end_is_past_all_numbers_and_one_of_no_length_past_the_end
unfolding opened
a_region_whose_end_is_past_all_numbers_and_one_of_no_length_past_the_end-accepted = accepted a_region_whose_end_is_past_all_numbers_and_one_of_no_length_past_the_end refl refl refl

a_region_whose_end_is_past_all_numbers_and_one_of_no_length_past_the_end-run : IsWorkedRun a_region_whose_end_is_past_all_numbers_and_one_of_no_length_past_the_end (codes "heap 512\nclass A\narray @a I 5 6\nthread Java_A_f @a\n") (codes "1*13\n")
    (codes "T1 running\n#46 [I 5 6\n#47 java/lang/ArrayIndexOutOfBoundsException null\n#48 java/lang/ArrayIndexOutOfBoundsException null\njournal 1 1 1 1 1 1 1 1 1 1 1 1 1\n")
unfolding opened
a_region_whose_end_is_past_all_numbers_and_one_of_no_length_past_the_end-run = worked-run a_region_whose_end_is_past_all_numbers_and_one_of_no_length_past_the_end no_region_of_an_array_begins_before_it_has_a_negative_length_or_goes_past_its_end-world ((Turn 1, Some 13) ∷ []) [] a_region_whose_end_is_past_all_numbers_and_one_of_no_length_past_the_end-accepted no_region_of_an_array_begins_before_it_has_a_negative_length_or_goes_past_its_end-means refl refl refl refl

-- both regions of an array of jint look at its end before they look at the array of C
-- JNIEXPORT void JNICALL Java_A_f(JNIEnv *env, jclass cls, jintArray a) {
-- jint x[1] = {0};
-- (*env)->GetIntArrayRegion(env, a, 1, 2, x);
-- (*env)->ExceptionClear(env);
-- (*env)->SetIntArrayRegion(env, a, 1, 2, x);
-- return;
-- }
abbrev pub both_regions_of_an_array_of_jint_look_at_its_end_before_they_look_at_the_array_of_c : SourceUnit
both_regions_of_an_array_of_jint_look_at_its_end_before_they_look_at_the_array_of_c =
    unit_of
    (native 1 Void (codes "Java_A_f") (reference_parameter JIntArray (codes "a") ∷ [])
    (Plain 2 (DeclareArray JInt (codes "x") 1)
    ∷ Plain 3 (Perform (call (codes "GetIntArrayRegion") (given (codes "a") ∷ Value (Number 1 false) ∷ Value (Number 2 false) ∷ given (codes "x") ∷ [])))
    ∷ Plain 4 (Perform (call (codes "ExceptionClear") []))
    ∷ Plain 5 (Perform (call (codes "SetIntArrayRegion") (given (codes "a") ∷ Value (Number 1 false) ∷ Value (Number 2 false) ∷ given (codes "x") ∷ [])))
    ∷ Return 6 None
    ∷ [])
    7
    ∷ [])

both_regions_of_an_array_of_jint_look_at_its_end_before_they_look_at_the_array_of_c-accepted : IsAccepted both_regions_of_an_array_of_jint_look_at_its_end_before_they_look_at_the_array_of_c
unfolding opened
both_regions_of_an_array_of_jint_look_at_its_end_before_they_look_at_the_array_of_c-accepted = accepted both_regions_of_an_array_of_jint_look_at_its_end_before_they_look_at_the_array_of_c refl refl refl

both_regions_of_an_array_of_jint_look_at_its_end_before_they_look_at_the_array_of_c-run : IsWorkedRun both_regions_of_an_array_of_jint_look_at_its_end_before_they_look_at_the_array_of_c (codes "heap 512\nclass A\narray @a I 5 6\nthread Java_A_f @a\n") (codes "1*11\n")
    (codes "T1 uncaught java/lang/ArrayIndexOutOfBoundsException\n#46 [I 5 6\njournal 1 1 1 1 1 1 1 1 1 1\n")
unfolding opened
both_regions_of_an_array_of_jint_look_at_its_end_before_they_look_at_the_array_of_c-run = worked-run both_regions_of_an_array_of_jint_look_at_its_end_before_they_look_at_the_array_of_c no_region_of_an_array_begins_before_it_has_a_negative_length_or_goes_past_its_end-world ((Turn 1, Some 11) ∷ []) [] both_regions_of_an_array_of_jint_look_at_its_end_before_they_look_at_the_array_of_c-accepted no_region_of_an_array_begins_before_it_has_a_negative_length_or_goes_past_its_end-means refl refl refl refl

-- both regions of an array of jshort look at its end before they look at the array of C
-- JNIEXPORT void JNICALL Java_A_f(JNIEnv *env, jclass cls, jshortArray a) {
-- jshort x[1] = {0};
-- (*env)->GetShortArrayRegion(env, a, 1, 2, x);
-- (*env)->ExceptionClear(env);
-- (*env)->SetShortArrayRegion(env, a, 1, 2, x);
-- return;
-- }
abbrev pub both_regions_of_an_array_of_jshort_look_at_its_end_before_they_look_at_the_array_of_c : SourceUnit
both_regions_of_an_array_of_jshort_look_at_its_end_before_they_look_at_the_array_of_c =
    unit_of
    (native 1 Void (codes "Java_A_f") (reference_parameter JShortArray (codes "a") ∷ [])
    (Plain 2 (DeclareArray JShort (codes "x") 1)
    ∷ Plain 3 (Perform (call (codes "GetShortArrayRegion") (given (codes "a") ∷ Value (Number 1 false) ∷ Value (Number 2 false) ∷ given (codes "x") ∷ [])))
    ∷ Plain 4 (Perform (call (codes "ExceptionClear") []))
    ∷ Plain 5 (Perform (call (codes "SetShortArrayRegion") (given (codes "a") ∷ Value (Number 1 false) ∷ Value (Number 2 false) ∷ given (codes "x") ∷ [])))
    ∷ Return 6 None
    ∷ [])
    7
    ∷ [])

abbrev both_regions_of_an_array_of_jshort_look_at_its_end_before_they_look_at_the_array_of_c-lines : Lines
both_regions_of_an_array_of_jshort_look_at_its_end_before_they_look_at_the_array_of_c-lines =
    (2, ClassLine (codes "A") None)
    ∷ (3, ArrayLine (codes "a") JShort (NumberValue (pos 5) ∷ NumberValue (pos 6) ∷ []))
    ∷ (4, ThreadLine (codes "Java_A_f") (NamedObject (codes "a") ∷ []))
    ∷ []

abbrev both_regions_of_an_array_of_jshort_look_at_its_end_before_they_look_at_the_array_of_c-world : World
both_regions_of_an_array_of_jshort_look_at_its_end_before_they_look_at_the_array_of_c-world = world_of 1 512 both_regions_of_an_array_of_jshort_look_at_its_end_before_they_look_at_the_array_of_c-lines

both_regions_of_an_array_of_jshort_look_at_its_end_before_they_look_at_the_array_of_c-means : IsWorldText (codes "heap 512\nclass A\narray @a S 5 6\nthread Java_A_f @a\n") both_regions_of_an_array_of_jshort_look_at_its_end_before_they_look_at_the_array_of_c-world
unfolding opened
both_regions_of_an_array_of_jshort_look_at_its_end_before_they_look_at_the_array_of_c-means = world-text (codes "heap 512\nclass A\narray @a S 5 6\nthread Java_A_f @a\n") 512 false both_regions_of_an_array_of_jshort_look_at_its_end_before_they_look_at_the_array_of_c-lines 1 refl refl refl refl refl

both_regions_of_an_array_of_jshort_look_at_its_end_before_they_look_at_the_array_of_c-accepted : IsAccepted both_regions_of_an_array_of_jshort_look_at_its_end_before_they_look_at_the_array_of_c
unfolding opened
both_regions_of_an_array_of_jshort_look_at_its_end_before_they_look_at_the_array_of_c-accepted = accepted both_regions_of_an_array_of_jshort_look_at_its_end_before_they_look_at_the_array_of_c refl refl refl

both_regions_of_an_array_of_jshort_look_at_its_end_before_they_look_at_the_array_of_c-run : IsWorkedRun both_regions_of_an_array_of_jshort_look_at_its_end_before_they_look_at_the_array_of_c (codes "heap 512\nclass A\narray @a S 5 6\nthread Java_A_f @a\n") (codes "1*11\n")
    (codes "T1 uncaught java/lang/ArrayIndexOutOfBoundsException\n#46 [S 5 6\njournal 1 1 1 1 1 1 1 1 1 1\n")
unfolding opened
both_regions_of_an_array_of_jshort_look_at_its_end_before_they_look_at_the_array_of_c-run = worked-run both_regions_of_an_array_of_jshort_look_at_its_end_before_they_look_at_the_array_of_c both_regions_of_an_array_of_jshort_look_at_its_end_before_they_look_at_the_array_of_c-world ((Turn 1, Some 11) ∷ []) [] both_regions_of_an_array_of_jshort_look_at_its_end_before_they_look_at_the_array_of_c-accepted both_regions_of_an_array_of_jshort_look_at_its_end_before_they_look_at_the_array_of_c-means refl refl refl refl

-- both regions of an array of jbyte look at its end before they look at the array of C
-- JNIEXPORT void JNICALL Java_A_f(JNIEnv *env, jclass cls, jbyteArray a) {
-- jbyte x[1] = {0};
-- (*env)->GetByteArrayRegion(env, a, 1, 2, x);
-- (*env)->ExceptionClear(env);
-- (*env)->SetByteArrayRegion(env, a, 1, 2, x);
-- return;
-- }
abbrev pub both_regions_of_an_array_of_jbyte_look_at_its_end_before_they_look_at_the_array_of_c : SourceUnit
both_regions_of_an_array_of_jbyte_look_at_its_end_before_they_look_at_the_array_of_c =
    unit_of
    (native 1 Void (codes "Java_A_f") (reference_parameter JByteArray (codes "a") ∷ [])
    (Plain 2 (DeclareArray JByte (codes "x") 1)
    ∷ Plain 3 (Perform (call (codes "GetByteArrayRegion") (given (codes "a") ∷ Value (Number 1 false) ∷ Value (Number 2 false) ∷ given (codes "x") ∷ [])))
    ∷ Plain 4 (Perform (call (codes "ExceptionClear") []))
    ∷ Plain 5 (Perform (call (codes "SetByteArrayRegion") (given (codes "a") ∷ Value (Number 1 false) ∷ Value (Number 2 false) ∷ given (codes "x") ∷ [])))
    ∷ Return 6 None
    ∷ [])
    7
    ∷ [])

abbrev both_regions_of_an_array_of_jbyte_look_at_its_end_before_they_look_at_the_array_of_c-lines : Lines
both_regions_of_an_array_of_jbyte_look_at_its_end_before_they_look_at_the_array_of_c-lines =
    (2, ClassLine (codes "A") None)
    ∷ (3, ArrayLine (codes "a") JByte (NumberValue (pos 5) ∷ NumberValue (pos 6) ∷ []))
    ∷ (4, ThreadLine (codes "Java_A_f") (NamedObject (codes "a") ∷ []))
    ∷ []

abbrev both_regions_of_an_array_of_jbyte_look_at_its_end_before_they_look_at_the_array_of_c-world : World
both_regions_of_an_array_of_jbyte_look_at_its_end_before_they_look_at_the_array_of_c-world = world_of 1 512 both_regions_of_an_array_of_jbyte_look_at_its_end_before_they_look_at_the_array_of_c-lines

both_regions_of_an_array_of_jbyte_look_at_its_end_before_they_look_at_the_array_of_c-means : IsWorldText (codes "heap 512\nclass A\narray @a B 5 6\nthread Java_A_f @a\n") both_regions_of_an_array_of_jbyte_look_at_its_end_before_they_look_at_the_array_of_c-world
unfolding opened
both_regions_of_an_array_of_jbyte_look_at_its_end_before_they_look_at_the_array_of_c-means = world-text (codes "heap 512\nclass A\narray @a B 5 6\nthread Java_A_f @a\n") 512 false both_regions_of_an_array_of_jbyte_look_at_its_end_before_they_look_at_the_array_of_c-lines 1 refl refl refl refl refl

both_regions_of_an_array_of_jbyte_look_at_its_end_before_they_look_at_the_array_of_c-accepted : IsAccepted both_regions_of_an_array_of_jbyte_look_at_its_end_before_they_look_at_the_array_of_c
unfolding opened
both_regions_of_an_array_of_jbyte_look_at_its_end_before_they_look_at_the_array_of_c-accepted = accepted both_regions_of_an_array_of_jbyte_look_at_its_end_before_they_look_at_the_array_of_c refl refl refl

both_regions_of_an_array_of_jbyte_look_at_its_end_before_they_look_at_the_array_of_c-run : IsWorkedRun both_regions_of_an_array_of_jbyte_look_at_its_end_before_they_look_at_the_array_of_c (codes "heap 512\nclass A\narray @a B 5 6\nthread Java_A_f @a\n") (codes "1*11\n")
    (codes "T1 uncaught java/lang/ArrayIndexOutOfBoundsException\n#46 [B 5 6\njournal 1 1 1 1 1 1 1 1 1 1\n")
unfolding opened
both_regions_of_an_array_of_jbyte_look_at_its_end_before_they_look_at_the_array_of_c-run = worked-run both_regions_of_an_array_of_jbyte_look_at_its_end_before_they_look_at_the_array_of_c both_regions_of_an_array_of_jbyte_look_at_its_end_before_they_look_at_the_array_of_c-world ((Turn 1, Some 11) ∷ []) [] both_regions_of_an_array_of_jbyte_look_at_its_end_before_they_look_at_the_array_of_c-accepted both_regions_of_an_array_of_jbyte_look_at_its_end_before_they_look_at_the_array_of_c-means refl refl refl refl

-- both regions of an array of jchar look at its end before they look at the array of C
-- JNIEXPORT void JNICALL Java_A_f(JNIEnv *env, jclass cls, jcharArray a) {
-- jchar x[1] = {0};
-- (*env)->GetCharArrayRegion(env, a, 1, 2, x);
-- (*env)->ExceptionClear(env);
-- (*env)->SetCharArrayRegion(env, a, 1, 2, x);
-- return;
-- }
abbrev pub both_regions_of_an_array_of_jchar_look_at_its_end_before_they_look_at_the_array_of_c : SourceUnit
both_regions_of_an_array_of_jchar_look_at_its_end_before_they_look_at_the_array_of_c =
    unit_of
    (native 1 Void (codes "Java_A_f") (reference_parameter JCharArray (codes "a") ∷ [])
    (Plain 2 (DeclareArray JChar (codes "x") 1)
    ∷ Plain 3 (Perform (call (codes "GetCharArrayRegion") (given (codes "a") ∷ Value (Number 1 false) ∷ Value (Number 2 false) ∷ given (codes "x") ∷ [])))
    ∷ Plain 4 (Perform (call (codes "ExceptionClear") []))
    ∷ Plain 5 (Perform (call (codes "SetCharArrayRegion") (given (codes "a") ∷ Value (Number 1 false) ∷ Value (Number 2 false) ∷ given (codes "x") ∷ [])))
    ∷ Return 6 None
    ∷ [])
    7
    ∷ [])

abbrev both_regions_of_an_array_of_jchar_look_at_its_end_before_they_look_at_the_array_of_c-lines : Lines
both_regions_of_an_array_of_jchar_look_at_its_end_before_they_look_at_the_array_of_c-lines =
    (2, ClassLine (codes "A") None)
    ∷ (3, ArrayLine (codes "a") JChar (NumberValue (pos 5) ∷ NumberValue (pos 6) ∷ []))
    ∷ (4, ThreadLine (codes "Java_A_f") (NamedObject (codes "a") ∷ []))
    ∷ []

abbrev both_regions_of_an_array_of_jchar_look_at_its_end_before_they_look_at_the_array_of_c-world : World
both_regions_of_an_array_of_jchar_look_at_its_end_before_they_look_at_the_array_of_c-world = world_of 1 512 both_regions_of_an_array_of_jchar_look_at_its_end_before_they_look_at_the_array_of_c-lines

both_regions_of_an_array_of_jchar_look_at_its_end_before_they_look_at_the_array_of_c-means : IsWorldText (codes "heap 512\nclass A\narray @a C 5 6\nthread Java_A_f @a\n") both_regions_of_an_array_of_jchar_look_at_its_end_before_they_look_at_the_array_of_c-world
unfolding opened
both_regions_of_an_array_of_jchar_look_at_its_end_before_they_look_at_the_array_of_c-means = world-text (codes "heap 512\nclass A\narray @a C 5 6\nthread Java_A_f @a\n") 512 false both_regions_of_an_array_of_jchar_look_at_its_end_before_they_look_at_the_array_of_c-lines 1 refl refl refl refl refl

both_regions_of_an_array_of_jchar_look_at_its_end_before_they_look_at_the_array_of_c-accepted : IsAccepted both_regions_of_an_array_of_jchar_look_at_its_end_before_they_look_at_the_array_of_c
unfolding opened
both_regions_of_an_array_of_jchar_look_at_its_end_before_they_look_at_the_array_of_c-accepted = accepted both_regions_of_an_array_of_jchar_look_at_its_end_before_they_look_at_the_array_of_c refl refl refl

both_regions_of_an_array_of_jchar_look_at_its_end_before_they_look_at_the_array_of_c-run : IsWorkedRun both_regions_of_an_array_of_jchar_look_at_its_end_before_they_look_at_the_array_of_c (codes "heap 512\nclass A\narray @a C 5 6\nthread Java_A_f @a\n") (codes "1*11\n")
    (codes "T1 uncaught java/lang/ArrayIndexOutOfBoundsException\n#46 [C 5 6\njournal 1 1 1 1 1 1 1 1 1 1\n")
unfolding opened
both_regions_of_an_array_of_jchar_look_at_its_end_before_they_look_at_the_array_of_c-run = worked-run both_regions_of_an_array_of_jchar_look_at_its_end_before_they_look_at_the_array_of_c both_regions_of_an_array_of_jchar_look_at_its_end_before_they_look_at_the_array_of_c-world ((Turn 1, Some 11) ∷ []) [] both_regions_of_an_array_of_jchar_look_at_its_end_before_they_look_at_the_array_of_c-accepted both_regions_of_an_array_of_jchar_look_at_its_end_before_they_look_at_the_array_of_c-means refl refl refl refl

-- no region of a string begins before it, has a negative length or goes past its end
-- JNIEXPORT void JNICALL Java_A_f(JNIEnv *env, jclass cls, jstring s) {
-- jchar x[1] = {0};
-- (*env)->GetStringRegion(env, s, (jint)~0u, 1, x);
-- jthrowable t = (*env)->ExceptionOccurred(env);
-- (*env)->ExceptionClear(env);
-- (*env)->GetStringRegion(env, s, 0, (jint)~0u, x);
-- jthrowable u = (*env)->ExceptionOccurred(env);
-- (*env)->ExceptionClear(env);
-- (*env)->GetStringRegion(env, s, 2, 0, x);
-- (*env)->GetStringRegion(env, s, 1, 2, x);
-- return;
-- }
abbrev pub no_region_of_a_string_begins_before_it_has_a_negative_length_or_goes_past_its_end : SourceUnit
no_region_of_a_string_begins_before_it_has_a_negative_length_or_goes_past_its_end =
    unit_of
    (native 1 Void (codes "Java_A_f") (reference_parameter JString (codes "s") ∷ [])
    (Plain 2 (DeclareArray JChar (codes "x") 1)
    ∷ Plain 3 (Perform (call (codes "GetStringRegion") (given (codes "s") ∷ Value (Prefix ToInt (Prefix Complement (Number 0 true))) ∷ Value (Number 1 false) ∷ given (codes "x") ∷ [])))
    ∷ Plain 4 (Declare (Simple (ReferenceVariable JThrowable)) (codes "t") (FromCall (call (codes "ExceptionOccurred") [])))
    ∷ Plain 5 (Perform (call (codes "ExceptionClear") []))
    ∷ Plain 6 (Perform (call (codes "GetStringRegion") (given (codes "s") ∷ Value (Number 0 false) ∷ Value (Prefix ToInt (Prefix Complement (Number 0 true))) ∷ given (codes "x") ∷ [])))
    ∷ Plain 7 (Declare (Simple (ReferenceVariable JThrowable)) (codes "u") (FromCall (call (codes "ExceptionOccurred") [])))
    ∷ Plain 8 (Perform (call (codes "ExceptionClear") []))
    ∷ Plain 9 (Perform (call (codes "GetStringRegion") (given (codes "s") ∷ Value (Number 2 false) ∷ Value (Number 0 false) ∷ given (codes "x") ∷ [])))
    ∷ Plain 10 (Perform (call (codes "GetStringRegion") (given (codes "s") ∷ Value (Number 1 false) ∷ Value (Number 2 false) ∷ given (codes "x") ∷ [])))
    ∷ Return 11 None
    ∷ [])
    12
    ∷ [])

abbrev no_region_of_a_string_begins_before_it_has_a_negative_length_or_goes_past_its_end-lines : Lines
no_region_of_a_string_begins_before_it_has_a_negative_length_or_goes_past_its_end-lines =
    (2, ClassLine (codes "A") None)
    ∷ (3, StringLine (codes "s") (codes "hi"))
    ∷ (4, ThreadLine (codes "Java_A_f") (NamedObject (codes "s") ∷ []))
    ∷ []

abbrev no_region_of_a_string_begins_before_it_has_a_negative_length_or_goes_past_its_end-world : World
no_region_of_a_string_begins_before_it_has_a_negative_length_or_goes_past_its_end-world = world_of 1 512 no_region_of_a_string_begins_before_it_has_a_negative_length_or_goes_past_its_end-lines

no_region_of_a_string_begins_before_it_has_a_negative_length_or_goes_past_its_end-means : IsWorldText (codes "heap 512\nclass A\nstring @s hi\nthread Java_A_f @s\n") no_region_of_a_string_begins_before_it_has_a_negative_length_or_goes_past_its_end-world
unfolding opened
no_region_of_a_string_begins_before_it_has_a_negative_length_or_goes_past_its_end-means = world-text (codes "heap 512\nclass A\nstring @s hi\nthread Java_A_f @s\n") 512 false no_region_of_a_string_begins_before_it_has_a_negative_length_or_goes_past_its_end-lines 1 refl refl refl refl refl

no_region_of_a_string_begins_before_it_has_a_negative_length_or_goes_past_its_end-accepted : IsAccepted no_region_of_a_string_begins_before_it_has_a_negative_length_or_goes_past_its_end
unfolding opened
no_region_of_a_string_begins_before_it_has_a_negative_length_or_goes_past_its_end-accepted = accepted no_region_of_a_string_begins_before_it_has_a_negative_length_or_goes_past_its_end refl refl refl

no_region_of_a_string_begins_before_it_has_a_negative_length_or_goes_past_its_end-run : IsWorkedRun no_region_of_a_string_begins_before_it_has_a_negative_length_or_goes_past_its_end (codes "heap 512\nclass A\nstring @s hi\nthread Java_A_f @s\n") (codes "1*22\n")
    (codes "T1 running\n#46 java/lang/String 104 105\n#47 java/lang/StringIndexOutOfBoundsException null\n#48 java/lang/StringIndexOutOfBoundsException null\n#49 java/lang/StringIndexOutOfBoundsException null\njournal 1 1 1 1 1 1 1 1 1 1 1 1 1 1 1 1 1 1 1 1 1 1\n")
unfolding opened
no_region_of_a_string_begins_before_it_has_a_negative_length_or_goes_past_its_end-run = worked-run no_region_of_a_string_begins_before_it_has_a_negative_length_or_goes_past_its_end no_region_of_a_string_begins_before_it_has_a_negative_length_or_goes_past_its_end-world ((Turn 1, Some 22) ∷ []) [] no_region_of_a_string_begins_before_it_has_a_negative_length_or_goes_past_its_end-accepted no_region_of_a_string_begins_before_it_has_a_negative_length_or_goes_past_its_end-means refl refl refl refl

-- the exception of a region is refused
-- JNIEXPORT void JNICALL Java_A_f(JNIEnv *env, jclass cls, jintArray a) {
-- jint x[1] = {0};
-- (*env)->GetIntArrayRegion(env, a, 2, 1, x);
-- return;
-- }
abbrev pub the_exception_of_a_region_is_refused : SourceUnit
the_exception_of_a_region_is_refused =
    unit_of
    (native 1 Void (codes "Java_A_f") (reference_parameter JIntArray (codes "a") ∷ [])
    (Plain 2 (DeclareArray JInt (codes "x") 1)
    ∷ Plain 3 (Perform (call (codes "GetIntArrayRegion") (given (codes "a") ∷ Value (Number 2 false) ∷ Value (Number 1 false) ∷ given (codes "x") ∷ [])))
    ∷ Return 4 None
    ∷ [])
    5
    ∷ [])

the_exception_of_a_region_is_refused-accepted : IsAccepted the_exception_of_a_region_is_refused
unfolding opened
the_exception_of_a_region_is_refused-accepted = accepted the_exception_of_a_region_is_refused refl refl refl

the_exception_of_a_region_is_refused-replay : IsWorkedReplay the_exception_of_a_region_is_refused (codes "heap 512\nclass A\narray @a I 5 6\nthread Java_A_f @a\n") (codes "1 1 1 1 1! 1\n") (codes "T1 uncaught java/lang/OutOfMemoryError\n#46 [I 5 6\njournal 1 1 1 1 1! 1\n")
unfolding opened
the_exception_of_a_region_is_refused-replay = worked-replay the_exception_of_a_region_is_refused no_region_of_an_array_begins_before_it_has_a_negative_length_or_goes_past_its_end-world (entries 1 4 ++ entry 1 true ∷ [] ++ entries 1 1) the_exception_of_a_region_is_refused-accepted no_region_of_an_array_begins_before_it_has_a_negative_length_or_goes_past_its_end-means refl refl refl refl

-- a mark where a region is within its array
-- JNIEXPORT void JNICALL Java_A_f(JNIEnv *env, jclass cls, jintArray a) {
-- jint x[1] = {0};
-- (*env)->GetIntArrayRegion(env, a, 1, 1, x);
-- return;
-- }
abbrev pub a_mark_where_a_region_is_within_its_array : SourceUnit
a_mark_where_a_region_is_within_its_array =
    unit_of
    (native 1 Void (codes "Java_A_f") (reference_parameter JIntArray (codes "a") ∷ [])
    (Plain 2 (DeclareArray JInt (codes "x") 1)
    ∷ Plain 3 (Perform (call (codes "GetIntArrayRegion") (given (codes "a") ∷ Value (Number 1 false) ∷ Value (Number 1 false) ∷ given (codes "x") ∷ [])))
    ∷ Return 4 None
    ∷ [])
    5
    ∷ [])

a_mark_where_a_region_is_within_its_array-accepted : IsAccepted a_mark_where_a_region_is_within_its_array
unfolding opened
a_mark_where_a_region_is_within_its_array-accepted = accepted a_mark_where_a_region_is_within_its_array refl refl refl

a_mark_where_a_region_is_within_its_array-stopped : IsStoppedReplay a_mark_where_a_region_is_within_its_array (codes "heap 512\nclass A\narray @a I 5 6\nthread Java_A_f @a\n") (codes "1 1 1 1 1!\n") 5
unfolding opened
a_mark_where_a_region_is_within_its_array-stopped = stopped-replay a_mark_where_a_region_is_within_its_array no_region_of_an_array_begins_before_it_has_a_negative_length_or_goes_past_its_end-world (entries 1 4) (entry 1 true) [] a_mark_where_a_region_is_within_its_array-accepted no_region_of_an_array_begins_before_it_has_a_negative_length_or_goes_past_its_end-means refl refl refl refl
