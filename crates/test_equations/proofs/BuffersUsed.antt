-- The cases of texts/buffers_used.cases, as gate/worked_equations writes them.
use Rattle.std.specs.Prelude.{◌∷◌, pos, true, false, [], Some, None, codes, refl}
use Rattle.base.specs.declared.element.ElementType.TheVariants.{Int as JInt, Byte as JByte, Char as JChar}
use Rattle.syntax.specs.declared.declared_type.ReferenceType.TheVariants.{String as JString, IntArray as JIntArray, ByteArray as JByteArray, CharArray as JCharArray}
use Rattle.syntax.specs.declared.declared_type.VariableType.TheVariants.{Jint as JIntVariable, Jboolean as JBoolean}
use Rattle.syntax.specs.declared.declared_type.DeclaredType.TheVariants.{Simple, Pointer, ConstChars}
use Rattle.syntax.specs.declared.unit.ResultType.TheVariants.{Void}
use Rattle.syntax.specs.declared.expr.Constant.TheVariants.{False, Commit, Abort, Null}
use Rattle.syntax.specs.declared.expr.PrefixOp.TheVariants.{Complement, ToInt}
use Rattle.syntax.specs.declared.expr.BinaryOp.TheVariants.{NotEqual}
use Rattle.syntax.specs.Tree.{Number, Named, Variable, Element, Prefix, Binary, Value, AddressOf, FromExpr, FromCall, TestExpr, Declare, DeclareArray, AssignElement, Perform, PutJint, Plain, If, NoElse, Return, SourceUnit}
use Rattle.semantics.specs.declared.schedule.ScheduleWord.TheVariants.{Turn}
use Rattle.semantics.specs.World.{World}
use Rattle.world_values.specs.WorldLines.{NumberValue, NamedObject, ClassLine, ArrayLine, StringLine, ThreadLine, Lines}
use Rattle.world_values.specs.WorldMeaning.{world_of}
use Rattle.world_values.specs.WorldRules.{IsWorldText}
use Rattle.test_equations.specs.Claims.{IsAccepted, IsWorkedRun}
use Rattle.test_equations.proofs.Programs.{unit_of, native, block, reference_parameter, call, given}
use Rattle.test_equations.proofs.Computed.{opened, accepted, world-text, worked-run}

-- a copy that is committed twice overwrites twice, and is the same copy then
-- JNIEXPORT void JNICALL Java_A_f(JNIEnv *env, jclass cls, jintArray a) {
-- jint x[2] = {0};
-- x[0] = 7;
-- x[1] = 8;
-- jint *p = (*env)->GetIntArrayElements(env, a, NULL);
-- if (p != NULL) {
-- (*env)->SetIntArrayRegion(env, a, 0, 2, x);
-- put_jint(p[0]);
-- p[1] = 5;
-- (*env)->ReleaseIntArrayElements(env, a, p, JNI_COMMIT);
-- (*env)->SetIntArrayRegion(env, a, 0, 2, x);
-- put_jint(p[1]);
-- (*env)->ReleaseIntArrayElements(env, a, p, JNI_COMMIT);
-- (*env)->ReleaseIntArrayElements(env, a, p, JNI_ABORT);
-- }
-- return;
-- }
abbrev pub a_copy_that_is_committed_twice_overwrites_twice_and_is_the_same_copy_then : SourceUnit
a_copy_that_is_committed_twice_overwrites_twice_and_is_the_same_copy_then =
    unit_of
    (native 1 Void (codes "Java_A_f") (reference_parameter JIntArray (codes "a") ∷ [])
    (Plain 2 (DeclareArray JInt (codes "x") 2)
    ∷ Plain 3 (AssignElement (codes "x") (Number 0 false) (Number 7 false))
    ∷ Plain 4 (AssignElement (codes "x") (Number 1 false) (Number 8 false))
    ∷ Plain 5 (Declare (Pointer JInt) (codes "p") (FromCall (call (codes "GetIntArrayElements") (given (codes "a") ∷ Value (Named Null) ∷ []))))
    ∷ If 6 (TestExpr (Binary NotEqual (Variable (codes "p")) (Named Null)))
    (block
    (Plain 7 (Perform (call (codes "SetIntArrayRegion") (given (codes "a") ∷ Value (Number 0 false) ∷ Value (Number 2 false) ∷ given (codes "x") ∷ [])))
    ∷ Plain 8 (PutJint (Element (codes "p") (Number 0 false)))
    ∷ Plain 9 (AssignElement (codes "p") (Number 1 false) (Number 5 false))
    ∷ Plain 10 (Perform (call (codes "ReleaseIntArrayElements") (given (codes "a") ∷ given (codes "p") ∷ Value (Named Commit) ∷ [])))
    ∷ Plain 11 (Perform (call (codes "SetIntArrayRegion") (given (codes "a") ∷ Value (Number 0 false) ∷ Value (Number 2 false) ∷ given (codes "x") ∷ [])))
    ∷ Plain 12 (PutJint (Element (codes "p") (Number 1 false)))
    ∷ Plain 13 (Perform (call (codes "ReleaseIntArrayElements") (given (codes "a") ∷ given (codes "p") ∷ Value (Named Commit) ∷ [])))
    ∷ Plain 14 (Perform (call (codes "ReleaseIntArrayElements") (given (codes "a") ∷ given (codes "p") ∷ Value (Named Abort) ∷ [])))
    ∷ [])
    15)
    NoElse
    ∷ Return 16 None
    ∷ [])
    17
    ∷ [])

abbrev a_copy_that_is_committed_twice_overwrites_twice_and_is_the_same_copy_then-lines : Lines
a_copy_that_is_committed_twice_overwrites_twice_and_is_the_same_copy_then-lines =
    (2, ClassLine (codes "A") None)
    ∷ (3, ArrayLine (codes "a") JInt (NumberValue (pos 1) ∷ NumberValue (pos 2) ∷ []))
    ∷ (4, ThreadLine (codes "Java_A_f") (NamedObject (codes "a") ∷ []))
    ∷ []

abbrev a_copy_that_is_committed_twice_overwrites_twice_and_is_the_same_copy_then-world : World
a_copy_that_is_committed_twice_overwrites_twice_and_is_the_same_copy_then-world = world_of 1 512 a_copy_that_is_committed_twice_overwrites_twice_and_is_the_same_copy_then-lines

a_copy_that_is_committed_twice_overwrites_twice_and_is_the_same_copy_then-means : IsWorldText (codes "heap 512\nclass A\narray @a I 1 2\nthread Java_A_f @a\n") a_copy_that_is_committed_twice_overwrites_twice_and_is_the_same_copy_then-world
unfolding opened
a_copy_that_is_committed_twice_overwrites_twice_and_is_the_same_copy_then-means = world-text (codes "heap 512\nclass A\narray @a I 1 2\nthread Java_A_f @a\n") 512 false a_copy_that_is_committed_twice_overwrites_twice_and_is_the_same_copy_then-lines 1 refl refl refl refl refl

a_copy_that_is_committed_twice_overwrites_twice_and_is_the_same_copy_then-accepted : IsAccepted a_copy_that_is_committed_twice_overwrites_twice_and_is_the_same_copy_then
unfolding opened
a_copy_that_is_committed_twice_overwrites_twice_and_is_the_same_copy_then-accepted = accepted a_copy_that_is_committed_twice_overwrites_twice_and_is_the_same_copy_then refl refl refl

a_copy_that_is_committed_twice_overwrites_twice_and_is_the_same_copy_then-run : IsWorkedRun a_copy_that_is_committed_twice_overwrites_twice_and_is_the_same_copy_then (codes "heap 512\nclass A\narray @a I 1 2\nthread Java_A_f @a\n") (codes "1*99\n")
    (codes "T1 1\nT1 5\nT1 ended\n#46 [I 1 5\njournal 1 1 1 1 1 1 1 1 1 1 1 1 1 1 1 1 1 1 1 1 1 1 1 1 1 1 1 1 1 1 1\n")
unfolding opened
a_copy_that_is_committed_twice_overwrites_twice_and_is_the_same_copy_then-run = worked-run a_copy_that_is_committed_twice_overwrites_twice_and_is_the_same_copy_then a_copy_that_is_committed_twice_overwrites_twice_and_is_the_same_copy_then-world ((Turn 1, Some 99) ∷ []) [] a_copy_that_is_committed_twice_overwrites_twice_and_is_the_same_copy_then-accepted a_copy_that_is_committed_twice_overwrites_twice_and_is_the_same_copy_then-means refl refl refl refl

-- of two copies the one that is released later stays
-- JNIEXPORT void JNICALL Java_A_f(JNIEnv *env, jclass cls, jintArray a) {
-- jint *p = (*env)->GetIntArrayElements(env, a, NULL);
-- if (p != NULL) {
-- jint *q = (*env)->GetIntArrayElements(env, a, NULL);
-- if (q != NULL) {
-- p[0] = 3;
-- q[0] = 4;
-- q[1] = 5;
-- (*env)->ReleaseIntArrayElements(env, a, q, 0);
-- }
-- (*env)->ReleaseIntArrayElements(env, a, p, 0);
-- }
-- return;
-- }
abbrev pub of_two_copies_the_one_that_is_released_later_stays : SourceUnit
of_two_copies_the_one_that_is_released_later_stays =
    unit_of
    (native 1 Void (codes "Java_A_f") (reference_parameter JIntArray (codes "a") ∷ [])
    (Plain 2 (Declare (Pointer JInt) (codes "p") (FromCall (call (codes "GetIntArrayElements") (given (codes "a") ∷ Value (Named Null) ∷ []))))
    ∷ If 3 (TestExpr (Binary NotEqual (Variable (codes "p")) (Named Null)))
    (block
    (Plain 4 (Declare (Pointer JInt) (codes "q") (FromCall (call (codes "GetIntArrayElements") (given (codes "a") ∷ Value (Named Null) ∷ []))))
    ∷ If 5 (TestExpr (Binary NotEqual (Variable (codes "q")) (Named Null)))
    (block
    (Plain 6 (AssignElement (codes "p") (Number 0 false) (Number 3 false))
    ∷ Plain 7 (AssignElement (codes "q") (Number 0 false) (Number 4 false))
    ∷ Plain 8 (AssignElement (codes "q") (Number 1 false) (Number 5 false))
    ∷ Plain 9 (Perform (call (codes "ReleaseIntArrayElements") (given (codes "a") ∷ given (codes "q") ∷ Value (Number 0 false) ∷ [])))
    ∷ [])
    10)
    NoElse
    ∷ Plain 11 (Perform (call (codes "ReleaseIntArrayElements") (given (codes "a") ∷ given (codes "p") ∷ Value (Number 0 false) ∷ [])))
    ∷ [])
    12)
    NoElse
    ∷ Return 13 None
    ∷ [])
    14
    ∷ [])

of_two_copies_the_one_that_is_released_later_stays-accepted : IsAccepted of_two_copies_the_one_that_is_released_later_stays
unfolding opened
of_two_copies_the_one_that_is_released_later_stays-accepted = accepted of_two_copies_the_one_that_is_released_later_stays refl refl refl

of_two_copies_the_one_that_is_released_later_stays-run : IsWorkedRun of_two_copies_the_one_that_is_released_later_stays (codes "heap 512\nclass A\narray @a I 1 2\nthread Java_A_f @a\n") (codes "1*99\n")
    (codes "T1 ended\n#46 [I 3 2\njournal 1 1 1 1 1 1 1 1 1 1 1 1 1 1 1 1 1 1 1 1 1\n")
unfolding opened
of_two_copies_the_one_that_is_released_later_stays-run = worked-run of_two_copies_the_one_that_is_released_later_stays a_copy_that_is_committed_twice_overwrites_twice_and_is_the_same_copy_then-world ((Turn 1, Some 99) ∷ []) [] of_two_copies_the_one_that_is_released_later_stays-accepted a_copy_that_is_committed_twice_overwrites_twice_and_is_the_same_copy_then-means refl refl refl refl

-- a copy of an array without elements is a copy, and has none
-- JNIEXPORT void JNICALL Java_A_f(JNIEnv *env, jclass cls, jintArray a) {
-- jboolean c = JNI_FALSE;
-- jint *p = (*env)->GetIntArrayElements(env, a, &c);
-- if (p != NULL) {
-- put_jint((jint)c);
-- put_jint(p[0]);
-- (*env)->ReleaseIntArrayElements(env, a, p, 0);
-- }
-- return;
-- }
abbrev pub a_copy_of_an_array_without_elements_is_a_copy_and_has_none : SourceUnit
a_copy_of_an_array_without_elements_is_a_copy_and_has_none =
    unit_of
    (native 1 Void (codes "Java_A_f") (reference_parameter JIntArray (codes "a") ∷ [])
    (Plain 2 (Declare (Simple JBoolean) (codes "c") (FromExpr (Named False)))
    ∷ Plain 3 (Declare (Pointer JInt) (codes "p") (FromCall (call (codes "GetIntArrayElements") (given (codes "a") ∷ AddressOf (codes "c") ∷ []))))
    ∷ If 4 (TestExpr (Binary NotEqual (Variable (codes "p")) (Named Null)))
    (block
    (Plain 5 (PutJint (Prefix ToInt (Variable (codes "c"))))
    ∷ Plain 6 (PutJint (Element (codes "p") (Number 0 false)))
    ∷ Plain 7 (Perform (call (codes "ReleaseIntArrayElements") (given (codes "a") ∷ given (codes "p") ∷ Value (Number 0 false) ∷ [])))
    ∷ [])
    8)
    NoElse
    ∷ Return 9 None
    ∷ [])
    10
    ∷ [])

abbrev a_copy_of_an_array_without_elements_is_a_copy_and_has_none-lines : Lines
a_copy_of_an_array_without_elements_is_a_copy_and_has_none-lines =
    (2, ClassLine (codes "A") None)
    ∷ (3, ArrayLine (codes "a") JInt [])
    ∷ (4, ThreadLine (codes "Java_A_f") (NamedObject (codes "a") ∷ []))
    ∷ []

abbrev a_copy_of_an_array_without_elements_is_a_copy_and_has_none-world : World
a_copy_of_an_array_without_elements_is_a_copy_and_has_none-world = world_of 1 512 a_copy_of_an_array_without_elements_is_a_copy_and_has_none-lines

a_copy_of_an_array_without_elements_is_a_copy_and_has_none-means : IsWorldText (codes "heap 512\nclass A\narray @a I\nthread Java_A_f @a\n") a_copy_of_an_array_without_elements_is_a_copy_and_has_none-world
unfolding opened
a_copy_of_an_array_without_elements_is_a_copy_and_has_none-means = world-text (codes "heap 512\nclass A\narray @a I\nthread Java_A_f @a\n") 512 false a_copy_of_an_array_without_elements_is_a_copy_and_has_none-lines 1 refl refl refl refl refl

a_copy_of_an_array_without_elements_is_a_copy_and_has_none-accepted : IsAccepted a_copy_of_an_array_without_elements_is_a_copy_and_has_none
unfolding opened
a_copy_of_an_array_without_elements_is_a_copy_and_has_none-accepted = accepted a_copy_of_an_array_without_elements_is_a_copy_and_has_none refl refl refl

a_copy_of_an_array_without_elements_is_a_copy_and_has_none-run : IsWorkedRun a_copy_of_an_array_without_elements_is_a_copy_and_has_none (codes "heap 512\nclass A\narray @a I\nthread Java_A_f @a\n") (codes "1*99\n")
    (codes "T1 1\nT1 trap 3 line 6\n#46 [I\njournal 1 1 1 1 1 1 1 1 1 1 1\n")
unfolding opened
a_copy_of_an_array_without_elements_is_a_copy_and_has_none-run = worked-run a_copy_of_an_array_without_elements_is_a_copy_and_has_none a_copy_of_an_array_without_elements_is_a_copy_and_has_none-world ((Turn 1, Some 99) ∷ []) [] a_copy_of_an_array_without_elements_is_a_copy_and_has_none-accepted a_copy_of_an_array_without_elements_is_a_copy_and_has_none-means refl refl refl refl

-- an element before a view
-- JNIEXPORT void JNICALL Java_A_f(JNIEnv *env, jclass cls, jintArray a) {
-- jint *q = (*env)->GetPrimitiveArrayCritical(env, a, NULL);
-- if (q != NULL) {
-- jint n = q[(jint)~0u];
-- (*env)->ReleasePrimitiveArrayCritical(env, a, q, 0);
-- put_jint(n);
-- }
-- return;
-- }
abbrev pub an_element_before_a_view : SourceUnit
an_element_before_a_view =
    unit_of
    (native 1 Void (codes "Java_A_f") (reference_parameter JIntArray (codes "a") ∷ [])
    (Plain 2 (Declare (Pointer JInt) (codes "q") (FromCall (call (codes "GetPrimitiveArrayCritical") (given (codes "a") ∷ Value (Named Null) ∷ []))))
    ∷ If 3 (TestExpr (Binary NotEqual (Variable (codes "q")) (Named Null)))
    (block
    (Plain 4 (Declare (Simple JIntVariable) (codes "n") (FromExpr (Element (codes "q") (Prefix ToInt (Prefix Complement (Number 0 true))))))
    ∷ Plain 5 (Perform (call (codes "ReleasePrimitiveArrayCritical") (given (codes "a") ∷ given (codes "q") ∷ Value (Number 0 false) ∷ [])))
    ∷ Plain 6 (PutJint (Variable (codes "n")))
    ∷ [])
    7)
    NoElse
    ∷ Return 8 None
    ∷ [])
    9
    ∷ [])

an_element_before_a_view-accepted : IsAccepted an_element_before_a_view
unfolding opened
an_element_before_a_view-accepted = accepted an_element_before_a_view refl refl refl

an_element_before_a_view-run : IsWorkedRun an_element_before_a_view (codes "heap 512\nclass A\narray @a I 1 2\nthread Java_A_f @a\n") (codes "1*99\n")
    (codes "T1 trap 3 line 4\n#46 [I 1 2\njournal 1 1 1 1 1 1 1 1\n")
unfolding opened
an_element_before_a_view-run = worked-run an_element_before_a_view a_copy_that_is_committed_twice_overwrites_twice_and_is_the_same_copy_then-world ((Turn 1, Some 99) ∷ []) [] an_element_before_a_view-accepted a_copy_that_is_committed_twice_overwrites_twice_and_is_the_same_copy_then-means refl refl refl refl

-- a character past the end of a view
-- JNIEXPORT void JNICALL Java_A_f(JNIEnv *env, jclass cls, jstring s) {
-- const jchar *q = (*env)->GetStringCritical(env, s, NULL);
-- if (q != NULL) {
-- jint n = q[2];
-- (*env)->ReleaseStringCritical(env, s, q);
-- put_jint(n);
-- }
-- return;
-- }
abbrev pub a_character_past_the_end_of_a_view : SourceUnit
a_character_past_the_end_of_a_view =
    unit_of
    (native 1 Void (codes "Java_A_f") (reference_parameter JString (codes "s") ∷ [])
    (Plain 2 (Declare ConstChars (codes "q") (FromCall (call (codes "GetStringCritical") (given (codes "s") ∷ Value (Named Null) ∷ []))))
    ∷ If 3 (TestExpr (Binary NotEqual (Variable (codes "q")) (Named Null)))
    (block
    (Plain 4 (Declare (Simple JIntVariable) (codes "n") (FromExpr (Element (codes "q") (Number 2 false))))
    ∷ Plain 5 (Perform (call (codes "ReleaseStringCritical") (given (codes "s") ∷ given (codes "q") ∷ [])))
    ∷ Plain 6 (PutJint (Variable (codes "n")))
    ∷ [])
    7)
    NoElse
    ∷ Return 8 None
    ∷ [])
    9
    ∷ [])

abbrev a_character_past_the_end_of_a_view-lines : Lines
a_character_past_the_end_of_a_view-lines =
    (2, ClassLine (codes "A") None)
    ∷ (3, StringLine (codes "s") (codes "hi"))
    ∷ (4, ThreadLine (codes "Java_A_f") (NamedObject (codes "s") ∷ []))
    ∷ []

abbrev a_character_past_the_end_of_a_view-world : World
a_character_past_the_end_of_a_view-world = world_of 1 512 a_character_past_the_end_of_a_view-lines

a_character_past_the_end_of_a_view-means : IsWorldText (codes "heap 512\nclass A\nstring @s hi\nthread Java_A_f @s\n") a_character_past_the_end_of_a_view-world
unfolding opened
a_character_past_the_end_of_a_view-means = world-text (codes "heap 512\nclass A\nstring @s hi\nthread Java_A_f @s\n") 512 false a_character_past_the_end_of_a_view-lines 1 refl refl refl refl refl

a_character_past_the_end_of_a_view-accepted : IsAccepted a_character_past_the_end_of_a_view
unfolding opened
a_character_past_the_end_of_a_view-accepted = accepted a_character_past_the_end_of_a_view refl refl refl

a_character_past_the_end_of_a_view-run : IsWorkedRun a_character_past_the_end_of_a_view (codes "heap 512\nclass A\nstring @s hi\nthread Java_A_f @s\n") (codes "1*99\n")
    (codes "T1 trap 3 line 4\n#46 java/lang/String 104 105\njournal 1 1 1 1 1 1\n")
unfolding opened
a_character_past_the_end_of_a_view-run = worked-run a_character_past_the_end_of_a_view a_character_past_the_end_of_a_view-world ((Turn 1, Some 99) ∷ []) [] a_character_past_the_end_of_a_view-accepted a_character_past_the_end_of_a_view-means refl refl refl refl

-- a view of an array and one of a string, both at once
-- JNIEXPORT void JNICALL Java_A_f(JNIEnv *env, jclass cls, jintArray a, jstring s) {
-- jint *p = (*env)->GetPrimitiveArrayCritical(env, a, NULL);
-- if (p != NULL) {
-- const jchar *q = (*env)->GetStringCritical(env, s, NULL);
-- if (q != NULL) {
-- p[0] = q[1];
-- (*env)->ReleaseStringCritical(env, s, q);
-- }
-- p[1] = p[0];
-- (*env)->ReleasePrimitiveArrayCritical(env, a, p, 0);
-- }
-- return;
-- }
abbrev pub a_view_of_an_array_and_one_of_a_string_both_at_once : SourceUnit
a_view_of_an_array_and_one_of_a_string_both_at_once =
    unit_of
    (native 1 Void (codes "Java_A_f") (reference_parameter JIntArray (codes "a") ∷ reference_parameter JString (codes "s") ∷ [])
    (Plain 2 (Declare (Pointer JInt) (codes "p") (FromCall (call (codes "GetPrimitiveArrayCritical") (given (codes "a") ∷ Value (Named Null) ∷ []))))
    ∷ If 3 (TestExpr (Binary NotEqual (Variable (codes "p")) (Named Null)))
    (block
    (Plain 4 (Declare ConstChars (codes "q") (FromCall (call (codes "GetStringCritical") (given (codes "s") ∷ Value (Named Null) ∷ []))))
    ∷ If 5 (TestExpr (Binary NotEqual (Variable (codes "q")) (Named Null)))
    (block
    (Plain 6 (AssignElement (codes "p") (Number 0 false) (Element (codes "q") (Number 1 false)))
    ∷ Plain 7 (Perform (call (codes "ReleaseStringCritical") (given (codes "s") ∷ given (codes "q") ∷ [])))
    ∷ [])
    8)
    NoElse
    ∷ Plain 9 (AssignElement (codes "p") (Number 1 false) (Element (codes "p") (Number 0 false)))
    ∷ Plain 10 (Perform (call (codes "ReleasePrimitiveArrayCritical") (given (codes "a") ∷ given (codes "p") ∷ Value (Number 0 false) ∷ [])))
    ∷ [])
    11)
    NoElse
    ∷ Return 12 None
    ∷ [])
    13
    ∷ [])

abbrev a_view_of_an_array_and_one_of_a_string_both_at_once-lines : Lines
a_view_of_an_array_and_one_of_a_string_both_at_once-lines =
    (2, ClassLine (codes "A") None)
    ∷ (3, ArrayLine (codes "a") JInt (NumberValue (pos 1) ∷ NumberValue (pos 2) ∷ []))
    ∷ (4, StringLine (codes "s") (codes "hi"))
    ∷ (5, ThreadLine (codes "Java_A_f") (NamedObject (codes "a") ∷ NamedObject (codes "s") ∷ []))
    ∷ []

abbrev a_view_of_an_array_and_one_of_a_string_both_at_once-world : World
a_view_of_an_array_and_one_of_a_string_both_at_once-world = world_of 1 512 a_view_of_an_array_and_one_of_a_string_both_at_once-lines

a_view_of_an_array_and_one_of_a_string_both_at_once-means : IsWorldText (codes "heap 512\nclass A\narray @a I 1 2\nstring @s hi\nthread Java_A_f @a @s\n") a_view_of_an_array_and_one_of_a_string_both_at_once-world
unfolding opened
a_view_of_an_array_and_one_of_a_string_both_at_once-means = world-text (codes "heap 512\nclass A\narray @a I 1 2\nstring @s hi\nthread Java_A_f @a @s\n") 512 false a_view_of_an_array_and_one_of_a_string_both_at_once-lines 1 refl refl refl refl refl

a_view_of_an_array_and_one_of_a_string_both_at_once-accepted : IsAccepted a_view_of_an_array_and_one_of_a_string_both_at_once
unfolding opened
a_view_of_an_array_and_one_of_a_string_both_at_once-accepted = accepted a_view_of_an_array_and_one_of_a_string_both_at_once refl refl refl

a_view_of_an_array_and_one_of_a_string_both_at_once-run : IsWorkedRun a_view_of_an_array_and_one_of_a_string_both_at_once (codes "heap 512\nclass A\narray @a I 1 2\nstring @s hi\nthread Java_A_f @a @s\n") (codes "1*99\n")
    (codes "T1 ended\n#46 [I 105 105\n#47 java/lang/String 104 105\njournal 1 1 1 1 1 1 1 1 1 1 1 1 1 1 1 1 1 1 1 1\n")
unfolding opened
a_view_of_an_array_and_one_of_a_string_both_at_once-run = worked-run a_view_of_an_array_and_one_of_a_string_both_at_once a_view_of_an_array_and_one_of_a_string_both_at_once-world ((Turn 1, Some 99) ∷ []) [] a_view_of_an_array_and_one_of_a_string_both_at_once-accepted a_view_of_an_array_and_one_of_a_string_both_at_once-means refl refl refl refl

-- two views of one array show the same elements
-- JNIEXPORT void JNICALL Java_A_f(JNIEnv *env, jclass cls, jintArray a) {
-- jint *p = (*env)->GetPrimitiveArrayCritical(env, a, NULL);
-- if (p != NULL) {
-- jint *q = (*env)->GetPrimitiveArrayCritical(env, a, NULL);
-- if (q != NULL) {
-- p[0] = 6;
-- q[1] = q[0];
-- (*env)->ReleasePrimitiveArrayCritical(env, a, q, JNI_ABORT);
-- }
-- (*env)->ReleasePrimitiveArrayCritical(env, a, p, JNI_ABORT);
-- }
-- return;
-- }
abbrev pub two_views_of_one_array_show_the_same_elements : SourceUnit
two_views_of_one_array_show_the_same_elements =
    unit_of
    (native 1 Void (codes "Java_A_f") (reference_parameter JIntArray (codes "a") ∷ [])
    (Plain 2 (Declare (Pointer JInt) (codes "p") (FromCall (call (codes "GetPrimitiveArrayCritical") (given (codes "a") ∷ Value (Named Null) ∷ []))))
    ∷ If 3 (TestExpr (Binary NotEqual (Variable (codes "p")) (Named Null)))
    (block
    (Plain 4 (Declare (Pointer JInt) (codes "q") (FromCall (call (codes "GetPrimitiveArrayCritical") (given (codes "a") ∷ Value (Named Null) ∷ []))))
    ∷ If 5 (TestExpr (Binary NotEqual (Variable (codes "q")) (Named Null)))
    (block
    (Plain 6 (AssignElement (codes "p") (Number 0 false) (Number 6 false))
    ∷ Plain 7 (AssignElement (codes "q") (Number 1 false) (Element (codes "q") (Number 0 false)))
    ∷ Plain 8 (Perform (call (codes "ReleasePrimitiveArrayCritical") (given (codes "a") ∷ given (codes "q") ∷ Value (Named Abort) ∷ [])))
    ∷ [])
    9)
    NoElse
    ∷ Plain 10 (Perform (call (codes "ReleasePrimitiveArrayCritical") (given (codes "a") ∷ given (codes "p") ∷ Value (Named Abort) ∷ [])))
    ∷ [])
    11)
    NoElse
    ∷ Return 12 None
    ∷ [])
    13
    ∷ [])

two_views_of_one_array_show_the_same_elements-accepted : IsAccepted two_views_of_one_array_show_the_same_elements
unfolding opened
two_views_of_one_array_show_the_same_elements-accepted = accepted two_views_of_one_array_show_the_same_elements refl refl refl

two_views_of_one_array_show_the_same_elements-run : IsWorkedRun two_views_of_one_array_show_the_same_elements (codes "heap 512\nclass A\narray @a I 1 2\nthread Java_A_f @a\n") (codes "1*99\n")
    (codes "T1 ended\n#46 [I 6 6\njournal 1 1 1 1 1 1 1 1 1 1 1 1 1 1 1 1 1 1 1\n")
unfolding opened
two_views_of_one_array_show_the_same_elements-run = worked-run two_views_of_one_array_show_the_same_elements a_copy_that_is_committed_twice_overwrites_twice_and_is_the_same_copy_then-world ((Turn 1, Some 99) ∷ []) [] two_views_of_one_array_show_the_same_elements-accepted a_copy_that_is_committed_twice_overwrites_twice_and_is_the_same_copy_then-means refl refl refl refl

-- what is written to a view is converted to the type of its elements
-- JNIEXPORT void JNICALL Java_A_f(JNIEnv *env, jclass cls, jcharArray c, jbyteArray b) {
-- jchar *p = (*env)->GetPrimitiveArrayCritical(env, c, NULL);
-- if (p != NULL) {
-- p[1] = (jint)~0u;
-- (*env)->ReleasePrimitiveArrayCritical(env, c, p, 0);
-- }
-- jbyte *q = (*env)->GetPrimitiveArrayCritical(env, b, NULL);
-- if (q != NULL) {
-- q[0] = 300;
-- (*env)->ReleasePrimitiveArrayCritical(env, b, q, 0);
-- }
-- return;
-- }
abbrev pub what_is_written_to_a_view_is_converted_to_the_type_of_its_elements : SourceUnit
what_is_written_to_a_view_is_converted_to_the_type_of_its_elements =
    unit_of
    (native 1 Void (codes "Java_A_f") (reference_parameter JCharArray (codes "c") ∷ reference_parameter JByteArray (codes "b") ∷ [])
    (Plain 2 (Declare (Pointer JChar) (codes "p") (FromCall (call (codes "GetPrimitiveArrayCritical") (given (codes "c") ∷ Value (Named Null) ∷ []))))
    ∷ If 3 (TestExpr (Binary NotEqual (Variable (codes "p")) (Named Null)))
    (block
    (Plain 4 (AssignElement (codes "p") (Number 1 false) (Prefix ToInt (Prefix Complement (Number 0 true))))
    ∷ Plain 5 (Perform (call (codes "ReleasePrimitiveArrayCritical") (given (codes "c") ∷ given (codes "p") ∷ Value (Number 0 false) ∷ [])))
    ∷ [])
    6)
    NoElse
    ∷ Plain 7 (Declare (Pointer JByte) (codes "q") (FromCall (call (codes "GetPrimitiveArrayCritical") (given (codes "b") ∷ Value (Named Null) ∷ []))))
    ∷ If 8 (TestExpr (Binary NotEqual (Variable (codes "q")) (Named Null)))
    (block
    (Plain 9 (AssignElement (codes "q") (Number 0 false) (Number 300 false))
    ∷ Plain 10 (Perform (call (codes "ReleasePrimitiveArrayCritical") (given (codes "b") ∷ given (codes "q") ∷ Value (Number 0 false) ∷ [])))
    ∷ [])
    11)
    NoElse
    ∷ Return 12 None
    ∷ [])
    13
    ∷ [])

abbrev what_is_written_to_a_view_is_converted_to_the_type_of_its_elements-lines : Lines
what_is_written_to_a_view_is_converted_to_the_type_of_its_elements-lines =
    (2, ClassLine (codes "A") None)
    ∷ (3, ArrayLine (codes "c") JChar (NumberValue (pos 1) ∷ NumberValue (pos 2) ∷ []))
    ∷ (4, ArrayLine (codes "b") JByte (NumberValue (pos 3) ∷ []))
    ∷ (5, ThreadLine (codes "Java_A_f") (NamedObject (codes "c") ∷ NamedObject (codes "b") ∷ []))
    ∷ []

abbrev what_is_written_to_a_view_is_converted_to_the_type_of_its_elements-world : World
what_is_written_to_a_view_is_converted_to_the_type_of_its_elements-world = world_of 1 512 what_is_written_to_a_view_is_converted_to_the_type_of_its_elements-lines

what_is_written_to_a_view_is_converted_to_the_type_of_its_elements-means : IsWorldText (codes "heap 512\nclass A\narray @c C 1 2\narray @b B 3\nthread Java_A_f @c @b\n") what_is_written_to_a_view_is_converted_to_the_type_of_its_elements-world
unfolding opened
what_is_written_to_a_view_is_converted_to_the_type_of_its_elements-means = world-text (codes "heap 512\nclass A\narray @c C 1 2\narray @b B 3\nthread Java_A_f @c @b\n") 512 false what_is_written_to_a_view_is_converted_to_the_type_of_its_elements-lines 1 refl refl refl refl refl

what_is_written_to_a_view_is_converted_to_the_type_of_its_elements-accepted : IsAccepted what_is_written_to_a_view_is_converted_to_the_type_of_its_elements
unfolding opened
what_is_written_to_a_view_is_converted_to_the_type_of_its_elements-accepted = accepted what_is_written_to_a_view_is_converted_to_the_type_of_its_elements refl refl refl

what_is_written_to_a_view_is_converted_to_the_type_of_its_elements-run : IsWorkedRun what_is_written_to_a_view_is_converted_to_the_type_of_its_elements (codes "heap 512\nclass A\narray @c C 1 2\narray @b B 3\nthread Java_A_f @c @b\n") (codes "1*99\n")
    (codes "T1 ended\n#46 [C 1 65535\n#47 [B 44\njournal 1 1 1 1 1 1 1 1 1 1 1 1 1 1 1 1 1 1 1 1\n")
unfolding opened
what_is_written_to_a_view_is_converted_to_the_type_of_its_elements-run = worked-run what_is_written_to_a_view_is_converted_to_the_type_of_its_elements what_is_written_to_a_view_is_converted_to_the_type_of_its_elements-world ((Turn 1, Some 99) ∷ []) [] what_is_written_to_a_view_is_converted_to_the_type_of_its_elements-accepted what_is_written_to_a_view_is_converted_to_the_type_of_its_elements-means refl refl refl refl

-- characters are released while an exception is pending
-- JNIEXPORT void JNICALL Java_A_f(JNIEnv *env, jclass cls, jstring s) {
-- jchar x[1] = {0};
-- const jchar *p = (*env)->GetStringChars(env, s, NULL);
-- if (p != NULL) {
-- (*env)->GetStringRegion(env, s, 2, 1, x);
-- put_jint(p[0]);
-- (*env)->ReleaseStringChars(env, s, p);
-- }
-- return;
-- }
abbrev pub characters_are_released_while_an_exception_is_pending : SourceUnit
characters_are_released_while_an_exception_is_pending =
    unit_of
    (native 1 Void (codes "Java_A_f") (reference_parameter JString (codes "s") ∷ [])
    (Plain 2 (DeclareArray JChar (codes "x") 1)
    ∷ Plain 3 (Declare ConstChars (codes "p") (FromCall (call (codes "GetStringChars") (given (codes "s") ∷ Value (Named Null) ∷ []))))
    ∷ If 4 (TestExpr (Binary NotEqual (Variable (codes "p")) (Named Null)))
    (block
    (Plain 5 (Perform (call (codes "GetStringRegion") (given (codes "s") ∷ Value (Number 2 false) ∷ Value (Number 1 false) ∷ given (codes "x") ∷ [])))
    ∷ Plain 6 (PutJint (Element (codes "p") (Number 0 false)))
    ∷ Plain 7 (Perform (call (codes "ReleaseStringChars") (given (codes "s") ∷ given (codes "p") ∷ [])))
    ∷ [])
    8)
    NoElse
    ∷ Return 9 None
    ∷ [])
    10
    ∷ [])

characters_are_released_while_an_exception_is_pending-accepted : IsAccepted characters_are_released_while_an_exception_is_pending
unfolding opened
characters_are_released_while_an_exception_is_pending-accepted = accepted characters_are_released_while_an_exception_is_pending refl refl refl

characters_are_released_while_an_exception_is_pending-run : IsWorkedRun characters_are_released_while_an_exception_is_pending (codes "heap 512\nclass A\nstring @s hi\nthread Java_A_f @s\n") (codes "1*99\n")
    (codes "T1 104\nT1 uncaught java/lang/StringIndexOutOfBoundsException\n#46 java/lang/String 104 105\njournal 1 1 1 1 1 1 1 1 1 1 1 1 1 1\n")
unfolding opened
characters_are_released_while_an_exception_is_pending-run = worked-run characters_are_released_while_an_exception_is_pending a_character_past_the_end_of_a_view-world ((Turn 1, Some 99) ∷ []) [] characters_are_released_while_an_exception_is_pending-accepted a_character_past_the_end_of_a_view-means refl refl refl refl
