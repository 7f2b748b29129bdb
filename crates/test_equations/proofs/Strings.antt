-- The cases of texts/strings.cases, as gate/worked_equations writes them.
use Rattle.std.specs.Prelude.{◌∷◌, pos, false, [], Some, None, codes, refl}
use Rattle.base.specs.declared.element.ElementType.TheVariants.{Char as JChar}
use Rattle.syntax.specs.declared.declared_type.ReferenceType.TheVariants.{Object as JObject, String as JString}
use Rattle.syntax.specs.declared.declared_type.VariableType.TheVariants.{Jint as JIntVariable, Jboolean as JBoolean, Reference as ReferenceVariable}
use Rattle.syntax.specs.declared.declared_type.DeclaredType.TheVariants.{Simple, ConstChars}
use Rattle.syntax.specs.declared.unit.ResultType.TheVariants.{Void}
use Rattle.syntax.specs.declared.expr.Constant.TheVariants.{True, False, Null}
use Rattle.syntax.specs.declared.expr.PrefixOp.TheVariants.{ToInt}
use Rattle.syntax.specs.declared.expr.BinaryOp.TheVariants.{NotEqual}
use Rattle.syntax.specs.Tree.{Number, Named, Variable, Element, Prefix, Binary, Value, Text, AddressOf, FromExpr, FromCall, TestExpr, Declare, DeclareArray, Perform, PutJint, Plain, If, NoElse, Return, SourceUnit}
use Rattle.semantics.specs.declared.schedule.ScheduleWord.TheVariants.{Turn}
use Rattle.semantics.specs.World.{World}
use Rattle.world_values.specs.WorldLines.{NumberValue, NamedObject, ClassLine, ArrayLine, StringLine, ThreadLine, Lines}
use Rattle.world_values.specs.WorldMeaning.{world_of}
use Rattle.world_values.specs.WorldRules.{IsWorldText}
use Rattle.test_equations.specs.Claims.{IsAccepted, IsWorkedRun}
use Rattle.test_equations.proofs.Programs.{unit_of, native, block, reference_parameter, call, given}
use Rattle.test_equations.proofs.Computed.{opened, accepted, world-text, worked-run}

-- a string and its characters
-- JNIEXPORT void JNICALL Java_A_f(JNIEnv *env, jclass cls) {
-- jstring s = (*env)->NewStringUTF(env, "Hello");
-- jint n = (*env)->GetStringLength(env, s);
-- put_jint(n);
-- jchar x[4] = {0};
-- (*env)->GetStringRegion(env, s, 1, 3, x);
-- put_jint(x[0]);
-- put_jint(x[2]);
-- put_jint(x[3]);
-- return;
-- }
abbrev pub a_string_and_its_characters : SourceUnit
a_string_and_its_characters =
    unit_of
    (native 1 Void (codes "Java_A_f") []
    (Plain 2 (Declare (Simple (ReferenceVariable JString)) (codes "s") (FromCall (call (codes "NewStringUTF") (Text (codes "Hello") ∷ []))))
    ∷ Plain 3 (Declare (Simple JIntVariable) (codes "n") (FromCall (call (codes "GetStringLength") (given (codes "s") ∷ []))))
    ∷ Plain 4 (PutJint (Variable (codes "n")))
    ∷ Plain 5 (DeclareArray JChar (codes "x") 4)
    ∷ Plain 6 (Perform (call (codes "GetStringRegion") (given (codes "s") ∷ Value (Number 1 false) ∷ Value (Number 3 false) ∷ given (codes "x") ∷ [])))
    ∷ Plain 7 (PutJint (Element (codes "x") (Number 0 false)))
    ∷ Plain 8 (PutJint (Element (codes "x") (Number 2 false)))
    ∷ Plain 9 (PutJint (Element (codes "x") (Number 3 false)))
    ∷ Return 10 None
    ∷ [])
    11
    ∷ [])

abbrev a_string_and_its_characters-lines : Lines
a_string_and_its_characters-lines =
    (2, ClassLine (codes "A") None)
    ∷ (3, ThreadLine (codes "Java_A_f") [])
    ∷ []

abbrev a_string_and_its_characters-world : World
a_string_and_its_characters-world = world_of 1 512 a_string_and_its_characters-lines

a_string_and_its_characters-means : IsWorldText (codes "heap 512\nclass A\nthread Java_A_f\n") a_string_and_its_characters-world
unfolding opened
a_string_and_its_characters-means = world-text (codes "heap 512\nclass A\nthread Java_A_f\n") 512 false a_string_and_its_characters-lines 1 refl refl refl refl refl

a_string_and_its_characters-accepted : IsAccepted a_string_and_its_characters
unfolding opened
a_string_and_its_characters-accepted = accepted a_string_and_its_characters refl refl refl

a_string_and_its_characters-run : IsWorkedRun a_string_and_its_characters (codes "heap 512\nclass A\nthread Java_A_f\n") (codes "1*18\n")
    (codes "T1 5\nT1 101\nT1 108\nT1 0\nT1 running\n#46 java/lang/String 72 101 108 108 111\njournal 1 1 1 1 1 1 1 1 1 1 1 1 1 1 1 1 1 1\n")
unfolding opened
a_string_and_its_characters-run = worked-run a_string_and_its_characters a_string_and_its_characters-world ((Turn 1, Some 18) ∷ []) [] a_string_and_its_characters-accepted a_string_and_its_characters-means refl refl refl refl

-- a copy of the characters
-- JNIEXPORT void JNICALL Java_A_f(JNIEnv *env, jclass cls, jstring s) {
-- jboolean copied = JNI_FALSE;
-- const jchar *p = (*env)->GetStringChars(env, s, &copied);
-- if (p != NULL) {
-- put_jint(p[1]);
-- put_jint((jint)copied);
-- (*env)->ReleaseStringChars(env, s, p);
-- }
-- return;
-- }
abbrev pub a_copy_of_the_characters : SourceUnit
a_copy_of_the_characters =
    unit_of
    (native 1 Void (codes "Java_A_f") (reference_parameter JString (codes "s") ∷ [])
    (Plain 2 (Declare (Simple JBoolean) (codes "copied") (FromExpr (Named False)))
    ∷ Plain 3 (Declare ConstChars (codes "p") (FromCall (call (codes "GetStringChars") (given (codes "s") ∷ AddressOf (codes "copied") ∷ []))))
    ∷ If 4 (TestExpr (Binary NotEqual (Variable (codes "p")) (Named Null)))
    (block
    (Plain 5 (PutJint (Element (codes "p") (Number 1 false)))
    ∷ Plain 6 (PutJint (Prefix ToInt (Variable (codes "copied"))))
    ∷ Plain 7 (Perform (call (codes "ReleaseStringChars") (given (codes "s") ∷ given (codes "p") ∷ [])))
    ∷ [])
    8)
    NoElse
    ∷ Return 9 None
    ∷ [])
    10
    ∷ [])

abbrev a_copy_of_the_characters-lines : Lines
a_copy_of_the_characters-lines =
    (2, ClassLine (codes "A") None)
    ∷ (3, StringLine (codes "s") (codes "hi"))
    ∷ (4, ThreadLine (codes "Java_A_f") (NamedObject (codes "s") ∷ []))
    ∷ []

abbrev a_copy_of_the_characters-world : World
a_copy_of_the_characters-world = world_of 1 512 a_copy_of_the_characters-lines

a_copy_of_the_characters-means : IsWorldText (codes "heap 512\nclass A\nstring @s hi\nthread Java_A_f @s\n") a_copy_of_the_characters-world
unfolding opened
a_copy_of_the_characters-means = world-text (codes "heap 512\nclass A\nstring @s hi\nthread Java_A_f @s\n") 512 false a_copy_of_the_characters-lines 1 refl refl refl refl refl

a_copy_of_the_characters-accepted : IsAccepted a_copy_of_the_characters
unfolding opened
a_copy_of_the_characters-accepted = accepted a_copy_of_the_characters refl refl refl

a_copy_of_the_characters-run : IsWorkedRun a_copy_of_the_characters (codes "heap 512\nclass A\nstring @s hi\nthread Java_A_f @s\n") (codes "1*16\n")
    (codes "T1 105\nT1 1\nT1 ended\n#46 java/lang/String 104 105\njournal 1 1 1 1 1 1 1 1 1 1 1 1 1 1 1\n")
unfolding opened
a_copy_of_the_characters-run = worked-run a_copy_of_the_characters a_copy_of_the_characters-world ((Turn 1, Some 16) ∷ []) [] a_copy_of_the_characters-accepted a_copy_of_the_characters-means refl refl refl refl

-- a view of the characters
-- JNIEXPORT void JNICALL Java_A_f(JNIEnv *env, jclass cls, jstring s) {
-- jboolean copied = JNI_TRUE;
-- const jchar *p = (*env)->GetStringCritical(env, s, &copied);
-- if (p != NULL) {
-- jint n = p[0];
-- (*env)->ReleaseStringCritical(env, s, p);
-- put_jint(n);
-- put_jint((jint)copied);
-- }
-- return;
-- }
abbrev pub a_view_of_the_characters : SourceUnit
a_view_of_the_characters =
    unit_of
    (native 1 Void (codes "Java_A_f") (reference_parameter JString (codes "s") ∷ [])
    (Plain 2 (Declare (Simple JBoolean) (codes "copied") (FromExpr (Named True)))
    ∷ Plain 3 (Declare ConstChars (codes "p") (FromCall (call (codes "GetStringCritical") (given (codes "s") ∷ AddressOf (codes "copied") ∷ []))))
    ∷ If 4 (TestExpr (Binary NotEqual (Variable (codes "p")) (Named Null)))
    (block
    (Plain 5 (Declare (Simple JIntVariable) (codes "n") (FromExpr (Element (codes "p") (Number 0 false))))
    ∷ Plain 6 (Perform (call (codes "ReleaseStringCritical") (given (codes "s") ∷ given (codes "p") ∷ [])))
    ∷ Plain 7 (PutJint (Variable (codes "n")))
    ∷ Plain 8 (PutJint (Prefix ToInt (Variable (codes "copied"))))
    ∷ [])
    9)
    NoElse
    ∷ Return 10 None
    ∷ [])
    11
    ∷ [])

a_view_of_the_characters-accepted : IsAccepted a_view_of_the_characters
unfolding opened
a_view_of_the_characters-accepted = accepted a_view_of_the_characters refl refl refl

a_view_of_the_characters-run : IsWorkedRun a_view_of_the_characters (codes "heap 512\nclass A\nstring @s hi\nthread Java_A_f @s\n") (codes "1*18\n")
    (codes "T1 104\nT1 0\nT1 ended\n#46 java/lang/String 104 105\njournal 1 1 1 1 1 1 1 1 1 1 1 1 1 1 1 1 1\n")
unfolding opened
a_view_of_the_characters-run = worked-run a_view_of_the_characters a_copy_of_the_characters-world ((Turn 1, Some 18) ∷ []) [] a_view_of_the_characters-accepted a_copy_of_the_characters-means refl refl refl refl

-- a region past the end of a string
-- JNIEXPORT void JNICALL Java_A_f(JNIEnv *env, jclass cls, jstring s) {
-- jchar x[4] = {0};
-- (*env)->GetStringRegion(env, s, 1, 2, x);
-- return;
-- }
abbrev pub a_region_past_the_end_of_a_string : SourceUnit
a_region_past_the_end_of_a_string =
    unit_of
    (native 1 Void (codes "Java_A_f") (reference_parameter JString (codes "s") ∷ [])
    (Plain 2 (DeclareArray JChar (codes "x") 4)
    ∷ Plain 3 (Perform (call (codes "GetStringRegion") (given (codes "s") ∷ Value (Number 1 false) ∷ Value (Number 2 false) ∷ given (codes "x") ∷ [])))
    ∷ Return 4 None
    ∷ [])
    5
    ∷ [])

a_region_past_the_end_of_a_string-accepted : IsAccepted a_region_past_the_end_of_a_string
unfolding opened
a_region_past_the_end_of_a_string-accepted = accepted a_region_past_the_end_of_a_string refl refl refl

a_region_past_the_end_of_a_string-run : IsWorkedRun a_region_past_the_end_of_a_string (codes "heap 512\nclass A\nstring @s hi\nthread Java_A_f @s\n") (codes "1*7\n")
    (codes "T1 uncaught java/lang/StringIndexOutOfBoundsException\n#46 java/lang/String 104 105\njournal 1 1 1 1 1 1\n")
unfolding opened
a_region_past_the_end_of_a_string-run = worked-run a_region_past_the_end_of_a_string a_copy_of_the_characters-world ((Turn 1, Some 7) ∷ []) [] a_region_past_the_end_of_a_string-accepted a_copy_of_the_characters-means refl refl refl refl

-- an object that is no string
-- JNIEXPORT void JNICALL Java_A_f(JNIEnv *env, jclass cls, jobject a) {
-- jint n = (*env)->GetStringLength(env, a);
-- return;
-- }
abbrev pub an_object_that_is_no_string : SourceUnit
an_object_that_is_no_string =
    unit_of
    (native 1 Void (codes "Java_A_f") (reference_parameter JObject (codes "a") ∷ [])
    (Plain 2 (Declare (Simple JIntVariable) (codes "n") (FromCall (call (codes "GetStringLength") (given (codes "a") ∷ []))))
    ∷ Return 3 None
    ∷ [])
    4
    ∷ [])

abbrev an_object_that_is_no_string-lines : Lines
an_object_that_is_no_string-lines =
    (2, ClassLine (codes "A") None)
    ∷ (3, ArrayLine (codes "a") JChar (NumberValue (pos 1) ∷ NumberValue (pos 2) ∷ []))
    ∷ (4, ThreadLine (codes "Java_A_f") (NamedObject (codes "a") ∷ []))
    ∷ []

abbrev an_object_that_is_no_string-world : World
an_object_that_is_no_string-world = world_of 1 512 an_object_that_is_no_string-lines

an_object_that_is_no_string-means : IsWorldText (codes "heap 512\nclass A\narray @a C 1 2\nthread Java_A_f @a\n") an_object_that_is_no_string-world
unfolding opened
an_object_that_is_no_string-means = world-text (codes "heap 512\nclass A\narray @a C 1 2\nthread Java_A_f @a\n") 512 false an_object_that_is_no_string-lines 1 refl refl refl refl refl

an_object_that_is_no_string-accepted : IsAccepted an_object_that_is_no_string
unfolding opened
an_object_that_is_no_string-accepted = accepted an_object_that_is_no_string refl refl refl

an_object_that_is_no_string-run : IsWorkedRun an_object_that_is_no_string (codes "heap 512\nclass A\narray @a C 1 2\nthread Java_A_f @a\n") (codes "1*3\n")
    (codes "T1 trap 6 line 2\n#46 [C 1 2\njournal 1 1\n")
unfolding opened
an_object_that_is_no_string-run = worked-run an_object_that_is_no_string an_object_that_is_no_string-world ((Turn 1, Some 3) ∷ []) [] an_object_that_is_no_string-accepted an_object_that_is_no_string-means refl refl refl refl

-- an empty string
-- JNIEXPORT void JNICALL Java_A_f(JNIEnv *env, jclass cls) {
-- jstring s = (*env)->NewStringUTF(env, "");
-- jint n = (*env)->GetStringLength(env, s);
-- put_jint(n);
-- return;
-- }
abbrev pub an_empty_string : SourceUnit
an_empty_string =
    unit_of
    (native 1 Void (codes "Java_A_f") []
    (Plain 2 (Declare (Simple (ReferenceVariable JString)) (codes "s") (FromCall (call (codes "NewStringUTF") (Text [] ∷ []))))
    ∷ Plain 3 (Declare (Simple JIntVariable) (codes "n") (FromCall (call (codes "GetStringLength") (given (codes "s") ∷ []))))
    ∷ Plain 4 (PutJint (Variable (codes "n")))
    ∷ Return 5 None
    ∷ [])
    6
    ∷ [])

an_empty_string-accepted : IsAccepted an_empty_string
unfolding opened
an_empty_string-accepted = accepted an_empty_string refl refl refl

an_empty_string-run : IsWorkedRun an_empty_string (codes "heap 512\nclass A\nthread Java_A_f\n") (codes "1*5\n")
    (codes "T1 0\nT1 running\n#46 java/lang/String\njournal 1 1 1 1 1\n")
unfolding opened
an_empty_string-run = worked-run an_empty_string a_string_and_its_characters-world ((Turn 1, Some 5) ∷ []) [] an_empty_string-accepted a_string_and_its_characters-means refl refl refl refl
