-- The cases of texts/regions_checked.cases, as gate/worked_equations writes them.
use Rattle.std.specs.Prelude.{◌∷◌, pos, true, false, [], Some, None, codes, refl}
use Rattle.base.specs.declared.element.ElementType.TheVariants.{Int as JInt, Short as JShort, Byte as JByte, Char as JChar}
use Rattle.syntax.specs.declared.declared_type.ReferenceType.TheVariants.{Object as JObject, Class as JClass, String as JString, IntArray as JIntArray, ShortArray as JShortArray, ByteArray as JByteArray, CharArray as JCharArray}
use Rattle.syntax.specs.declared.declared_type.VariableType.TheVariants.{Reference as ReferenceVariable}
use Rattle.syntax.specs.declared.declared_type.DeclaredType.TheVariants.{Simple}
use Rattle.syntax.specs.declared.unit.ResultType.TheVariants.{Void}
use Rattle.syntax.specs.declared.expr.Constant.TheVariants.{Null}
use Rattle.syntax.specs.declared.expr.PrefixOp.TheVariants.{Complement, ToInt}
use Rattle.syntax.specs.Tree.{Number, Named, Prefix, Value, Text, FromCall, Declare, DeclareArray, Assign, Perform, Plain, Return, SourceUnit}
use Rattle.semantics.specs.declared.schedule.ScheduleWord.TheVariants.{Turn}
use Rattle.semantics.specs.World.{World}
use Rattle.world_values.specs.WorldLines.{NumberValue, NullValue, NamedObject, ClassLine, ArrayLine, StringLine, ThreadLine, Lines}
use Rattle.world_values.specs.WorldMeaning.{world_of}
use Rattle.world_values.specs.WorldRules.{IsWorldText}
use Rattle.test_equations.specs.Claims.{IsAccepted, IsWorkedRun}
use Rattle.test_equations.proofs.Programs.{unit_of, native, static_reference, reference_parameter, call, given}
use Rattle.test_equations.proofs.Computed.{opened, accepted, world-text, worked-run}

-- GetIntArrayRegion of more elements than the array of C has
-- JNIEXPORT void JNICALL Java_A_f(JNIEnv *env, jclass cls, jintArray a) {
-- jint x[1] = {0};
-- (*env)->GetIntArrayRegion(env, a, 0, 2, x);
-- return;
-- }
abbrev pub getintarrayregion_of_more_elements_than_the_array_of_c_has : SourceUnit
getintarrayregion_of_more_elements_than_the_array_of_c_has =
    unit_of
    (native 1 Void (codes "Java_A_f") (reference_parameter JIntArray (codes "a") ∷ [])
    (Plain 2 (DeclareArray JInt (codes "x") 1)
    ∷ Plain 3 (Perform (call (codes "GetIntArrayRegion") (given (codes "a") ∷ Value (Number 0 false) ∷ Value (Number 2 false) ∷ given (codes "x") ∷ [])))
    ∷ Return 4 None
    ∷ [])
    5
    ∷ [])

abbrev getintarrayregion_of_more_elements_than_the_array_of_c_has-lines : Lines
getintarrayregion_of_more_elements_than_the_array_of_c_has-lines =
    (2, ClassLine (codes "A") None)
    ∷ (3, ArrayLine (codes "a") JInt (NumberValue (pos 5) ∷ NumberValue (pos 6) ∷ []))
    ∷ (4, ThreadLine (codes "Java_A_f") (NamedObject (codes "a") ∷ []))
    ∷ []

abbrev getintarrayregion_of_more_elements_than_the_array_of_c_has-world : World
getintarrayregion_of_more_elements_than_the_array_of_c_has-world = world_of 1 512 getintarrayregion_of_more_elements_than_the_array_of_c_has-lines

getintarrayregion_of_more_elements_than_the_array_of_c_has-means : IsWorldText (codes "heap 512\nclass A\narray @a I 5 6\nthread Java_A_f @a\n") getintarrayregion_of_more_elements_than_the_array_of_c_has-world
unfolding opened
getintarrayregion_of_more_elements_than_the_array_of_c_has-means = world-text (codes "heap 512\nclass A\narray @a I 5 6\nthread Java_A_f @a\n") 512 false getintarrayregion_of_more_elements_than_the_array_of_c_has-lines 1 refl refl refl refl refl

getintarrayregion_of_more_elements_than_the_array_of_c_has-accepted : IsAccepted getintarrayregion_of_more_elements_than_the_array_of_c_has
unfolding opened
getintarrayregion_of_more_elements_than_the_array_of_c_has-accepted = accepted getintarrayregion_of_more_elements_than_the_array_of_c_has refl refl refl

getintarrayregion_of_more_elements_than_the_array_of_c_has-run : IsWorkedRun getintarrayregion_of_more_elements_than_the_array_of_c_has (codes "heap 512\nclass A\narray @a I 5 6\nthread Java_A_f @a\n") (codes "1*6\n")
    (codes "T1 trap 3 line 3\n#46 [I 5 6\njournal 1 1 1 1 1\n")
unfolding opened
getintarrayregion_of_more_elements_than_the_array_of_c_has-run = worked-run getintarrayregion_of_more_elements_than_the_array_of_c_has getintarrayregion_of_more_elements_than_the_array_of_c_has-world ((Turn 1, Some 6) ∷ []) [] getintarrayregion_of_more_elements_than_the_array_of_c_has-accepted getintarrayregion_of_more_elements_than_the_array_of_c_has-means refl refl refl refl

-- SetIntArrayRegion of more elements than the array of C has
-- JNIEXPORT void JNICALL Java_A_f(JNIEnv *env, jclass cls, jintArray a) {
-- jint x[1] = {0};
-- (*env)->SetIntArrayRegion(env, a, 0, 2, x);
-- return;
-- }
abbrev pub setintarrayregion_of_more_elements_than_the_array_of_c_has : SourceUnit
setintarrayregion_of_more_elements_than_the_array_of_c_has =
    unit_of
    (native 1 Void (codes "Java_A_f") (reference_parameter JIntArray (codes "a") ∷ [])
    (Plain 2 (DeclareArray JInt (codes "x") 1)
    ∷ Plain 3 (Perform (call (codes "SetIntArrayRegion") (given (codes "a") ∷ Value (Number 0 false) ∷ Value (Number 2 false) ∷ given (codes "x") ∷ [])))
    ∷ Return 4 None
    ∷ [])
    5
    ∷ [])

setintarrayregion_of_more_elements_than_the_array_of_c_has-accepted : IsAccepted setintarrayregion_of_more_elements_than_the_array_of_c_has
unfolding opened
setintarrayregion_of_more_elements_than_the_array_of_c_has-accepted = accepted setintarrayregion_of_more_elements_than_the_array_of_c_has refl refl refl

setintarrayregion_of_more_elements_than_the_array_of_c_has-run : IsWorkedRun setintarrayregion_of_more_elements_than_the_array_of_c_has (codes "heap 512\nclass A\narray @a I 5 6\nthread Java_A_f @a\n") (codes "1*6\n")
    (codes "T1 trap 3 line 3\n#46 [I 5 6\njournal 1 1 1 1 1\n")
unfolding opened
setintarrayregion_of_more_elements_than_the_array_of_c_has-run = worked-run setintarrayregion_of_more_elements_than_the_array_of_c_has getintarrayregion_of_more_elements_than_the_array_of_c_has-world ((Turn 1, Some 6) ∷ []) [] setintarrayregion_of_more_elements_than_the_array_of_c_has-accepted getintarrayregion_of_more_elements_than_the_array_of_c_has-means refl refl refl refl

-- GetShortArrayRegion of more elements than the array of C has
-- JNIEXPORT void JNICALL Java_A_f(JNIEnv *env, jclass cls, jshortArray a) {
-- jshort x[1] = {0};
-- (*env)->GetShortArrayRegion(env, a, 0, 2, x);
-- return;
-- }
abbrev pub getshortarrayregion_of_more_elements_than_the_array_of_c_has : SourceUnit
getshortarrayregion_of_more_elements_than_the_array_of_c_has =
    unit_of
    (native 1 Void (codes "Java_A_f") (reference_parameter JShortArray (codes "a") ∷ [])
    (Plain 2 (DeclareArray JShort (codes "x") 1)
    ∷ Plain 3 (Perform (call (codes "GetShortArrayRegion") (given (codes "a") ∷ Value (Number 0 false) ∷ Value (Number 2 false) ∷ given (codes "x") ∷ [])))
    ∷ Return 4 None
    ∷ [])
    5
    ∷ [])

abbrev getshortarrayregion_of_more_elements_than_the_array_of_c_has-lines : Lines
getshortarrayregion_of_more_elements_than_the_array_of_c_has-lines =
    (2, ClassLine (codes "A") None)
    ∷ (3, ArrayLine (codes "a") JShort (NumberValue (pos 5) ∷ NumberValue (pos 6) ∷ []))
    ∷ (4, ThreadLine (codes "Java_A_f") (NamedObject (codes "a") ∷ []))
    ∷ []

abbrev getshortarrayregion_of_more_elements_than_the_array_of_c_has-world : World
getshortarrayregion_of_more_elements_than_the_array_of_c_has-world = world_of 1 512 getshortarrayregion_of_more_elements_than_the_array_of_c_has-lines

getshortarrayregion_of_more_elements_than_the_array_of_c_has-means : IsWorldText (codes "heap 512\nclass A\narray @a S 5 6\nthread Java_A_f @a\n") getshortarrayregion_of_more_elements_than_the_array_of_c_has-world
unfolding opened
getshortarrayregion_of_more_elements_than_the_array_of_c_has-means = world-text (codes "heap 512\nclass A\narray @a S 5 6\nthread Java_A_f @a\n") 512 false getshortarrayregion_of_more_elements_than_the_array_of_c_has-lines 1 refl refl refl refl refl

getshortarrayregion_of_more_elements_than_the_array_of_c_has-accepted : IsAccepted getshortarrayregion_of_more_elements_than_the_array_of_c_has
unfolding opened
getshortarrayregion_of_more_elements_than_the_array_of_c_has-accepted = accepted getshortarrayregion_of_more_elements_than_the_array_of_c_has refl refl refl

getshortarrayregion_of_more_elements_than_the_array_of_c_has-run : IsWorkedRun getshortarrayregion_of_more_elements_than_the_array_of_c_has (codes "heap 512\nclass A\narray @a S 5 6\nthread Java_A_f @a\n") (codes "1*6\n")
    (codes "T1 trap 3 line 3\n#46 [S 5 6\njournal 1 1 1 1 1\n")
unfolding opened
getshortarrayregion_of_more_elements_than_the_array_of_c_has-run = worked-run getshortarrayregion_of_more_elements_than_the_array_of_c_has getshortarrayregion_of_more_elements_than_the_array_of_c_has-world ((Turn 1, Some 6) ∷ []) [] getshortarrayregion_of_more_elements_than_the_array_of_c_has-accepted getshortarrayregion_of_more_elements_than_the_array_of_c_has-means refl refl refl refl

-- SetShortArrayRegion of more elements than the array of C has
-- JNIEXPORT void JNICALL Java_A_f(JNIEnv *env, jclass cls, jshortArray a) {
-- jshort x[1] = {0};
-- (*env)->SetShortArrayRegion(env, a, 0, 2, x);
-- return;
-- }
abbrev pub setshortarrayregion_of_more_elements_than_the_array_of_c_has : SourceUnit
setshortarrayregion_of_more_elements_than_the_array_of_c_has =
    unit_of
    (native 1 Void (codes "Java_A_f") (reference_parameter JShortArray (codes "a") ∷ [])
    (Plain 2 (DeclareArray JShort (codes "x") 1)
    ∷ Plain 3 (Perform (call (codes "SetShortArrayRegion") (given (codes "a") ∷ Value (Number 0 false) ∷ Value (Number 2 false) ∷ given (codes "x") ∷ [])))
    ∷ Return 4 None
    ∷ [])
    5
    ∷ [])

setshortarrayregion_of_more_elements_than_the_array_of_c_has-accepted : IsAccepted setshortarrayregion_of_more_elements_than_the_array_of_c_has
unfolding opened
setshortarrayregion_of_more_elements_than_the_array_of_c_has-accepted = accepted setshortarrayregion_of_more_elements_than_the_array_of_c_has refl refl refl

setshortarrayregion_of_more_elements_than_the_array_of_c_has-run : IsWorkedRun setshortarrayregion_of_more_elements_than_the_array_of_c_has (codes "heap 512\nclass A\narray @a S 5 6\nthread Java_A_f @a\n") (codes "1*6\n")
    (codes "T1 trap 3 line 3\n#46 [S 5 6\njournal 1 1 1 1 1\n")
unfolding opened
setshortarrayregion_of_more_elements_than_the_array_of_c_has-run = worked-run setshortarrayregion_of_more_elements_than_the_array_of_c_has getshortarrayregion_of_more_elements_than_the_array_of_c_has-world ((Turn 1, Some 6) ∷ []) [] setshortarrayregion_of_more_elements_than_the_array_of_c_has-accepted getshortarrayregion_of_more_elements_than_the_array_of_c_has-means refl refl refl refl

-- SetByteArrayRegion of more elements than the array of C has
-- JNIEXPORT void JNICALL Java_A_f(JNIEnv *env, jclass cls, jbyteArray a) {
-- jbyte x[1] = {0};
-- (*env)->SetByteArrayRegion(env, a, 0, 2, x);
-- return;
-- }
abbrev pub setbytearrayregion_of_more_elements_than_the_array_of_c_has : SourceUnit
setbytearrayregion_of_more_elements_than_the_array_of_c_has =
    unit_of
    (native 1 Void (codes "Java_A_f") (reference_parameter JByteArray (codes "a") ∷ [])
    (Plain 2 (DeclareArray JByte (codes "x") 1)
    ∷ Plain 3 (Perform (call (codes "SetByteArrayRegion") (given (codes "a") ∷ Value (Number 0 false) ∷ Value (Number 2 false) ∷ given (codes "x") ∷ [])))
    ∷ Return 4 None
    ∷ [])
    5
    ∷ [])

abbrev setbytearrayregion_of_more_elements_than_the_array_of_c_has-lines : Lines
setbytearrayregion_of_more_elements_than_the_array_of_c_has-lines =
    (2, ClassLine (codes "A") None)
    ∷ (3, ArrayLine (codes "a") JByte (NumberValue (pos 5) ∷ NumberValue (pos 6) ∷ []))
    ∷ (4, ThreadLine (codes "Java_A_f") (NamedObject (codes "a") ∷ []))
    ∷ []

abbrev setbytearrayregion_of_more_elements_than_the_array_of_c_has-world : World
setbytearrayregion_of_more_elements_than_the_array_of_c_has-world = world_of 1 512 setbytearrayregion_of_more_elements_than_the_array_of_c_has-lines

setbytearrayregion_of_more_elements_than_the_array_of_c_has-means : IsWorldText (codes "heap 512\nclass A\narray @a B 5 6\nthread Java_A_f @a\n") setbytearrayregion_of_more_elements_than_the_array_of_c_has-world
unfolding opened
setbytearrayregion_of_more_elements_than_the_array_of_c_has-means = world-text (codes "heap 512\nclass A\narray @a B 5 6\nthread Java_A_f @a\n") 512 false setbytearrayregion_of_more_elements_than_the_array_of_c_has-lines 1 refl refl refl refl refl

setbytearrayregion_of_more_elements_than_the_array_of_c_has-accepted : IsAccepted setbytearrayregion_of_more_elements_than_the_array_of_c_has
unfolding opened
setbytearrayregion_of_more_elements_than_the_array_of_c_has-accepted = accepted setbytearrayregion_of_more_elements_than_the_array_of_c_has refl refl refl

setbytearrayregion_of_more_elements_than_the_array_of_c_has-run : IsWorkedRun setbytearrayregion_of_more_elements_than_the_array_of_c_has (codes "heap 512\nclass A\narray @a B 5 6\nthread Java_A_f @a\n") (codes "1*6\n")
    (codes "T1 trap 3 line 3\n#46 [B 5 6\njournal 1 1 1 1 1\n")
unfolding opened
setbytearrayregion_of_more_elements_than_the_array_of_c_has-run = worked-run setbytearrayregion_of_more_elements_than_the_array_of_c_has setbytearrayregion_of_more_elements_than_the_array_of_c_has-world ((Turn 1, Some 6) ∷ []) [] setbytearrayregion_of_more_elements_than_the_array_of_c_has-accepted setbytearrayregion_of_more_elements_than_the_array_of_c_has-means refl refl refl refl

-- GetCharArrayRegion of more elements than the array of C has
-- JNIEXPORT void JNICALL Java_A_f(JNIEnv *env, jclass cls, jcharArray a) {
-- jchar x[1] = {0};
-- (*env)->GetCharArrayRegion(env, a, 0, 2, x);
-- return;
-- }
abbrev pub getchararrayregion_of_more_elements_than_the_array_of_c_has : SourceUnit
getchararrayregion_of_more_elements_than_the_array_of_c_has =
    unit_of
    (native 1 Void (codes "Java_A_f") (reference_parameter JCharArray (codes "a") ∷ [])
    (Plain 2 (DeclareArray JChar (codes "x") 1)
    ∷ Plain 3 (Perform (call (codes "GetCharArrayRegion") (given (codes "a") ∷ Value (Number 0 false) ∷ Value (Number 2 false) ∷ given (codes "x") ∷ [])))
    ∷ Return 4 None
    ∷ [])
    5
    ∷ [])

abbrev getchararrayregion_of_more_elements_than_the_array_of_c_has-lines : Lines
getchararrayregion_of_more_elements_than_the_array_of_c_has-lines =
    (2, ClassLine (codes "A") None)
    ∷ (3, ArrayLine (codes "a") JChar (NumberValue (pos 5) ∷ NumberValue (pos 6) ∷ []))
    ∷ (4, ThreadLine (codes "Java_A_f") (NamedObject (codes "a") ∷ []))
    ∷ []

abbrev getchararrayregion_of_more_elements_than_the_array_of_c_has-world : World
getchararrayregion_of_more_elements_than_the_array_of_c_has-world = world_of 1 512 getchararrayregion_of_more_elements_than_the_array_of_c_has-lines

getchararrayregion_of_more_elements_than_the_array_of_c_has-means : IsWorldText (codes "heap 512\nclass A\narray @a C 5 6\nthread Java_A_f @a\n") getchararrayregion_of_more_elements_than_the_array_of_c_has-world
unfolding opened
getchararrayregion_of_more_elements_than_the_array_of_c_has-means = world-text (codes "heap 512\nclass A\narray @a C 5 6\nthread Java_A_f @a\n") 512 false getchararrayregion_of_more_elements_than_the_array_of_c_has-lines 1 refl refl refl refl refl

getchararrayregion_of_more_elements_than_the_array_of_c_has-accepted : IsAccepted getchararrayregion_of_more_elements_than_the_array_of_c_has
unfolding opened
getchararrayregion_of_more_elements_than_the_array_of_c_has-accepted = accepted getchararrayregion_of_more_elements_than_the_array_of_c_has refl refl refl

getchararrayregion_of_more_elements_than_the_array_of_c_has-run : IsWorkedRun getchararrayregion_of_more_elements_than_the_array_of_c_has (codes "heap 512\nclass A\narray @a C 5 6\nthread Java_A_f @a\n") (codes "1*6\n")
    (codes "T1 trap 3 line 3\n#46 [C 5 6\njournal 1 1 1 1 1\n")
unfolding opened
getchararrayregion_of_more_elements_than_the_array_of_c_has-run = worked-run getchararrayregion_of_more_elements_than_the_array_of_c_has getchararrayregion_of_more_elements_than_the_array_of_c_has-world ((Turn 1, Some 6) ∷ []) [] getchararrayregion_of_more_elements_than_the_array_of_c_has-accepted getchararrayregion_of_more_elements_than_the_array_of_c_has-means refl refl refl refl

-- SetCharArrayRegion of more elements than the array of C has
-- JNIEXPORT void JNICALL Java_A_f(JNIEnv *env, jclass cls, jcharArray a) {
-- jchar x[1] = {0};
-- (*env)->SetCharArrayRegion(env, a, 0, 2, x);
-- return;
-- }
abbrev pub setchararrayregion_of_more_elements_than_the_array_of_c_has : SourceUnit
setchararrayregion_of_more_elements_than_the_array_of_c_has =
    unit_of
    (native 1 Void (codes "Java_A_f") (reference_parameter JCharArray (codes "a") ∷ [])
    (Plain 2 (DeclareArray JChar (codes "x") 1)
    ∷ Plain 3 (Perform (call (codes "SetCharArrayRegion") (given (codes "a") ∷ Value (Number 0 false) ∷ Value (Number 2 false) ∷ given (codes "x") ∷ [])))
    ∷ Return 4 None
    ∷ [])
    5
    ∷ [])

setchararrayregion_of_more_elements_than_the_array_of_c_has-accepted : IsAccepted setchararrayregion_of_more_elements_than_the_array_of_c_has
unfolding opened
setchararrayregion_of_more_elements_than_the_array_of_c_has-accepted = accepted setchararrayregion_of_more_elements_than_the_array_of_c_has refl refl refl

setchararrayregion_of_more_elements_than_the_array_of_c_has-run : IsWorkedRun setchararrayregion_of_more_elements_than_the_array_of_c_has (codes "heap 512\nclass A\narray @a C 5 6\nthread Java_A_f @a\n") (codes "1*6\n")
    (codes "T1 trap 3 line 3\n#46 [C 5 6\njournal 1 1 1 1 1\n")
unfolding opened
setchararrayregion_of_more_elements_than_the_array_of_c_has-run = worked-run setchararrayregion_of_more_elements_than_the_array_of_c_has getchararrayregion_of_more_elements_than_the_array_of_c_has-world ((Turn 1, Some 6) ∷ []) [] setchararrayregion_of_more_elements_than_the_array_of_c_has-accepted getchararrayregion_of_more_elements_than_the_array_of_c_has-means refl refl refl refl

-- GetStringRegion of more characters than the array of C has
-- JNIEXPORT void JNICALL Java_A_f(JNIEnv *env, jclass cls, jstring s) {
-- jchar x[1] = {0};
-- (*env)->GetStringRegion(env, s, 0, 2, x);
-- return;
-- }
abbrev pub getstringregion_of_more_characters_than_the_array_of_c_has : SourceUnit
getstringregion_of_more_characters_than_the_array_of_c_has =
    unit_of
    (native 1 Void (codes "Java_A_f") (reference_parameter JString (codes "s") ∷ [])
    (Plain 2 (DeclareArray JChar (codes "x") 1)
    ∷ Plain 3 (Perform (call (codes "GetStringRegion") (given (codes "s") ∷ Value (Number 0 false) ∷ Value (Number 2 false) ∷ given (codes "x") ∷ [])))
    ∷ Return 4 None
    ∷ [])
    5
    ∷ [])

abbrev getstringregion_of_more_characters_than_the_array_of_c_has-lines : Lines
getstringregion_of_more_characters_than_the_array_of_c_has-lines =
    (2, ClassLine (codes "A") None)
    ∷ (3, StringLine (codes "s") (codes "hi"))
    ∷ (4, ThreadLine (codes "Java_A_f") (NamedObject (codes "s") ∷ []))
    ∷ []

abbrev getstringregion_of_more_characters_than_the_array_of_c_has-world : World
getstringregion_of_more_characters_than_the_array_of_c_has-world = world_of 1 512 getstringregion_of_more_characters_than_the_array_of_c_has-lines

getstringregion_of_more_characters_than_the_array_of_c_has-means : IsWorldText (codes "heap 512\nclass A\nstring @s hi\nthread Java_A_f @s\n") getstringregion_of_more_characters_than_the_array_of_c_has-world
unfolding opened
getstringregion_of_more_characters_than_the_array_of_c_has-means = world-text (codes "heap 512\nclass A\nstring @s hi\nthread Java_A_f @s\n") 512 false getstringregion_of_more_characters_than_the_array_of_c_has-lines 1 refl refl refl refl refl

getstringregion_of_more_characters_than_the_array_of_c_has-accepted : IsAccepted getstringregion_of_more_characters_than_the_array_of_c_has
unfolding opened
getstringregion_of_more_characters_than_the_array_of_c_has-accepted = accepted getstringregion_of_more_characters_than_the_array_of_c_has refl refl refl

getstringregion_of_more_characters_than_the_array_of_c_has-run : IsWorkedRun getstringregion_of_more_characters_than_the_array_of_c_has (codes "heap 512\nclass A\nstring @s hi\nthread Java_A_f @s\n") (codes "1*6\n")
    (codes "T1 trap 3 line 3\n#46 java/lang/String 104 105\njournal 1 1 1 1 1\n")
unfolding opened
getstringregion_of_more_characters_than_the_array_of_c_has-run = worked-run getstringregion_of_more_characters_than_the_array_of_c_has getstringregion_of_more_characters_than_the_array_of_c_has-world ((Turn 1, Some 6) ∷ []) [] getstringregion_of_more_characters_than_the_array_of_c_has-accepted getstringregion_of_more_characters_than_the_array_of_c_has-means refl refl refl refl

-- a pending exception is told before a deleted static
-- static jintArray g = NULL;
-- JNIEXPORT void JNICALL Java_A_f(JNIEnv *env, jclass cls) {
-- jint x[1] = {0};
-- g = (*env)->NewGlobalRef(env, cls);
-- (*env)->DeleteGlobalRef(env, g);
-- jclass c = (*env)->FindClass(env, "B");
-- (*env)->GetIntArrayRegion(env, g, 0, 2, x);
-- return;
-- }
abbrev pub a_pending_exception_is_told_before_a_deleted_static : SourceUnit
a_pending_exception_is_told_before_a_deleted_static =
    unit_of
    (static_reference 1 JIntArray (codes "g")
    ∷ native 2 Void (codes "Java_A_f") []
    (Plain 3 (DeclareArray JInt (codes "x") 1)
    ∷ Plain 4 (Assign (codes "g") (FromCall (call (codes "NewGlobalRef") (given (codes "cls") ∷ []))))
    ∷ Plain 5 (Perform (call (codes "DeleteGlobalRef") (given (codes "g") ∷ [])))
    ∷ Plain 6 (Declare (Simple (ReferenceVariable JClass)) (codes "c") (FromCall (call (codes "FindClass") (Text (codes "B") ∷ []))))
    ∷ Plain 7 (Perform (call (codes "GetIntArrayRegion") (given (codes "g") ∷ Value (Number 0 false) ∷ Value (Number 2 false) ∷ given (codes "x") ∷ [])))
    ∷ Return 8 None
    ∷ [])
    9
    ∷ [])

abbrev a_pending_exception_is_told_before_a_deleted_static-lines : Lines
a_pending_exception_is_told_before_a_deleted_static-lines =
    (2, ClassLine (codes "A") None)
    ∷ (3, ThreadLine (codes "Java_A_f") [])
    ∷ []

abbrev a_pending_exception_is_told_before_a_deleted_static-world : World
a_pending_exception_is_told_before_a_deleted_static-world = world_of 1 512 a_pending_exception_is_told_before_a_deleted_static-lines

a_pending_exception_is_told_before_a_deleted_static-means : IsWorldText (codes "heap 512\nclass A\nthread Java_A_f\n") a_pending_exception_is_told_before_a_deleted_static-world
unfolding opened
a_pending_exception_is_told_before_a_deleted_static-means = world-text (codes "heap 512\nclass A\nthread Java_A_f\n") 512 false a_pending_exception_is_told_before_a_deleted_static-lines 1 refl refl refl refl refl

a_pending_exception_is_told_before_a_deleted_static-accepted : IsAccepted a_pending_exception_is_told_before_a_deleted_static
unfolding opened
a_pending_exception_is_told_before_a_deleted_static-accepted = accepted a_pending_exception_is_told_before_a_deleted_static refl refl refl

a_pending_exception_is_told_before_a_deleted_static-run : IsWorkedRun a_pending_exception_is_told_before_a_deleted_static (codes "heap 512\nclass A\nthread Java_A_f\n") (codes "1*9\n")
    (codes "T1 trap 5 line 7\n#46 java/lang/NoClassDefFoundError null\njournal 1 1 1 1 1 1 1 1\n")
unfolding opened
a_pending_exception_is_told_before_a_deleted_static-run = worked-run a_pending_exception_is_told_before_a_deleted_static a_pending_exception_is_told_before_a_deleted_static-world ((Turn 1, Some 9) ∷ []) [] a_pending_exception_is_told_before_a_deleted_static-accepted a_pending_exception_is_told_before_a_deleted_static-means refl refl refl refl

-- a deleted static is told before an index that is past the end
-- static jshortArray g = NULL;
-- JNIEXPORT void JNICALL Java_A_f(JNIEnv *env, jclass cls, jshortArray a) {
-- jshort x[1] = {0};
-- g = (*env)->NewGlobalRef(env, a);
-- (*env)->DeleteGlobalRef(env, g);
-- (*env)->SetShortArrayRegion(env, g, 2, 2, x);
-- return;
-- }
abbrev pub a_deleted_static_is_told_before_an_index_that_is_past_the_end : SourceUnit
a_deleted_static_is_told_before_an_index_that_is_past_the_end =
    unit_of
    (static_reference 1 JShortArray (codes "g")
    ∷ native 2 Void (codes "Java_A_f") (reference_parameter JShortArray (codes "a") ∷ [])
    (Plain 3 (DeclareArray JShort (codes "x") 1)
    ∷ Plain 4 (Assign (codes "g") (FromCall (call (codes "NewGlobalRef") (given (codes "a") ∷ []))))
    ∷ Plain 5 (Perform (call (codes "DeleteGlobalRef") (given (codes "g") ∷ [])))
    ∷ Plain 6 (Perform (call (codes "SetShortArrayRegion") (given (codes "g") ∷ Value (Number 2 false) ∷ Value (Number 2 false) ∷ given (codes "x") ∷ [])))
    ∷ Return 7 None
    ∷ [])
    8
    ∷ [])

a_deleted_static_is_told_before_an_index_that_is_past_the_end-accepted : IsAccepted a_deleted_static_is_told_before_an_index_that_is_past_the_end
unfolding opened
a_deleted_static_is_told_before_an_index_that_is_past_the_end-accepted = accepted a_deleted_static_is_told_before_an_index_that_is_past_the_end refl refl refl

a_deleted_static_is_told_before_an_index_that_is_past_the_end-run : IsWorkedRun a_deleted_static_is_told_before_an_index_that_is_past_the_end (codes "heap 512\nclass A\narray @a S 5 6\nthread Java_A_f @a\n") (codes "1*8\n")
    (codes "T1 trap 7 line 6\n#46 [S 5 6\njournal 1 1 1 1 1 1 1\n")
unfolding opened
a_deleted_static_is_told_before_an_index_that_is_past_the_end-run = worked-run a_deleted_static_is_told_before_an_index_that_is_past_the_end getshortarrayregion_of_more_elements_than_the_array_of_c_has-world ((Turn 1, Some 8) ∷ []) [] a_deleted_static_is_told_before_an_index_that_is_past_the_end-accepted getshortarrayregion_of_more_elements_than_the_array_of_c_has-means refl refl refl refl

-- an array that is NULL is told before an index below zero
-- JNIEXPORT void JNICALL Java_A_f(JNIEnv *env, jclass cls, jbyteArray a) {
-- jbyte x[1] = {0};
-- (*env)->GetByteArrayRegion(env, a, (jint)~0u, 1, x);
-- return;
-- }
abbrev pub an_array_that_is_null_is_told_before_an_index_below_zero : SourceUnit
an_array_that_is_null_is_told_before_an_index_below_zero =
    unit_of
    (native 1 Void (codes "Java_A_f") (reference_parameter JByteArray (codes "a") ∷ [])
    (Plain 2 (DeclareArray JByte (codes "x") 1)
    ∷ Plain 3 (Perform (call (codes "GetByteArrayRegion") (given (codes "a") ∷ Value (Prefix ToInt (Prefix Complement (Number 0 true))) ∷ Value (Number 1 false) ∷ given (codes "x") ∷ [])))
    ∷ Return 4 None
    ∷ [])
    5
    ∷ [])

abbrev an_array_that_is_null_is_told_before_an_index_below_zero-lines : Lines
an_array_that_is_null_is_told_before_an_index_below_zero-lines =
    (2, ClassLine (codes "A") None)
    ∷ (3, ThreadLine (codes "Java_A_f") (NullValue ∷ []))
    ∷ []

abbrev an_array_that_is_null_is_told_before_an_index_below_zero-world : World
an_array_that_is_null_is_told_before_an_index_below_zero-world = world_of 1 512 an_array_that_is_null_is_told_before_an_index_below_zero-lines

an_array_that_is_null_is_told_before_an_index_below_zero-means : IsWorldText (codes "heap 512\nclass A\nthread Java_A_f null\n") an_array_that_is_null_is_told_before_an_index_below_zero-world
unfolding opened
an_array_that_is_null_is_told_before_an_index_below_zero-means = world-text (codes "heap 512\nclass A\nthread Java_A_f null\n") 512 false an_array_that_is_null_is_told_before_an_index_below_zero-lines 1 refl refl refl refl refl

an_array_that_is_null_is_told_before_an_index_below_zero-accepted : IsAccepted an_array_that_is_null_is_told_before_an_index_below_zero
unfolding opened
an_array_that_is_null_is_told_before_an_index_below_zero-accepted = accepted an_array_that_is_null_is_told_before_an_index_below_zero refl refl refl

an_array_that_is_null_is_told_before_an_index_below_zero-run : IsWorkedRun an_array_that_is_null_is_told_before_an_index_below_zero (codes "heap 512\nclass A\nthread Java_A_f null\n") (codes "1*8\n")
    (codes "T1 trap 4 line 3\njournal 1 1 1 1 1 1 1\n")
unfolding opened
an_array_that_is_null_is_told_before_an_index_below_zero-run = worked-run an_array_that_is_null_is_told_before_an_index_below_zero an_array_that_is_null_is_told_before_an_index_below_zero-world ((Turn 1, Some 8) ∷ []) [] an_array_that_is_null_is_told_before_an_index_below_zero-accepted an_array_that_is_null_is_told_before_an_index_below_zero-means refl refl refl refl

-- a string that is NULL
-- JNIEXPORT void JNICALL Java_A_f(JNIEnv *env, jclass cls) {
-- jchar x[1] = {0};
-- (*env)->GetStringRegion(env, NULL, 0, 2, x);
-- return;
-- }
abbrev pub a_string_that_is_null : SourceUnit
a_string_that_is_null =
    unit_of
    (native 1 Void (codes "Java_A_f") []
    (Plain 2 (DeclareArray JChar (codes "x") 1)
    ∷ Plain 3 (Perform (call (codes "GetStringRegion") (Value (Named Null) ∷ Value (Number 0 false) ∷ Value (Number 2 false) ∷ given (codes "x") ∷ [])))
    ∷ Return 4 None
    ∷ [])
    5
    ∷ [])

a_string_that_is_null-accepted : IsAccepted a_string_that_is_null
unfolding opened
a_string_that_is_null-accepted = accepted a_string_that_is_null refl refl refl

a_string_that_is_null-run : IsWorkedRun a_string_that_is_null (codes "heap 512\nclass A\nthread Java_A_f\n") (codes "1*6\n")
    (codes "T1 trap 4 line 3\njournal 1 1 1 1 1\n")
unfolding opened
a_string_that_is_null-run = worked-run a_string_that_is_null a_pending_exception_is_told_before_a_deleted_static-world ((Turn 1, Some 6) ∷ []) [] a_string_that_is_null-accepted a_pending_exception_is_told_before_a_deleted_static-means refl refl refl refl

-- an array of another type is told before an index that is past the end
-- JNIEXPORT void JNICALL Java_A_f(JNIEnv *env, jclass cls, jobject a) {
-- jchar x[1] = {0};
-- (*env)->SetCharArrayRegion(env, a, 3, 2, x);
-- return;
-- }
abbrev pub an_array_of_another_type_is_told_before_an_index_that_is_past_the_end : SourceUnit
an_array_of_another_type_is_told_before_an_index_that_is_past_the_end =
    unit_of
    (native 1 Void (codes "Java_A_f") (reference_parameter JObject (codes "a") ∷ [])
    (Plain 2 (DeclareArray JChar (codes "x") 1)
    ∷ Plain 3 (Perform (call (codes "SetCharArrayRegion") (given (codes "a") ∷ Value (Number 3 false) ∷ Value (Number 2 false) ∷ given (codes "x") ∷ [])))
    ∷ Return 4 None
    ∷ [])
    5
    ∷ [])

an_array_of_another_type_is_told_before_an_index_that_is_past_the_end-accepted : IsAccepted an_array_of_another_type_is_told_before_an_index_that_is_past_the_end
unfolding opened
an_array_of_another_type_is_told_before_an_index_that_is_past_the_end-accepted = accepted an_array_of_another_type_is_told_before_an_index_that_is_past_the_end refl refl refl

an_array_of_another_type_is_told_before_an_index_that_is_past_the_end-run : IsWorkedRun an_array_of_another_type_is_told_before_an_index_that_is_past_the_end (codes "heap 512\nclass A\narray @a S 5 6\nthread Java_A_f @a\n") (codes "1*6\n")
    (codes "T1 trap 6 line 3\n#46 [S 5 6\njournal 1 1 1 1 1\n")
unfolding opened
an_array_of_another_type_is_told_before_an_index_that_is_past_the_end-run = worked-run an_array_of_another_type_is_told_before_an_index_that_is_past_the_end getshortarrayregion_of_more_elements_than_the_array_of_c_has-world ((Turn 1, Some 6) ∷ []) [] an_array_of_another_type_is_told_before_an_index_that_is_past_the_end-accepted getshortarrayregion_of_more_elements_than_the_array_of_c_has-means refl refl refl refl

-- a string is no array of characters
-- JNIEXPORT void JNICALL Java_A_f(JNIEnv *env, jclass cls, jobject s) {
-- jchar x[2] = {0};
-- (*env)->GetCharArrayRegion(env, s, 0, 2, x);
-- return;
-- }
abbrev pub a_string_is_no_array_of_characters : SourceUnit
a_string_is_no_array_of_characters =
    unit_of
    (native 1 Void (codes "Java_A_f") (reference_parameter JObject (codes "s") ∷ [])
    (Plain 2 (DeclareArray JChar (codes "x") 2)
    ∷ Plain 3 (Perform (call (codes "GetCharArrayRegion") (given (codes "s") ∷ Value (Number 0 false) ∷ Value (Number 2 false) ∷ given (codes "x") ∷ [])))
    ∷ Return 4 None
    ∷ [])
    5
    ∷ [])

a_string_is_no_array_of_characters-accepted : IsAccepted a_string_is_no_array_of_characters
unfolding opened
a_string_is_no_array_of_characters-accepted = accepted a_string_is_no_array_of_characters refl refl refl

a_string_is_no_array_of_characters-run : IsWorkedRun a_string_is_no_array_of_characters (codes "heap 512\nclass A\nstring @s hi\nthread Java_A_f @s\n") (codes "1*6\n")
    (codes "T1 trap 6 line 3\n#46 java/lang/String 104 105\njournal 1 1 1 1 1\n")
unfolding opened
a_string_is_no_array_of_characters-run = worked-run a_string_is_no_array_of_characters getstringregion_of_more_characters_than_the_array_of_c_has-world ((Turn 1, Some 6) ∷ []) [] a_string_is_no_array_of_characters-accepted getstringregion_of_more_characters_than_the_array_of_c_has-means refl refl refl refl

-- an array of characters is no string, which is told before an index past the end
-- JNIEXPORT void JNICALL Java_A_f(JNIEnv *env, jclass cls, jobject a) {
-- jchar x[1] = {0};
-- (*env)->GetStringRegion(env, a, 3, 2, x);
-- return;
-- }
abbrev pub an_array_of_characters_is_no_string_which_is_told_before_an_index_past_the_end : SourceUnit
an_array_of_characters_is_no_string_which_is_told_before_an_index_past_the_end =
    unit_of
    (native 1 Void (codes "Java_A_f") (reference_parameter JObject (codes "a") ∷ [])
    (Plain 2 (DeclareArray JChar (codes "x") 1)
    ∷ Plain 3 (Perform (call (codes "GetStringRegion") (given (codes "a") ∷ Value (Number 3 false) ∷ Value (Number 2 false) ∷ given (codes "x") ∷ [])))
    ∷ Return 4 None
    ∷ [])
    5
    ∷ [])

an_array_of_characters_is_no_string_which_is_told_before_an_index_past_the_end-accepted : IsAccepted an_array_of_characters_is_no_string_which_is_told_before_an_index_past_the_end
unfolding opened
an_array_of_characters_is_no_string_which_is_told_before_an_index_past_the_end-accepted = accepted an_array_of_characters_is_no_string_which_is_told_before_an_index_past_the_end refl refl refl

an_array_of_characters_is_no_string_which_is_told_before_an_index_past_the_end-run : IsWorkedRun an_array_of_characters_is_no_string_which_is_told_before_an_index_past_the_end (codes "heap 512\nclass A\narray @a C 5 6\nthread Java_A_f @a\n") (codes "1*6\n")
    (codes "T1 trap 6 line 3\n#46 [C 5 6\njournal 1 1 1 1 1\n")
unfolding opened
an_array_of_characters_is_no_string_which_is_told_before_an_index_past_the_end-run = worked-run an_array_of_characters_is_no_string_which_is_told_before_an_index_past_the_end getchararrayregion_of_more_elements_than_the_array_of_c_has-world ((Turn 1, Some 6) ∷ []) [] an_array_of_characters_is_no_string_which_is_told_before_an_index_past_the_end-accepted getchararrayregion_of_more_elements_than_the_array_of_c_has-means refl refl refl refl
