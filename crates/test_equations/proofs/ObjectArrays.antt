-- The cases of texts/object_arrays.cases, as gate/worked_equations writes them.
use Rattle.std.specs.Prelude.{◌∷◌, pos, true, false, [], Some, None, codes, refl}
use Rattle.base.specs.declared.element.ElementType.TheVariants.{Int as JInt}
use Rattle.syntax.specs.declared.declared_type.ReferenceType.TheVariants.{Object as JObject, Class as JClass, IntArray as JIntArray, ObjectArray as JObjectArray}
use Rattle.syntax.specs.declared.declared_type.VariableType.TheVariants.{Jint as JIntVariable, Jboolean as JBoolean, Reference as ReferenceVariable}
use Rattle.syntax.specs.declared.declared_type.DeclaredType.TheVariants.{Simple}
use Rattle.syntax.specs.declared.unit.ResultType.TheVariants.{Void}
use Rattle.syntax.specs.declared.expr.Constant.TheVariants.{Null}
use Rattle.syntax.specs.declared.expr.PrefixOp.TheVariants.{Complement, ToInt}
use Rattle.syntax.specs.declared.expr.BinaryOp.TheVariants.{Equal}
use Rattle.syntax.specs.Tree.{Number, Named, Variable, Prefix, Binary, Value, Text, FromCall, TestExpr, Declare, Perform, PutJint, Plain, If, NoElse, Return, SourceUnit}
use Rattle.semantics.specs.declared.schedule.ScheduleWord.TheVariants.{Turn}
use Rattle.semantics.specs.World.{World}
use Rattle.world_values.specs.WorldLines.{NumberValue, NullValue, NamedObject, ClassLine, ObjectLine, ObjectsLine, ArrayLine, ThreadLine, Lines}
use Rattle.world_values.specs.WorldMeaning.{world_of}
use Rattle.world_values.specs.WorldRules.{IsWorldText}
use Rattle.test_equations.specs.Claims.{IsAccepted, IsWorkedRun}
use Rattle.test_equations.proofs.Programs.{unit_of, native, block, reference_parameter, call, given}
use Rattle.test_equations.proofs.Computed.{opened, accepted, world-text, worked-run}

-- an array of objects
-- JNIEXPORT void JNICALL Java_A_f(JNIEnv *env, jclass cls, jobject o) {
-- jobjectArray a = (*env)->NewObjectArray(env, 3, cls, o);
-- jobject x = (*env)->AllocObject(env, cls);
-- (*env)->SetObjectArrayElement(env, a, 1, x);
-- (*env)->SetObjectArrayElement(env, a, 2, NULL);
-- jobject y = (*env)->GetObjectArrayElement(env, a, 1);
-- jboolean same = (*env)->IsSameObject(env, x, y);
-- put_jint((jint)same);
-- jint n = (*env)->GetArrayLength(env, a);
-- put_jint(n);
-- return;
-- }
abbrev pub an_array_of_objects : SourceUnit
an_array_of_objects =
    unit_of
    (native 1 Void (codes "Java_A_f") (reference_parameter JObject (codes "o") ∷ [])
    (Plain 2 (Declare (Simple (ReferenceVariable JObjectArray)) (codes "a") (FromCall (call (codes "NewObjectArray") (Value (Number 3 false) ∷ given (codes "cls") ∷ given (codes "o") ∷ []))))
    ∷ Plain 3 (Declare (Simple (ReferenceVariable JObject)) (codes "x") (FromCall (call (codes "AllocObject") (given (codes "cls") ∷ []))))
    ∷ Plain 4 (Perform (call (codes "SetObjectArrayElement") (given (codes "a") ∷ Value (Number 1 false) ∷ given (codes "x") ∷ [])))
    ∷ Plain 5 (Perform (call (codes "SetObjectArrayElement") (given (codes "a") ∷ Value (Number 2 false) ∷ Value (Named Null) ∷ [])))
    ∷ Plain 6 (Declare (Simple (ReferenceVariable JObject)) (codes "y") (FromCall (call (codes "GetObjectArrayElement") (given (codes "a") ∷ Value (Number 1 false) ∷ []))))
    ∷ Plain 7 (Declare (Simple JBoolean) (codes "same") (FromCall (call (codes "IsSameObject") (given (codes "x") ∷ given (codes "y") ∷ []))))
    ∷ Plain 8 (PutJint (Prefix ToInt (Variable (codes "same"))))
    ∷ Plain 9 (Declare (Simple JIntVariable) (codes "n") (FromCall (call (codes "GetArrayLength") (given (codes "a") ∷ []))))
    ∷ Plain 10 (PutJint (Variable (codes "n")))
    ∷ Return 11 None
    ∷ [])
    12
    ∷ [])

abbrev an_array_of_objects-lines : Lines
an_array_of_objects-lines =
    (2, ClassLine (codes "A") None)
    ∷ (3, ObjectLine (codes "o") (codes "A") [])
    ∷ (4, ThreadLine (codes "Java_A_f") (NamedObject (codes "o") ∷ []))
    ∷ []

abbrev an_array_of_objects-world : World
an_array_of_objects-world = world_of 1 512 an_array_of_objects-lines

an_array_of_objects-means : IsWorldText (codes "heap 512\nclass A\nobject @o A\nthread Java_A_f @o\n") an_array_of_objects-world
unfolding opened
an_array_of_objects-means = world-text (codes "heap 512\nclass A\nobject @o A\nthread Java_A_f @o\n") 512 false an_array_of_objects-lines 1 refl refl refl refl refl

an_array_of_objects-accepted : IsAccepted an_array_of_objects
unfolding opened
an_array_of_objects-accepted = accepted an_array_of_objects refl refl refl

an_array_of_objects-run : IsWorkedRun an_array_of_objects (codes "heap 512\nclass A\nobject @o A\nthread Java_A_f @o\n") (codes "1*15\n")
    (codes "T1 1\nT1 running\n#46 A\n#47 [LA; #46 #48 null\n#48 A\njournal 1 1 1 1 1 1 1 1 1 1 1 1 1 1 1\n")
unfolding opened
an_array_of_objects-run = worked-run an_array_of_objects an_array_of_objects-world ((Turn 1, Some 15) ∷ []) [] an_array_of_objects-accepted an_array_of_objects-means refl refl refl refl

-- an index past the end of an array of objects
-- JNIEXPORT void JNICALL Java_A_f(JNIEnv *env, jclass cls, jobjectArray a) {
-- jobject x = (*env)->GetObjectArrayElement(env, a, 2);
-- if (x == NULL) { (*env)->ExceptionClear(env); }
-- (*env)->SetObjectArrayElement(env, a, (jint)~0u, NULL);
-- return;
-- }
abbrev pub an_index_past_the_end_of_an_array_of_objects : SourceUnit
an_index_past_the_end_of_an_array_of_objects =
    unit_of
    (native 1 Void (codes "Java_A_f") (reference_parameter JObjectArray (codes "a") ∷ [])
    (Plain 2 (Declare (Simple (ReferenceVariable JObject)) (codes "x") (FromCall (call (codes "GetObjectArrayElement") (given (codes "a") ∷ Value (Number 2 false) ∷ []))))
    ∷ If 3 (TestExpr (Binary Equal (Variable (codes "x")) (Named Null)))
    (block
    (Plain 3 (Perform (call (codes "ExceptionClear") []))
    ∷ [])
    3)
    NoElse
    ∷ Plain 4 (Perform (call (codes "SetObjectArrayElement") (given (codes "a") ∷ Value (Prefix ToInt (Prefix Complement (Number 0 true))) ∷ Value (Named Null) ∷ [])))
    ∷ Return 5 None
    ∷ [])
    6
    ∷ [])

abbrev an_index_past_the_end_of_an_array_of_objects-lines : Lines
an_index_past_the_end_of_an_array_of_objects-lines =
    (2, ClassLine (codes "A") None)
    ∷ (3, ObjectLine (codes "o") (codes "A") [])
    ∷ (4, ObjectsLine (codes "a") (codes "A") (NamedObject (codes "o") ∷ NullValue ∷ []))
    ∷ (5, ThreadLine (codes "Java_A_f") (NamedObject (codes "a") ∷ []))
    ∷ []

abbrev an_index_past_the_end_of_an_array_of_objects-world : World
an_index_past_the_end_of_an_array_of_objects-world = world_of 1 512 an_index_past_the_end_of_an_array_of_objects-lines

an_index_past_the_end_of_an_array_of_objects-means : IsWorldText (codes "heap 512\nclass A\nobject @o A\nobjects @a A @o null\nthread Java_A_f @a\n") an_index_past_the_end_of_an_array_of_objects-world
unfolding opened
an_index_past_the_end_of_an_array_of_objects-means = world-text (codes "heap 512\nclass A\nobject @o A\nobjects @a A @o null\nthread Java_A_f @a\n") 512 false an_index_past_the_end_of_an_array_of_objects-lines 1 refl refl refl refl refl

an_index_past_the_end_of_an_array_of_objects-accepted : IsAccepted an_index_past_the_end_of_an_array_of_objects
unfolding opened
an_index_past_the_end_of_an_array_of_objects-accepted = accepted an_index_past_the_end_of_an_array_of_objects refl refl refl

an_index_past_the_end_of_an_array_of_objects-run : IsWorkedRun an_index_past_the_end_of_an_array_of_objects (codes "heap 512\nclass A\nobject @o A\nobjects @a A @o null\nthread Java_A_f @a\n") (codes "1*13\n")
    (codes "T1 uncaught java/lang/ArrayIndexOutOfBoundsException\n#46 A\n#47 [LA; #46 null\njournal 1 1 1 1 1 1 1 1 1 1 1 1\n")
unfolding opened
an_index_past_the_end_of_an_array_of_objects-run = worked-run an_index_past_the_end_of_an_array_of_objects an_index_past_the_end_of_an_array_of_objects-world ((Turn 1, Some 13) ∷ []) [] an_index_past_the_end_of_an_array_of_objects-accepted an_index_past_the_end_of_an_array_of_objects-means refl refl refl refl

-- an element of another class
-- JNIEXPORT void JNICALL Java_A_f(JNIEnv *env, jclass cls, jobjectArray a) {
-- (*env)->SetObjectArrayElement(env, a, 0, cls);
-- return;
-- }
abbrev pub an_element_of_another_class : SourceUnit
an_element_of_another_class =
    unit_of
    (native 1 Void (codes "Java_A_f") (reference_parameter JObjectArray (codes "a") ∷ [])
    (Plain 2 (Perform (call (codes "SetObjectArrayElement") (given (codes "a") ∷ Value (Number 0 false) ∷ given (codes "cls") ∷ [])))
    ∷ Return 3 None
    ∷ [])
    4
    ∷ [])

abbrev an_element_of_another_class-lines : Lines
an_element_of_another_class-lines =
    (2, ClassLine (codes "A") None)
    ∷ (3, ObjectsLine (codes "a") (codes "A") (NullValue ∷ []))
    ∷ (4, ThreadLine (codes "Java_A_f") (NamedObject (codes "a") ∷ []))
    ∷ []

abbrev an_element_of_another_class-world : World
an_element_of_another_class-world = world_of 1 512 an_element_of_another_class-lines

an_element_of_another_class-means : IsWorldText (codes "heap 512\nclass A\nobjects @a A null\nthread Java_A_f @a\n") an_element_of_another_class-world
unfolding opened
an_element_of_another_class-means = world-text (codes "heap 512\nclass A\nobjects @a A null\nthread Java_A_f @a\n") 512 false an_element_of_another_class-lines 1 refl refl refl refl refl

an_element_of_another_class-accepted : IsAccepted an_element_of_another_class
unfolding opened
an_element_of_another_class-accepted = accepted an_element_of_another_class refl refl refl

an_element_of_another_class-run : IsWorkedRun an_element_of_another_class (codes "heap 512\nclass A\nobjects @a A null\nthread Java_A_f @a\n") (codes "1*5\n")
    (codes "T1 uncaught java/lang/ArrayStoreException\n#46 [LA; null\njournal 1 1 1 1\n")
unfolding opened
an_element_of_another_class-run = worked-run an_element_of_another_class an_element_of_another_class-world ((Turn 1, Some 5) ∷ []) [] an_element_of_another_class-accepted an_element_of_another_class-means refl refl refl refl

-- an index is checked before the class of an element
-- JNIEXPORT void JNICALL Java_A_f(JNIEnv *env, jclass cls, jobjectArray a) {
-- (*env)->SetObjectArrayElement(env, a, 1, cls);
-- return;
-- }
abbrev pub an_index_is_checked_before_the_class_of_an_element : SourceUnit
an_index_is_checked_before_the_class_of_an_element =
    unit_of
    (native 1 Void (codes "Java_A_f") (reference_parameter JObjectArray (codes "a") ∷ [])
    (Plain 2 (Perform (call (codes "SetObjectArrayElement") (given (codes "a") ∷ Value (Number 1 false) ∷ given (codes "cls") ∷ [])))
    ∷ Return 3 None
    ∷ [])
    4
    ∷ [])

an_index_is_checked_before_the_class_of_an_element-accepted : IsAccepted an_index_is_checked_before_the_class_of_an_element
unfolding opened
an_index_is_checked_before_the_class_of_an_element-accepted = accepted an_index_is_checked_before_the_class_of_an_element refl refl refl

an_index_is_checked_before_the_class_of_an_element-run : IsWorkedRun an_index_is_checked_before_the_class_of_an_element (codes "heap 512\nclass A\nobjects @a A null\nthread Java_A_f @a\n") (codes "1*5\n")
    (codes "T1 uncaught java/lang/ArrayIndexOutOfBoundsException\n#46 [LA; null\njournal 1 1 1 1\n")
unfolding opened
an_index_is_checked_before_the_class_of_an_element-run = worked-run an_index_is_checked_before_the_class_of_an_element an_element_of_another_class-world ((Turn 1, Some 5) ∷ []) [] an_index_is_checked_before_the_class_of_an_element-accepted an_element_of_another_class-means refl refl refl refl

-- an element of a subclass
-- JNIEXPORT void JNICALL Java_A_f(JNIEnv *env, jclass cls, jobjectArray a, jobject b) {
-- (*env)->SetObjectArrayElement(env, a, 0, b);
-- return;
-- }
abbrev pub an_element_of_a_subclass : SourceUnit
an_element_of_a_subclass =
    unit_of
    (native 1 Void (codes "Java_A_f") (reference_parameter JObjectArray (codes "a") ∷ reference_parameter JObject (codes "b") ∷ [])
    (Plain 2 (Perform (call (codes "SetObjectArrayElement") (given (codes "a") ∷ Value (Number 0 false) ∷ given (codes "b") ∷ [])))
    ∷ Return 3 None
    ∷ [])
    4
    ∷ [])

abbrev an_element_of_a_subclass-lines : Lines
an_element_of_a_subclass-lines =
    (2, ClassLine (codes "A") None)
    ∷ (3, ClassLine (codes "B") (Some (codes "A")))
    ∷ (4, ObjectLine (codes "b") (codes "B") [])
    ∷ (5, ObjectsLine (codes "a") (codes "A") (NullValue ∷ []))
    ∷ (6, ThreadLine (codes "Java_A_f") (NamedObject (codes "a") ∷ NamedObject (codes "b") ∷ []))
    ∷ []

abbrev an_element_of_a_subclass-world : World
an_element_of_a_subclass-world = world_of 1 512 an_element_of_a_subclass-lines

an_element_of_a_subclass-means : IsWorldText (codes "heap 512\nclass A\nclass B extends A\nobject @b B\nobjects @a A null\nthread Java_A_f @a @b\n") an_element_of_a_subclass-world
unfolding opened
an_element_of_a_subclass-means = world-text (codes "heap 512\nclass A\nclass B extends A\nobject @b B\nobjects @a A null\nthread Java_A_f @a @b\n") 512 false an_element_of_a_subclass-lines 1 refl refl refl refl refl

an_element_of_a_subclass-accepted : IsAccepted an_element_of_a_subclass
unfolding opened
an_element_of_a_subclass-accepted = accepted an_element_of_a_subclass refl refl refl

an_element_of_a_subclass-run : IsWorkedRun an_element_of_a_subclass (codes "heap 512\nclass A\nclass B extends A\nobject @b B\nobjects @a A null\nthread Java_A_f @a @b\n") (codes "1*5\n")
    (codes "T1 ended\n#48 B\n#49 [LA; #48\njournal 1 1 1 1\n")
unfolding opened
an_element_of_a_subclass-run = worked-run an_element_of_a_subclass an_element_of_a_subclass-world ((Turn 1, Some 5) ∷ []) [] an_element_of_a_subclass-accepted an_element_of_a_subclass-means refl refl refl refl

-- an array of objects of negative length
-- JNIEXPORT void JNICALL Java_A_f(JNIEnv *env, jclass cls) {
-- jobjectArray a = (*env)->NewObjectArray(env, (jint)~0u, cls, NULL);
-- return;
-- }
abbrev pub an_array_of_objects_of_negative_length : SourceUnit
an_array_of_objects_of_negative_length =
    unit_of
    (native 1 Void (codes "Java_A_f") []
    (Plain 2 (Declare (Simple (ReferenceVariable JObjectArray)) (codes "a") (FromCall (call (codes "NewObjectArray") (Value (Prefix ToInt (Prefix Complement (Number 0 true))) ∷ given (codes "cls") ∷ Value (Named Null) ∷ []))))
    ∷ Return 3 None
    ∷ [])
    4
    ∷ [])

abbrev an_array_of_objects_of_negative_length-lines : Lines
an_array_of_objects_of_negative_length-lines =
    (2, ClassLine (codes "A") None)
    ∷ (3, ThreadLine (codes "Java_A_f") [])
    ∷ []

abbrev an_array_of_objects_of_negative_length-world : World
an_array_of_objects_of_negative_length-world = world_of 1 512 an_array_of_objects_of_negative_length-lines

an_array_of_objects_of_negative_length-means : IsWorldText (codes "heap 512\nclass A\nthread Java_A_f\n") an_array_of_objects_of_negative_length-world
unfolding opened
an_array_of_objects_of_negative_length-means = world-text (codes "heap 512\nclass A\nthread Java_A_f\n") 512 false an_array_of_objects_of_negative_length-lines 1 refl refl refl refl refl

an_array_of_objects_of_negative_length-accepted : IsAccepted an_array_of_objects_of_negative_length
unfolding opened
an_array_of_objects_of_negative_length-accepted = accepted an_array_of_objects_of_negative_length refl refl refl

an_array_of_objects_of_negative_length-run : IsWorkedRun an_array_of_objects_of_negative_length (codes "heap 512\nclass A\nthread Java_A_f\n") (codes "1*7\n")
    (codes "T1 uncaught java/lang/NegativeArraySizeException\njournal 1 1 1 1 1 1\n")
unfolding opened
an_array_of_objects_of_negative_length-run = worked-run an_array_of_objects_of_negative_length an_array_of_objects_of_negative_length-world ((Turn 1, Some 7) ∷ []) [] an_array_of_objects_of_negative_length-accepted an_array_of_objects_of_negative_length-means refl refl refl refl

-- an array of arrays
-- JNIEXPORT void JNICALL Java_A_f(JNIEnv *env, jclass cls) {
-- jclass c = (*env)->FindClass(env, "[I");
-- jobjectArray a = (*env)->NewObjectArray(env, 1, c, NULL);
-- return;
-- }
abbrev pub an_array_of_arrays : SourceUnit
an_array_of_arrays =
    unit_of
    (native 1 Void (codes "Java_A_f") []
    (Plain 2 (Declare (Simple (ReferenceVariable JClass)) (codes "c") (FromCall (call (codes "FindClass") (Text (codes "[I") ∷ []))))
    ∷ Plain 3 (Declare (Simple (ReferenceVariable JObjectArray)) (codes "a") (FromCall (call (codes "NewObjectArray") (Value (Number 1 false) ∷ given (codes "c") ∷ Value (Named Null) ∷ []))))
    ∷ Return 4 None
    ∷ [])
    5
    ∷ [])

an_array_of_arrays-accepted : IsAccepted an_array_of_arrays
unfolding opened
an_array_of_arrays-accepted = accepted an_array_of_arrays refl refl refl

an_array_of_arrays-run : IsWorkedRun an_array_of_arrays (codes "heap 512\nclass A\nthread Java_A_f\n") (codes "1*5\n")
    (codes "T1 trap 6 line 3\njournal 1 1 1 1\n")
unfolding opened
an_array_of_arrays-run = worked-run an_array_of_arrays an_array_of_objects_of_negative_length-world ((Turn 1, Some 5) ∷ []) [] an_array_of_arrays-accepted an_array_of_objects_of_negative_length-means refl refl refl refl

-- a first element of another class
-- JNIEXPORT void JNICALL Java_A_f(JNIEnv *env, jclass cls) {
-- jobjectArray a = (*env)->NewObjectArray(env, 1, cls, cls);
-- return;
-- }
abbrev pub a_first_element_of_another_class : SourceUnit
a_first_element_of_another_class =
    unit_of
    (native 1 Void (codes "Java_A_f") []
    (Plain 2 (Declare (Simple (ReferenceVariable JObjectArray)) (codes "a") (FromCall (call (codes "NewObjectArray") (Value (Number 1 false) ∷ given (codes "cls") ∷ given (codes "cls") ∷ []))))
    ∷ Return 3 None
    ∷ [])
    4
    ∷ [])

a_first_element_of_another_class-accepted : IsAccepted a_first_element_of_another_class
unfolding opened
a_first_element_of_another_class-accepted = accepted a_first_element_of_another_class refl refl refl

a_first_element_of_another_class-run : IsWorkedRun a_first_element_of_another_class (codes "heap 512\nclass A\nthread Java_A_f\n") (codes "1*4\n")
    (codes "T1 trap 6 line 2\njournal 1 1 1\n")
unfolding opened
a_first_element_of_another_class-run = worked-run a_first_element_of_another_class an_array_of_objects_of_negative_length-world ((Turn 1, Some 4) ∷ []) [] a_first_element_of_another_class-accepted an_array_of_objects_of_negative_length-means refl refl refl refl

-- an array of numbers for an array of objects
-- JNIEXPORT void JNICALL Java_A_f(JNIEnv *env, jclass cls, jintArray a) {
-- jobject x = (*env)->GetObjectArrayElement(env, a, 0);
-- return;
-- }
abbrev pub an_array_of_numbers_for_an_array_of_objects : SourceUnit
an_array_of_numbers_for_an_array_of_objects =
    unit_of
    (native 1 Void (codes "Java_A_f") (reference_parameter JIntArray (codes "a") ∷ [])
    (Plain 2 (Declare (Simple (ReferenceVariable JObject)) (codes "x") (FromCall (call (codes "GetObjectArrayElement") (given (codes "a") ∷ Value (Number 0 false) ∷ []))))
    ∷ Return 3 None
    ∷ [])
    4
    ∷ [])

abbrev an_array_of_numbers_for_an_array_of_objects-lines : Lines
an_array_of_numbers_for_an_array_of_objects-lines =
    (2, ClassLine (codes "A") None)
    ∷ (3, ArrayLine (codes "a") JInt (NumberValue (pos 1) ∷ []))
    ∷ (4, ThreadLine (codes "Java_A_f") (NamedObject (codes "a") ∷ []))
    ∷ []

abbrev an_array_of_numbers_for_an_array_of_objects-world : World
an_array_of_numbers_for_an_array_of_objects-world = world_of 1 512 an_array_of_numbers_for_an_array_of_objects-lines

an_array_of_numbers_for_an_array_of_objects-means : IsWorldText (codes "heap 512\nclass A\narray @a I 1\nthread Java_A_f @a\n") an_array_of_numbers_for_an_array_of_objects-world
unfolding opened
an_array_of_numbers_for_an_array_of_objects-means = world-text (codes "heap 512\nclass A\narray @a I 1\nthread Java_A_f @a\n") 512 false an_array_of_numbers_for_an_array_of_objects-lines 1 refl refl refl refl refl

an_array_of_numbers_for_an_array_of_objects-accepted : IsAccepted an_array_of_numbers_for_an_array_of_objects
unfolding opened
an_array_of_numbers_for_an_array_of_objects-accepted = accepted an_array_of_numbers_for_an_array_of_objects refl refl refl

an_array_of_numbers_for_an_array_of_objects-run : IsWorkedRun an_array_of_numbers_for_an_array_of_objects (codes "heap 512\nclass A\narray @a I 1\nthread Java_A_f @a\n") (codes "1*4\n")
    (codes "T1 trap 6 line 2\n#46 [I 1\njournal 1 1 1\n")
unfolding opened
an_array_of_numbers_for_an_array_of_objects-run = worked-run an_array_of_numbers_for_an_array_of_objects an_array_of_numbers_for_an_array_of_objects-world ((Turn 1, Some 4) ∷ []) [] an_array_of_numbers_for_an_array_of_objects-accepted an_array_of_numbers_for_an_array_of_objects-means refl refl refl refl
