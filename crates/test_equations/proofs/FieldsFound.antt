-- The cases of texts/fields_found.cases, as gate/worked_equations writes them.
use Rattle.std.specs.Prelude.{◌∷◌, pos, false, [], Some, None, codes, refl}
use Rattle.syntax.specs.declared.declared_type.ReferenceType.TheVariants.{Object as JObject, Class as JClass}
use Rattle.syntax.specs.declared.declared_type.VariableType.TheVariants.{JfieldId as JFieldId, Reference as ReferenceVariable}
use Rattle.syntax.specs.declared.declared_type.DeclaredType.TheVariants.{Simple}
use Rattle.syntax.specs.declared.unit.ResultType.TheVariants.{Void}
use Rattle.syntax.specs.Tree.{Number, Value, Text, FromCall, Declare, Perform, PutJint, Plain, Return, SourceUnit}
use Rattle.semantics.specs.declared.schedule.ScheduleWord.TheVariants.{Turn, Collect}
use Rattle.semantics.specs.World.{World}
use Rattle.world_values.specs.WorldLines.{NumberValue, NamedObject, ClassLine, FieldLine, ObjectLine, ThreadLine, Lines}
use Rattle.world_values.specs.WorldMeaning.{world_of}
use Rattle.world_values.specs.WorldRules.{IsWorldText}
use Rattle.test_equations.specs.Claims.{IsAccepted, IsWorkedRun}
use Rattle.test_equations.proofs.Programs.{unit_of, native, reference_parameter, call, given}
use Rattle.test_equations.proofs.Computed.{opened, accepted, world-text, worked-run}

-- a field is set and an object made
-- JNIEXPORT void JNICALL Java_A_f(JNIEnv *env, jclass cls, jobject o) {
-- jclass c = (*env)->GetObjectClass(env, o);
-- jfieldID i = (*env)->GetFieldID(env, c, "n", "I");
-- (*env)->SetIntField(env, o, i, 5);
-- jobject x = (*env)->AllocObject(env, c);
-- return; }
abbrev pub a_field_is_set_and_an_object_made : SourceUnit
a_field_is_set_and_an_object_made =
    unit_of
    (native 1 Void (codes "Java_A_f") (reference_parameter JObject (codes "o") ∷ [])
    (Plain 2 (Declare (Simple (ReferenceVariable JClass)) (codes "c") (FromCall (call (codes "GetObjectClass") (given (codes "o") ∷ []))))
    ∷ Plain 3 (Declare (Simple JFieldId) (codes "i") (FromCall (call (codes "GetFieldID") (given (codes "c") ∷ Text (codes "n") ∷ Text (codes "I") ∷ []))))
    ∷ Plain 4 (Perform (call (codes "SetIntField") (given (codes "o") ∷ given (codes "i") ∷ Value (Number 5 false) ∷ [])))
    ∷ Plain 5 (Declare (Simple (ReferenceVariable JObject)) (codes "x") (FromCall (call (codes "AllocObject") (given (codes "c") ∷ []))))
    ∷ Return 6 None
    ∷ [])
    6
    ∷ [])

abbrev a_field_is_set_and_an_object_made-lines : Lines
a_field_is_set_and_an_object_made-lines =
    (2, ClassLine (codes "A") None)
    ∷ (3, FieldLine (codes "A") (codes "n") (codes "I"))
    ∷ (4, ObjectLine (codes "o") (codes "A") (NumberValue (pos 3) ∷ []))
    ∷ (5, ThreadLine (codes "Java_A_f") (NamedObject (codes "o") ∷ []))
    ∷ []

abbrev a_field_is_set_and_an_object_made-world : World
a_field_is_set_and_an_object_made-world = world_of 1 512 a_field_is_set_and_an_object_made-lines

a_field_is_set_and_an_object_made-means : IsWorldText (codes "heap 512\nclass A\nfield A n I\nobject @o A 3\nthread Java_A_f @o\n") a_field_is_set_and_an_object_made-world
unfolding opened
a_field_is_set_and_an_object_made-means = world-text (codes "heap 512\nclass A\nfield A n I\nobject @o A 3\nthread Java_A_f @o\n") 512 false a_field_is_set_and_an_object_made-lines 1 refl refl refl refl refl

a_field_is_set_and_an_object_made-accepted : IsAccepted a_field_is_set_and_an_object_made
unfolding opened
a_field_is_set_and_an_object_made-accepted = accepted a_field_is_set_and_an_object_made refl refl refl

a_field_is_set_and_an_object_made-run : IsWorkedRun a_field_is_set_and_an_object_made (codes "heap 512\nclass A\nfield A n I\nobject @o A 3\nthread Java_A_f @o\n") (codes "1*6\n")
    (codes "T1 running\n#46 A 5\n#47 A 0\njournal 1 1 1 1 1 1\n")
unfolding opened
a_field_is_set_and_an_object_made-run = worked-run a_field_is_set_and_an_object_made a_field_is_set_and_an_object_made-world ((Turn 1, Some 6) ∷ []) [] a_field_is_set_and_an_object_made-accepted a_field_is_set_and_an_object_made-means refl refl refl refl

-- a field that is not there
-- JNIEXPORT void JNICALL Java_A_f(JNIEnv *env, jclass cls) { jfieldID i = (*env)->GetFieldID(env, cls, "m", "I"); return; }
abbrev pub a_field_that_is_not_there : SourceUnit
a_field_that_is_not_there =
    unit_of
    (native 1 Void (codes "Java_A_f") []
    (Plain 1 (Declare (Simple JFieldId) (codes "i") (FromCall (call (codes "GetFieldID") (given (codes "cls") ∷ Text (codes "m") ∷ Text (codes "I") ∷ []))))
    ∷ Return 1 None
    ∷ [])
    1
    ∷ [])

abbrev a_field_that_is_not_there-lines : Lines
a_field_that_is_not_there-lines =
    (2, ClassLine (codes "A") None)
    ∷ (3, ThreadLine (codes "Java_A_f") [])
    ∷ []

abbrev a_field_that_is_not_there-world : World
a_field_that_is_not_there-world = world_of 1 512 a_field_that_is_not_there-lines

a_field_that_is_not_there-means : IsWorldText (codes "heap 512\nclass A\nthread Java_A_f\n") a_field_that_is_not_there-world
unfolding opened
a_field_that_is_not_there-means = world-text (codes "heap 512\nclass A\nthread Java_A_f\n") 512 false a_field_that_is_not_there-lines 1 refl refl refl refl refl

a_field_that_is_not_there-accepted : IsAccepted a_field_that_is_not_there
unfolding opened
a_field_that_is_not_there-accepted = accepted a_field_that_is_not_there refl refl refl

a_field_that_is_not_there-run : IsWorkedRun a_field_that_is_not_there (codes "heap 512\nclass A\nthread Java_A_f\n") (codes "1*2\n")
    (codes "T1 running\n#46 java/lang/NoSuchFieldError null\njournal 1 1\n")
unfolding opened
a_field_that_is_not_there-run = worked-run a_field_that_is_not_there a_field_that_is_not_there-world ((Turn 1, Some 2) ∷ []) [] a_field_that_is_not_there-accepted a_field_that_is_not_there-means refl refl refl refl

-- a pending exception is kept by a collection
a_pending_exception_is_kept_by_a_collection-run : IsWorkedRun a_field_that_is_not_there (codes "heap 512\nclass A\nthread Java_A_f\n") (codes "1*2 c\n")
    (codes "T1 running\n#46 java/lang/NoSuchFieldError null\njournal 1 1\n")
unfolding opened
a_pending_exception_is_kept_by_a_collection-run = worked-run a_field_that_is_not_there a_field_that_is_not_there-world ((Turn 1, Some 2) ∷ (Collect, None) ∷ []) [] a_field_that_is_not_there-accepted a_field_that_is_not_there-means refl refl refl refl

-- objects without references are dropped
-- JNIEXPORT void JNICALL Java_A_f(JNIEnv *env, jclass cls) {
-- jobject d = (*env)->AllocObject(env, cls);
-- jobject o = (*env)->AllocObject(env, cls);
-- (*env)->DeleteLocalRef(env, d);
-- (*env)->MonitorEnter(env, o);
-- (*env)->MonitorExit(env, o);
-- put_jint(1);
-- return; }
abbrev pub objects_without_references_are_dropped : SourceUnit
objects_without_references_are_dropped =
    unit_of
    (native 1 Void (codes "Java_A_f") []
    (Plain 2 (Declare (Simple (ReferenceVariable JObject)) (codes "d") (FromCall (call (codes "AllocObject") (given (codes "cls") ∷ []))))
    ∷ Plain 3 (Declare (Simple (ReferenceVariable JObject)) (codes "o") (FromCall (call (codes "AllocObject") (given (codes "cls") ∷ []))))
    ∷ Plain 4 (Perform (call (codes "DeleteLocalRef") (given (codes "d") ∷ [])))
    ∷ Plain 5 (Perform (call (codes "MonitorEnter") (given (codes "o") ∷ [])))
    ∷ Plain 6 (Perform (call (codes "MonitorExit") (given (codes "o") ∷ [])))
    ∷ Plain 7 (PutJint (Number 1 false))
    ∷ Return 8 None
    ∷ [])
    8
    ∷ [])

objects_without_references_are_dropped-accepted : IsAccepted objects_without_references_are_dropped
unfolding opened
objects_without_references_are_dropped-accepted = accepted objects_without_references_are_dropped refl refl refl

objects_without_references_are_dropped-run : IsWorkedRun objects_without_references_are_dropped (codes "heap 512\nclass A\nthread Java_A_f\n") (codes "1*5 c 1*9\n")
    (codes "T1 1\nT1 ended\njournal 1 1 1 1 1 1 1 1 1\n")
unfolding opened
objects_without_references_are_dropped-run = worked-run objects_without_references_are_dropped a_field_that_is_not_there-world ((Turn 1, Some 5) ∷ (Collect, None) ∷ (Turn 1, Some 9) ∷ []) [] objects_without_references_are_dropped-accepted a_field_that_is_not_there-means refl refl refl refl
