-- The cases of texts/monitors_owned.cases, as gate/worked_equations writes them.
use Rattle.std.specs.Prelude.{◌∷◌, pos, false, [], Some, None, codes, refl}
use Rattle.syntax.specs.declared.declared_type.ReferenceType.TheVariants.{Object as JObject, Class as JClass}
use Rattle.syntax.specs.declared.declared_type.VariableType.TheVariants.{JfieldId as JFieldId, Reference as ReferenceVariable}
use Rattle.syntax.specs.declared.declared_type.DeclaredType.TheVariants.{Simple}
use Rattle.syntax.specs.declared.unit.ResultType.TheVariants.{Void}
use Rattle.syntax.specs.Tree.{Variable, Text, FromCall, Declare, Assign, Perform, PutJint, Plain, Return, SourceUnit}
use Rattle.semantics.specs.declared.schedule.ScheduleWord.TheVariants.{Turn, Collect}
use Rattle.semantics.specs.World.{World}
use Rattle.world_values.specs.WorldLines.{NumberValue, NullValue, NamedObject, ClassLine, FieldLine, ObjectLine, ThreadLine, CallLine, Lines}
use Rattle.world_values.specs.WorldMeaning.{world_of}
use Rattle.world_values.specs.WorldRules.{IsWorldText}
use Rattle.test_equations.specs.Claims.{IsAccepted, IsWorkedRun}
use Rattle.test_equations.proofs.Programs.{unit_of, native, static_reference, reference_parameter, int_parameter, call, given}
use Rattle.test_equations.proofs.Computed.{opened, accepted, world-text, worked-run}

-- an owned object to which no reference is left
-- JNIEXPORT void JNICALL Java_A_f(JNIEnv *env, jclass cls) {
-- jobject o = (*env)->AllocObject(env, cls);
-- (*env)->MonitorEnter(env, o);
-- (*env)->DeleteLocalRef(env, o);
-- return;
-- }
abbrev pub an_owned_object_to_which_no_reference_is_left : SourceUnit
an_owned_object_to_which_no_reference_is_left =
    unit_of
    (native 1 Void (codes "Java_A_f") []
    (Plain 2 (Declare (Simple (ReferenceVariable JObject)) (codes "o") (FromCall (call (codes "AllocObject") (given (codes "cls") ∷ []))))
    ∷ Plain 3 (Perform (call (codes "MonitorEnter") (given (codes "o") ∷ [])))
    ∷ Plain 4 (Perform (call (codes "DeleteLocalRef") (given (codes "o") ∷ [])))
    ∷ Return 5 None
    ∷ [])
    6
    ∷ [])

abbrev an_owned_object_to_which_no_reference_is_left-lines : Lines
an_owned_object_to_which_no_reference_is_left-lines =
    (2, ClassLine (codes "A") None)
    ∷ (3, ThreadLine (codes "Java_A_f") [])
    ∷ []

abbrev an_owned_object_to_which_no_reference_is_left-world : World
an_owned_object_to_which_no_reference_is_left-world = world_of 1 512 an_owned_object_to_which_no_reference_is_left-lines

an_owned_object_to_which_no_reference_is_left-means : IsWorldText (codes "heap 512\nclass A\nthread Java_A_f\n") an_owned_object_to_which_no_reference_is_left-world
unfolding opened
an_owned_object_to_which_no_reference_is_left-means = world-text (codes "heap 512\nclass A\nthread Java_A_f\n") 512 false an_owned_object_to_which_no_reference_is_left-lines 1 refl refl refl refl refl

an_owned_object_to_which_no_reference_is_left-accepted : IsAccepted an_owned_object_to_which_no_reference_is_left
unfolding opened
an_owned_object_to_which_no_reference_is_left-accepted = accepted an_owned_object_to_which_no_reference_is_left refl refl refl

an_owned_object_to_which_no_reference_is_left-run : IsWorkedRun an_owned_object_to_which_no_reference_is_left (codes "heap 512\nclass A\nthread Java_A_f\n") (codes "1*4 c\n")
    (codes "T1 running\n#46 A\njournal 1 1 1 1\n")
unfolding opened
an_owned_object_to_which_no_reference_is_left-run = worked-run an_owned_object_to_which_no_reference_is_left an_owned_object_to_which_no_reference_is_left-world ((Turn 1, Some 4) ∷ (Collect, None) ∷ []) [] an_owned_object_to_which_no_reference_is_left-accepted an_owned_object_to_which_no_reference_is_left-means refl refl refl refl

-- with its thread it is gone
with_its_thread_it_is_gone-run : IsWorkedRun an_owned_object_to_which_no_reference_is_left (codes "heap 512\nclass A\nthread Java_A_f\n") (codes "1*4 c 1\n")
    (codes "T1 ended\njournal 1 1 1 1 1\n")
unfolding opened
with_its_thread_it_is_gone-run = worked-run an_owned_object_to_which_no_reference_is_left an_owned_object_to_which_no_reference_is_left-world ((Turn 1, Some 4) ∷ (Collect, None) ∷ (Turn 1, None) ∷ []) [] an_owned_object_to_which_no_reference_is_left-accepted an_owned_object_to_which_no_reference_is_left-means refl refl refl refl

-- an owned object that was left as often
-- JNIEXPORT void JNICALL Java_A_f(JNIEnv *env, jclass cls) {
-- jobject o = (*env)->AllocObject(env, cls);
-- (*env)->MonitorEnter(env, o);
-- (*env)->MonitorExit(env, o);
-- (*env)->DeleteLocalRef(env, o);
-- return;
-- }
abbrev pub an_owned_object_that_was_left_as_often : SourceUnit
an_owned_object_that_was_left_as_often =
    unit_of
    (native 1 Void (codes "Java_A_f") []
    (Plain 2 (Declare (Simple (ReferenceVariable JObject)) (codes "o") (FromCall (call (codes "AllocObject") (given (codes "cls") ∷ []))))
    ∷ Plain 3 (Perform (call (codes "MonitorEnter") (given (codes "o") ∷ [])))
    ∷ Plain 4 (Perform (call (codes "MonitorExit") (given (codes "o") ∷ [])))
    ∷ Plain 5 (Perform (call (codes "DeleteLocalRef") (given (codes "o") ∷ [])))
    ∷ Return 6 None
    ∷ [])
    7
    ∷ [])

an_owned_object_that_was_left_as_often-accepted : IsAccepted an_owned_object_that_was_left_as_often
unfolding opened
an_owned_object_that_was_left_as_often-accepted = accepted an_owned_object_that_was_left_as_often refl refl refl

an_owned_object_that_was_left_as_often-run : IsWorkedRun an_owned_object_that_was_left_as_often (codes "heap 512\nclass A\nthread Java_A_f\n") (codes "1*5\n")
    (codes "T1 running\njournal 1 1 1 1 1\n")
unfolding opened
an_owned_object_that_was_left_as_often-run = worked-run an_owned_object_that_was_left_as_often an_owned_object_to_which_no_reference_is_left-world ((Turn 1, Some 5) ∷ []) [] an_owned_object_that_was_left_as_often-accepted an_owned_object_to_which_no_reference_is_left-means refl refl refl refl

-- what an owned object refers to
-- JNIEXPORT void JNICALL Java_A_f(JNIEnv *env, jclass cls) {
-- jfieldID next = (*env)->GetFieldID(env, cls, "next", "LA;");
-- jobject o = (*env)->AllocObject(env, cls);
-- jobject p = (*env)->AllocObject(env, cls);
-- (*env)->SetObjectField(env, o, next, p);
-- (*env)->MonitorEnter(env, o);
-- (*env)->DeleteLocalRef(env, o);
-- (*env)->DeleteLocalRef(env, p);
-- return;
-- }
abbrev pub what_an_owned_object_refers_to : SourceUnit
what_an_owned_object_refers_to =
    unit_of
    (native 1 Void (codes "Java_A_f") []
    (Plain 2 (Declare (Simple JFieldId) (codes "next") (FromCall (call (codes "GetFieldID") (given (codes "cls") ∷ Text (codes "next") ∷ Text (codes "LA;") ∷ []))))
    ∷ Plain 3 (Declare (Simple (ReferenceVariable JObject)) (codes "o") (FromCall (call (codes "AllocObject") (given (codes "cls") ∷ []))))
    ∷ Plain 4 (Declare (Simple (ReferenceVariable JObject)) (codes "p") (FromCall (call (codes "AllocObject") (given (codes "cls") ∷ []))))
    ∷ Plain 5 (Perform (call (codes "SetObjectField") (given (codes "o") ∷ given (codes "next") ∷ given (codes "p") ∷ [])))
    ∷ Plain 6 (Perform (call (codes "MonitorEnter") (given (codes "o") ∷ [])))
    ∷ Plain 7 (Perform (call (codes "DeleteLocalRef") (given (codes "o") ∷ [])))
    ∷ Plain 8 (Perform (call (codes "DeleteLocalRef") (given (codes "p") ∷ [])))
    ∷ Return 9 None
    ∷ [])
    10
    ∷ [])

abbrev what_an_owned_object_refers_to-lines : Lines
what_an_owned_object_refers_to-lines =
    (2, ClassLine (codes "A") None)
    ∷ (3, FieldLine (codes "A") (codes "next") (codes "LA;"))
    ∷ (4, ThreadLine (codes "Java_A_f") [])
    ∷ []

abbrev what_an_owned_object_refers_to-world : World
what_an_owned_object_refers_to-world = world_of 1 512 what_an_owned_object_refers_to-lines

what_an_owned_object_refers_to-means : IsWorldText (codes "heap 512\nclass A\nfield A next LA;\nthread Java_A_f\n") what_an_owned_object_refers_to-world
unfolding opened
what_an_owned_object_refers_to-means = world-text (codes "heap 512\nclass A\nfield A next LA;\nthread Java_A_f\n") 512 false what_an_owned_object_refers_to-lines 1 refl refl refl refl refl

what_an_owned_object_refers_to-accepted : IsAccepted what_an_owned_object_refers_to
unfolding opened
what_an_owned_object_refers_to-accepted = accepted what_an_owned_object_refers_to refl refl refl

what_an_owned_object_refers_to-run : IsWorkedRun what_an_owned_object_refers_to (codes "heap 512\nclass A\nfield A next LA;\nthread Java_A_f\n") (codes "1*8\n")
    (codes "T1 running\n#46 A #47\n#47 A null\njournal 1 1 1 1 1 1 1 1\n")
unfolding opened
what_an_owned_object_refers_to-run = worked-run what_an_owned_object_refers_to what_an_owned_object_refers_to-world ((Turn 1, Some 8) ∷ []) [] what_an_owned_object_refers_to-accepted what_an_owned_object_refers_to-means refl refl refl refl

-- the objects of a call after its return
-- JNIEXPORT void JNICALL Java_A_f(JNIEnv *env, jclass cls) {
-- jobject dropped = (*env)->AllocObject(env, cls);
-- jobject o = (*env)->AllocObject(env, cls);
-- (*env)->MonitorEnter(env, o);
-- return;
-- }
abbrev pub the_objects_of_a_call_after_its_return : SourceUnit
the_objects_of_a_call_after_its_return =
    unit_of
    (native 1 Void (codes "Java_A_f") []
    (Plain 2 (Declare (Simple (ReferenceVariable JObject)) (codes "dropped") (FromCall (call (codes "AllocObject") (given (codes "cls") ∷ []))))
    ∷ Plain 3 (Declare (Simple (ReferenceVariable JObject)) (codes "o") (FromCall (call (codes "AllocObject") (given (codes "cls") ∷ []))))
    ∷ Plain 4 (Perform (call (codes "MonitorEnter") (given (codes "o") ∷ [])))
    ∷ Return 5 None
    ∷ [])
    6
    ∷ [])

abbrev the_objects_of_a_call_after_its_return-lines : Lines
the_objects_of_a_call_after_its_return-lines =
    (2, ClassLine (codes "A") None)
    ∷ (3, ThreadLine (codes "Java_A_f") [])
    ∷ (4, CallLine (codes "Java_A_f") [])
    ∷ []

abbrev the_objects_of_a_call_after_its_return-world : World
the_objects_of_a_call_after_its_return-world = world_of 1 512 the_objects_of_a_call_after_its_return-lines

the_objects_of_a_call_after_its_return-means : IsWorldText (codes "heap 512\nclass A\nthread Java_A_f\ncall Java_A_f\n") the_objects_of_a_call_after_its_return-world
unfolding opened
the_objects_of_a_call_after_its_return-means = world-text (codes "heap 512\nclass A\nthread Java_A_f\ncall Java_A_f\n") 512 false the_objects_of_a_call_after_its_return-lines 1 refl refl refl refl refl

the_objects_of_a_call_after_its_return-accepted : IsAccepted the_objects_of_a_call_after_its_return
unfolding opened
the_objects_of_a_call_after_its_return-accepted = accepted the_objects_of_a_call_after_its_return refl refl refl

the_objects_of_a_call_after_its_return-run : IsWorkedRun the_objects_of_a_call_after_its_return (codes "heap 512\nclass A\nthread Java_A_f\ncall Java_A_f\n") (codes "1*5 c 1*4\n")
    (codes "T1 running\n#47 A\n#48 A\n#49 A\njournal 1 1 1 1 1 1 1 1 1\n")
unfolding opened
the_objects_of_a_call_after_its_return-run = worked-run the_objects_of_a_call_after_its_return the_objects_of_a_call_after_its_return-world ((Turn 1, Some 5) ∷ (Collect, None) ∷ (Turn 1, Some 4) ∷ []) [] the_objects_of_a_call_after_its_return-accepted the_objects_of_a_call_after_its_return-means refl refl refl refl

-- monitors that are left in the order in which they were entered
-- JNIEXPORT void JNICALL Java_A_f(JNIEnv *env, jclass cls, jobject o, jobject p) {
-- (*env)->MonitorEnter(env, o);
-- (*env)->MonitorEnter(env, p);
-- (*env)->MonitorExit(env, o);
-- (*env)->MonitorExit(env, p);
-- return;
-- }
abbrev pub monitors_that_are_left_in_the_order_in_which_they_were_entered : SourceUnit
monitors_that_are_left_in_the_order_in_which_they_were_entered =
    unit_of
    (native 1 Void (codes "Java_A_f") (reference_parameter JObject (codes "o") ∷ reference_parameter JObject (codes "p") ∷ [])
    (Plain 2 (Perform (call (codes "MonitorEnter") (given (codes "o") ∷ [])))
    ∷ Plain 3 (Perform (call (codes "MonitorEnter") (given (codes "p") ∷ [])))
    ∷ Plain 4 (Perform (call (codes "MonitorExit") (given (codes "o") ∷ [])))
    ∷ Plain 5 (Perform (call (codes "MonitorExit") (given (codes "p") ∷ [])))
    ∷ Return 6 None
    ∷ [])
    7
    ∷ [])

abbrev monitors_that_are_left_in_the_order_in_which_they_were_entered-lines : Lines
monitors_that_are_left_in_the_order_in_which_they_were_entered-lines =
    (2, ClassLine (codes "A") None)
    ∷ (3, ObjectLine (codes "o") (codes "A") [])
    ∷ (4, ObjectLine (codes "p") (codes "A") [])
    ∷ (5, ThreadLine (codes "Java_A_f") (NamedObject (codes "o") ∷ NamedObject (codes "p") ∷ []))
    ∷ (6, ThreadLine (codes "Java_A_f") (NamedObject (codes "o") ∷ NamedObject (codes "p") ∷ []))
    ∷ []

abbrev monitors_that_are_left_in_the_order_in_which_they_were_entered-world : World
monitors_that_are_left_in_the_order_in_which_they_were_entered-world = world_of 1 512 monitors_that_are_left_in_the_order_in_which_they_were_entered-lines

monitors_that_are_left_in_the_order_in_which_they_were_entered-means : IsWorldText (codes "heap 512\nclass A\nobject @o A\nobject @p A\nthread Java_A_f @o @p\nthread Java_A_f @o @p\n") monitors_that_are_left_in_the_order_in_which_they_were_entered-world
unfolding opened
monitors_that_are_left_in_the_order_in_which_they_were_entered-means = world-text (codes "heap 512\nclass A\nobject @o A\nobject @p A\nthread Java_A_f @o @p\nthread Java_A_f @o @p\n") 512 false monitors_that_are_left_in_the_order_in_which_they_were_entered-lines 1 refl refl refl refl refl

monitors_that_are_left_in_the_order_in_which_they_were_entered-accepted : IsAccepted monitors_that_are_left_in_the_order_in_which_they_were_entered
unfolding opened
monitors_that_are_left_in_the_order_in_which_they_were_entered-accepted = accepted monitors_that_are_left_in_the_order_in_which_they_were_entered refl refl refl

monitors_that_are_left_in_the_order_in_which_they_were_entered-run : IsWorkedRun monitors_that_are_left_in_the_order_in_which_they_were_entered (codes "heap 512\nclass A\nobject @o A\nobject @p A\nthread Java_A_f @o @p\nthread Java_A_f @o @p\n") (codes "1*4 2*3 1 2*9 1\n")
    (codes "T1 ended\nT2 ended\n#46 A\n#47 A\njournal 1 1 1 1 2 2 1 2 2 2 2 1\n")
unfolding opened
monitors_that_are_left_in_the_order_in_which_they_were_entered-run = worked-run monitors_that_are_left_in_the_order_in_which_they_were_entered monitors_that_are_left_in_the_order_in_which_they_were_entered-world ((Turn 1, Some 4) ∷ (Turn 2, Some 3) ∷ (Turn 1, None) ∷ (Turn 2, Some 9) ∷ (Turn 1, None) ∷ []) [] monitors_that_are_left_in_the_order_in_which_they_were_entered-accepted monitors_that_are_left_in_the_order_in_which_they_were_entered-means refl refl refl refl

-- all monitors of a thread are given up with it and no others
-- JNIEXPORT void JNICALL Java_A_f(JNIEnv *env, jclass cls, jobject o, jobject p) {
-- (*env)->MonitorEnter(env, o);
-- (*env)->MonitorEnter(env, p);
-- (*env)->MonitorEnter(env, o);
-- return;
-- }
-- JNIEXPORT void JNICALL Java_A_g(JNIEnv *env, jclass cls, jobject o, jobject p, jobject q) {
-- (*env)->MonitorEnter(env, o);
-- (*env)->MonitorEnter(env, p);
-- (*env)->MonitorEnter(env, q);
-- return;
-- }
abbrev pub all_monitors_of_a_thread_are_given_up_with_it_and_no_others : SourceUnit
all_monitors_of_a_thread_are_given_up_with_it_and_no_others =
    unit_of
    (native 1 Void (codes "Java_A_f") (reference_parameter JObject (codes "o") ∷ reference_parameter JObject (codes "p") ∷ [])
    (Plain 2 (Perform (call (codes "MonitorEnter") (given (codes "o") ∷ [])))
    ∷ Plain 3 (Perform (call (codes "MonitorEnter") (given (codes "p") ∷ [])))
    ∷ Plain 4 (Perform (call (codes "MonitorEnter") (given (codes "o") ∷ [])))
    ∷ Return 5 None
    ∷ [])
    6
    ∷ native 7 Void (codes "Java_A_g") (reference_parameter JObject (codes "o") ∷ reference_parameter JObject (codes "p") ∷ reference_parameter JObject (codes "q") ∷ [])
    (Plain 8 (Perform (call (codes "MonitorEnter") (given (codes "o") ∷ [])))
    ∷ Plain 9 (Perform (call (codes "MonitorEnter") (given (codes "p") ∷ [])))
    ∷ Plain 10 (Perform (call (codes "MonitorEnter") (given (codes "q") ∷ [])))
    ∷ Return 11 None
    ∷ [])
    12
    ∷ [])

abbrev all_monitors_of_a_thread_are_given_up_with_it_and_no_others-lines : Lines
all_monitors_of_a_thread_are_given_up_with_it_and_no_others-lines =
    (2, ClassLine (codes "A") None)
    ∷ (3, ObjectLine (codes "o") (codes "A") [])
    ∷ (4, ObjectLine (codes "p") (codes "A") [])
    ∷ (5, ObjectLine (codes "q") (codes "A") [])
    ∷ (6, ThreadLine (codes "Java_A_f") (NamedObject (codes "o") ∷ NamedObject (codes "p") ∷ []))
    ∷ (7, ThreadLine (codes "Java_A_f") (NamedObject (codes "q") ∷ NamedObject (codes "q") ∷ []))
    ∷ (8, ThreadLine (codes "Java_A_g") (NamedObject (codes "o") ∷ NamedObject (codes "p") ∷ NamedObject (codes "q") ∷ []))
    ∷ []

abbrev all_monitors_of_a_thread_are_given_up_with_it_and_no_others-world : World
all_monitors_of_a_thread_are_given_up_with_it_and_no_others-world = world_of 1 512 all_monitors_of_a_thread_are_given_up_with_it_and_no_others-lines

all_monitors_of_a_thread_are_given_up_with_it_and_no_others-means : IsWorldText (codes "heap 512\nclass A\nobject @o A\nobject @p A\nobject @q A\nthread Java_A_f @o @p\nthread Java_A_f @q @q\nthread Java_A_g @o @p @q\n") all_monitors_of_a_thread_are_given_up_with_it_and_no_others-world
unfolding opened
all_monitors_of_a_thread_are_given_up_with_it_and_no_others-means = world-text (codes "heap 512\nclass A\nobject @o A\nobject @p A\nobject @q A\nthread Java_A_f @o @p\nthread Java_A_f @q @q\nthread Java_A_g @o @p @q\n") 512 false all_monitors_of_a_thread_are_given_up_with_it_and_no_others-lines 1 refl refl refl refl refl

all_monitors_of_a_thread_are_given_up_with_it_and_no_others-accepted : IsAccepted all_monitors_of_a_thread_are_given_up_with_it_and_no_others
unfolding opened
all_monitors_of_a_thread_are_given_up_with_it_and_no_others-accepted = accepted all_monitors_of_a_thread_are_given_up_with_it_and_no_others refl refl refl

all_monitors_of_a_thread_are_given_up_with_it_and_no_others-run : IsWorkedRun all_monitors_of_a_thread_are_given_up_with_it_and_no_others (codes "heap 512\nclass A\nobject @o A\nobject @p A\nobject @q A\nthread Java_A_f @o @p\nthread Java_A_f @q @q\nthread Java_A_g @o @p @q\n") (codes "2*4 1*4 3*9 1 3*9\n")
    (codes "T1 ended\nT2 running\nT3 blocked\n#46 A\n#47 A\n#48 A\njournal 2 2 2 2 1 1 1 1 3 1 3 3\n")
unfolding opened
all_monitors_of_a_thread_are_given_up_with_it_and_no_others-run = worked-run all_monitors_of_a_thread_are_given_up_with_it_and_no_others all_monitors_of_a_thread_are_given_up_with_it_and_no_others-world ((Turn 2, Some 4) ∷ (Turn 1, Some 4) ∷ (Turn 3, Some 9) ∷ (Turn 1, None) ∷ (Turn 3, Some 9) ∷ []) [] all_monitors_of_a_thread_are_given_up_with_it_and_no_others-accepted all_monitors_of_a_thread_are_given_up_with_it_and_no_others-means refl refl refl refl

-- two references to one object
-- static jobject g = NULL;
-- JNIEXPORT void JNICALL Java_A_f(JNIEnv *env, jclass cls, jobject o) {
-- g = (*env)->NewGlobalRef(env, o);
-- (*env)->MonitorEnter(env, o);
-- (*env)->MonitorExit(env, g);
-- (*env)->MonitorExit(env, o);
-- return;
-- }
abbrev pub two_references_to_one_object : SourceUnit
two_references_to_one_object =
    unit_of
    (static_reference 1 JObject (codes "g")
    ∷ native 2 Void (codes "Java_A_f") (reference_parameter JObject (codes "o") ∷ [])
    (Plain 3 (Assign (codes "g") (FromCall (call (codes "NewGlobalRef") (given (codes "o") ∷ []))))
    ∷ Plain 4 (Perform (call (codes "MonitorEnter") (given (codes "o") ∷ [])))
    ∷ Plain 5 (Perform (call (codes "MonitorExit") (given (codes "g") ∷ [])))
    ∷ Plain 6 (Perform (call (codes "MonitorExit") (given (codes "o") ∷ [])))
    ∷ Return 7 None
    ∷ [])
    8
    ∷ [])

abbrev two_references_to_one_object-lines : Lines
two_references_to_one_object-lines =
    (2, ClassLine (codes "A") None)
    ∷ (3, ObjectLine (codes "o") (codes "A") [])
    ∷ (4, ThreadLine (codes "Java_A_f") (NamedObject (codes "o") ∷ []))
    ∷ []

abbrev two_references_to_one_object-world : World
two_references_to_one_object-world = world_of 1 512 two_references_to_one_object-lines

two_references_to_one_object-means : IsWorldText (codes "heap 512\nclass A\nobject @o A\nthread Java_A_f @o\n") two_references_to_one_object-world
unfolding opened
two_references_to_one_object-means = world-text (codes "heap 512\nclass A\nobject @o A\nthread Java_A_f @o\n") 512 false two_references_to_one_object-lines 1 refl refl refl refl refl

two_references_to_one_object-accepted : IsAccepted two_references_to_one_object
unfolding opened
two_references_to_one_object-accepted = accepted two_references_to_one_object refl refl refl

two_references_to_one_object-run : IsWorkedRun two_references_to_one_object (codes "heap 512\nclass A\nobject @o A\nthread Java_A_f @o\n") (codes "1*9\n")
    (codes "T1 uncaught java/lang/IllegalMonitorStateException\n#46 A\njournal 1 1 1 1 1 1\n")
unfolding opened
two_references_to_one_object-run = worked-run two_references_to_one_object two_references_to_one_object-world ((Turn 1, Some 9) ∷ []) [] two_references_to_one_object-accepted two_references_to_one_object-means refl refl refl refl

-- the monitor of a class
-- JNIEXPORT void JNICALL Java_A_f(JNIEnv *env, jclass cls) {
-- (*env)->MonitorEnter(env, cls);
-- return;
-- }
-- JNIEXPORT void JNICALL Java_B_f(JNIEnv *env, jclass cls) {
-- (*env)->MonitorEnter(env, cls);
-- return;
-- }
abbrev pub the_monitor_of_a_class : SourceUnit
the_monitor_of_a_class =
    unit_of
    (native 1 Void (codes "Java_A_f") []
    (Plain 2 (Perform (call (codes "MonitorEnter") (given (codes "cls") ∷ [])))
    ∷ Return 3 None
    ∷ [])
    4
    ∷ native 5 Void (codes "Java_B_f") []
    (Plain 6 (Perform (call (codes "MonitorEnter") (given (codes "cls") ∷ [])))
    ∷ Return 7 None
    ∷ [])
    8
    ∷ [])

abbrev the_monitor_of_a_class-lines : Lines
the_monitor_of_a_class-lines =
    (2, ClassLine (codes "A") None)
    ∷ (3, ClassLine (codes "B") None)
    ∷ (4, ThreadLine (codes "Java_A_f") [])
    ∷ (5, ThreadLine (codes "Java_B_f") [])
    ∷ (6, ThreadLine (codes "Java_A_f") [])
    ∷ []

abbrev the_monitor_of_a_class-world : World
the_monitor_of_a_class-world = world_of 1 512 the_monitor_of_a_class-lines

the_monitor_of_a_class-means : IsWorldText (codes "heap 512\nclass A\nclass B\nthread Java_A_f\nthread Java_B_f\nthread Java_A_f\n") the_monitor_of_a_class-world
unfolding opened
the_monitor_of_a_class-means = world-text (codes "heap 512\nclass A\nclass B\nthread Java_A_f\nthread Java_B_f\nthread Java_A_f\n") 512 false the_monitor_of_a_class-lines 1 refl refl refl refl refl

the_monitor_of_a_class-accepted : IsAccepted the_monitor_of_a_class
unfolding opened
the_monitor_of_a_class-accepted = accepted the_monitor_of_a_class refl refl refl

the_monitor_of_a_class-run : IsWorkedRun the_monitor_of_a_class (codes "heap 512\nclass A\nclass B\nthread Java_A_f\nthread Java_B_f\nthread Java_A_f\n") (codes "1*2 2*2 3*2\n")
    (codes "T1 running\nT2 running\nT3 blocked\njournal 1 1 2 2 3\n")
unfolding opened
the_monitor_of_a_class-run = worked-run the_monitor_of_a_class the_monitor_of_a_class-world ((Turn 1, Some 2) ∷ (Turn 2, Some 2) ∷ (Turn 3, Some 2) ∷ []) [] the_monitor_of_a_class-accepted the_monitor_of_a_class-means refl refl refl refl

-- of two threads that wait the later one enters first
-- JNIEXPORT void JNICALL Java_A_f(JNIEnv *env, jclass cls, jobject o, jint n) {
-- (*env)->MonitorEnter(env, o);
-- put_jint(n);
-- (*env)->MonitorExit(env, o);
-- return;
-- }
abbrev pub of_two_threads_that_wait_the_later_one_enters_first : SourceUnit
of_two_threads_that_wait_the_later_one_enters_first =
    unit_of
    (native 1 Void (codes "Java_A_f") (reference_parameter JObject (codes "o") ∷ int_parameter (codes "n") ∷ [])
    (Plain 2 (Perform (call (codes "MonitorEnter") (given (codes "o") ∷ [])))
    ∷ Plain 3 (PutJint (Variable (codes "n")))
    ∷ Plain 4 (Perform (call (codes "MonitorExit") (given (codes "o") ∷ [])))
    ∷ Return 5 None
    ∷ [])
    6
    ∷ [])

abbrev of_two_threads_that_wait_the_later_one_enters_first-lines : Lines
of_two_threads_that_wait_the_later_one_enters_first-lines =
    (2, ClassLine (codes "A") None)
    ∷ (3, ObjectLine (codes "o") (codes "A") [])
    ∷ (4, ThreadLine (codes "Java_A_f") (NamedObject (codes "o") ∷ NumberValue (pos 1) ∷ []))
    ∷ (5, ThreadLine (codes "Java_A_f") (NamedObject (codes "o") ∷ NumberValue (pos 2) ∷ []))
    ∷ (6, ThreadLine (codes "Java_A_f") (NamedObject (codes "o") ∷ NumberValue (pos 3) ∷ []))
    ∷ []

abbrev of_two_threads_that_wait_the_later_one_enters_first-world : World
of_two_threads_that_wait_the_later_one_enters_first-world = world_of 1 512 of_two_threads_that_wait_the_later_one_enters_first-lines

of_two_threads_that_wait_the_later_one_enters_first-means : IsWorldText (codes "heap 512\nclass A\nobject @o A\nthread Java_A_f @o 1\nthread Java_A_f @o 2\nthread Java_A_f @o 3\n") of_two_threads_that_wait_the_later_one_enters_first-world
unfolding opened
of_two_threads_that_wait_the_later_one_enters_first-means = world-text (codes "heap 512\nclass A\nobject @o A\nthread Java_A_f @o 1\nthread Java_A_f @o 2\nthread Java_A_f @o 3\n") 512 false of_two_threads_that_wait_the_later_one_enters_first-lines 1 refl refl refl refl refl

of_two_threads_that_wait_the_later_one_enters_first-accepted : IsAccepted of_two_threads_that_wait_the_later_one_enters_first
unfolding opened
of_two_threads_that_wait_the_later_one_enters_first-accepted = accepted of_two_threads_that_wait_the_later_one_enters_first refl refl refl

of_two_threads_that_wait_the_later_one_enters_first-run : IsWorkedRun of_two_threads_that_wait_the_later_one_enters_first (codes "heap 512\nclass A\nobject @o A\nthread Java_A_f @o 1\nthread Java_A_f @o 2\nthread Java_A_f @o 3\n") (codes "1*2 2*2 3*2 1*3 3*9 2*9 1\n")
    (codes "T1 1\nT3 3\nT2 2\nT1 ended\nT2 ended\nT3 ended\n#46 A\njournal 1 1 2 3 1 1 1 3 3 3 3 3 2 2 2 2 2 1\n")
unfolding opened
of_two_threads_that_wait_the_later_one_enters_first-run = worked-run of_two_threads_that_wait_the_later_one_enters_first of_two_threads_that_wait_the_later_one_enters_first-world ((Turn 1, Some 2) ∷ (Turn 2, Some 2) ∷ (Turn 3, Some 2) ∷ (Turn 1, Some 3) ∷ (Turn 3, Some 9) ∷ (Turn 2, Some 9) ∷ (Turn 1, None) ∷ []) [] of_two_threads_that_wait_the_later_one_enters_first-accepted of_two_threads_that_wait_the_later_one_enters_first-means refl refl refl refl

-- a call leaves what the call before it has entered
-- JNIEXPORT void JNICALL Java_A_f(JNIEnv *env, jclass cls, jobject o) {
-- (*env)->MonitorEnter(env, o);
-- return;
-- }
-- JNIEXPORT void JNICALL Java_A_g(JNIEnv *env, jclass cls, jobject o) {
-- (*env)->MonitorExit(env, o);
-- return;
-- }
abbrev pub a_call_leaves_what_the_call_before_it_has_entered : SourceUnit
a_call_leaves_what_the_call_before_it_has_entered =
    unit_of
    (native 1 Void (codes "Java_A_f") (reference_parameter JObject (codes "o") ∷ [])
    (Plain 2 (Perform (call (codes "MonitorEnter") (given (codes "o") ∷ [])))
    ∷ Return 3 None
    ∷ [])
    4
    ∷ native 5 Void (codes "Java_A_g") (reference_parameter JObject (codes "o") ∷ [])
    (Plain 6 (Perform (call (codes "MonitorExit") (given (codes "o") ∷ [])))
    ∷ Return 7 None
    ∷ [])
    8
    ∷ [])

abbrev a_call_leaves_what_the_call_before_it_has_entered-lines : Lines
a_call_leaves_what_the_call_before_it_has_entered-lines =
    (2, ClassLine (codes "A") None)
    ∷ (3, ObjectLine (codes "o") (codes "A") [])
    ∷ (4, ThreadLine (codes "Java_A_f") (NamedObject (codes "o") ∷ []))
    ∷ (5, CallLine (codes "Java_A_g") (NamedObject (codes "o") ∷ []))
    ∷ (6, ThreadLine (codes "Java_A_f") (NamedObject (codes "o") ∷ []))
    ∷ []

abbrev a_call_leaves_what_the_call_before_it_has_entered-world : World
a_call_leaves_what_the_call_before_it_has_entered-world = world_of 1 512 a_call_leaves_what_the_call_before_it_has_entered-lines

a_call_leaves_what_the_call_before_it_has_entered-means : IsWorldText (codes "heap 512\nclass A\nobject @o A\nthread Java_A_f @o\ncall Java_A_g @o\nthread Java_A_f @o\n") a_call_leaves_what_the_call_before_it_has_entered-world
unfolding opened
a_call_leaves_what_the_call_before_it_has_entered-means = world-text (codes "heap 512\nclass A\nobject @o A\nthread Java_A_f @o\ncall Java_A_g @o\nthread Java_A_f @o\n") 512 false a_call_leaves_what_the_call_before_it_has_entered-lines 1 refl refl refl refl refl

a_call_leaves_what_the_call_before_it_has_entered-accepted : IsAccepted a_call_leaves_what_the_call_before_it_has_entered
unfolding opened
a_call_leaves_what_the_call_before_it_has_entered-accepted = accepted a_call_leaves_what_the_call_before_it_has_entered refl refl refl

a_call_leaves_what_the_call_before_it_has_entered-run : IsWorkedRun a_call_leaves_what_the_call_before_it_has_entered (codes "heap 512\nclass A\nobject @o A\nthread Java_A_f @o\ncall Java_A_g @o\nthread Java_A_f @o\n") (codes "1*3 2*2 1*2 2*9 1\n")
    (codes "T1 ended\nT2 ended\n#46 A\njournal 1 1 1 2 1 1 2 2 1\n")
unfolding opened
a_call_leaves_what_the_call_before_it_has_entered-run = worked-run a_call_leaves_what_the_call_before_it_has_entered a_call_leaves_what_the_call_before_it_has_entered-world ((Turn 1, Some 3) ∷ (Turn 2, Some 2) ∷ (Turn 1, Some 2) ∷ (Turn 2, Some 9) ∷ (Turn 1, None) ∷ []) [] a_call_leaves_what_the_call_before_it_has_entered-accepted a_call_leaves_what_the_call_before_it_has_entered-means refl refl refl refl

-- an uncaught exception drops the calls to come and the monitors
-- JNIEXPORT void JNICALL Java_A_f(JNIEnv *env, jclass cls, jobject o) {
-- (*env)->MonitorEnter(env, o);
-- jclass c = (*env)->FindClass(env, "B");
-- return;
-- }
-- JNIEXPORT void JNICALL Java_A_g(JNIEnv *env, jclass cls, jobject o) {
-- (*env)->MonitorEnter(env, o);
-- return;
-- }
abbrev pub an_uncaught_exception_drops_the_calls_to_come_and_the_monitors : SourceUnit
an_uncaught_exception_drops_the_calls_to_come_and_the_monitors =
    unit_of
    (native 1 Void (codes "Java_A_f") (reference_parameter JObject (codes "o") ∷ [])
    (Plain 2 (Perform (call (codes "MonitorEnter") (given (codes "o") ∷ [])))
    ∷ Plain 3 (Declare (Simple (ReferenceVariable JClass)) (codes "c") (FromCall (call (codes "FindClass") (Text (codes "B") ∷ []))))
    ∷ Return 4 None
    ∷ [])
    5
    ∷ native 6 Void (codes "Java_A_g") (reference_parameter JObject (codes "o") ∷ [])
    (Plain 7 (Perform (call (codes "MonitorEnter") (given (codes "o") ∷ [])))
    ∷ Return 8 None
    ∷ [])
    9
    ∷ [])

abbrev an_uncaught_exception_drops_the_calls_to_come_and_the_monitors-lines : Lines
an_uncaught_exception_drops_the_calls_to_come_and_the_monitors-lines =
    (2, ClassLine (codes "A") None)
    ∷ (3, ObjectLine (codes "o") (codes "A") [])
    ∷ (4, ThreadLine (codes "Java_A_f") (NamedObject (codes "o") ∷ []))
    ∷ (5, CallLine (codes "Java_A_g") (NamedObject (codes "o") ∷ []))
    ∷ (6, ThreadLine (codes "Java_A_g") (NamedObject (codes "o") ∷ []))
    ∷ []

abbrev an_uncaught_exception_drops_the_calls_to_come_and_the_monitors-world : World
an_uncaught_exception_drops_the_calls_to_come_and_the_monitors-world = world_of 1 512 an_uncaught_exception_drops_the_calls_to_come_and_the_monitors-lines

an_uncaught_exception_drops_the_calls_to_come_and_the_monitors-means : IsWorldText (codes "heap 512\nclass A\nobject @o A\nthread Java_A_f @o\ncall Java_A_g @o\nthread Java_A_g @o\n") an_uncaught_exception_drops_the_calls_to_come_and_the_monitors-world
unfolding opened
an_uncaught_exception_drops_the_calls_to_come_and_the_monitors-means = world-text (codes "heap 512\nclass A\nobject @o A\nthread Java_A_f @o\ncall Java_A_g @o\nthread Java_A_g @o\n") 512 false an_uncaught_exception_drops_the_calls_to_come_and_the_monitors-lines 1 refl refl refl refl refl

an_uncaught_exception_drops_the_calls_to_come_and_the_monitors-accepted : IsAccepted an_uncaught_exception_drops_the_calls_to_come_and_the_monitors
unfolding opened
an_uncaught_exception_drops_the_calls_to_come_and_the_monitors-accepted = accepted an_uncaught_exception_drops_the_calls_to_come_and_the_monitors refl refl refl

an_uncaught_exception_drops_the_calls_to_come_and_the_monitors-run : IsWorkedRun an_uncaught_exception_drops_the_calls_to_come_and_the_monitors (codes "heap 512\nclass A\nobject @o A\nthread Java_A_f @o\ncall Java_A_g @o\nthread Java_A_g @o\n") (codes "1*3 2*2 1*9 2\n")
    (codes "T1 uncaught java/lang/NoClassDefFoundError\nT2 running\n#46 A\njournal 1 1 1 2 1 2\n")
unfolding opened
an_uncaught_exception_drops_the_calls_to_come_and_the_monitors-run = worked-run an_uncaught_exception_drops_the_calls_to_come_and_the_monitors an_uncaught_exception_drops_the_calls_to_come_and_the_monitors-world ((Turn 1, Some 3) ∷ (Turn 2, Some 2) ∷ (Turn 1, Some 9) ∷ (Turn 2, None) ∷ []) [] an_uncaught_exception_drops_the_calls_to_come_and_the_monitors-accepted an_uncaught_exception_drops_the_calls_to_come_and_the_monitors-means refl refl refl refl

-- a thread that trapped keeps its monitors
-- JNIEXPORT void JNICALL Java_A_f(JNIEnv *env, jclass cls, jobject o, jobject p) {
-- (*env)->MonitorEnter(env, o);
-- (*env)->MonitorExit(env, p);
-- return;
-- }
abbrev pub a_thread_that_trapped_keeps_its_monitors : SourceUnit
a_thread_that_trapped_keeps_its_monitors =
    unit_of
    (native 1 Void (codes "Java_A_f") (reference_parameter JObject (codes "o") ∷ reference_parameter JObject (codes "p") ∷ [])
    (Plain 2 (Perform (call (codes "MonitorEnter") (given (codes "o") ∷ [])))
    ∷ Plain 3 (Perform (call (codes "MonitorExit") (given (codes "p") ∷ [])))
    ∷ Return 4 None
    ∷ [])
    5
    ∷ [])

abbrev a_thread_that_trapped_keeps_its_monitors-lines : Lines
a_thread_that_trapped_keeps_its_monitors-lines =
    (2, ClassLine (codes "A") None)
    ∷ (3, ObjectLine (codes "o") (codes "A") [])
    ∷ (4, ThreadLine (codes "Java_A_f") (NamedObject (codes "o") ∷ NullValue ∷ []))
    ∷ (5, ThreadLine (codes "Java_A_f") (NamedObject (codes "o") ∷ NullValue ∷ []))
    ∷ (6, ThreadLine (codes "Java_A_f") (NullValue ∷ NullValue ∷ []))
    ∷ []

abbrev a_thread_that_trapped_keeps_its_monitors-world : World
a_thread_that_trapped_keeps_its_monitors-world = world_of 1 512 a_thread_that_trapped_keeps_its_monitors-lines

a_thread_that_trapped_keeps_its_monitors-means : IsWorldText (codes "heap 512\nclass A\nobject @o A\nthread Java_A_f @o null\nthread Java_A_f @o null\nthread Java_A_f null null\n") a_thread_that_trapped_keeps_its_monitors-world
unfolding opened
a_thread_that_trapped_keeps_its_monitors-means = world-text (codes "heap 512\nclass A\nobject @o A\nthread Java_A_f @o null\nthread Java_A_f @o null\nthread Java_A_f null null\n") 512 false a_thread_that_trapped_keeps_its_monitors-lines 1 refl refl refl refl refl

a_thread_that_trapped_keeps_its_monitors-accepted : IsAccepted a_thread_that_trapped_keeps_its_monitors
unfolding opened
a_thread_that_trapped_keeps_its_monitors-accepted = accepted a_thread_that_trapped_keeps_its_monitors refl refl refl

a_thread_that_trapped_keeps_its_monitors-run : IsWorkedRun a_thread_that_trapped_keeps_its_monitors (codes "heap 512\nclass A\nobject @o A\nthread Java_A_f @o null\nthread Java_A_f @o null\nthread Java_A_f null null\n") (codes "1*2 2*2 3 1 2 3\n")
    (codes "T1 trap 4 line 3\nT2 blocked\nT3 running\n#46 A\njournal 1 1 2 3 1\n")
unfolding opened
a_thread_that_trapped_keeps_its_monitors-run = worked-run a_thread_that_trapped_keeps_its_monitors a_thread_that_trapped_keeps_its_monitors-world ((Turn 1, Some 2) ∷ (Turn 2, Some 2) ∷ (Turn 3, None) ∷ (Turn 1, None) ∷ (Turn 2, None) ∷ (Turn 3, None) ∷ []) [] a_thread_that_trapped_keeps_its_monitors-accepted a_thread_that_trapped_keeps_its_monitors-means refl refl refl refl

-- three threads in a ring
-- JNIEXPORT void JNICALL Java_A_f(JNIEnv *env, jclass cls, jobject o, jobject p) {
-- (*env)->MonitorEnter(env, o);
-- (*env)->MonitorEnter(env, p);
-- return;
-- }
abbrev pub three_threads_in_a_ring : SourceUnit
three_threads_in_a_ring =
    unit_of
    (native 1 Void (codes "Java_A_f") (reference_parameter JObject (codes "o") ∷ reference_parameter JObject (codes "p") ∷ [])
    (Plain 2 (Perform (call (codes "MonitorEnter") (given (codes "o") ∷ [])))
    ∷ Plain 3 (Perform (call (codes "MonitorEnter") (given (codes "p") ∷ [])))
    ∷ Return 4 None
    ∷ [])
    5
    ∷ [])

abbrev three_threads_in_a_ring-lines : Lines
three_threads_in_a_ring-lines =
    (2, ClassLine (codes "A") None)
    ∷ (3, ObjectLine (codes "o") (codes "A") [])
    ∷ (4, ObjectLine (codes "p") (codes "A") [])
    ∷ (5, ObjectLine (codes "q") (codes "A") [])
    ∷ (6, ThreadLine (codes "Java_A_f") (NamedObject (codes "o") ∷ NamedObject (codes "p") ∷ []))
    ∷ (7, ThreadLine (codes "Java_A_f") (NamedObject (codes "p") ∷ NamedObject (codes "q") ∷ []))
    ∷ (8, ThreadLine (codes "Java_A_f") (NamedObject (codes "q") ∷ NamedObject (codes "o") ∷ []))
    ∷ []

abbrev three_threads_in_a_ring-world : World
three_threads_in_a_ring-world = world_of 1 512 three_threads_in_a_ring-lines

three_threads_in_a_ring-means : IsWorldText (codes "heap 512\nclass A\nobject @o A\nobject @p A\nobject @q A\nthread Java_A_f @o @p\nthread Java_A_f @p @q\nthread Java_A_f @q @o\n") three_threads_in_a_ring-world
unfolding opened
three_threads_in_a_ring-means = world-text (codes "heap 512\nclass A\nobject @o A\nobject @p A\nobject @q A\nthread Java_A_f @o @p\nthread Java_A_f @p @q\nthread Java_A_f @q @o\n") 512 false three_threads_in_a_ring-lines 1 refl refl refl refl refl

three_threads_in_a_ring-accepted : IsAccepted three_threads_in_a_ring
unfolding opened
three_threads_in_a_ring-accepted = accepted three_threads_in_a_ring refl refl refl

three_threads_in_a_ring-run : IsWorkedRun three_threads_in_a_ring (codes "heap 512\nclass A\nobject @o A\nobject @p A\nobject @q A\nthread Java_A_f @o @p\nthread Java_A_f @p @q\nthread Java_A_f @q @o\n") (codes "1*2 2*2 3*2 1 2 3\n")
    (codes "T1 blocked\nT2 blocked\nT3 blocked\n#46 A\n#47 A\n#48 A\njournal 1 1 2 2 3 3\n")
unfolding opened
three_threads_in_a_ring-run = worked-run three_threads_in_a_ring three_threads_in_a_ring-world ((Turn 1, Some 2) ∷ (Turn 2, Some 2) ∷ (Turn 3, Some 2) ∷ (Turn 1, None) ∷ (Turn 2, None) ∷ (Turn 3, None) ∷ []) [] three_threads_in_a_ring-accepted three_threads_in_a_ring-means refl refl refl refl
