-- The cases of texts/monitors_checked.cases, as gate/worked_equations writes them.
use Rattle.std.specs.Prelude.{◌∷◌, ◌++◌, true, false, [], Some, None, codes, refl}
use Rattle.base.specs.declared.element.ElementType.TheVariants.{Int as JInt}
use Rattle.syntax.specs.declared.declared_type.ReferenceType.TheVariants.{Object as JObject, Class as JClass, String as JString, IntArray as JIntArray}
use Rattle.syntax.specs.declared.declared_type.VariableType.TheVariants.{Jint as JIntVariable, Jboolean as JBoolean, Reference as ReferenceVariable}
use Rattle.syntax.specs.declared.declared_type.DeclaredType.TheVariants.{Simple, Pointer, ConstChars}
use Rattle.syntax.specs.declared.unit.ResultType.TheVariants.{Void}
use Rattle.syntax.specs.declared.expr.Constant.TheVariants.{Null}
use Rattle.syntax.specs.declared.expr.PrefixOp.TheVariants.{ToInt}
use Rattle.syntax.specs.declared.expr.BinaryOp.TheVariants.{NotEqual}
use Rattle.syntax.specs.Tree.{Number, Named, Variable, Prefix, Binary, Value, Text, FromCall, TestExpr, TestCall, Declare, Assign, Perform, PutJint, Plain, If, NoElse, Return, SourceUnit}
use Rattle.type_rules.specs.declared.rule.TypeRule.TheVariants.{TypeMisfit, ArgumentCount}
use Rattle.semantics.specs.declared.schedule.ScheduleWord.TheVariants.{Turn}
use Rattle.semantics.specs.World.{World}
use Rattle.world_values.specs.WorldLines.{NullValue, NamedObject, ClassLine, ObjectLine, ThreadLine, Lines}
use Rattle.world_values.specs.WorldMeaning.{world_of}
use Rattle.world_values.specs.WorldRules.{IsWorldText}
use Rattle.region_rules.specs.declared.rule.RegionRule.TheVariants.{CallWhileCritical, DeadReference}
use Rattle.test_equations.specs.Claims.{IsAccepted, IsRefused, IsWorkedRun, IsWorkedReplay, IsStoppedReplay}
use Rattle.test_equations.proofs.Programs.{unit_of, native, block, static_reference, reference_parameter, int_parameter, call, given, entry, entries}
use Rattle.test_equations.proofs.Computed.{opened, accepted, ill_typed, bad_path, world-text, worked-run, worked-replay, stopped-replay}

-- both calls give zero and nothing is pending
-- JNIEXPORT void JNICALL Java_A_f(JNIEnv *env, jclass cls, jobject o) {
-- jint in = (*env)->MonitorEnter(env, o);
-- put_jint(in);
-- jint out = (*env)->MonitorExit(env, o);
-- put_jint(out);
-- jboolean pending = (*env)->ExceptionCheck(env);
-- put_jint((jint)pending);
-- return;
-- }
abbrev pub both_calls_give_zero_and_nothing_is_pending : SourceUnit
both_calls_give_zero_and_nothing_is_pending =
    unit_of
    (native 1 Void (codes "Java_A_f") (reference_parameter JObject (codes "o") ∷ [])
    (Plain 2 (Declare (Simple JIntVariable) (codes "in") (FromCall (call (codes "MonitorEnter") (given (codes "o") ∷ []))))
    ∷ Plain 3 (PutJint (Variable (codes "in")))
    ∷ Plain 4 (Declare (Simple JIntVariable) (codes "out") (FromCall (call (codes "MonitorExit") (given (codes "o") ∷ []))))
    ∷ Plain 5 (PutJint (Variable (codes "out")))
    ∷ Plain 6 (Declare (Simple JBoolean) (codes "pending") (FromCall (call (codes "ExceptionCheck") [])))
    ∷ Plain 7 (PutJint (Prefix ToInt (Variable (codes "pending"))))
    ∷ Return 8 None
    ∷ [])
    9
    ∷ [])

abbrev both_calls_give_zero_and_nothing_is_pending-lines : Lines
both_calls_give_zero_and_nothing_is_pending-lines =
    (2, ClassLine (codes "A") None)
    ∷ (3, ObjectLine (codes "o") (codes "A") [])
    ∷ (4, ThreadLine (codes "Java_A_f") (NamedObject (codes "o") ∷ []))
    ∷ []

abbrev both_calls_give_zero_and_nothing_is_pending-world : World
both_calls_give_zero_and_nothing_is_pending-world = world_of 1 512 both_calls_give_zero_and_nothing_is_pending-lines

both_calls_give_zero_and_nothing_is_pending-means : IsWorldText (codes "heap 512\nclass A\nobject @o A\nthread Java_A_f @o\n") both_calls_give_zero_and_nothing_is_pending-world
unfolding opened
both_calls_give_zero_and_nothing_is_pending-means = world-text (codes "heap 512\nclass A\nobject @o A\nthread Java_A_f @o\n") 512 false both_calls_give_zero_and_nothing_is_pending-lines 1 refl refl refl refl refl

both_calls_give_zero_and_nothing_is_pending-accepted : IsAccepted both_calls_give_zero_and_nothing_is_pending
unfolding opened
both_calls_give_zero_and_nothing_is_pending-accepted = accepted both_calls_give_zero_and_nothing_is_pending refl refl refl

both_calls_give_zero_and_nothing_is_pending-run : IsWorkedRun both_calls_give_zero_and_nothing_is_pending (codes "heap 512\nclass A\nobject @o A\nthread Java_A_f @o\n") (codes "1*99\n")
    (codes "T1 0\nT1 0\nT1 0\nT1 ended\n#46 A\njournal 1 1 1 1 1 1 1 1 1 1 1 1\n")
unfolding opened
both_calls_give_zero_and_nothing_is_pending-run = worked-run both_calls_give_zero_and_nothing_is_pending both_calls_give_zero_and_nothing_is_pending-world ((Turn 1, Some 99) ∷ []) [] both_calls_give_zero_and_nothing_is_pending-accepted both_calls_give_zero_and_nothing_is_pending-means refl refl refl refl

-- the exception of an exit is pending
-- JNIEXPORT void JNICALL Java_A_f(JNIEnv *env, jclass cls, jobject o) {
-- (*env)->MonitorEnter(env, o);
-- (*env)->MonitorExit(env, o);
-- jint out = (*env)->MonitorExit(env, o);
-- put_jint(out);
-- return;
-- }
abbrev pub the_exception_of_an_exit_is_pending : SourceUnit
the_exception_of_an_exit_is_pending =
    unit_of
    (native 1 Void (codes "Java_A_f") (reference_parameter JObject (codes "o") ∷ [])
    (Plain 2 (Perform (call (codes "MonitorEnter") (given (codes "o") ∷ [])))
    ∷ Plain 3 (Perform (call (codes "MonitorExit") (given (codes "o") ∷ [])))
    ∷ Plain 4 (Declare (Simple JIntVariable) (codes "out") (FromCall (call (codes "MonitorExit") (given (codes "o") ∷ []))))
    ∷ Plain 5 (PutJint (Variable (codes "out")))
    ∷ Return 6 None
    ∷ [])
    7
    ∷ [])

the_exception_of_an_exit_is_pending-accepted : IsAccepted the_exception_of_an_exit_is_pending
unfolding opened
the_exception_of_an_exit_is_pending-accepted = accepted the_exception_of_an_exit_is_pending refl refl refl

the_exception_of_an_exit_is_pending-run : IsWorkedRun the_exception_of_an_exit_is_pending (codes "heap 512\nclass A\nobject @o A\nthread Java_A_f @o\n") (codes "1*6\n")
    (codes "T1 -1\nT1 running\n#46 A\n#47 java/lang/IllegalMonitorStateException null\njournal 1 1 1 1 1 1\n")
unfolding opened
the_exception_of_an_exit_is_pending-run = worked-run the_exception_of_an_exit_is_pending both_calls_give_zero_and_nothing_is_pending-world ((Turn 1, Some 6) ∷ []) [] the_exception_of_an_exit_is_pending-accepted both_calls_give_zero_and_nothing_is_pending-means refl refl refl refl

-- a monitor is left while an exception is pending
-- JNIEXPORT void JNICALL Java_A_f(JNIEnv *env, jclass cls, jobject o) {
-- (*env)->MonitorEnter(env, o);
-- jclass c = (*env)->FindClass(env, "B");
-- jint out = (*env)->MonitorExit(env, o);
-- put_jint(out);
-- return;
-- }
-- JNIEXPORT void JNICALL Java_A_g(JNIEnv *env, jclass cls, jobject o) {
-- (*env)->MonitorEnter(env, o);
-- return;
-- }
abbrev pub a_monitor_is_left_while_an_exception_is_pending : SourceUnit
a_monitor_is_left_while_an_exception_is_pending =
    unit_of
    (native 1 Void (codes "Java_A_f") (reference_parameter JObject (codes "o") ∷ [])
    (Plain 2 (Perform (call (codes "MonitorEnter") (given (codes "o") ∷ [])))
    ∷ Plain 3 (Declare (Simple (ReferenceVariable JClass)) (codes "c") (FromCall (call (codes "FindClass") (Text (codes "B") ∷ []))))
    ∷ Plain 4 (Declare (Simple JIntVariable) (codes "out") (FromCall (call (codes "MonitorExit") (given (codes "o") ∷ []))))
    ∷ Plain 5 (PutJint (Variable (codes "out")))
    ∷ Return 6 None
    ∷ [])
    7
    ∷ native 8 Void (codes "Java_A_g") (reference_parameter JObject (codes "o") ∷ [])
    (Plain 9 (Perform (call (codes "MonitorEnter") (given (codes "o") ∷ [])))
    ∷ Return 10 None
    ∷ [])
    11
    ∷ [])

abbrev a_monitor_is_left_while_an_exception_is_pending-lines : Lines
a_monitor_is_left_while_an_exception_is_pending-lines =
    (2, ClassLine (codes "A") None)
    ∷ (3, ObjectLine (codes "o") (codes "A") [])
    ∷ (4, ThreadLine (codes "Java_A_f") (NamedObject (codes "o") ∷ []))
    ∷ (5, ThreadLine (codes "Java_A_g") (NamedObject (codes "o") ∷ []))
    ∷ []

abbrev a_monitor_is_left_while_an_exception_is_pending-world : World
a_monitor_is_left_while_an_exception_is_pending-world = world_of 1 512 a_monitor_is_left_while_an_exception_is_pending-lines

a_monitor_is_left_while_an_exception_is_pending-means : IsWorldText (codes "heap 512\nclass A\nobject @o A\nthread Java_A_f @o\nthread Java_A_g @o\n") a_monitor_is_left_while_an_exception_is_pending-world
unfolding opened
a_monitor_is_left_while_an_exception_is_pending-means = world-text (codes "heap 512\nclass A\nobject @o A\nthread Java_A_f @o\nthread Java_A_g @o\n") 512 false a_monitor_is_left_while_an_exception_is_pending-lines 1 refl refl refl refl refl

a_monitor_is_left_while_an_exception_is_pending-accepted : IsAccepted a_monitor_is_left_while_an_exception_is_pending
unfolding opened
a_monitor_is_left_while_an_exception_is_pending-accepted = accepted a_monitor_is_left_while_an_exception_is_pending refl refl refl

a_monitor_is_left_while_an_exception_is_pending-run : IsWorkedRun a_monitor_is_left_while_an_exception_is_pending (codes "heap 512\nclass A\nobject @o A\nthread Java_A_f @o\nthread Java_A_g @o\n") (codes "1*3 2*2 1 2*9 1*9\n")
    (codes "T1 0\nT1 uncaught java/lang/NoClassDefFoundError\nT2 ended\n#46 A\njournal 1 1 1 2 1 2 2 1 1 1\n")
unfolding opened
a_monitor_is_left_while_an_exception_is_pending-run = worked-run a_monitor_is_left_while_an_exception_is_pending a_monitor_is_left_while_an_exception_is_pending-world ((Turn 1, Some 3) ∷ (Turn 2, Some 2) ∷ (Turn 1, None) ∷ (Turn 2, Some 9) ∷ (Turn 1, Some 9) ∷ []) [] a_monitor_is_left_while_an_exception_is_pending-accepted a_monitor_is_left_while_an_exception_is_pending-means refl refl refl refl

-- the exception of an exit replaces a pending one
-- JNIEXPORT void JNICALL Java_A_f(JNIEnv *env, jclass cls, jobject o) {
-- jclass c = (*env)->FindClass(env, "B");
-- (*env)->MonitorExit(env, o);
-- return;
-- }
abbrev pub the_exception_of_an_exit_replaces_a_pending_one : SourceUnit
the_exception_of_an_exit_replaces_a_pending_one =
    unit_of
    (native 1 Void (codes "Java_A_f") (reference_parameter JObject (codes "o") ∷ [])
    (Plain 2 (Declare (Simple (ReferenceVariable JClass)) (codes "c") (FromCall (call (codes "FindClass") (Text (codes "B") ∷ []))))
    ∷ Plain 3 (Perform (call (codes "MonitorExit") (given (codes "o") ∷ [])))
    ∷ Return 4 None
    ∷ [])
    5
    ∷ [])

the_exception_of_an_exit_replaces_a_pending_one-accepted : IsAccepted the_exception_of_an_exit_replaces_a_pending_one
unfolding opened
the_exception_of_an_exit_replaces_a_pending_one-accepted = accepted the_exception_of_an_exit_replaces_a_pending_one refl refl refl

the_exception_of_an_exit_replaces_a_pending_one-run : IsWorkedRun the_exception_of_an_exit_replaces_a_pending_one (codes "heap 512\nclass A\nobject @o A\nthread Java_A_f @o\n") (codes "1*3\n")
    (codes "T1 running\n#46 A\n#48 java/lang/IllegalMonitorStateException null\njournal 1 1 1\n")
unfolding opened
the_exception_of_an_exit_replaces_a_pending_one-run = worked-run the_exception_of_an_exit_replaces_a_pending_one both_calls_give_zero_and_nothing_is_pending-world ((Turn 1, Some 3) ∷ []) [] the_exception_of_an_exit_replaces_a_pending_one-accepted both_calls_give_zero_and_nothing_is_pending-means refl refl refl refl

-- the exception of an exit is refused
-- JNIEXPORT void JNICALL Java_A_f(JNIEnv *env, jclass cls, jobject o) {
-- jint out = (*env)->MonitorExit(env, o);
-- put_jint(out);
-- return;
-- }
abbrev pub the_exception_of_an_exit_is_refused : SourceUnit
the_exception_of_an_exit_is_refused =
    unit_of
    (native 1 Void (codes "Java_A_f") (reference_parameter JObject (codes "o") ∷ [])
    (Plain 2 (Declare (Simple JIntVariable) (codes "out") (FromCall (call (codes "MonitorExit") (given (codes "o") ∷ []))))
    ∷ Plain 3 (PutJint (Variable (codes "out")))
    ∷ Return 4 None
    ∷ [])
    5
    ∷ [])

the_exception_of_an_exit_is_refused-accepted : IsAccepted the_exception_of_an_exit_is_refused
unfolding opened
the_exception_of_an_exit_is_refused-accepted = accepted the_exception_of_an_exit_is_refused refl refl refl

the_exception_of_an_exit_is_refused-replay : IsWorkedReplay the_exception_of_an_exit_is_refused (codes "heap 512\nclass A\nobject @o A\nthread Java_A_f @o\n") (codes "1 1! 1 1 1\n") (codes "T1 -1\nT1 uncaught java/lang/OutOfMemoryError\n#46 A\njournal 1 1! 1 1 1\n")
unfolding opened
the_exception_of_an_exit_is_refused-replay = worked-replay the_exception_of_an_exit_is_refused both_calls_give_zero_and_nothing_is_pending-world (entries 1 1 ++ entry 1 true ∷ [] ++ entries 1 3) the_exception_of_an_exit_is_refused-accepted both_calls_give_zero_and_nothing_is_pending-means refl refl refl refl

-- an exit that throws nothing has nothing to refuse
-- JNIEXPORT void JNICALL Java_A_f(JNIEnv *env, jclass cls, jobject o) {
-- (*env)->MonitorEnter(env, o);
-- (*env)->MonitorExit(env, o);
-- return;
-- }
abbrev pub an_exit_that_throws_nothing_has_nothing_to_refuse : SourceUnit
an_exit_that_throws_nothing_has_nothing_to_refuse =
    unit_of
    (native 1 Void (codes "Java_A_f") (reference_parameter JObject (codes "o") ∷ [])
    (Plain 2 (Perform (call (codes "MonitorEnter") (given (codes "o") ∷ [])))
    ∷ Plain 3 (Perform (call (codes "MonitorExit") (given (codes "o") ∷ [])))
    ∷ Return 4 None
    ∷ [])
    5
    ∷ [])

an_exit_that_throws_nothing_has_nothing_to_refuse-accepted : IsAccepted an_exit_that_throws_nothing_has_nothing_to_refuse
unfolding opened
an_exit_that_throws_nothing_has_nothing_to_refuse-accepted = accepted an_exit_that_throws_nothing_has_nothing_to_refuse refl refl refl

an_exit_that_throws_nothing_has_nothing_to_refuse-stopped : IsStoppedReplay an_exit_that_throws_nothing_has_nothing_to_refuse (codes "heap 512\nclass A\nobject @o A\nthread Java_A_f @o\n") (codes "1 1 1! 1\n") 3
unfolding opened
an_exit_that_throws_nothing_has_nothing_to_refuse-stopped = stopped-replay an_exit_that_throws_nothing_has_nothing_to_refuse both_calls_give_zero_and_nothing_is_pending-world (entries 1 2) (entry 1 true) (entries 1 1) an_exit_that_throws_nothing_has_nothing_to_refuse-accepted both_calls_give_zero_and_nothing_is_pending-means refl refl refl refl

-- nor has an entry
nor_has_an_entry-stopped : IsStoppedReplay an_exit_that_throws_nothing_has_nothing_to_refuse (codes "heap 512\nclass A\nobject @o A\nthread Java_A_f @o\n") (codes "1 1!\n") 2
unfolding opened
nor_has_an_entry-stopped = stopped-replay an_exit_that_throws_nothing_has_nothing_to_refuse both_calls_give_zero_and_nothing_is_pending-world (entries 1 1) (entry 1 true) [] an_exit_that_throws_nothing_has_nothing_to_refuse-accepted both_calls_give_zero_and_nothing_is_pending-means refl refl refl refl

-- a thread that waits has no entry in a journal
abbrev a_thread_that_waits_has_no_entry_in_a_journal-lines : Lines
a_thread_that_waits_has_no_entry_in_a_journal-lines =
    (2, ClassLine (codes "A") None)
    ∷ (3, ObjectLine (codes "o") (codes "A") [])
    ∷ (4, ThreadLine (codes "Java_A_f") (NamedObject (codes "o") ∷ []))
    ∷ (5, ThreadLine (codes "Java_A_f") (NamedObject (codes "o") ∷ []))
    ∷ []

abbrev a_thread_that_waits_has_no_entry_in_a_journal-world : World
a_thread_that_waits_has_no_entry_in_a_journal-world = world_of 1 512 a_thread_that_waits_has_no_entry_in_a_journal-lines

a_thread_that_waits_has_no_entry_in_a_journal-means : IsWorldText (codes "heap 512\nclass A\nobject @o A\nthread Java_A_f @o\nthread Java_A_f @o\n") a_thread_that_waits_has_no_entry_in_a_journal-world
unfolding opened
a_thread_that_waits_has_no_entry_in_a_journal-means = world-text (codes "heap 512\nclass A\nobject @o A\nthread Java_A_f @o\nthread Java_A_f @o\n") 512 false a_thread_that_waits_has_no_entry_in_a_journal-lines 1 refl refl refl refl refl

a_thread_that_waits_has_no_entry_in_a_journal-stopped : IsStoppedReplay an_exit_that_throws_nothing_has_nothing_to_refuse (codes "heap 512\nclass A\nobject @o A\nthread Java_A_f @o\nthread Java_A_f @o\n") (codes "1 1 2 2 1\n") 4
unfolding opened
a_thread_that_waits_has_no_entry_in_a_journal-stopped = stopped-replay an_exit_that_throws_nothing_has_nothing_to_refuse a_thread_that_waits_has_no_entry_in_a_journal-world (entries 1 2 ++ entries 2 1) (entry 2 false) (entries 1 1) an_exit_that_throws_nothing_has_nothing_to_refuse-accepted a_thread_that_waits_has_no_entry_in_a_journal-means refl refl refl refl

-- it has one once the monitor is left
it_has_one_once_the_monitor_is_left-replay : IsWorkedReplay an_exit_that_throws_nothing_has_nothing_to_refuse (codes "heap 512\nclass A\nobject @o A\nthread Java_A_f @o\nthread Java_A_f @o\n") (codes "1 1 2 1 2\n") (codes "T1 running\nT2 running\n#46 A\njournal 1 1 2 1 2\n")
unfolding opened
it_has_one_once_the_monitor_is_left-replay = worked-replay an_exit_that_throws_nothing_has_nothing_to_refuse a_thread_that_waits_has_no_entry_in_a_journal-world (entries 1 2 ++ entries 2 1 ++ entries 1 1 ++ entries 2 1) an_exit_that_throws_nothing_has_nothing_to_refuse-accepted a_thread_that_waits_has_no_entry_in_a_journal-means refl refl refl refl

-- a monitor of null is left
-- JNIEXPORT void JNICALL Java_A_f(JNIEnv *env, jclass cls, jobject o) {
-- (*env)->MonitorExit(env, o);
-- return;
-- }
abbrev pub a_monitor_of_null_is_left : SourceUnit
a_monitor_of_null_is_left =
    unit_of
    (native 1 Void (codes "Java_A_f") (reference_parameter JObject (codes "o") ∷ [])
    (Plain 2 (Perform (call (codes "MonitorExit") (given (codes "o") ∷ [])))
    ∷ Return 3 None
    ∷ [])
    4
    ∷ [])

abbrev a_monitor_of_null_is_left-lines : Lines
a_monitor_of_null_is_left-lines =
    (2, ClassLine (codes "A") None)
    ∷ (3, ThreadLine (codes "Java_A_f") (NullValue ∷ []))
    ∷ []

abbrev a_monitor_of_null_is_left-world : World
a_monitor_of_null_is_left-world = world_of 1 512 a_monitor_of_null_is_left-lines

a_monitor_of_null_is_left-means : IsWorldText (codes "heap 512\nclass A\nthread Java_A_f null\n") a_monitor_of_null_is_left-world
unfolding opened
a_monitor_of_null_is_left-means = world-text (codes "heap 512\nclass A\nthread Java_A_f null\n") 512 false a_monitor_of_null_is_left-lines 1 refl refl refl refl refl

a_monitor_of_null_is_left-accepted : IsAccepted a_monitor_of_null_is_left
unfolding opened
a_monitor_of_null_is_left-accepted = accepted a_monitor_of_null_is_left refl refl refl

a_monitor_of_null_is_left-run : IsWorkedRun a_monitor_of_null_is_left (codes "heap 512\nclass A\nthread Java_A_f null\n") (codes "1*9\n")
    (codes "T1 trap 4 line 2\njournal 1 1\n")
unfolding opened
a_monitor_of_null_is_left-run = worked-run a_monitor_of_null_is_left a_monitor_of_null_is_left-world ((Turn 1, Some 9) ∷ []) [] a_monitor_of_null_is_left-accepted a_monitor_of_null_is_left-means refl refl refl refl

-- a monitor of the constant null is entered
-- JNIEXPORT void JNICALL Java_A_f(JNIEnv *env, jclass cls) {
-- (*env)->MonitorEnter(env, NULL);
-- return;
-- }
abbrev pub a_monitor_of_the_constant_null_is_entered : SourceUnit
a_monitor_of_the_constant_null_is_entered =
    unit_of
    (native 1 Void (codes "Java_A_f") []
    (Plain 2 (Perform (call (codes "MonitorEnter") (Value (Named Null) ∷ [])))
    ∷ Return 3 None
    ∷ [])
    4
    ∷ [])

abbrev a_monitor_of_the_constant_null_is_entered-lines : Lines
a_monitor_of_the_constant_null_is_entered-lines =
    (2, ClassLine (codes "A") None)
    ∷ (3, ThreadLine (codes "Java_A_f") [])
    ∷ []

abbrev a_monitor_of_the_constant_null_is_entered-world : World
a_monitor_of_the_constant_null_is_entered-world = world_of 1 512 a_monitor_of_the_constant_null_is_entered-lines

a_monitor_of_the_constant_null_is_entered-means : IsWorldText (codes "heap 512\nclass A\nthread Java_A_f\n") a_monitor_of_the_constant_null_is_entered-world
unfolding opened
a_monitor_of_the_constant_null_is_entered-means = world-text (codes "heap 512\nclass A\nthread Java_A_f\n") 512 false a_monitor_of_the_constant_null_is_entered-lines 1 refl refl refl refl refl

a_monitor_of_the_constant_null_is_entered-accepted : IsAccepted a_monitor_of_the_constant_null_is_entered
unfolding opened
a_monitor_of_the_constant_null_is_entered-accepted = accepted a_monitor_of_the_constant_null_is_entered refl refl refl

a_monitor_of_the_constant_null_is_entered-run : IsWorkedRun a_monitor_of_the_constant_null_is_entered (codes "heap 512\nclass A\nthread Java_A_f\n") (codes "1*9\n")
    (codes "T1 trap 4 line 2\njournal 1 1\n")
unfolding opened
a_monitor_of_the_constant_null_is_entered-run = worked-run a_monitor_of_the_constant_null_is_entered a_monitor_of_the_constant_null_is_entered-world ((Turn 1, Some 9) ∷ []) [] a_monitor_of_the_constant_null_is_entered-accepted a_monitor_of_the_constant_null_is_entered-means refl refl refl refl

-- a monitor is entered by a deleted global reference
-- static jobject g = NULL;
-- JNIEXPORT void JNICALL Java_A_f(JNIEnv *env, jclass cls, jobject o) {
-- g = (*env)->NewGlobalRef(env, o);
-- (*env)->DeleteGlobalRef(env, g);
-- (*env)->MonitorEnter(env, g);
-- return;
-- }
abbrev pub a_monitor_is_entered_by_a_deleted_global_reference : SourceUnit
a_monitor_is_entered_by_a_deleted_global_reference =
    unit_of
    (static_reference 1 JObject (codes "g")
    ∷ native 2 Void (codes "Java_A_f") (reference_parameter JObject (codes "o") ∷ [])
    (Plain 3 (Assign (codes "g") (FromCall (call (codes "NewGlobalRef") (given (codes "o") ∷ []))))
    ∷ Plain 4 (Perform (call (codes "DeleteGlobalRef") (given (codes "g") ∷ [])))
    ∷ Plain 5 (Perform (call (codes "MonitorEnter") (given (codes "g") ∷ [])))
    ∷ Return 6 None
    ∷ [])
    7
    ∷ [])

a_monitor_is_entered_by_a_deleted_global_reference-accepted : IsAccepted a_monitor_is_entered_by_a_deleted_global_reference
unfolding opened
a_monitor_is_entered_by_a_deleted_global_reference-accepted = accepted a_monitor_is_entered_by_a_deleted_global_reference refl refl refl

a_monitor_is_entered_by_a_deleted_global_reference-run : IsWorkedRun a_monitor_is_entered_by_a_deleted_global_reference (codes "heap 512\nclass A\nobject @o A\nthread Java_A_f @o\n") (codes "1*9\n")
    (codes "T1 trap 7 line 5\n#46 A\njournal 1 1 1 1\n")
unfolding opened
a_monitor_is_entered_by_a_deleted_global_reference-run = worked-run a_monitor_is_entered_by_a_deleted_global_reference both_calls_give_zero_and_nothing_is_pending-world ((Turn 1, Some 9) ∷ []) [] a_monitor_is_entered_by_a_deleted_global_reference-accepted both_calls_give_zero_and_nothing_is_pending-means refl refl refl refl

-- a monitor is left by a deleted global reference while an exception is pending
-- static jobject g = NULL;
-- JNIEXPORT void JNICALL Java_A_f(JNIEnv *env, jclass cls, jobject o) {
-- g = (*env)->NewGlobalRef(env, o);
-- (*env)->MonitorEnter(env, g);
-- (*env)->DeleteGlobalRef(env, g);
-- jclass c = (*env)->FindClass(env, "B");
-- (*env)->MonitorExit(env, g);
-- return;
-- }
abbrev pub a_monitor_is_left_by_a_deleted_global_reference_while_an_exception_is_pending : SourceUnit
a_monitor_is_left_by_a_deleted_global_reference_while_an_exception_is_pending =
    unit_of
    (static_reference 1 JObject (codes "g")
    ∷ native 2 Void (codes "Java_A_f") (reference_parameter JObject (codes "o") ∷ [])
    (Plain 3 (Assign (codes "g") (FromCall (call (codes "NewGlobalRef") (given (codes "o") ∷ []))))
    ∷ Plain 4 (Perform (call (codes "MonitorEnter") (given (codes "g") ∷ [])))
    ∷ Plain 5 (Perform (call (codes "DeleteGlobalRef") (given (codes "g") ∷ [])))
    ∷ Plain 6 (Declare (Simple (ReferenceVariable JClass)) (codes "c") (FromCall (call (codes "FindClass") (Text (codes "B") ∷ []))))
    ∷ Plain 7 (Perform (call (codes "MonitorExit") (given (codes "g") ∷ [])))
    ∷ Return 8 None
    ∷ [])
    9
    ∷ [])

a_monitor_is_left_by_a_deleted_global_reference_while_an_exception_is_pending-accepted : IsAccepted a_monitor_is_left_by_a_deleted_global_reference_while_an_exception_is_pending
unfolding opened
a_monitor_is_left_by_a_deleted_global_reference_while_an_exception_is_pending-accepted = accepted a_monitor_is_left_by_a_deleted_global_reference_while_an_exception_is_pending refl refl refl

a_monitor_is_left_by_a_deleted_global_reference_while_an_exception_is_pending-run : IsWorkedRun a_monitor_is_left_by_a_deleted_global_reference_while_an_exception_is_pending (codes "heap 512\nclass A\nobject @o A\nthread Java_A_f @o\n") (codes "1*9\n")
    (codes "T1 trap 7 line 7\n#46 A\n#47 java/lang/NoClassDefFoundError null\njournal 1 1 1 1 1 1\n")
unfolding opened
a_monitor_is_left_by_a_deleted_global_reference_while_an_exception_is_pending-run = worked-run a_monitor_is_left_by_a_deleted_global_reference_while_an_exception_is_pending both_calls_give_zero_and_nothing_is_pending-world ((Turn 1, Some 9) ∷ []) [] a_monitor_is_left_by_a_deleted_global_reference_while_an_exception_is_pending-accepted both_calls_give_zero_and_nothing_is_pending-means refl refl refl refl

-- a monitor is entered by a deleted global reference while an exception is pending
-- static jobject g = NULL;
-- JNIEXPORT void JNICALL Java_A_f(JNIEnv *env, jclass cls, jobject o) {
-- g = (*env)->NewGlobalRef(env, o);
-- (*env)->DeleteGlobalRef(env, g);
-- jclass c = (*env)->FindClass(env, "B");
-- (*env)->MonitorEnter(env, g);
-- return;
-- }
abbrev pub a_monitor_is_entered_by_a_deleted_global_reference_while_an_exception_is_pending : SourceUnit
a_monitor_is_entered_by_a_deleted_global_reference_while_an_exception_is_pending =
    unit_of
    (static_reference 1 JObject (codes "g")
    ∷ native 2 Void (codes "Java_A_f") (reference_parameter JObject (codes "o") ∷ [])
    (Plain 3 (Assign (codes "g") (FromCall (call (codes "NewGlobalRef") (given (codes "o") ∷ []))))
    ∷ Plain 4 (Perform (call (codes "DeleteGlobalRef") (given (codes "g") ∷ [])))
    ∷ Plain 5 (Declare (Simple (ReferenceVariable JClass)) (codes "c") (FromCall (call (codes "FindClass") (Text (codes "B") ∷ []))))
    ∷ Plain 6 (Perform (call (codes "MonitorEnter") (given (codes "g") ∷ [])))
    ∷ Return 7 None
    ∷ [])
    8
    ∷ [])

a_monitor_is_entered_by_a_deleted_global_reference_while_an_exception_is_pending-accepted : IsAccepted a_monitor_is_entered_by_a_deleted_global_reference_while_an_exception_is_pending
unfolding opened
a_monitor_is_entered_by_a_deleted_global_reference_while_an_exception_is_pending-accepted = accepted a_monitor_is_entered_by_a_deleted_global_reference_while_an_exception_is_pending refl refl refl

a_monitor_is_entered_by_a_deleted_global_reference_while_an_exception_is_pending-run : IsWorkedRun a_monitor_is_entered_by_a_deleted_global_reference_while_an_exception_is_pending (codes "heap 512\nclass A\nobject @o A\nthread Java_A_f @o\n") (codes "1*9\n")
    (codes "T1 trap 5 line 6\n#46 A\n#47 java/lang/NoClassDefFoundError null\njournal 1 1 1 1 1\n")
unfolding opened
a_monitor_is_entered_by_a_deleted_global_reference_while_an_exception_is_pending-run = worked-run a_monitor_is_entered_by_a_deleted_global_reference_while_an_exception_is_pending both_calls_give_zero_and_nothing_is_pending-world ((Turn 1, Some 9) ∷ []) [] a_monitor_is_entered_by_a_deleted_global_reference_while_an_exception_is_pending-accepted both_calls_give_zero_and_nothing_is_pending-means refl refl refl refl

-- a thread with an exception pending does not wait
-- JNIEXPORT void JNICALL Java_A_f(JNIEnv *env, jclass cls, jobject o) {
-- (*env)->MonitorEnter(env, o);
-- return;
-- }
-- JNIEXPORT void JNICALL Java_A_g(JNIEnv *env, jclass cls, jobject o) {
-- jclass c = (*env)->FindClass(env, "B");
-- (*env)->MonitorEnter(env, o);
-- return;
-- }
abbrev pub a_thread_with_an_exception_pending_does_not_wait : SourceUnit
a_thread_with_an_exception_pending_does_not_wait =
    unit_of
    (native 1 Void (codes "Java_A_f") (reference_parameter JObject (codes "o") ∷ [])
    (Plain 2 (Perform (call (codes "MonitorEnter") (given (codes "o") ∷ [])))
    ∷ Return 3 None
    ∷ [])
    4
    ∷ native 5 Void (codes "Java_A_g") (reference_parameter JObject (codes "o") ∷ [])
    (Plain 6 (Declare (Simple (ReferenceVariable JClass)) (codes "c") (FromCall (call (codes "FindClass") (Text (codes "B") ∷ []))))
    ∷ Plain 7 (Perform (call (codes "MonitorEnter") (given (codes "o") ∷ [])))
    ∷ Return 8 None
    ∷ [])
    9
    ∷ [])

a_thread_with_an_exception_pending_does_not_wait-accepted : IsAccepted a_thread_with_an_exception_pending_does_not_wait
unfolding opened
a_thread_with_an_exception_pending_does_not_wait-accepted = accepted a_thread_with_an_exception_pending_does_not_wait refl refl refl

a_thread_with_an_exception_pending_does_not_wait-run : IsWorkedRun a_thread_with_an_exception_pending_does_not_wait (codes "heap 512\nclass A\nobject @o A\nthread Java_A_f @o\nthread Java_A_g @o\n") (codes "1*2 2*9\n")
    (codes "T1 running\nT2 trap 5 line 7\n#46 A\n#47 java/lang/NoClassDefFoundError null\njournal 1 1 2 2 2\n")
unfolding opened
a_thread_with_an_exception_pending_does_not_wait-run = worked-run a_thread_with_an_exception_pending_does_not_wait a_monitor_is_left_while_an_exception_is_pending-world ((Turn 1, Some 2) ∷ (Turn 2, Some 9) ∷ []) [] a_thread_with_an_exception_pending_does_not_wait-accepted a_monitor_is_left_while_an_exception_is_pending-means refl refl refl refl

-- a monitor is entered while a buffer is critical
-- JNIEXPORT void JNICALL Java_A_f(JNIEnv *env, jclass cls, jintArray a) {
-- jint *p = (*env)->GetPrimitiveArrayCritical(env, a, NULL);
-- if (p != NULL) {
-- (*env)->MonitorEnter(env, a);
-- (*env)->ReleasePrimitiveArrayCritical(env, a, p, 0);
-- }
-- return;
-- }
abbrev pub a_monitor_is_entered_while_a_buffer_is_critical : SourceUnit
a_monitor_is_entered_while_a_buffer_is_critical =
    unit_of
    (native 1 Void (codes "Java_A_f") (reference_parameter JIntArray (codes "a") ∷ [])
    (Plain 2 (Declare (Pointer JInt) (codes "p") (FromCall (call (codes "GetPrimitiveArrayCritical") (given (codes "a") ∷ Value (Named Null) ∷ []))))
    ∷ If 3 (TestExpr (Binary NotEqual (Variable (codes "p")) (Named Null)))
    (block
    (Plain 4 (Perform (call (codes "MonitorEnter") (given (codes "a") ∷ [])))
    ∷ Plain 5 (Perform (call (codes "ReleasePrimitiveArrayCritical") (given (codes "a") ∷ given (codes "p") ∷ Value (Number 0 false) ∷ [])))
    ∷ [])
    6)
    NoElse
    ∷ Return 7 None
    ∷ [])
    8
    ∷ [])

a_monitor_is_entered_while_a_buffer_is_critical-refused : IsRefused a_monitor_is_entered_while_a_buffer_is_critical 31 4
unfolding opened
a_monitor_is_entered_while_a_buffer_is_critical-refused = bad_path a_monitor_is_entered_while_a_buffer_is_critical CallWhileCritical 4 refl refl refl

-- a monitor is left while a buffer is critical
-- JNIEXPORT void JNICALL Java_A_f(JNIEnv *env, jclass cls, jstring s) {
-- const jchar *p = (*env)->GetStringCritical(env, s, NULL);
-- if (p != NULL) {
-- (*env)->MonitorExit(env, s);
-- (*env)->ReleaseStringCritical(env, s, p);
-- }
-- return;
-- }
abbrev pub a_monitor_is_left_while_a_buffer_is_critical : SourceUnit
a_monitor_is_left_while_a_buffer_is_critical =
    unit_of
    (native 1 Void (codes "Java_A_f") (reference_parameter JString (codes "s") ∷ [])
    (Plain 2 (Declare ConstChars (codes "p") (FromCall (call (codes "GetStringCritical") (given (codes "s") ∷ Value (Named Null) ∷ []))))
    ∷ If 3 (TestExpr (Binary NotEqual (Variable (codes "p")) (Named Null)))
    (block
    (Plain 4 (Perform (call (codes "MonitorExit") (given (codes "s") ∷ [])))
    ∷ Plain 5 (Perform (call (codes "ReleaseStringCritical") (given (codes "s") ∷ given (codes "p") ∷ [])))
    ∷ [])
    6)
    NoElse
    ∷ Return 7 None
    ∷ [])
    8
    ∷ [])

a_monitor_is_left_while_a_buffer_is_critical-refused : IsRefused a_monitor_is_left_while_a_buffer_is_critical 31 4
unfolding opened
a_monitor_is_left_while_a_buffer_is_critical-refused = bad_path a_monitor_is_left_while_a_buffer_is_critical CallWhileCritical 4 refl refl refl

-- a monitor is left by a dead reference
-- JNIEXPORT void JNICALL Java_A_f(JNIEnv *env, jclass cls, jobject o) {
-- (*env)->MonitorEnter(env, o);
-- (*env)->DeleteLocalRef(env, o);
-- (*env)->MonitorExit(env, o);
-- return;
-- }
abbrev pub a_monitor_is_left_by_a_dead_reference : SourceUnit
a_monitor_is_left_by_a_dead_reference =
    unit_of
    (native 1 Void (codes "Java_A_f") (reference_parameter JObject (codes "o") ∷ [])
    (Plain 2 (Perform (call (codes "MonitorEnter") (given (codes "o") ∷ [])))
    ∷ Plain 3 (Perform (call (codes "DeleteLocalRef") (given (codes "o") ∷ [])))
    ∷ Plain 4 (Perform (call (codes "MonitorExit") (given (codes "o") ∷ [])))
    ∷ Return 5 None
    ∷ [])
    6
    ∷ [])

a_monitor_is_left_by_a_dead_reference-refused : IsRefused a_monitor_is_left_by_a_dead_reference 38 4
unfolding opened
a_monitor_is_left_by_a_dead_reference-refused = bad_path a_monitor_is_left_by_a_dead_reference DeadReference 4 refl refl refl

-- the answer of an entry is no flag
-- JNIEXPORT void JNICALL Java_A_f(JNIEnv *env, jclass cls, jobject o) {
-- jboolean in = (*env)->MonitorEnter(env, o);
-- return;
-- }
abbrev pub the_answer_of_an_entry_is_no_flag : SourceUnit
the_answer_of_an_entry_is_no_flag =
    unit_of
    (native 1 Void (codes "Java_A_f") (reference_parameter JObject (codes "o") ∷ [])
    (Plain 2 (Declare (Simple JBoolean) (codes "in") (FromCall (call (codes "MonitorEnter") (given (codes "o") ∷ []))))
    ∷ Return 3 None
    ∷ [])
    4
    ∷ [])

the_answer_of_an_entry_is_no_flag-refused : IsRefused the_answer_of_an_entry_is_no_flag 23 2
unfolding opened
the_answer_of_an_entry_is_no_flag-refused = ill_typed the_answer_of_an_entry_is_no_flag TypeMisfit 2 refl refl

-- a number has no monitor
-- JNIEXPORT void JNICALL Java_A_f(JNIEnv *env, jclass cls, jint n) {
-- (*env)->MonitorExit(env, n);
-- return;
-- }
abbrev pub a_number_has_no_monitor : SourceUnit
a_number_has_no_monitor =
    unit_of
    (native 1 Void (codes "Java_A_f") (int_parameter (codes "n") ∷ [])
    (Plain 2 (Perform (call (codes "MonitorExit") (given (codes "n") ∷ [])))
    ∷ Return 3 None
    ∷ [])
    4
    ∷ [])

a_number_has_no_monitor-refused : IsRefused a_number_has_no_monitor 23 2
unfolding opened
a_number_has_no_monitor-refused = ill_typed a_number_has_no_monitor TypeMisfit 2 refl refl

-- an entry is no test
-- JNIEXPORT void JNICALL Java_A_f(JNIEnv *env, jclass cls, jobject o) {
-- if ((*env)->MonitorEnter(env, o) == 0) {
-- (*env)->MonitorExit(env, o);
-- }
-- return;
-- }
abbrev pub an_entry_is_no_test : SourceUnit
an_entry_is_no_test =
    unit_of
    (native 1 Void (codes "Java_A_f") (reference_parameter JObject (codes "o") ∷ [])
    (If 2 (TestCall (call (codes "MonitorEnter") (given (codes "o") ∷ [])))
    (block
    (Plain 3 (Perform (call (codes "MonitorExit") (given (codes "o") ∷ [])))
    ∷ [])
    4)
    NoElse
    ∷ Return 5 None
    ∷ [])
    6
    ∷ [])

an_entry_is_no_test-refused : IsRefused an_entry_is_no_test 23 2
unfolding opened
an_entry_is_no_test-refused = ill_typed an_entry_is_no_test TypeMisfit 2 refl refl

-- a monitor is left of two objects
-- JNIEXPORT void JNICALL Java_A_f(JNIEnv *env, jclass cls, jobject o) {
-- (*env)->MonitorExit(env, o, cls);
-- return;
-- }
abbrev pub a_monitor_is_left_of_two_objects : SourceUnit
a_monitor_is_left_of_two_objects =
    unit_of
    (native 1 Void (codes "Java_A_f") (reference_parameter JObject (codes "o") ∷ [])
    (Plain 2 (Perform (call (codes "MonitorExit") (given (codes "o") ∷ given (codes "cls") ∷ [])))
    ∷ Return 3 None
    ∷ [])
    4
    ∷ [])

a_monitor_is_left_of_two_objects-refused : IsRefused a_monitor_is_left_of_two_objects 25 2
unfolding opened
a_monitor_is_left_of_two_objects-refused = ill_typed a_monitor_is_left_of_two_objects ArgumentCount 2 refl refl
