-- The cases of texts/monitors.cases, as gate/worked_equations writes them.
use Rattle.std.specs.Prelude.{◌∷◌, false, [], Some, None, codes, refl}
use Rattle.syntax.specs.declared.declared_type.ReferenceType.TheVariants.{Object as JObject}
use Rattle.syntax.specs.declared.unit.ResultType.TheVariants.{Void}
use Rattle.syntax.specs.Tree.{Perform, Plain, Return, SourceUnit}
use Rattle.semantics.specs.declared.schedule.ScheduleWord.TheVariants.{Turn}
use Rattle.semantics.specs.World.{World}
use Rattle.world_values.specs.WorldLines.{NamedObject, ClassLine, ObjectLine, ThreadLine, Lines}
use Rattle.world_values.specs.WorldMeaning.{world_of}
use Rattle.world_values.specs.WorldRules.{IsWorldText}
use Rattle.test_equations.specs.Claims.{IsAccepted, IsWorkedRun}
use Rattle.test_equations.proofs.Programs.{unit_of, native, reference_parameter, call, given}
use Rattle.test_equations.proofs.Computed.{opened, accepted, world-text, worked-run}

-- a monitor that is entered twice
-- JNIEXPORT void JNICALL Java_A_f(JNIEnv *env, jclass cls, jobject o) {
-- (*env)->MonitorEnter(env, o);
-- (*env)->MonitorEnter(env, o);
-- (*env)->MonitorExit(env, o);
-- (*env)->MonitorExit(env, o);
-- return; }
abbrev pub a_monitor_that_is_entered_twice : SourceUnit
a_monitor_that_is_entered_twice =
    unit_of
    (native 1 Void (codes "Java_A_f") (reference_parameter JObject (codes "o") ∷ [])
    (Plain 2 (Perform (call (codes "MonitorEnter") (given (codes "o") ∷ [])))
    ∷ Plain 3 (Perform (call (codes "MonitorEnter") (given (codes "o") ∷ [])))
    ∷ Plain 4 (Perform (call (codes "MonitorExit") (given (codes "o") ∷ [])))
    ∷ Plain 5 (Perform (call (codes "MonitorExit") (given (codes "o") ∷ [])))
    ∷ Return 6 None
    ∷ [])
    6
    ∷ [])

abbrev a_monitor_that_is_entered_twice-lines : Lines
a_monitor_that_is_entered_twice-lines =
    (2, ClassLine (codes "A") None)
    ∷ (3, ObjectLine (codes "o") (codes "A") [])
    ∷ (4, ThreadLine (codes "Java_A_f") (NamedObject (codes "o") ∷ []))
    ∷ (5, ThreadLine (codes "Java_A_f") (NamedObject (codes "o") ∷ []))
    ∷ []

abbrev a_monitor_that_is_entered_twice-world : World
a_monitor_that_is_entered_twice-world = world_of 1 512 a_monitor_that_is_entered_twice-lines

a_monitor_that_is_entered_twice-means : IsWorldText (codes "heap 512\nclass A\nobject @o A\nthread Java_A_f @o\nthread Java_A_f @o\n") a_monitor_that_is_entered_twice-world
unfolding opened
a_monitor_that_is_entered_twice-means = world-text (codes "heap 512\nclass A\nobject @o A\nthread Java_A_f @o\nthread Java_A_f @o\n") 512 false a_monitor_that_is_entered_twice-lines 1 refl refl refl refl refl

a_monitor_that_is_entered_twice-accepted : IsAccepted a_monitor_that_is_entered_twice
unfolding opened
a_monitor_that_is_entered_twice-accepted = accepted a_monitor_that_is_entered_twice refl refl refl

a_monitor_that_is_entered_twice-run : IsWorkedRun a_monitor_that_is_entered_twice (codes "heap 512\nclass A\nobject @o A\nthread Java_A_f @o\nthread Java_A_f @o\n") (codes "1*4 2*3 1 2*9\n")
    (codes "T1 running\nT2 ended\n#46 A\njournal 1 1 1 1 2 1 2 2 2 2 2\n")
unfolding opened
a_monitor_that_is_entered_twice-run = worked-run a_monitor_that_is_entered_twice a_monitor_that_is_entered_twice-world ((Turn 1, Some 4) ∷ (Turn 2, Some 3) ∷ (Turn 1, None) ∷ (Turn 2, Some 9) ∷ []) [] a_monitor_that_is_entered_twice-accepted a_monitor_that_is_entered_twice-means refl refl refl refl

-- a monitor that is not owned
-- JNIEXPORT void JNICALL Java_A_f(JNIEnv *env, jclass cls, jobject o) { (*env)->MonitorExit(env, o); return; }
abbrev pub a_monitor_that_is_not_owned : SourceUnit
a_monitor_that_is_not_owned =
    unit_of
    (native 1 Void (codes "Java_A_f") (reference_parameter JObject (codes "o") ∷ [])
    (Plain 1 (Perform (call (codes "MonitorExit") (given (codes "o") ∷ [])))
    ∷ Return 1 None
    ∷ [])
    1
    ∷ [])

abbrev a_monitor_that_is_not_owned-lines : Lines
a_monitor_that_is_not_owned-lines =
    (2, ClassLine (codes "A") None)
    ∷ (3, ObjectLine (codes "o") (codes "A") [])
    ∷ (4, ThreadLine (codes "Java_A_f") (NamedObject (codes "o") ∷ []))
    ∷ []

abbrev a_monitor_that_is_not_owned-world : World
a_monitor_that_is_not_owned-world = world_of 1 512 a_monitor_that_is_not_owned-lines

a_monitor_that_is_not_owned-means : IsWorldText (codes "heap 512\nclass A\nobject @o A\nthread Java_A_f @o\n") a_monitor_that_is_not_owned-world
unfolding opened
a_monitor_that_is_not_owned-means = world-text (codes "heap 512\nclass A\nobject @o A\nthread Java_A_f @o\n") 512 false a_monitor_that_is_not_owned-lines 1 refl refl refl refl refl

a_monitor_that_is_not_owned-accepted : IsAccepted a_monitor_that_is_not_owned
unfolding opened
a_monitor_that_is_not_owned-accepted = accepted a_monitor_that_is_not_owned refl refl refl

a_monitor_that_is_not_owned-run : IsWorkedRun a_monitor_that_is_not_owned (codes "heap 512\nclass A\nobject @o A\nthread Java_A_f @o\n") (codes "1*9\n")
    (codes "T1 uncaught java/lang/IllegalMonitorStateException\n#46 A\njournal 1 1 1\n")
unfolding opened
a_monitor_that_is_not_owned-run = worked-run a_monitor_that_is_not_owned a_monitor_that_is_not_owned-world ((Turn 1, Some 9) ∷ []) [] a_monitor_that_is_not_owned-accepted a_monitor_that_is_not_owned-means refl refl refl refl

-- two threads that wait for each other
-- JNIEXPORT void JNICALL Java_A_f(JNIEnv *env, jclass cls, jobject o, jobject p) {
-- (*env)->MonitorEnter(env, o);
-- (*env)->MonitorEnter(env, p);
-- (*env)->MonitorExit(env, p);
-- (*env)->MonitorExit(env, o);
-- return; }
abbrev pub two_threads_that_wait_for_each_other : SourceUnit
two_threads_that_wait_for_each_other =
    unit_of
    (native 1 Void (codes "Java_A_f") (reference_parameter JObject (codes "o") ∷ reference_parameter JObject (codes "p") ∷ [])
    (Plain 2 (Perform (call (codes "MonitorEnter") (given (codes "o") ∷ [])))
    ∷ Plain 3 (Perform (call (codes "MonitorEnter") (given (codes "p") ∷ [])))
    ∷ Plain 4 (Perform (call (codes "MonitorExit") (given (codes "p") ∷ [])))
    ∷ Plain 5 (Perform (call (codes "MonitorExit") (given (codes "o") ∷ [])))
    ∷ Return 6 None
    ∷ [])
    6
    ∷ [])

abbrev two_threads_that_wait_for_each_other-lines : Lines
two_threads_that_wait_for_each_other-lines =
    (2, ClassLine (codes "A") None)
    ∷ (3, ObjectLine (codes "o") (codes "A") [])
    ∷ (4, ObjectLine (codes "p") (codes "A") [])
    ∷ (5, ThreadLine (codes "Java_A_f") (NamedObject (codes "o") ∷ NamedObject (codes "p") ∷ []))
    ∷ (6, ThreadLine (codes "Java_A_f") (NamedObject (codes "p") ∷ NamedObject (codes "o") ∷ []))
    ∷ []

abbrev two_threads_that_wait_for_each_other-world : World
two_threads_that_wait_for_each_other-world = world_of 1 512 two_threads_that_wait_for_each_other-lines

two_threads_that_wait_for_each_other-means : IsWorldText (codes "heap 512\nclass A\nobject @o A\nobject @p A\nthread Java_A_f @o @p\nthread Java_A_f @p @o\n") two_threads_that_wait_for_each_other-world
unfolding opened
two_threads_that_wait_for_each_other-means = world-text (codes "heap 512\nclass A\nobject @o A\nobject @p A\nthread Java_A_f @o @p\nthread Java_A_f @p @o\n") 512 false two_threads_that_wait_for_each_other-lines 1 refl refl refl refl refl

two_threads_that_wait_for_each_other-accepted : IsAccepted two_threads_that_wait_for_each_other
unfolding opened
two_threads_that_wait_for_each_other-accepted = accepted two_threads_that_wait_for_each_other refl refl refl

two_threads_that_wait_for_each_other-run : IsWorkedRun two_threads_that_wait_for_each_other (codes "heap 512\nclass A\nobject @o A\nobject @p A\nthread Java_A_f @o @p\nthread Java_A_f @p @o\n") (codes "1*2 2*2 1*5 2*5\n")
    (codes "T1 blocked\nT2 blocked\n#46 A\n#47 A\njournal 1 1 2 2\n")
unfolding opened
two_threads_that_wait_for_each_other-run = worked-run two_threads_that_wait_for_each_other two_threads_that_wait_for_each_other-world ((Turn 1, Some 2) ∷ (Turn 2, Some 2) ∷ (Turn 1, Some 5) ∷ (Turn 2, Some 5) ∷ []) [] two_threads_that_wait_for_each_other-accepted two_threads_that_wait_for_each_other-means refl refl refl refl
