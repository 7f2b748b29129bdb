-- The cases of texts/monitors_shared.cases, as gate/worked_equations writes them.
use Rattle.std.specs.Prelude.{◌∷◌, pos, true, false, [], Some, None, codes, refl}
use Rattle.syntax.specs.declared.declared_type.ReferenceType.TheVariants.{Object as JObject, Class as JClass}
use Rattle.syntax.specs.declared.declared_type.VariableType.TheVariants.{Uint32 as UInt32, Jint as JIntVariable, Reference as ReferenceVariable}
use Rattle.syntax.specs.declared.declared_type.DeclaredType.TheVariants.{Simple}
use Rattle.syntax.specs.declared.unit.ResultType.TheVariants.{Void}
use Rattle.syntax.specs.declared.expr.PrefixOp.TheVariants.{ToWord}
use Rattle.syntax.specs.declared.expr.BinaryOp.TheVariants.{Divide}
use Rattle.syntax.specs.Tree.{Number, Variable, Prefix, Binary, Text, FromExpr, FromCall, Declare, Perform, PutJint, Plain, Return, SourceUnit}
use Rattle.semantics.specs.declared.schedule.ScheduleWord.TheVariants.{Turn}
use Rattle.semantics.specs.World.{World}
use Rattle.world_values.specs.WorldLines.{NumberValue, NullValue, NamedObject, ClassLine, ObjectLine, ThreadLine, CallLine, Lines}
use Rattle.world_values.specs.WorldMeaning.{world_of}
use Rattle.world_values.specs.WorldRules.{IsWorldText}
use Rattle.test_equations.specs.Claims.{IsAccepted, IsWorkedRun}
use Rattle.test_equations.proofs.Programs.{unit_of, native, reference_parameter, int_parameter, call, given}
use Rattle.test_equations.proofs.Computed.{opened, accepted, world-text, worked-run}

-- a monitor that another thread owns
-- JNIEXPORT void JNICALL Java_A_f(JNIEnv *env, jclass cls, jobject o) {
-- jint r = (*env)->MonitorEnter(env, o);
-- put_jint(r);
-- return;
-- }
-- JNIEXPORT void JNICALL Java_A_g(JNIEnv *env, jclass cls, jobject o) {
-- jint r = (*env)->MonitorExit(env, o);
-- (*env)->ExceptionClear(env);
-- put_jint(r);
-- return;
-- }
abbrev pub a_monitor_that_another_thread_owns : SourceUnit
a_monitor_that_another_thread_owns =
    unit_of
    (native 1 Void (codes "Java_A_f") (reference_parameter JObject (codes "o") ∷ [])
    (Plain 2 (Declare (Simple JIntVariable) (codes "r") (FromCall (call (codes "MonitorEnter") (given (codes "o") ∷ []))))
    ∷ Plain 3 (PutJint (Variable (codes "r")))
    ∷ Return 4 None
    ∷ [])
    5
    ∷ native 6 Void (codes "Java_A_g") (reference_parameter JObject (codes "o") ∷ [])
    (Plain 7 (Declare (Simple JIntVariable) (codes "r") (FromCall (call (codes "MonitorExit") (given (codes "o") ∷ []))))
    ∷ Plain 8 (Perform (call (codes "ExceptionClear") []))
    ∷ Plain 9 (PutJint (Variable (codes "r")))
    ∷ Return 10 None
    ∷ [])
    11
    ∷ [])

abbrev a_monitor_that_another_thread_owns-lines : Lines
a_monitor_that_another_thread_owns-lines =
    (2, ClassLine (codes "A") None)
    ∷ (3, ObjectLine (codes "o") (codes "A") [])
    ∷ (4, ThreadLine (codes "Java_A_f") (NamedObject (codes "o") ∷ []))
    ∷ (5, ThreadLine (codes "Java_A_g") (NamedObject (codes "o") ∷ []))
    ∷ []

abbrev a_monitor_that_another_thread_owns-world : World
a_monitor_that_another_thread_owns-world = world_of 1 512 a_monitor_that_another_thread_owns-lines

a_monitor_that_another_thread_owns-means : IsWorldText (codes "heap 512\nclass A\nobject @o A\nthread Java_A_f @o\nthread Java_A_g @o\n") a_monitor_that_another_thread_owns-world
unfolding opened
a_monitor_that_another_thread_owns-means = world-text (codes "heap 512\nclass A\nobject @o A\nthread Java_A_f @o\nthread Java_A_g @o\n") 512 false a_monitor_that_another_thread_owns-lines 1 refl refl refl refl refl

a_monitor_that_another_thread_owns-accepted : IsAccepted a_monitor_that_another_thread_owns
unfolding opened
a_monitor_that_another_thread_owns-accepted = accepted a_monitor_that_another_thread_owns refl refl refl

a_monitor_that_another_thread_owns-run : IsWorkedRun a_monitor_that_another_thread_owns (codes "heap 512\nclass A\nobject @o A\nthread Java_A_f @o\nthread Java_A_g @o\n") (codes "1*2 2*9 1*9\n")
    (codes "T2 -1\nT1 0\nT1 ended\nT2 ended\n#46 A\njournal 1 1 2 2 2 2 2 2 1 1 1\n")
unfolding opened
a_monitor_that_another_thread_owns-run = worked-run a_monitor_that_another_thread_owns a_monitor_that_another_thread_owns-world ((Turn 1, Some 2) ∷ (Turn 2, Some 9) ∷ (Turn 1, Some 9) ∷ []) [] a_monitor_that_another_thread_owns-accepted a_monitor_that_another_thread_owns-means refl refl refl refl

-- a thread that ends gives up its monitors
-- JNIEXPORT void JNICALL Java_A_f(JNIEnv *env, jclass cls, jobject o) {
-- (*env)->MonitorEnter(env, o);
-- return;
-- }
abbrev pub a_thread_that_ends_gives_up_its_monitors : SourceUnit
a_thread_that_ends_gives_up_its_monitors =
    unit_of
    (native 1 Void (codes "Java_A_f") (reference_parameter JObject (codes "o") ∷ [])
    (Plain 2 (Perform (call (codes "MonitorEnter") (given (codes "o") ∷ [])))
    ∷ Return 3 None
    ∷ [])
    4
    ∷ [])

abbrev a_thread_that_ends_gives_up_its_monitors-lines : Lines
a_thread_that_ends_gives_up_its_monitors-lines =
    (2, ClassLine (codes "A") None)
    ∷ (3, ObjectLine (codes "o") (codes "A") [])
    ∷ (4, ThreadLine (codes "Java_A_f") (NamedObject (codes "o") ∷ []))
    ∷ (5, ThreadLine (codes "Java_A_f") (NamedObject (codes "o") ∷ []))
    ∷ []

abbrev a_thread_that_ends_gives_up_its_monitors-world : World
a_thread_that_ends_gives_up_its_monitors-world = world_of 1 512 a_thread_that_ends_gives_up_its_monitors-lines

a_thread_that_ends_gives_up_its_monitors-means : IsWorldText (codes "heap 512\nclass A\nobject @o A\nthread Java_A_f @o\nthread Java_A_f @o\n") a_thread_that_ends_gives_up_its_monitors-world
unfolding opened
a_thread_that_ends_gives_up_its_monitors-means = world-text (codes "heap 512\nclass A\nobject @o A\nthread Java_A_f @o\nthread Java_A_f @o\n") 512 false a_thread_that_ends_gives_up_its_monitors-lines 1 refl refl refl refl refl

a_thread_that_ends_gives_up_its_monitors-accepted : IsAccepted a_thread_that_ends_gives_up_its_monitors
unfolding opened
a_thread_that_ends_gives_up_its_monitors-accepted = accepted a_thread_that_ends_gives_up_its_monitors refl refl refl

a_thread_that_ends_gives_up_its_monitors-run : IsWorkedRun a_thread_that_ends_gives_up_its_monitors (codes "heap 512\nclass A\nobject @o A\nthread Java_A_f @o\nthread Java_A_f @o\n") (codes "1*2 2*3 1 2*3\n")
    (codes "T1 ended\nT2 ended\n#46 A\njournal 1 1 2 1 2 2\n")
unfolding opened
a_thread_that_ends_gives_up_its_monitors-run = worked-run a_thread_that_ends_gives_up_its_monitors a_thread_that_ends_gives_up_its_monitors-world ((Turn 1, Some 2) ∷ (Turn 2, Some 3) ∷ (Turn 1, None) ∷ (Turn 2, Some 3) ∷ []) [] a_thread_that_ends_gives_up_its_monitors-accepted a_thread_that_ends_gives_up_its_monitors-means refl refl refl refl

-- a monitor is kept between the calls of a thread
abbrev a_monitor_is_kept_between_the_calls_of_a_thread-lines : Lines
a_monitor_is_kept_between_the_calls_of_a_thread-lines =
    (2, ClassLine (codes "A") None)
    ∷ (3, ObjectLine (codes "o") (codes "A") [])
    ∷ (4, ThreadLine (codes "Java_A_f") (NamedObject (codes "o") ∷ []))
    ∷ (5, CallLine (codes "Java_A_f") (NamedObject (codes "o") ∷ []))
    ∷ (6, ThreadLine (codes "Java_A_f") (NamedObject (codes "o") ∷ []))
    ∷ []

abbrev a_monitor_is_kept_between_the_calls_of_a_thread-world : World
a_monitor_is_kept_between_the_calls_of_a_thread-world = world_of 1 512 a_monitor_is_kept_between_the_calls_of_a_thread-lines

a_monitor_is_kept_between_the_calls_of_a_thread-means : IsWorldText (codes "heap 512\nclass A\nobject @o A\nthread Java_A_f @o\ncall Java_A_f @o\nthread Java_A_f @o\n") a_monitor_is_kept_between_the_calls_of_a_thread-world
unfolding opened
a_monitor_is_kept_between_the_calls_of_a_thread-means = world-text (codes "heap 512\nclass A\nobject @o A\nthread Java_A_f @o\ncall Java_A_f @o\nthread Java_A_f @o\n") 512 false a_monitor_is_kept_between_the_calls_of_a_thread-lines 1 refl refl refl refl refl

a_monitor_is_kept_between_the_calls_of_a_thread-run : IsWorkedRun a_thread_that_ends_gives_up_its_monitors (codes "heap 512\nclass A\nobject @o A\nthread Java_A_f @o\ncall Java_A_f @o\nthread Java_A_f @o\n") (codes "1*3 2*3\n")
    (codes "T1 running\nT2 blocked\n#46 A\njournal 1 1 1 2\n")
unfolding opened
a_monitor_is_kept_between_the_calls_of_a_thread-run = worked-run a_thread_that_ends_gives_up_its_monitors a_monitor_is_kept_between_the_calls_of_a_thread-world ((Turn 1, Some 3) ∷ (Turn 2, Some 3) ∷ []) [] a_thread_that_ends_gives_up_its_monitors-accepted a_monitor_is_kept_between_the_calls_of_a_thread-means refl refl refl refl

-- an uncaught exception gives up monitors
-- JNIEXPORT void JNICALL Java_A_f(JNIEnv *env, jclass cls, jobject o) {
-- (*env)->MonitorEnter(env, o);
-- jclass c = (*env)->FindClass(env, "B");
-- return;
-- }
abbrev pub an_uncaught_exception_gives_up_monitors : SourceUnit
an_uncaught_exception_gives_up_monitors =
    unit_of
    (native 1 Void (codes "Java_A_f") (reference_parameter JObject (codes "o") ∷ [])
    (Plain 2 (Perform (call (codes "MonitorEnter") (given (codes "o") ∷ [])))
    ∷ Plain 3 (Declare (Simple (ReferenceVariable JClass)) (codes "c") (FromCall (call (codes "FindClass") (Text (codes "B") ∷ []))))
    ∷ Return 4 None
    ∷ [])
    5
    ∷ [])

an_uncaught_exception_gives_up_monitors-accepted : IsAccepted an_uncaught_exception_gives_up_monitors
unfolding opened
an_uncaught_exception_gives_up_monitors-accepted = accepted an_uncaught_exception_gives_up_monitors refl refl refl

an_uncaught_exception_gives_up_monitors-run : IsWorkedRun an_uncaught_exception_gives_up_monitors (codes "heap 512\nclass A\nobject @o A\nthread Java_A_f @o\nthread Java_A_f @o\n") (codes "1*3 2*3 1 2*9\n")
    (codes "T1 uncaught java/lang/NoClassDefFoundError\nT2 uncaught java/lang/NoClassDefFoundError\n#46 A\njournal 1 1 1 2 1 2 2 2\n")
unfolding opened
an_uncaught_exception_gives_up_monitors-run = worked-run an_uncaught_exception_gives_up_monitors a_thread_that_ends_gives_up_its_monitors-world ((Turn 1, Some 3) ∷ (Turn 2, Some 3) ∷ (Turn 1, None) ∷ (Turn 2, Some 9) ∷ []) [] an_uncaught_exception_gives_up_monitors-accepted a_thread_that_ends_gives_up_its_monitors-means refl refl refl refl

-- a monitor of null does not wait
-- JNIEXPORT void JNICALL Java_A_f(JNIEnv *env, jclass cls, jobject o) {
-- (*env)->MonitorEnter(env, cls);
-- (*env)->MonitorEnter(env, o);
-- return;
-- }
abbrev pub a_monitor_of_null_does_not_wait : SourceUnit
a_monitor_of_null_does_not_wait =
    unit_of
    (native 1 Void (codes "Java_A_f") (reference_parameter JObject (codes "o") ∷ [])
    (Plain 2 (Perform (call (codes "MonitorEnter") (given (codes "cls") ∷ [])))
    ∷ Plain 3 (Perform (call (codes "MonitorEnter") (given (codes "o") ∷ [])))
    ∷ Return 4 None
    ∷ [])
    5
    ∷ [])

abbrev a_monitor_of_null_does_not_wait-lines : Lines
a_monitor_of_null_does_not_wait-lines =
    (2, ClassLine (codes "A") None)
    ∷ (3, ThreadLine (codes "Java_A_f") (NullValue ∷ []))
    ∷ (4, ThreadLine (codes "Java_A_f") (NullValue ∷ []))
    ∷ []

abbrev a_monitor_of_null_does_not_wait-world : World
a_monitor_of_null_does_not_wait-world = world_of 1 512 a_monitor_of_null_does_not_wait-lines

a_monitor_of_null_does_not_wait-means : IsWorldText (codes "heap 512\nclass A\nthread Java_A_f null\nthread Java_A_f null\n") a_monitor_of_null_does_not_wait-world
unfolding opened
a_monitor_of_null_does_not_wait-means = world-text (codes "heap 512\nclass A\nthread Java_A_f null\nthread Java_A_f null\n") 512 false a_monitor_of_null_does_not_wait-lines 1 refl refl refl refl refl

a_monitor_of_null_does_not_wait-accepted : IsAccepted a_monitor_of_null_does_not_wait
unfolding opened
a_monitor_of_null_does_not_wait-accepted = accepted a_monitor_of_null_does_not_wait refl refl refl

a_monitor_of_null_does_not_wait-run : IsWorkedRun a_monitor_of_null_does_not_wait (codes "heap 512\nclass A\nthread Java_A_f null\nthread Java_A_f null\n") (codes "1*2 2*2 1\n")
    (codes "T1 trap 4 line 3\nT2 blocked\njournal 1 1 2 1\n")
unfolding opened
a_monitor_of_null_does_not_wait-run = worked-run a_monitor_of_null_does_not_wait a_monitor_of_null_does_not_wait-world ((Turn 1, Some 2) ∷ (Turn 2, Some 2) ∷ (Turn 1, None) ∷ []) [] a_monitor_of_null_does_not_wait-accepted a_monitor_of_null_does_not_wait-means refl refl refl refl

-- threads are blocked while another traps
-- JNIEXPORT void JNICALL Java_A_f(JNIEnv *env, jclass cls, jint n) {
-- (*env)->MonitorEnter(env, cls);
-- uint32_t u = 1u / (uint32_t)n;
-- return;
-- }
abbrev pub threads_are_blocked_while_another_traps : SourceUnit
threads_are_blocked_while_another_traps =
    unit_of
    (native 1 Void (codes "Java_A_f") (int_parameter (codes "n") ∷ [])
    (Plain 2 (Perform (call (codes "MonitorEnter") (given (codes "cls") ∷ [])))
    ∷ Plain 3 (Declare (Simple UInt32) (codes "u") (FromExpr (Binary Divide (Number 1 true) (Prefix ToWord (Variable (codes "n"))))))
    ∷ Return 4 None
    ∷ [])
    5
    ∷ [])

abbrev threads_are_blocked_while_another_traps-lines : Lines
threads_are_blocked_while_another_traps-lines =
    (2, ClassLine (codes "A") None)
    ∷ (3, ThreadLine (codes "Java_A_f") (NumberValue (pos 0) ∷ []))
    ∷ (4, ThreadLine (codes "Java_A_f") (NumberValue (pos 1) ∷ []))
    ∷ (5, ThreadLine (codes "Java_A_f") (NumberValue (pos 2) ∷ []))
    ∷ []

abbrev threads_are_blocked_while_another_traps-world : World
threads_are_blocked_while_another_traps-world = world_of 1 512 threads_are_blocked_while_another_traps-lines

threads_are_blocked_while_another_traps-means : IsWorldText (codes "heap 512\nclass A\nthread Java_A_f 0\nthread Java_A_f 1\nthread Java_A_f 2\n") threads_are_blocked_while_another_traps-world
unfolding opened
threads_are_blocked_while_another_traps-means = world-text (codes "heap 512\nclass A\nthread Java_A_f 0\nthread Java_A_f 1\nthread Java_A_f 2\n") 512 false threads_are_blocked_while_another_traps-lines 1 refl refl refl refl refl

threads_are_blocked_while_another_traps-accepted : IsAccepted threads_are_blocked_while_another_traps
unfolding opened
threads_are_blocked_while_another_traps-accepted = accepted threads_are_blocked_while_another_traps refl refl refl

threads_are_blocked_while_another_traps-run : IsWorkedRun threads_are_blocked_while_another_traps (codes "heap 512\nclass A\nthread Java_A_f 0\nthread Java_A_f 1\nthread Java_A_f 2\n") (codes "1*2 2*2 1*9\n")
    (codes "T1 trap 1 line 3\nT2 blocked\nT3 running\njournal 1 1 2 1 1 1 1\n")
unfolding opened
threads_are_blocked_while_another_traps-run = worked-run threads_are_blocked_while_another_traps threads_are_blocked_while_another_traps-world ((Turn 1, Some 2) ∷ (Turn 2, Some 2) ∷ (Turn 1, Some 9) ∷ []) [] threads_are_blocked_while_another_traps-accepted threads_are_blocked_while_another_traps-means refl refl refl refl
