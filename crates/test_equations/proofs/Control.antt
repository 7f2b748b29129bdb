-- The cases of texts/control.cases, as gate/worked_equations writes them.
use Rattle.std.specs.Prelude.{◌∷◌, true, false, [], Some, None, codes, refl}
use Rattle.base.specs.declared.element.ElementType.TheVariants.{Byte as JByte}
use Rattle.syntax.specs.declared.declared_type.VariableType.TheVariants.{Uint32 as UInt32}
use Rattle.syntax.specs.declared.declared_type.DeclaredType.TheVariants.{Simple}
use Rattle.syntax.specs.declared.unit.ResultType.TheVariants.{Void}
use Rattle.syntax.specs.declared.expr.PrefixOp.TheVariants.{ToInt}
use Rattle.syntax.specs.declared.expr.BinaryOp.TheVariants.{LogicalAnd, Equal, Less, Add, Divide}
use Rattle.syntax.specs.Tree.{Number, Variable, Element, Prefix, Binary, FromExpr, TestExpr, Declare, DeclareArray, Assign, AssignElement, PutJint, Plain, If, NoElse, While, Return, SourceUnit}
use Rattle.semantics.specs.declared.schedule.ScheduleWord.TheVariants.{Turn}
use Rattle.semantics.specs.World.{World}
use Rattle.world_values.specs.WorldLines.{ClassLine, ThreadLine, Lines}
use Rattle.world_values.specs.WorldMeaning.{world_of}
use Rattle.world_values.specs.WorldRules.{IsWorldText}
use Rattle.test_equations.specs.Claims.{IsAccepted, IsWorkedRun}
use Rattle.test_equations.proofs.Programs.{unit_of, native, block}
use Rattle.test_equations.proofs.Computed.{opened, accepted, world-text, worked-run}

-- a right side that does not decide is left alone
-- JNIEXPORT void JNICALL Java_A_f(JNIEnv *env, jclass cls) {
-- if (1u == 2u && 1u / 0u == 0u) { put_jint(1); }
-- put_jint(2);
-- return; }
abbrev pub a_right_side_that_does_not_decide_is_left_alone : SourceUnit
a_right_side_that_does_not_decide_is_left_alone =
    unit_of
    (native 1 Void (codes "Java_A_f") []
    (If 2 (TestExpr (Binary LogicalAnd (Binary Equal (Number 1 true) (Number 2 true)) (Binary Equal (Binary Divide (Number 1 true) (Number 0 true)) (Number 0 true))))
    (block
    (Plain 2 (PutJint (Number 1 false))
    ∷ [])
    2)
    NoElse
    ∷ Plain 3 (PutJint (Number 2 false))
    ∷ Return 4 None
    ∷ [])
    4
    ∷ [])

abbrev a_right_side_that_does_not_decide_is_left_alone-lines : Lines
a_right_side_that_does_not_decide_is_left_alone-lines =
    (2, ClassLine (codes "A") None)
    ∷ (3, ThreadLine (codes "Java_A_f") [])
    ∷ []

abbrev a_right_side_that_does_not_decide_is_left_alone-world : World
a_right_side_that_does_not_decide_is_left_alone-world = world_of 1 512 a_right_side_that_does_not_decide_is_left_alone-lines

a_right_side_that_does_not_decide_is_left_alone-means : IsWorldText (codes "heap 512\nclass A\nthread Java_A_f\n") a_right_side_that_does_not_decide_is_left_alone-world
unfolding opened
a_right_side_that_does_not_decide_is_left_alone-means = world-text (codes "heap 512\nclass A\nthread Java_A_f\n") 512 false a_right_side_that_does_not_decide_is_left_alone-lines 1 refl refl refl refl refl

a_right_side_that_does_not_decide_is_left_alone-accepted : IsAccepted a_right_side_that_does_not_decide_is_left_alone
unfolding opened
a_right_side_that_does_not_decide_is_left_alone-accepted = accepted a_right_side_that_does_not_decide_is_left_alone refl refl refl

a_right_side_that_does_not_decide_is_left_alone-run : IsWorkedRun a_right_side_that_does_not_decide_is_left_alone (codes "heap 512\nclass A\nthread Java_A_f\n") (codes "1*20\n")
    (codes "T1 2\nT1 ended\njournal 1 1 1 1 1 1 1 1 1 1\n")
unfolding opened
a_right_side_that_does_not_decide_is_left_alone-run = worked-run a_right_side_that_does_not_decide_is_left_alone a_right_side_that_does_not_decide_is_left_alone-world ((Turn 1, Some 20) ∷ []) [] a_right_side_that_does_not_decide_is_left_alone-accepted a_right_side_that_does_not_decide_is_left_alone-means refl refl refl refl

-- a right side that decides is worked out
-- JNIEXPORT void JNICALL Java_A_f(JNIEnv *env, jclass cls) {
-- if (1u == 1u && 1u / 0u == 0u) { put_jint(1); }
-- put_jint(2);
-- return; }
abbrev pub a_right_side_that_decides_is_worked_out : SourceUnit
a_right_side_that_decides_is_worked_out =
    unit_of
    (native 1 Void (codes "Java_A_f") []
    (If 2 (TestExpr (Binary LogicalAnd (Binary Equal (Number 1 true) (Number 1 true)) (Binary Equal (Binary Divide (Number 1 true) (Number 0 true)) (Number 0 true))))
    (block
    (Plain 2 (PutJint (Number 1 false))
    ∷ [])
    2)
    NoElse
    ∷ Plain 3 (PutJint (Number 2 false))
    ∷ Return 4 None
    ∷ [])
    4
    ∷ [])

a_right_side_that_decides_is_worked_out-accepted : IsAccepted a_right_side_that_decides_is_worked_out
unfolding opened
a_right_side_that_decides_is_worked_out-accepted = accepted a_right_side_that_decides_is_worked_out refl refl refl

a_right_side_that_decides_is_worked_out-run : IsWorkedRun a_right_side_that_decides_is_worked_out (codes "heap 512\nclass A\nthread Java_A_f\n") (codes "1*8 1\n")
    (codes "T1 trap 1 line 2\njournal 1 1 1 1 1 1 1 1\n")
unfolding opened
a_right_side_that_decides_is_worked_out-run = worked-run a_right_side_that_decides_is_worked_out a_right_side_that_does_not_decide_is_left_alone-world ((Turn 1, Some 8) ∷ (Turn 1, None) ∷ []) [] a_right_side_that_decides_is_worked_out-accepted a_right_side_that_does_not_decide_is_left_alone-means refl refl refl refl

-- a trap stops the other thread
abbrev a_trap_stops_the_other_thread-lines : Lines
a_trap_stops_the_other_thread-lines =
    (2, ClassLine (codes "A") None)
    ∷ (3, ThreadLine (codes "Java_A_f") [])
    ∷ (4, ThreadLine (codes "Java_A_f") [])
    ∷ []

abbrev a_trap_stops_the_other_thread-world : World
a_trap_stops_the_other_thread-world = world_of 1 512 a_trap_stops_the_other_thread-lines

a_trap_stops_the_other_thread-means : IsWorldText (codes "heap 512\nclass A\nthread Java_A_f\nthread Java_A_f\n") a_trap_stops_the_other_thread-world
unfolding opened
a_trap_stops_the_other_thread-means = world-text (codes "heap 512\nclass A\nthread Java_A_f\nthread Java_A_f\n") 512 false a_trap_stops_the_other_thread-lines 1 refl refl refl refl refl

a_trap_stops_the_other_thread-run : IsWorkedRun a_right_side_that_decides_is_worked_out (codes "heap 512\nclass A\nthread Java_A_f\nthread Java_A_f\n") (codes "1*8 2 1\n")
    (codes "T1 trap 1 line 2\nT2 running\njournal 1 1 1 1 1 1 1 1\n")
unfolding opened
a_trap_stops_the_other_thread-run = worked-run a_right_side_that_decides_is_worked_out a_trap_stops_the_other_thread-world ((Turn 1, Some 8) ∷ (Turn 2, None) ∷ (Turn 1, None) ∷ []) [] a_right_side_that_decides_is_worked_out-accepted a_trap_stops_the_other_thread-means refl refl refl refl

-- a loop
-- JNIEXPORT void JNICALL Java_A_f(JNIEnv *env, jclass cls) {
-- uint32_t i = 0u;
-- while (i < 3u) { i = i + 1u; }
-- put_jint((jint)i);
-- return; }
abbrev pub a_loop : SourceUnit
a_loop =
    unit_of
    (native 1 Void (codes "Java_A_f") []
    (Plain 2 (Declare (Simple UInt32) (codes "i") (FromExpr (Number 0 true)))
    ∷ While 3 (Binary Less (Variable (codes "i")) (Number 3 true))
    (block
    (Plain 3 (Assign (codes "i") (FromExpr (Binary Add (Variable (codes "i")) (Number 1 true))))
    ∷ [])
    3)
    ∷ Plain 4 (PutJint (Prefix ToInt (Variable (codes "i"))))
    ∷ Return 5 None
    ∷ [])
    5
    ∷ [])

a_loop-accepted : IsAccepted a_loop
unfolding opened
a_loop-accepted = accepted a_loop refl refl refl

a_loop-run : IsWorkedRun a_loop (codes "heap 512\nclass A\nthread Java_A_f\n") (codes "1*39\n")
    (codes "T1 3\nT1 ended\njournal 1 1 1 1 1 1 1 1 1 1 1 1 1 1 1 1 1 1 1 1 1 1 1 1 1 1 1 1 1 1 1 1 1 1 1 1 1 1\n")
unfolding opened
a_loop-run = worked-run a_loop a_right_side_that_does_not_decide_is_left_alone-world ((Turn 1, Some 39) ∷ []) [] a_loop-accepted a_right_side_that_does_not_decide_is_left_alone-means refl refl refl refl

-- elements are converted and indexes checked
-- JNIEXPORT void JNICALL Java_A_f(JNIEnv *env, jclass cls) {
-- jbyte b[2] = {0};
-- b[1] = 200;
-- put_jint(b[1]);
-- b[2] = 1;
-- return; }
abbrev pub elements_are_converted_and_indexes_checked : SourceUnit
elements_are_converted_and_indexes_checked =
    unit_of
    (native 1 Void (codes "Java_A_f") []
    (Plain 2 (DeclareArray JByte (codes "b") 2)
    ∷ Plain 3 (AssignElement (codes "b") (Number 1 false) (Number 200 false))
    ∷ Plain 4 (PutJint (Element (codes "b") (Number 1 false)))
    ∷ Plain 5 (AssignElement (codes "b") (Number 2 false) (Number 1 false))
    ∷ Return 6 None
    ∷ [])
    6
    ∷ [])

elements_are_converted_and_indexes_checked-accepted : IsAccepted elements_are_converted_and_indexes_checked
unfolding opened
elements_are_converted_and_indexes_checked-accepted = accepted elements_are_converted_and_indexes_checked refl refl refl

elements_are_converted_and_indexes_checked-run : IsWorkedRun elements_are_converted_and_indexes_checked (codes "heap 512\nclass A\nthread Java_A_f\n") (codes "1*12\n")
    (codes "T1 -56\nT1 trap 3 line 5\njournal 1 1 1 1 1 1 1 1 1 1 1\n")
unfolding opened
elements_are_converted_and_indexes_checked-run = worked-run elements_are_converted_and_indexes_checked a_right_side_that_does_not_decide_is_left_alone-world ((Turn 1, Some 12) ∷ []) [] elements_are_converted_and_indexes_checked-accepted a_right_side_that_does_not_decide_is_left_alone-means refl refl refl refl
