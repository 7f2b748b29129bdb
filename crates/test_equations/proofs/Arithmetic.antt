-- The cases of texts/arithmetic.cases, as gate/worked_equations writes them.
use Rattle.std.specs.Prelude.{◌∷◌, true, false, [], Some, None, codes, refl}
use Rattle.syntax.specs.declared.unit.ResultType.TheVariants.{Void, Jint as IntResult}
use Rattle.syntax.specs.declared.expr.PrefixOp.TheVariants.{ToInt}
use Rattle.syntax.specs.declared.expr.BinaryOp.TheVariants.{Add, Subtract, Multiply}
use Rattle.syntax.specs.Tree.{Number, Prefix, Binary, Paren, PutJint, Plain, Return, SourceUnit}
use Rattle.semantics.specs.declared.schedule.ScheduleWord.TheVariants.{Turn}
use Rattle.semantics.specs.World.{World}
use Rattle.world_values.specs.WorldLines.{ClassLine, ThreadLine, Lines}
use Rattle.world_values.specs.WorldMeaning.{world_of}
use Rattle.world_values.specs.WorldRules.{IsWorldText}
use Rattle.test_equations.specs.Claims.{IsAccepted, IsWorkedRun}
use Rattle.test_equations.proofs.Programs.{unit_of, native}
use Rattle.test_equations.proofs.Computed.{opened, accepted, world-text, worked-run}

-- a function that returns at once
-- JNIEXPORT jint JNICALL Java_A_f(JNIEnv *env, jclass cls) { return 0; }
abbrev pub a_function_that_returns_at_once : SourceUnit
a_function_that_returns_at_once =
    unit_of
    (native 1 IntResult (codes "Java_A_f") []
    (Return 1 (Some (Number 0 false))
    ∷ [])
    1
    ∷ [])

abbrev a_function_that_returns_at_once-lines : Lines
a_function_that_returns_at_once-lines =
    (2, ClassLine (codes "A") None)
    ∷ (3, ThreadLine (codes "Java_A_f") [])
    ∷ []

abbrev a_function_that_returns_at_once-world : World
a_function_that_returns_at_once-world = world_of 1 512 a_function_that_returns_at_once-lines

a_function_that_returns_at_once-means : IsWorldText (codes "heap 512\nclass A\nthread Java_A_f\n") a_function_that_returns_at_once-world
unfolding opened
a_function_that_returns_at_once-means = world-text (codes "heap 512\nclass A\nthread Java_A_f\n") 512 false a_function_that_returns_at_once-lines 1 refl refl refl refl refl

a_function_that_returns_at_once-accepted : IsAccepted a_function_that_returns_at_once
unfolding opened
a_function_that_returns_at_once-accepted = accepted a_function_that_returns_at_once refl refl refl

a_function_that_returns_at_once-run : IsWorkedRun a_function_that_returns_at_once (codes "heap 512\nclass A\nthread Java_A_f\n") (codes "1*9\n")
    (codes "T1 ended\njournal 1 1 1\n")
unfolding opened
a_function_that_returns_at_once-run = worked-run a_function_that_returns_at_once a_function_that_returns_at_once-world ((Turn 1, Some 9) ∷ []) [] a_function_that_returns_at_once-accepted a_function_that_returns_at_once-means refl refl refl refl

-- precedence of the operators
-- JNIEXPORT void JNICALL Java_A_f(JNIEnv *env, jclass cls) { put_jint((jint)(2u + 3u * 4u - 1u)); return; }
abbrev pub precedence_of_the_operators : SourceUnit
precedence_of_the_operators =
    unit_of
    (native 1 Void (codes "Java_A_f") []
    (Plain 1 (PutJint (Prefix ToInt (Paren (Binary Subtract (Binary Add (Number 2 true) (Binary Multiply (Number 3 true) (Number 4 true))) (Number 1 true)))))
    ∷ Return 1 None
    ∷ [])
    1
    ∷ [])

precedence_of_the_operators-accepted : IsAccepted precedence_of_the_operators
unfolding opened
precedence_of_the_operators-accepted = accepted precedence_of_the_operators refl refl refl

precedence_of_the_operators-run : IsWorkedRun precedence_of_the_operators (codes "heap 512\nclass A\nthread Java_A_f\n") (codes "1*20\n")
    (codes "T1 13\nT1 ended\njournal 1 1 1 1 1 1 1 1 1 1 1\n")
unfolding opened
precedence_of_the_operators-run = worked-run precedence_of_the_operators a_function_that_returns_at_once-world ((Turn 1, Some 20) ∷ []) [] precedence_of_the_operators-accepted a_function_that_returns_at_once-means refl refl refl refl

-- sums and conversions wrap
-- JNIEXPORT void JNICALL Java_A_f(JNIEnv *env, jclass cls) { put_jint((jint)(4294967295u + 1u)); put_jint((jint)2147483648u); return; }
abbrev pub sums_and_conversions_wrap : SourceUnit
sums_and_conversions_wrap =
    unit_of
    (native 1 Void (codes "Java_A_f") []
    (Plain 1 (PutJint (Prefix ToInt (Paren (Binary Add (Number 4294967295 true) (Number 1 true)))))
    ∷ Plain 1 (PutJint (Prefix ToInt (Number 2147483648 true)))
    ∷ Return 1 None
    ∷ [])
    1
    ∷ [])

sums_and_conversions_wrap-accepted : IsAccepted sums_and_conversions_wrap
unfolding opened
sums_and_conversions_wrap-accepted = accepted sums_and_conversions_wrap refl refl refl

sums_and_conversions_wrap-run : IsWorkedRun sums_and_conversions_wrap (codes "heap 512\nclass A\nthread Java_A_f\n") (codes "1*20\n")
    (codes "T1 0\nT1 -2147483648\nT1 ended\njournal 1 1 1 1 1 1 1 1 1 1\n")
unfolding opened
sums_and_conversions_wrap-run = worked-run sums_and_conversions_wrap a_function_that_returns_at_once-world ((Turn 1, Some 20) ∷ []) [] sums_and_conversions_wrap-accepted a_function_that_returns_at_once-means refl refl refl refl

-- two threads that print in turn
abbrev two_threads_that_print_in_turn-lines : Lines
two_threads_that_print_in_turn-lines =
    (2, ClassLine (codes "A") None)
    ∷ (3, ThreadLine (codes "Java_A_f") [])
    ∷ (4, ThreadLine (codes "Java_A_f") [])
    ∷ []

abbrev two_threads_that_print_in_turn-world : World
two_threads_that_print_in_turn-world = world_of 1 512 two_threads_that_print_in_turn-lines

two_threads_that_print_in_turn-means : IsWorldText (codes "heap 512\nclass A\nthread Java_A_f\nthread Java_A_f\n") two_threads_that_print_in_turn-world
unfolding opened
two_threads_that_print_in_turn-means = world-text (codes "heap 512\nclass A\nthread Java_A_f\nthread Java_A_f\n") 512 false two_threads_that_print_in_turn-lines 1 refl refl refl refl refl

two_threads_that_print_in_turn-run : IsWorkedRun sums_and_conversions_wrap (codes "heap 512\nclass A\nthread Java_A_f\nthread Java_A_f\n") (codes "1 2 1 2 1 2 1 2 1 2 1 2 1 2 1 2 1 2 1 2\n")
    (codes "T1 0\nT2 0\nT1 -2147483648\nT2 -2147483648\nT1 ended\nT2 ended\njournal 1 2 1 2 1 2 1 2 1 2 1 2 1 2 1 2 1 2 1 2\n")
unfolding opened
two_threads_that_print_in_turn-run = worked-run sums_and_conversions_wrap two_threads_that_print_in_turn-world ((Turn 1, None) ∷ (Turn 2, None) ∷ (Turn 1, None) ∷ (Turn 2, None) ∷ (Turn 1, None) ∷ (Turn 2, None) ∷ (Turn 1, None) ∷ (Turn 2, None) ∷ (Turn 1, None) ∷ (Turn 2, None) ∷ (Turn 1, None) ∷ (Turn 2, None) ∷ (Turn 1, None) ∷ (Turn 2, None) ∷ (Turn 1, None) ∷ (Turn 2, None) ∷ (Turn 1, None) ∷ (Turn 2, None) ∷ (Turn 1, None) ∷ (Turn 2, None) ∷ []) [] sums_and_conversions_wrap-accepted two_threads_that_print_in_turn-means refl refl refl refl

-- two threads that return in turn
two_threads_that_return_in_turn-run : IsWorkedRun a_function_that_returns_at_once (codes "heap 512\nclass A\nthread Java_A_f\nthread Java_A_f\n") (codes "1 2 1 2 1 2\n")
    (codes "T1 ended\nT2 ended\njournal 1 2 1 2 1 2\n")
unfolding opened
two_threads_that_return_in_turn-run = worked-run a_function_that_returns_at_once two_threads_that_print_in_turn-world ((Turn 1, None) ∷ (Turn 2, None) ∷ (Turn 1, None) ∷ (Turn 2, None) ∷ (Turn 1, None) ∷ (Turn 2, None) ∷ []) [] a_function_that_returns_at_once-accepted two_threads_that_print_in_turn-means refl refl refl refl
