-- The cases of texts/exceptions.cases, as gate/worked_equations writes them.
use Rattle.std.specs.Prelude.{◌∷◌, false, [], Some, None, codes, refl}
use Rattle.syntax.specs.declared.declared_type.ReferenceType.TheVariants.{Class as JClass}
use Rattle.syntax.specs.declared.declared_type.VariableType.TheVariants.{Jint as JIntVariable, Reference as ReferenceVariable}
use Rattle.syntax.specs.declared.declared_type.DeclaredType.TheVariants.{Simple}
use Rattle.syntax.specs.declared.unit.ResultType.TheVariants.{Void}
use Rattle.syntax.specs.declared.expr.Constant.TheVariants.{Null}
use Rattle.syntax.specs.declared.expr.BinaryOp.TheVariants.{NotEqual}
use Rattle.syntax.specs.Tree.{Named, Variable, Binary, Text, FromCall, TestExpr, Declare, Plain, If, NoElse, Return, SourceUnit}
use Rattle.semantics.specs.declared.schedule.ScheduleWord.TheVariants.{Turn}
use Rattle.semantics.specs.World.{World}
use Rattle.world_values.specs.WorldLines.{ClassLine, ThreadLine, Lines}
use Rattle.world_values.specs.WorldMeaning.{world_of}
use Rattle.world_values.specs.WorldRules.{IsWorldText}
use Rattle.test_equations.specs.Claims.{IsAccepted, IsWorkedRun}
use Rattle.test_equations.proofs.Programs.{unit_of, native, block, call, given}
use Rattle.test_equations.proofs.Computed.{opened, accepted, world-text, worked-run}

-- an exception with a message
-- JNIEXPORT void JNICALL Java_A_f(JNIEnv *env, jclass cls) {
-- jclass c = (*env)->FindClass(env, "java/lang/RuntimeException");
-- if (c != NULL) { jint r = (*env)->ThrowNew(env, c, "hi"); }
-- return; }
abbrev pub an_exception_with_a_message : SourceUnit
an_exception_with_a_message =
    unit_of
    (native 1 Void (codes "Java_A_f") []
    (Plain 2 (Declare (Simple (ReferenceVariable JClass)) (codes "c") (FromCall (call (codes "FindClass") (Text (codes "java/lang/RuntimeException") ∷ []))))
    ∷ If 3 (TestExpr (Binary NotEqual (Variable (codes "c")) (Named Null)))
    (block
    (Plain 3 (Declare (Simple JIntVariable) (codes "r") (FromCall (call (codes "ThrowNew") (given (codes "c") ∷ Text (codes "hi") ∷ []))))
    ∷ [])
    3)
    NoElse
    ∷ Return 4 None
    ∷ [])
    4
    ∷ [])

abbrev an_exception_with_a_message-lines : Lines
an_exception_with_a_message-lines =
    (2, ClassLine (codes "A") None)
    ∷ (3, ThreadLine (codes "Java_A_f") [])
    ∷ []

abbrev an_exception_with_a_message-world : World
an_exception_with_a_message-world = world_of 1 512 an_exception_with_a_message-lines

an_exception_with_a_message-means : IsWorldText (codes "heap 512\nclass A\nthread Java_A_f\n") an_exception_with_a_message-world
unfolding opened
an_exception_with_a_message-means = world-text (codes "heap 512\nclass A\nthread Java_A_f\n") 512 false an_exception_with_a_message-lines 1 refl refl refl refl refl

an_exception_with_a_message-accepted : IsAccepted an_exception_with_a_message
unfolding opened
an_exception_with_a_message-accepted = accepted an_exception_with_a_message refl refl refl

an_exception_with_a_message-run : IsWorkedRun an_exception_with_a_message (codes "heap 512\nclass A\nthread Java_A_f\n") (codes "1*5\n")
    (codes "T1 running\n#46 java/lang/String 104 105\n#47 java/lang/RuntimeException #46\njournal 1 1 1 1 1\n")
unfolding opened
an_exception_with_a_message-run = worked-run an_exception_with_a_message an_exception_with_a_message-world ((Turn 1, Some 5) ∷ []) [] an_exception_with_a_message-accepted an_exception_with_a_message-means refl refl refl refl
