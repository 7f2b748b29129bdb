-- The cases of texts/accepted.cases, as gate/worked_equations writes them.
use Rattle.std.specs.Prelude.{◌∷◌, true, false, [], None, codes, refl}
use Rattle.base.specs.declared.element.ElementType.TheVariants.{Int as JInt}
use Rattle.syntax.specs.declared.declared_type.ReferenceType.TheVariants.{IntArray as JIntArray}
use Rattle.syntax.specs.declared.declared_type.DeclaredType.TheVariants.{Pointer}
use Rattle.syntax.specs.declared.unit.ResultType.TheVariants.{Void}
use Rattle.syntax.specs.declared.expr.Constant.TheVariants.{Null}
use Rattle.syntax.specs.declared.expr.BinaryOp.TheVariants.{Equal}
use Rattle.syntax.specs.Tree.{Number, Named, Variable, Binary, Value, FromCall, TestExpr, Declare, AssignElement, Perform, Plain, If, NoElse, ElseBlock, Return, SourceUnit}
use Rattle.test_equations.specs.Claims.{IsAccepted}
use Rattle.test_equations.proofs.Programs.{unit_of, native, block, reference_parameter, call, given}
use Rattle.test_equations.proofs.Computed.{opened, accepted}

-- returns early
-- JNIEXPORT void JNICALL Java_A_f(JNIEnv *env, jclass cls, jintArray a) {
-- jint *p = (*env)->GetIntArrayElements(env, a, NULL);
-- if (p == NULL) { return; }
-- p[0] = 1;
-- (*env)->ReleaseIntArrayElements(env, a, p, 0);
-- if (1u == 1u) { return; } else { return; } }
abbrev pub returns_early : SourceUnit
returns_early =
    unit_of
    (native 1 Void (codes "Java_A_f") (reference_parameter JIntArray (codes "a") ∷ [])
    (Plain 2 (Declare (Pointer JInt) (codes "p") (FromCall (call (codes "GetIntArrayElements") (given (codes "a") ∷ Value (Named Null) ∷ []))))
    ∷ If 3 (TestExpr (Binary Equal (Variable (codes "p")) (Named Null)))
    (block
    (Return 3 None
    ∷ [])
    3)
    NoElse
    ∷ Plain 4 (AssignElement (codes "p") (Number 0 false) (Number 1 false))
    ∷ Plain 5 (Perform (call (codes "ReleaseIntArrayElements") (given (codes "a") ∷ given (codes "p") ∷ Value (Number 0 false) ∷ [])))
    ∷ If 6 (TestExpr (Binary Equal (Number 1 true) (Number 1 true)))
    (block
    (Return 6 None
    ∷ [])
    6)
    (ElseBlock (block
    (Return 6 None
    ∷ [])
    6))
    ∷ [])
    6
    ∷ [])

returns_early-accepted : IsAccepted returns_early
unfolding opened
returns_early-accepted = accepted returns_early refl refl refl
