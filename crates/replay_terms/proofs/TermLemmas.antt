-- Terms: how they begin, and what a step of one does.
use Rattle.std.proofs.Common.{◌≡◌, None, refl}
use Rattle.syntax.specs.declared.expr.BinaryOp.{BinaryOp}
use Rattle.syntax.specs.declared.expr.BinaryOp.TheVariants as binary
use Rattle.semantics.specs.Sight.{Sight}
use Rattle.semantics.specs.Term as tree
use Rattle.semantics.specs.declared.value.Value.{Value}
use Rattle.semantics.specs.Term.{binary_term, done, reduce}
use Rattle.replay_terms.specs.declared.reduction.Reduction.{Reduction as ReductionInMemory}
use Rattle.replay_terms.specs.declared.value.Evaluated.{Evaluated}
use Rattle.replay_terms.specs.declared.value.Evaluated.TheVariants as evaluated
use Rattle.replay_terms.specs.Views.{evaluated_view, IsReplacedBy, ReducesBy}

-- ---- operators

-- an operator that isn't `&&` or `||`
pub operator_term : (op : BinaryOp) → (op ≡ binary.LogicalAnd → ⊥) → (op ≡ binary.LogicalOr → ⊥) → (s t : tree.Term) → binary_term op None s t ≡ tree.Binary op s t
operator_term binary.LogicalOr no_and no_or s t = absurd (no_or refl)
operator_term binary.LogicalAnd no_and no_or s t = absurd (no_and refl)
operator_term binary.BitOr no_and no_or s t = refl
operator_term binary.BitXor no_and no_or s t = refl
operator_term binary.BitAnd no_and no_or s t = refl
operator_term binary.Equal no_and no_or s t = refl
operator_term binary.NotEqual no_and no_or s t = refl
operator_term binary.Less no_and no_or s t = refl
operator_term binary.LessEqual no_and no_or s t = refl
operator_term binary.Greater no_and no_or s t = refl
operator_term binary.GreaterEqual no_and no_or s t = refl
operator_term binary.ShiftLeft no_and no_or s t = refl
operator_term binary.ShiftRight no_and no_or s t = refl
operator_term binary.Add no_and no_or s t = refl
operator_term binary.Subtract no_and no_or s t = refl
operator_term binary.Multiply no_and no_or s t = refl
operator_term binary.Divide no_and no_or s t = refl
operator_term binary.Remainder no_and no_or s t = refl

pub ruleset operator_rules = (operator_term)

-- ---- steps

-- the value takes its place
pub replaced : (sight : Sight) {T : Type 0} (view : T → tree.Term) (held : Value → T) → ((v : Value) → view (held v) ≡ tree.Done v) → (old new : T) (value : Evaluated) (took : ReductionInMemory)
    → IsReplacedBy held old value took new → reduce sight (view old) ≡ done (evaluated_view value) → ReducesBy view sight old took new
replaced sight view held is_value old new (evaluated.Gives v) took is value = rw (is.0, is.1, is_value v) value
replaced sight view held is_value old new (evaluated.Traps trap) took is value = rw (is.0, is.1) (value, refl)
replaced sight view held is_value old new evaluated.Stuck took is value = rw is.0 value
