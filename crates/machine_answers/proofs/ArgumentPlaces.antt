-- What stands at a place of a call's parameters, operands and arguments.
use Rattle.std.proofs.Common.{◌≡◌, ℕ, zero, suc, List, ◌∷◌, Option, Some, None, refl, subst}
use Rattle.std.specs.Prelude.{slice_get}
use Rattle.std.specs.List.{AllZip}
use Rattle.code.specs.declared.instr.Operand.{Operand}
use Rattle.code_meaning.specs.Does as list
use Rattle.code_meaning.specs.Does.{AllTogether}
use Rattle.jni.specs.declared.kinds.ParameterKind.{ParameterKind}
use Rattle.semantics.specs.Arguments.{Actual}

-- what stands at a place, or that nothing does
pub data Place (G : ParameterKind → Operand → Actual → Type 0) (ps : List ParameterKind) (os : List Operand) (args : List Actual) (i : ℕ) : Type 0 where
  There : (p : ParameterKind) (o : Operand) (a : Actual) → slice_get ps i ≡ Some p → slice_get os i ≡ Some o → slice_get args i ≡ Some a → G p o a → Place G ps os args i
  Past : slice_get ps i ≡ None → slice_get os i ≡ None → slice_get args i ≡ None → Place G ps os args i

pub place_at : {G : ParameterKind → Operand → Actual → Type 0} {ps : List ParameterKind} {os : List Operand} {args : List Actual} (i : ℕ) → AllTogether G ps os args → Place G ps os args i
place_at i list.none = Past refl refl refl
place_at zero (list.more {x = p} {y = o} {z = a} h rest) = There p o a refl refl refl h
place_at {G} (suc i) (list.more {x = p} {y = o} {z = a} {xs = ps} {ys = os} {zs = args} h rest) = by_rest (place_at i rest)
  where
    by_rest : Place G ps os args i → Place G (p ∷ ps) (o ∷ os) (a ∷ args) (suc i)
    by_rest (There q r b at_p at_o at_a given) = There q r b at_p at_o at_a given
    by_rest (Past at_p at_o at_a) = Past at_p at_o at_a

-- what stands at a place of a parameter of this kind
pub record AtKind (G : ParameterKind → Operand → Actual → Type 0) (p : ParameterKind) (os : List Operand) (args : List Actual) (i : ℕ) : Type 0 where
  pub operand : Operand
  pub actual : Actual
  pub at : slice_get os i ≡ Some operand
  pub is : slice_get args i ≡ Some actual
  pub given : G p operand actual

pub at_kind : {G : ParameterKind → Operand → Actual → Type 0} {p : ParameterKind} {ps : List ParameterKind} {os : List Operand} {args : List Actual} (i : ℕ) → AllTogether G ps os args → slice_get ps i ≡ Some p → AtKind G p os args i
at_kind i list.none e = absurd (cc)
at_kind {G} {p} zero (list.more {x = q} {y = o} {z = a} h rest) e =
    let same : q ≡ p = cc in record { operand = o; actual = a; at = refl; is = refl; given = subst (λ (k : ParameterKind). G k o a) same h }
at_kind (suc i) (list.more h rest) e =
    let further = at_kind i rest e in record { operand = further.operand; actual = further.actual; at = further.at; is = further.is; given = further.given }

-- with what holds of each operand and its argument
pub with_each : {G : ParameterKind → Operand → Actual → Type 0} {H : Operand → Actual → Type 0} {ps : List ParameterKind} {os : List Operand} {args : List Actual} → AllTogether G ps os args → AllZip H os args → AllTogether (λ p o a. G p o a × H o a) ps os args
with_each list.none held = list.none
with_each (list.more h rest) held = list.more (h, held.0) (with_each rest held.1)
