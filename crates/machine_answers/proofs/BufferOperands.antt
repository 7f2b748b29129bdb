-- What the operands of a function of buffers give: a buffer.
use Rattle.std.proofs.Common.{inl, inr, ◌≡◌, ℕ, ℤ, pos, negsuc, ◌<◌, List, [], ◌∷◌, map, Option, Some, refl, sym, ap, ◌∙◌, subst, arith}
use Rattle.std.specs.Prelude.{FitsSigned, IsTrue, slice_get}
use Rattle.std.specs.Int.{w32, cast_signed, cast_unsigned}
use Rattle.std.specs.List.{AllByRecursion, AllZip}
use Rattle.std.proofs.Math.Facts.{to_z-of_z}
use Rattle.std.proofs.lemmas.Bool.Decides.{nat_tests}
use Rattle.base.specs.Bytes.{Identifier, lookup}
use Rattle.base.specs.declared.element.ElementType.{ElementType}
use Rattle.base.specs.declared.element.ElementType.TheVariants.{Int as JInt, Short as JShort, Byte as JByte, Char as JChar}
use Rattle.syntax.specs.Tree.{SourceUnit}
use Rattle.class_rules.specs.Class.{Classes}
use Rattle.code.specs.declared.instr.Operand.{Operand}
use Rattle.code.specs.declared.instr.Operand.TheVariants as operand
use Rattle.code_meaning.specs.Does.{AllTogether}
use Rattle.heap.specs.Heap.{Space}
use Rattle.jni.specs.declared.access.Access.{Access}
use Rattle.jni.specs.declared.kinds.ParameterKind.{ParameterKind}
use Rattle.jni.specs.declared.kinds.ParameterKind.TheVariants.{BufferVariable}
use Rattle.semantics.specs.Arguments.{Actual, variable_given, variable_in_actual}
use Rattle.semantics.specs.Variable.{Variables}
use Rattle.semantics_typing.specs.Objects.{AreInRange}
use Rattle.world_values.specs.WorldRules.{is_in_range}
use Rattle.machine_answers.specs.Answers.{AreWordsOf}
use Rattle.machine_scenes.specs.declared.handle.Handle.{Handle}
use Rattle.machine_scenes.specs.Buffers.{HeldBuffers, HoldsBuffer}
use Rattle.machine_scenes.specs.Given as given
use Rattle.machine_scenes.specs.Given.{HasBuffer, IsGiven, operand_of, operand_or_null}
use Rattle.machine_scenes.specs.Statics.{References}
use Rattle.machine_answers.proofs.ArgumentPlaces.{at_kind, with_each}

-- ---- a buffer

-- the second argument is a buffer, for which its slot stands
pub record GivenBuffer (space : Space) (buffers : HeldBuffers) (vs : Variables) (operands : List Operand) (args : List Actual) : Type 0 where
  pub slot : ℕ
  pub at : operand_of operands 1 ≡ operand.Buffer slot
  pub holds : HoldsBuffer space buffers slot (lookup (variable_given args 1) vs)

module _ {unit : SourceUnit} {classes : Classes} {space : Space} {references : References} {fields : List (Option Handle)} where
  of_buffer : (buffers : HeldBuffers) (vs : Variables) {operands : List Operand} {args : List Actual} {access : Access} {o : Operand} {a : Actual} → slice_get operands 1 ≡ Some o → slice_get args 1 ≡ Some a → IsGiven unit classes space references fields (BufferVariable access) o a → HasBuffer space buffers vs o a → GivenBuffer space buffers vs operands args
  of_buffer buffers vs {args = args} at is (given.buffer {i = i}) (x, named, holds) =
      let name : variable_given args 1 ≡ x = ap variable_in_actual is ∙ ap (λ (y : Actual). variable_in_actual (Some y)) named in
      record { slot = i; at = ap operand_or_null at; holds = subst (λ (y : Identifier). HoldsBuffer space buffers i (lookup y vs)) (sym name) holds }
  of_buffer buffers vs at is (given.reference kind there) holds = absurd kind

  pub given_buffer : (buffers : HeldBuffers) (vs : Variables) {access : Access} {ps : List ParameterKind} {operands : List Operand} {args : List Actual} → AllTogether (IsGiven unit classes space references fields) ps operands args → AllZip (HasBuffer space buffers vs) operands args
      → slice_get ps 1 ≡ Some (BufferVariable access) → GivenBuffer space buffers vs operands args
  given_buffer buffers vs all has is = let second = at_kind 1 (with_each all has) is in of_buffer buffers vs second.at second.is second.given.0 second.given.1

-- ---- numbers

in_range : (t : ElementType) (z : ℤ) → IsTrue (is_in_range t z) → FitsSigned w32 z
in_range JInt (pos n) h = let low : n < 2147483648 = grind (arith, nat_tests, h) in record { sfits = low }
in_range JInt (negsuc n) h = let low : n < 2147483648 = grind (arith, nat_tests, h) in record { sfits = low }
in_range JShort (pos n) h = let low : n < 2147483648 = grind (arith, nat_tests, h) in record { sfits = low }
in_range JShort (negsuc n) h = let low : n < 2147483648 = grind (arith, nat_tests, h) in record { sfits = low }
in_range JByte (pos n) h = let low : n < 2147483648 = grind (arith, nat_tests, h) in record { sfits = low }
in_range JByte (negsuc n) h = let low : n < 2147483648 = grind (arith, nat_tests, h) in record { sfits = low }
in_range JChar (pos n) h = let low : n < 2147483648 = grind (arith, nat_tests, h) in record { sfits = low }
in_range JChar (negsuc n) h = let low : n < 2147483648 = grind (arith, nat_tests, h) in record { sfits = low }

-- numbers of an element type are `jint`s
pub numbers_fit : (t : ElementType) (zs : List ℤ) → AreInRange t zs → AllByRecursion (FitsSigned w32) zs
numbers_fit t [] h = tt
numbers_fit t (z ∷ zs) h = (in_range t z h.0, numbers_fit t zs h.1)

-- and are read back from their words
pub words_back : (words : List ℕ) (zs : List ℤ) → AreWordsOf words zs → map (cast_signed w32) words ≡ zs
words_back words zs h = ap (map (cast_signed w32)) h.same ∙ each zs h.fit
  where
    each : (zs : List ℤ) → AllByRecursion (FitsSigned w32) zs → map (cast_signed w32) (map (cast_unsigned w32) zs) ≡ zs
    each [] fit = refl
    each (z ∷ zs) fit = let one = to_z-of_z {w = w32} fit.0 in let later = each zs fit.1 in λ i. one i ∷ later i
