-- What the operands of a call give is what the source's arguments are.
use Rattle.std.proofs.Common.{inl, inr, ◌≡◌, ℕ, zero, suc, List, [], ◌∷◌, Option, Some, None, refl, sym, ap, ◌∙◌, subst}
use Rattle.std.specs.Prelude.{unwrap_or}
use Rattle.std.specs.List.{AllZip}
use Rattle.base.specs.Bytes.{Identifier}
use Rattle.syntax.specs.Tree.{SourceUnit}
use Rattle.class_rules.specs.Class.{Classes}
use Rattle.code.specs.declared.instr.Operand.{Operand}
use Rattle.code.specs.declared.instr.Operand.TheVariants as operand
use Rattle.heap.specs.Heap.{Space, name_at}
use Rattle.semantics.specs.Arguments.{Actual, ReferenceActual, FieldActual, MethodActual, method_given, method_in_actual, NumberActual, TextActual, VariableActual, ModeActual, NothingActual, reference_given, reference_in_actual}
use Rattle.semantics.specs.Heap.{Heap, class_of}
use Rattle.semantics.specs.Object.{Reference}
use Rattle.semantics.specs.Variable.{StaticReference, Empty, Live, Deleted, as_static}
use Rattle.code_meaning.specs.Does as list
use Rattle.code_meaning.specs.Does.{AllTogether}
use Rattle.jni.specs.declared.kinds.ParameterKind.{ParameterKind}
use Rattle.machine_scenes.specs.declared.handle.Handle.{Handle}
use Rattle.machine_scenes.specs.FieldIds.{MethodAgrees}
use Rattle.machine_scenes.specs.StoreAgrees.{HeldAgrees}
use Rattle.machine_scenes.specs.Statics.{References, held_address, held_argument, static_at}
use Rattle.machine_scenes.specs.declared.references.Held.{Held}
use Rattle.machine_scenes.specs.declared.references.Held.TheVariants as held
use Rattle.machine_scenes.specs.Given as given
use Rattle.machine_scenes.specs.Given.{IsGiven, ReferenceIsGiven, class_there, method_at, operand_at, operand_of}
use Rattle.machine_scenes.specs.HeapAgrees.{ReferenceAgrees, BlocksAgree}
use Rattle.machine_scenes.proofs.ObjectsAtAddresses.{is_object}

-- ---- statics as arguments

-- what a static holds, and what the source's argument is, by cases
module _ (space : Space) (P : Held → StaticReference → Type 0) (none : P held.Empty Empty) (strong : (a n : ℕ) → name_at space a ≡ Some n → P (held.At a) (Live n)) (weak : (a n : ℕ) → name_at space a ≡ Some n → P (held.Weakly a) (Live n))
    (cleared : P held.Cleared Empty) (deleted : P held.Deleted Deleted) where
  pub by_argument : (h : Held) (r : StaticReference) → HeldAgrees space (held_argument h) r → P h r
  by_argument held.Empty Empty e = none
  by_argument (held.At a) (Live n) e = strong a n e
  by_argument (held.Weakly a) (Live n) e = weak a n e
  by_argument held.Cleared Empty e = cleared
  by_argument held.Deleted Deleted e = deleted
  by_argument h r e = absurd e

module _ (unit : SourceUnit) (classes : Classes) (space : Space) (references : References) (fields : List (Option Handle)) where
  -- ---- the reference of an argument

  reference_itself : (x : Identifier) (q : Reference) → reference_in_actual (Some (ReferenceActual x (as_static q))) ≡ q
  reference_itself x None = refl
  reference_itself x (Some n) = refl

  static_reference : (x : Identifier) (h : Held) (r : StaticReference) → HeldAgrees space (held_argument h) r → ReferenceAgrees space (held_address h) (reference_in_actual (Some (ReferenceActual x r)))
  static_reference x = by_argument space (λ h r. ReferenceAgrees space (held_address h) (reference_in_actual (Some (ReferenceActual x r)))) tt (λ a n e. e) (λ a n e. e) tt tt

  reference_named : {p : ParameterKind} {o : Operand} {r : StaticReference} (x : Identifier) → ReferenceIsGiven space references p o r → ReferenceAgrees space (operand_at references o) (reference_in_actual (Some (ReferenceActual x r)))
  reference_named x (given.null takes) = tt
  reference_named x (given.local {i = i} r takes agrees) = subst (ReferenceAgrees space (operand_at references (operand.Local i))) (sym (reference_itself x r)) agrees
  reference_named x (given.static {i = i} {r = r} takes agrees) = static_reference x (static_at references i) r agrees

  reference_is : {p : ParameterKind} {o : Operand} {a : Actual} → IsGiven unit classes space references fields p o a → ReferenceAgrees space (operand_at references o) (reference_in_actual (Some a))
  reference_is (given.reference {x = x} kind there) = reference_named x there
  reference_is h = tt

  -- the reference at a place
  pub reference_at_place : {ps : List ParameterKind} {operands : List Operand} {args : List Actual} (i : ℕ) → AllTogether (IsGiven unit classes space references fields) ps operands args → ReferenceAgrees space (operand_at references (operand_of operands i)) (reference_given args i)
  reference_at_place i list.none = tt
  reference_at_place zero (list.more h rest) = reference_is h
  reference_at_place (suc i) (list.more h rest) = reference_at_place i rest

  -- ---- the method of an argument

  method_is : {p : ParameterKind} {o : Operand} {a : Actual} → IsGiven unit classes space references fields p o a → MethodAgrees unit classes (method_at fields o) (method_in_actual (Some a))
  method_is (given.method agrees) = agrees
  method_is (given.reference kind (given.null takes)) = tt
  method_is h = tt

  -- the method at a place
  pub method_at_place : {ps : List ParameterKind} {operands : List Operand} {args : List Actual} (i : ℕ) → AllTogether (IsGiven unit classes space references fields) ps operands args → MethodAgrees unit classes (method_at fields (operand_of operands i)) (method_given args i)
  method_at_place i list.none = tt
  method_at_place zero (list.more h rest) = method_is h
  method_at_place (suc i) (list.more h rest) = method_at_place i rest

  -- ---- objects of another kind

  module _ (heap : Heap) (blocks : BlocksAgree space heap space.blocks) where
    -- the class of an object by its address
    pub class_is : (a n : ℕ) → ReferenceAgrees space (Some a) (Some n) → class_there space a ≡ class_of heap n
    class_is a n named = ap (λ o. unwrap_or o 0) (is_object space heap a n blocks named).class
