-- The static whose reference DeleteGlobalRef or DeleteWeakGlobalRef is given.
use Rattle.std.proofs.Common.{◌≡◌, ℕ, List, [], ◌∷◌, Option, subst}
use Rattle.base.specs.Bytes.{Identifier}
use Rattle.class_rules.specs.Class.{Classes}
use Rattle.tables.specs.Elements.{OwnedNumbers}
use Rattle.heap.specs.Heap.{Space}
use Rattle.semantics.specs.Arguments.{Actual, variable_given}
use Rattle.semantics.specs.Task.{Task}
use Rattle.semantics.specs.Thread.{Shared, Thread}
use Rattle.semantics.specs.Variable.{StaticReference}
use Rattle.code.specs.declared.instr.Operand.{Operand}
use Rattle.code.specs.declared.instr.Operand.TheVariants as operand
use Rattle.code.specs.Depth.{Listing}
use Rattle.code_meaning.specs.Does as gives
use Rattle.code_meaning.specs.Does.{AllTogether, GivesReference, IsOperand}
use Rattle.jni.specs.declared.kinds.ParameterKind.{ParameterKind}
use Rattle.code_meaning.specs.Lowered.{Lowered}
use Rattle.semantics_safety.specs.Owners.{Owners}
use Rattle.code_meaning.specs.Slots.{visible_to}
use Rattle.machine_scenes.specs.declared.activation.Activation.{Activation}
use Rattle.machine_answers.specs.Asked.{HeldStatic}
use Rattle.machine_scenes.specs.Statics.{References}
use Rattle.machine_scenes.specs.StoreAgrees.{StaticsAgree}
use Rattle.machine_scenes.specs.declared.references.Held.{Held}
use Rattle.machine_calls.proofs.HeldStatics.{static_there}
use Rattle.machine_steps.proofs.Arguments.{static_shown}
use Rattle.machine_scenes.specs.Given.{operand_of}
use Rattle.machine_steps.proofs.Calls.{Ready}
use Rattle.machine_threads.specs.SlotsHold.{slots_of}

module _ (p : Lowered) (classes : Classes) (space : Space) (copies : List (Option OwnedNumbers)) (owner : ℕ) (call : Activation) (code : Listing) (own : Owners) (shared : Shared) (s : Thread) (task : Task) (rest : List Task) (r : Ready p classes space copies owner call code (visible_to own shared s) s.frames task rest) (helds : List Held) (statics : StaticsAgree space helds shared.statics) where
  abbrev references : References
  references = record { keys = call.slots.references.items; locals = call.locals; statics = helds }

  held_by_one : {q : ParameterKind} {i : ℕ} {x : Identifier} {held : StaticReference} → GivesReference r.known (visible_to own shared s) q (operand.Static i) x held → HeldStatic space references shared x i
  held_by_one {i = i} {x = x} (gives.static takes at) =
      let shown = static_shown code r.known (visible_to own shared s) (slots_of call r.meant) r.shows x i at in
      record {
        place = shown.static.place;
        reference = shown.static.held;
        there = shown.static.there;
        agrees = static_there space x helds shared.statics i shown.static.held statics shown.static.place shown.static.there;
      }

  of_static : {q : ParameterKind} {i : ℕ} {a : Actual} → IsOperand r.known (visible_to own shared s) q (operand.Static i) a → HeldStatic space references shared (variable_given (a ∷ []) 0) i
  of_static (gives.reference kind there) = held_by_one there

  -- what it holds stands for what it holds in the source
  pub static_held : (i : ℕ) {ps : List ParameterKind} {operands : List Operand} {args : List Actual} → AllTogether (IsOperand r.known (visible_to own shared s)) ps operands args → operand_of operands 0 ≡ operand.Static i → HeldStatic space references shared (variable_given args 0) i
  static_held i gives.none is = absurd (cc)
  static_held i (gives.more {x = q} {z = a} h rest) is = of_static (subst (λ (o : Operand). IsOperand r.known (visible_to own shared s) q o a) is h)
