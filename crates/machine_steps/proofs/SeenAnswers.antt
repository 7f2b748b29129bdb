-- What is seen at once of a call is what it answers.
use Rattle.std.proofs.Common.{◌≡◌, ℕ, Bool, true, false, Option, Some, None, sym, ◌∙◌, subst}
use Rattle.std.specs.Prelude.{IfSome}
use Rattle.syntax.specs.Views.{unit_tree}
use Rattle.code.specs.Call.{call_view}
use Rattle.code.specs.declared.instr.Call.{Call}
use Rattle.code_meaning.specs.Lowered.{Lowered}
use Rattle.semantics.specs.World.{World}
use Rattle.tables.specs.Locals.{has_room}
use Rattle.world_values.specs.SoundWorlds.{IsSound}
use Rattle.machine_answers.specs.Asked.{scene_of}
use Rattle.machine_answers.specs.Checked.{trap_found}
use Rattle.machine_answers.specs.Sights.{element_wanted, trap_seen}
use Rattle.machine_answers.specs.Answered.{IsAnswerTo}
use Rattle.machine_answers.specs.declared.answer.Answer.{Answer}
use Rattle.machine_scenes.specs.Locals.{locals_after}
use Rattle.machine_scenes.specs.Scenes.{Scene}
use Rattle.machine_scenes.specs.declared.activation.Activation.{Activation}
use Rattle.machine_scenes.specs.declared.store.Store.{Store}
use Rattle.machine_steps.specs.Invoked.{IsAnswered, done_or_refused}
use Rattle.machine_steps.specs.declared.invoke.Invoked.{Invoked}
use Rattle.machine_steps.specs.declared.invoke.Invoked.TheVariants as invoked

module _ (p : Lowered) (w : World) (store : Store) (pending : Option ℕ) (call : Activation) (k : ℕ) (function : Call) (scene : Scene) (same : scene ≡ scene_of (unit_tree p.unit) w.classes store call k pending) (sound : IsSound w)
    (as_seen : trap_found scene (has_room (locals_after function.function call.locals)) (element_wanted function.target) function.function function.operands.items ≡ trap_seen scene call.locals (call_view function)) where
  abbrev pub room : Bool
  room = has_room (locals_after function.function call.locals)

  -- no check stops a call that sees this
  abbrev pub IsFree : Bool → Type 0
  IsFree is_room = trap_found scene is_room (element_wanted function.target) function.function function.operands.items ≡ None

  pub seen : (a : Answer) → IsFree room → IsAnswerTo scene (call_view function) a → IsAnswered p w store pending call k function a
  seen a free works = record {
    sound = sound;
    free = subst (λ (x : Scene). trap_seen x call.locals (call_view function) ≡ None) same (sym as_seen ∙ free);
    works = subst (λ (x : Scene). IsAnswerTo x (call_view function) a) same works;
  }

  -- so it is of whatever is seen at once
  module _ {A : Type 0} (answer : A → Answer) where
    pub all_seen : (o : Option A) → IfSome o (λ x. (is_room : Bool) → IsFree is_room) → IfSome o (λ x. IsAnswerTo scene (call_view function) (answer x)) → IfSome o (λ x. IsAnswered p w store pending call k function (answer x))
    all_seen (Some x) free works = seen (answer x) (free room) works
    all_seen None free works = tt

    pub seen_with_room : (o : Option A) → IfSome o (λ x. IsFree room) → IfSome o (λ x. IsAnswerTo scene (call_view function) (answer x)) → IfSome o (λ x. IsAnswered p w store pending call k function (answer x))
    seen_with_room (Some x) free works = seen (answer x) free works
    seen_with_room None free works = tt

-- what was carried out is no call of a method
pub never_calls : (refused : Bool) (x : Invoked) → x ≡ done_or_refused refused → x ≡ invoked.Calls → ⊥
never_calls true x told is = let clash : invoked.Refused ≡ invoked.Calls = sym told ∙ is in cc
never_calls false x told is = let clash : invoked.Done ≡ invoked.Calls = sym told ∙ is in cc
