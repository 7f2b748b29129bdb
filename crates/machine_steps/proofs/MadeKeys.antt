-- A result that becomes a local reference, and its key.
use Rattle.std.proofs.Common.{◌≡◌, ◌<◌, ℕ, true, List, [], ◌∷◌, Option, Some, None, sym, ap, ◌∙◌, subst, arith}
use Rattle.std.proofs.lemmas.Bool.{ltb-true}
use Rattle.std.specs.Prelude.{is_none, length}
use Rattle.heap.specs.Heap.{Space}
use Rattle.jni.specs.declared.kinds.ResultKind.{ResultKind}
use Rattle.jni.specs.declared.kinds.ResultKind.TheVariants.{NewLocal}
use Rattle.semantics.specs.Object.{Reference}
use Rattle.tables.specs.Locals.{Frame, LocalTable, AreStacked, IsMade, has_room, live_in}
use Rattle.tables.specs.References.{address_at}
use Rattle.tables.proofs.FrameLaws.{made_level, made_new_level, made_was_free, made_there, made_others}
use Rattle.machine_answers.specs.declared.answer.Given.{Given}
use Rattle.machine_answers.specs.declared.answer.Given.TheVariants as given
use Rattle.machine_scenes.specs.HeapAgrees.{ReferenceAgrees}
use Rattle.machine_scenes.specs.Locals.{IsKeyOf}
use Rattle.machine_steps.specs.Received.{MakesLocal}

-- where there is room there is a frame
pub room_frame : (locals : LocalTable) → has_room locals ≡ true → 0 < length locals.frames
room_frame locals room = by_frames locals.frames locals.slots room
  where
    by_frames : (fs : List Frame) (slots : List (Option ℕ)) → has_room (record { frames = fs; slots = slots }) ≡ true → 0 < length fs
    by_frames [] slots room = absurd (omega (arith, ltb-true (live_in (record { frames = []; slots = slots })) 0 room))
    by_frames (f ∷ fs) slots room = omega arith

module _ (space : Space) (locals after : LocalTable) (stacked : AreStacked locals) where
  same_left : after ≡ locals → (k n level : ℕ) → IsKeyOf space locals k n level → IsKeyOf space after k n level
  same_left same k n level h = subst (λ (t : LocalTable). IsKeyOf space t k n level) (sym same) h

  one_left : (place a : ℕ) → IsMade locals place a after → (k n level : ℕ) → IsKeyOf space locals k n level → IsKeyOf space after k n level
  one_left place a made k n level h = record { address = h.address; there = made_others locals place a after made k h.address h.there; name = h.name; of_level = made_level locals place a after made k ∙ h.of_level }

-- keys stay those of the same references
pub made_left : (space : Space) (kind : ResultKind) (g : Given) (locals after : LocalTable) (key : Option ℕ) → AreStacked locals → MakesLocal kind g locals key after → (k n level : ℕ) → IsKeyOf space locals k n level → IsKeyOf space after k n level
made_left space NewLocal (given.Reference (Some a)) locals after key stacked (place, is, made) = one_left space locals after stacked place a made
made_left space NewLocal (given.Reference None) locals after key stacked h = same_left space locals after stacked h.1
made_left space NewLocal given.Nothing locals after key stacked h = same_left space locals after stacked h.1
made_left space NewLocal (given.Number word) locals after key stacked h = same_left space locals after stacked h.1
made_left space NewLocal (given.FieldId f) locals after key stacked h = same_left space locals after stacked h.1
made_left space NewLocal (given.MethodId f) locals after key stacked h = same_left space locals after stacked h.1
made_left space NewLocal (given.Global s) locals after key stacked h = same_left space locals after stacked h.1
made_left space kind g locals after key stacked h = same_left space locals after stacked h.1

-- the key of a new local reference; none for NULL
pub record IsNewKey (space : Space) (locals after : LocalTable) (key : Option ℕ) (reference : Reference) : Type 0 where
  pub null : is_none key ≡ is_none reference
  pub key_of : (place n : ℕ) → key ≡ Some place → reference ≡ Some n → IsKeyOf space after place n (length locals.frames)
  pub fresh : (place : ℕ) → key ≡ Some place → address_at locals.slots place ≡ None

pub made_new : (space : Space) (g : Given) (address : Option ℕ) (reference : Reference) (locals after : LocalTable) (key : Option ℕ) → AreStacked locals → 0 < length locals.frames → g ≡ given.Reference address → ReferenceAgrees space address reference → MakesLocal NewLocal g locals key after → IsNewKey space locals after key reference
made_new space g None (Some n) locals after key stacked some is agrees makes = absurd agrees
made_new space g (Some a) None locals after key stacked some is agrees makes = absurd agrees
made_new space g None None locals after key stacked some is agrees makes =
    let none : key ≡ None = (subst (λ (x : Given). MakesLocal NewLocal x locals key after) is makes).0 in
    record { null = ap is_none none; key_of = λ place n at named. absurd (let clash : None ≡ Some place = sym none ∙ at in cc); fresh = λ place at. absurd (let clash : None ≡ Some place = sym none ∙ at in cc) }
made_new space g (Some a) (Some n) locals after key stacked some is agrees makes =
    let made = subst (λ (x : Given). MakesLocal NewLocal x locals key after) is makes in
    record {
      null = ap is_none made.1;
      key_of = λ place m at named.
          let same : made.0 ≡ place = let both : Some made.0 ≡ Some place = sym made.1 ∙ at in cc in
          let name : n ≡ m = cc in
          subst (λ (q : ℕ). IsKeyOf space after q m (length locals.frames)) same (record { address = a; there = made_there locals made.0 a after made.2; name = agrees ∙ ap (λ (x : ℕ). Some x) name; of_level = made_new_level locals made.0 a after made.2 stacked some });
      fresh = λ place at.
          let same : made.0 ≡ place = let both : Some made.0 ≡ Some place = sym made.1 ∙ at in cc in
          subst (λ (q : ℕ). address_at locals.slots q ≡ None) same (made_was_free locals made.0 a after made.2);
    }
