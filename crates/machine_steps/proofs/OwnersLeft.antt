-- The owners of local references that a call leaves.
use Rattle.syntax.specs.Views.{unit_tree}
use Rattle.std.proofs.Common.{◌≡◌, ◌≢◌, ◌⊎◌, inl, inr, map, ℕ, List, length, Option, Some, None, refl, sym, ap, ◌∙◌, subst}
use Rattle.std.specs.Prelude.{slice_get, slice_set, if◌then◌else◌}
use Rattle.jni.specs.declared.function.JniFunction.{JniFunction}
use Rattle.jni.specs.declared.function.JniFunction.TheVariants.{DeleteLocalRef}
use Rattle.jni.specs.JniFunction.{prototype}
use Rattle.jni.specs.declared.kinds.ResultKind.{ResultKind}
use Rattle.semantics.specs.Object.{Reference}
use Rattle.semantics.specs.Answer.{Answer as SourceAnswer, DeletesLocal, Pops}
use Rattle.semantics.specs.AnswerTable.{call_answer}
use Rattle.semantics.specs.CallSight.{sight_of_call}
use Rattle.semantics.proofs.AnswerKinds.{AnswersAs, CallKind, EndingLocal, EndsLocal, Popping, answers_as, call_kind}
use Rattle.semantics.specs.Effect.{effect_of}
use Rattle.semantics.specs.Task.{Task}
use Rattle.semantics.specs.Thread as source
use Rattle.semantics.specs.Thread.{Shared, sight_of}
use Rattle.semantics.specs.World.{World}
use Rattle.base.specs.Bytes.{Identifier}
use Rattle.code.specs.Call.{Call, call_view}
use Rattle.code.specs.declared.instr.Call.{Call as InMemory}
use Rattle.code_meaning.specs.Lowered.{Lowered}
use Rattle.code_meaning.specs.Slots.{Shows, visible_to}
use Rattle.type_rules.specs.declared.ty.ExprType.TheVariants.{Ref}
use Rattle.machine_answers.specs.declared.answer.Answer.{Answer}
use Rattle.machine_scenes.specs.declared.store.Store.{Store}
use Rattle.machine_scenes.specs.declared.activation.Activation.{Activation}
use Rattle.machine_answers.specs.declared.answer.Answer.TheVariants as replies
use Rattle.machine_answers.specs.Answered.{IsAnswerTo}
use Rattle.machine_answers.specs.Answers.{Brought, IsAnswer}
use Rattle.machine_answers.specs.Asked.{brought_by, references_of, scene_of}
use Rattle.machine_calls.specs.CarriedOut.{IsLeft}
use Rattle.machine_scenes.specs.Given.{held_in, key_at, operand_of}
use Rattle.machine_steps.specs.Executes.{in_use_with}
use Rattle.machine_steps.specs.Invoked.{AtCall}
use Rattle.machine_steps.proofs.Calls.{Ready}
use Rattle.machine_threads.specs.SlotsHold.{slots_of}
use Rattle.machine_scenes.proofs.KeyLaws.{name_there, set_cases}
use Rattle.machine_steps.proofs.KeysLeft.{LeavesLevel, left_but_one, level_left, others_get}
use Rattle.machine_scenes.proofs.LocalFrames.{as_many_frames}
use Rattle.machine_steps.proofs.OwnedKeys.{DeletesKey}
use Rattle.code_meaning.proofs.OwnerLaws.{owner_lost_with_slot, owners_mapped}
use Rattle.semantics_safety.specs.Owners.{Owners, left_by, other_than}
use Rattle.std.specs.Str.{bytes_eq}
use Rattle.machine_scenes.specs.Buffers.{Acquired}
use Rattle.machine_steps.proofs.AskedCalls.{CalledAs, called as called_at, deleted, r as ready_at}

-- what a slot holds whose key is this
slot_held : (o : Option (Option ℕ)) (key : ℕ) → held_in o ≡ Some key → o ≡ Some (Some key)
slot_held None key e = absurd (cc)
slot_held (Some o) key e = ap (λ (x : Option ℕ). Some x) e

-- the function that ends a local reference
deletes : (f : JniFunction) → call_kind f ≡ EndsLocal → f ≡ DeleteLocalRef
deletes DeleteLocalRef is = refl
deletes f is = absurd (cc)

module _ (p : Lowered) (w : World) (store : Store) (pending : Option ℕ) (call : Activation) (in_memory : InMemory) (others : Acquired) (k owner : ℕ) (own : Owners) (shared : Shared) (s : source.Thread) (task : Task) (rest : List Task) (h : AtCall p w store pending call in_memory others k owner own shared s task rest) where
  abbrev function : Call
  function = call_view in_memory

  abbrev r : Ready p w.classes store.heap store.elements owner call h.code (visible_to own shared s) s.frames task rest
  r = ready_at p w store pending call in_memory others k owner own shared s task rest h

  abbrev called : CalledAs p w store pending call h.code function others k owner own shared s task rest r (effect_of (sight_of shared s) task)
  called = called_at p w store pending call in_memory others k owner own shared s task rest h

  -- what the source's call answers
  abbrev pub of_source : SourceAnswer
  of_source = call_answer (unit_tree p.unit) w.classes k (sight_of_call shared s called.f called.args) called.f

  -- owners that are left once an answer of the source has ended local references, for one in memory, and what shows them
  pub record LeavesOwners (of : SourceAnswer) (answer : Answer) : Type 0 where
    pub owners : List (Option ℕ)
    pub shows : Shows h.code r.known (visible_to (left_by of called.args (length s.frames) own) shared s) (slots_of call (record r.meant { owners = owners }))
    pub among : (i level : ℕ) → slice_get owners i ≡ Some (Some level) → slice_get r.meant.owners i ≡ Some (Some level)
    pub left : (i key level : ℕ) → slice_get call.slots.references.items i ≡ Some (Some key) → slice_get owners i ≡ Some (Some level) → IsLeft answer (length call.locals.frames) key level

  -- what the call brings
  abbrev pub brings : Brought
  brings = brought_by (unit_tree p.unit) store call k owner (in_use_with others s) function called.args

  module _ (answer : Answer) (works : IsAnswerTo (scene_of (unit_tree p.unit) w.classes store call k pending) function answer)
      (does : IsAnswer w.classes brings store.heap call.locals shared s answer (prototype called.f).result of_source) where
    -- it stands for this answer of the source
    abbrev Stands : SourceAnswer → Type 0
    Stands of = IsAnswer w.classes brings store.heap call.locals shared s answer (prototype called.f).result of

    delete_leaves : called.f ≡ DeleteLocalRef → (n : ℕ) → Stands (DeletesLocal 0 n) → LeavesOwners (DeletesLocal 0 n) answer
    unfolding IsAnswerTo
    delete_leaves e n stands =
        let d = deleted p w store pending call in_memory others k owner own shared s task rest h e in
        record {
          owners = slice_set r.meant.owners d.slot None;
          shows = subst (λ (x : Identifier). Shows h.code r.known (visible_to (λ y. if bytes_eq y x then None else own y) shared s) (slots_of call (record r.meant { owners = slice_set r.meant.owners d.slot None }))) (sym d.variable)
              (owner_lost_with_slot h.code r.known (visible_to own shared s) (slots_of call r.meant) r.shows d.name d.slot (called.own_slots d.name (record { ty = Ref; index = d.slot }) d.at));
          among = λ i level at. (in_others d i level (set_cases r.meant.owners d.slot i None (Some level) at)).1;
          left = λ i key level found at.
              left_but_one refl stands (length call.locals.frames) key level
              (λ one is. apart d i key level found (in_others d i level (set_cases r.meant.owners d.slot i None (Some level) at)) one
              (slot_held (slice_get call.slots.references.items d.slot) one (sym (ap (key_at (references_of store call)) d.is) ∙ ends_one e one is)));
        }
      where
        Deleted : Type 0
        Deleted = DeletesKey p w.classes store.heap store.elements owner call h.code own shared s task rest r function.operands called.args

        in_others : (d : Deleted) (i level : ℕ) → ((i ≡ d.slot) × (◌≡◌ {A = Option ℕ} None (Some level))) ⊎ ((i ≢ d.slot) × (slice_get r.meant.owners i ≡ Some (Some level))) → (i ≢ d.slot) × (slice_get r.meant.owners i ≡ Some (Some level))
        in_others d i level (inl (same, none)) = absurd (cc)
        in_others d i level (inr other) = other

        -- the key that is deleted is that of the slot
        ends_one : called.f ≡ DeleteLocalRef → (one : ℕ) → answer ≡ replies.Deletes one → key_at (references_of store call) (operand_of function.operands 0) ≡ Some one
        ends_one e = works.ends (called.asked.same_function ∙ e)

        -- which no other slot has
        apart : (d : Deleted) (i key level : ℕ) → slice_get call.slots.references.items i ≡ Some (Some key) → (i ≢ d.slot) × (slice_get r.meant.owners i ≡ Some (Some level)) → (one : ℕ) → slice_get call.slots.references.items d.slot ≡ Some (Some one) → key ≢ one
        apart d i key level found other one at same =
            let named = name_there store.heap call.locals call.slots.references.items r.meant.references r.meant.owners d.slot one r.holds.keys at in
            let owner = d.owned named.0 named.1 in
            other.0 (r.holds.keys.apart i d.slot key level owner.0 found (at ∙ ap (λ (n : ℕ). Some (Some n)) (sym same)) other.1 owner.1)

    pop_leaves : (q : Reference) → Stands (Pops q) → LeavesOwners (Pops q) answer
    pop_leaves q stands = record {
      owners = map (other_than (length s.frames)) r.meant.owners;
      shows = owners_mapped h.code r.known (visible_to own shared s) (slots_of call r.meant) r.shows (other_than (length s.frames)) refl;
      among = λ i level at. (others_get (length s.frames) r.meant.owners i level at).0;
      left = λ i key level found at. level_left stands (length call.locals.frames) key level
          (λ same. (others_get (length s.frames) r.meant.owners i level at).1 (same ∙ as_many_frames store.heap call.locals s.frames r.frames_agree));
    }

    -- any other answer
    none_leaves : {of : SourceAnswer} → Stands of → left_by of called.args (length s.frames) own ≡ own → ((level : ℕ) → LeavesLevel of (length call.locals.frames) level) → LeavesOwners of answer
    none_leaves stands same stays = record {
      owners = r.meant.owners;
      shows = subst (λ (o : Owners). Shows h.code r.known (visible_to o shared s) (slots_of call r.meant)) (sym same) r.shows;
      among = λ i level at. at;
      left = λ i key level found at. level_left stands (length call.locals.frames) key level (stays level);
    }

    leaves : {kind : CallKind} {result : ResultKind} {of : SourceAnswer} → call_kind called.f ≡ kind → AnswersAs (unit_tree p.unit) w.classes (sight_of_call shared s called.f called.args) called.f kind result of → Stands of → LeavesOwners of answer
    leaves is (EndingLocal n found) stands = delete_leaves (deletes called.f is) n stands
    leaves is (Popping q) stands = pop_leaves q stands
    leaves is h stands = none_leaves stands refl (λ level. tt)

    pub leaves_owners : LeavesOwners of_source answer
    leaves_owners = leaves refl (answers_as (unit_tree p.unit) w.classes k (sight_of_call shared s called.f called.args) called.f) does

    -- the call with fewer owners
    abbrev pub left_own : Owners
    left_own = left_by of_source called.args (length s.frames) own
