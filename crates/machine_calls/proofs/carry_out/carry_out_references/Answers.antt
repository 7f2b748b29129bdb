use Rattle.std.proofs.Common.{rules, ◌≡◌, ◌<◌, ℕ, List, length, Option, Some, None, Result, Ok, Err, false, refl, sym, ap, ◌∙◌, subst}
use Rattle.std.specs.Prelude.{slice_get, slice_set, IfErr, IsOk, IsSome}
use Rattle.machine_answers.specs.Answers.{effect_told}
use Rattle.machine_answers.specs.declared.answer.Given.TheVariants as given
use Rattle.machine_calls.proofs.AnswerCases.{as_answer, deleted, deleted_global, deleted_weak, made_global, made_weak}
use Rattle.machine_scenes.specs.Buffers.{acquired_by, beside}
use Rattle.machine_calls.specs.CarriedOut.{CarriesOut}
use Rattle.tables.specs.Locals.{LocalTable, without}
use Rattle.machine_answers.specs.declared.answer.Answer.TheVariants as answer
use Rattle.machine_calls.proofs.Barriers as barriers
use Rattle.machine_calls.proofs.CarryOuts as carries
use Rattle.machine_calls.specs.Barrier.{noted_at}
use Rattle.machine_calls.proofs.StaticStores.{live_there, static_within}
use Rattle.machine_scenes.specs.Statics.{StaticReference, without_weak}
use Rattle.semantics.specs.declared.static_reference.StaticReference.TheVariants as static
use Rattle.std.specs.Vec.{with_items}
use Rattle.std.proofs.lemmas.List.{with_items_is, places}
use Rattle.machine_calls.proofs.carry_out.carry_out_references.Goals as goal

-- what has no error is right
none_wrong : {T E : Type 0} (P : E → Type 0) (r : Result T E) → IfErr r P → ((e : E) → P e → ⊥) → IsOk r
none_wrong P (Ok x) h never = refl
none_wrong P (Err e) h never = absurd (never e h)

-- the key that is deleted is live
pub unwrap-requires : goal.unwrap-requires
unwrap-requires c =
    let key = (deleted (as_answer c.in-Deletes.is c.requires.possible.8)).2 in
    none_wrong _ c.delete.result c.delete.ensures.dead (λ e dead. let clash : Some key.address ≡ None = sym key.there ∙ dead.1 in cc)

-- the static that is marked has a global reference
pub delete_global-requires : goal.delete_global-requires
delete_global-requires c =
    let r = c.requires.possible in
    let w = c.args.world.now in
    let old = c.args.store.now in
    let slot = c.in-DeletesGlobal.slot in
    let deletes = deleted_global (as_answer c.in-DeletesGlobal.is r.8) in
    let live = live_there r.0 w old r.4 (beside r.3 (acquired_by r.5)) r.7.store_agrees deletes.0 slot deletes.1 deletes.2.place deletes.2.there in
    (live.key, subst (λ (l : List StaticReference). slice_get l slot ≡ Some (static.Live live.key)) (sym c.deref_mut.ensures.value) live.at, subst (λ (o : Option ℕ). IsSome o) (sym live.held) refl)

pub returns-in-DeletesGlobal-clause-carried : goal.returns-in-DeletesGlobal-clause-carried
returns-in-DeletesGlobal-clause-carried c p kind brought others owner shared s of_source h does =
    let w = c.args.world.now in
    let old = c.args.store.now in
    let slot = c.in-DeletesGlobal.slot in
    let statics = with_items old.statics c.delete_global.new.statics in
    carries.by_answer p w old.heap c.args.locals.now kind others owner shared s of_source brought c.args.answer (answer.DeletesGlobal c.in-DeletesGlobal.slot) c.in-DeletesGlobal.is _ _ _ _ _ (λ deletes.
    carries.deletes_static p w old c.args.pending.now c.args.locals.now others owner shared s h brought statics c.delete_global.new.globals slot deletes
    (with_items_is old.statics c.delete_global.new.statics (search (rules, places)) ∙ c.delete_global.ensures.statics ∙ ap (λ (l : List StaticReference). slice_set l slot static.Deleted) c.deref_mut.ensures.value)
    (λ key at. c.delete_global.ensures.globals key (subst (λ (l : List StaticReference). slice_get l slot ≡ Some (static.Live key)) (sym c.deref_mut.ensures.value) at))) does

pub returns-in_ok-held-in-MakesGlobal-clause-carried : goal.returns-in_ok-held-in-MakesGlobal-clause-carried
returns-in_ok-held-in-MakesGlobal-clause-carried c p kind brought others owner shared s of_source h does =
    let w = c.args.world.now in
    let old = c.args.store.now in
    let effect = effect_told w.classes brought shared s of_source in
    carries.by_answer p w old.heap c.args.locals.now kind others owner shared s of_source brought c.args.answer (answer.MakesGlobal c.in-MakesGlobal.reference) c.in-MakesGlobal.is _ _ _ _ _ (λ makes.
    barriers.noted_so p w old.heap c.args.locals.now (answer.MakesGlobal c.in-MakesGlobal.reference) kind others owner shared s effect (record old { globals = c.make_global.new.globals }) (noted_at c.in-MakesGlobal.reference old.heap.marking) c.note.new.heap c.args.pending.now c.args.locals.now (given.Global c.in_ok-held-in-MakesGlobal.held) c.note.ensures (barriers.stays_at c.in-MakesGlobal.reference old.heap.marking)
    (carries.makes_global p w old c.args.pending.now c.args.locals.now others owner shared s h brought c.make_global.new.globals c.in_ok-held-in-MakesGlobal.held c.in-MakesGlobal.reference makes c.in_ok-held-in-MakesGlobal.ensures.made)) does

pub note-requires : goal.note-requires
note-requires c =
    let makes = made_global (as_answer c.in-MakesGlobal.is c.requires.possible.8) in
    barriers.reference_there c.args.store.now.heap c.in-MakesGlobal.reference makes.0 makes.1

pub returns-in_ok-held-in-MakesGlobal-clause-barrier : goal.returns-in_ok-held-in-MakesGlobal-clause-barrier
returns-in_ok-held-in-MakesGlobal-clause-barrier c = barriers.notes_global c.args.store.now.heap c.note.new.heap c.args.answer c.in-MakesGlobal.reference c.in-MakesGlobal.is c.note.ensures

-- the static that is marked is there
pub delete_weak-requires : goal.delete_weak-requires
delete_weak-requires c =
    let r = c.requires.possible in
    let w = c.args.world.now in
    let old = c.args.store.now in
    let slot = c.in-DeletesWeak.slot in
    let deletes = deleted_weak (as_answer c.in-DeletesWeak.is r.8) in
    subst (λ (l : List StaticReference). slot < length l) (sym c.deref_mut-in-DeletesWeak.ensures.value) (static_within r.0 w old r.4 (beside r.3 (acquired_by r.5)) r.7.store_agrees deletes.0 slot deletes.1.place)

pub returns-in-DeletesWeak-clause-carried : goal.returns-in-DeletesWeak-clause-carried
returns-in-DeletesWeak-clause-carried c p kind brought others owner shared s of_source h does =
    let w = c.args.world.now in
    let old = c.args.store.now in
    let slot = c.in-DeletesWeak.slot in
    let statics = with_items old.statics c.delete_weak.new.statics in
    carries.by_answer p w old.heap c.args.locals.now kind others owner shared s of_source brought c.args.answer (answer.DeletesWeak slot) c.in-DeletesWeak.is _ _ _ _ _ (λ deletes.
    carries.deletes_weak p w old c.args.pending.now c.args.locals.now others owner shared s h brought statics c.delete_weak.new.weaks slot deletes
    (with_items_is old.statics c.delete_weak.new.statics (search (rules, places)) ∙ c.delete_weak.ensures.statics ∙ ap (λ (l : List StaticReference). slice_set l slot static.Deleted) c.deref_mut-in-DeletesWeak.ensures.value)
    (c.delete_weak.ensures.weaks ∙ ap (λ (l : List StaticReference). without_weak old.weaks (slice_get l slot)) c.deref_mut-in-DeletesWeak.ensures.value)) does

pub returns-in_ok-held-in-MakesWeak-clause-carried : goal.returns-in_ok-held-in-MakesWeak-clause-carried
returns-in_ok-held-in-MakesWeak-clause-carried c p kind brought others owner shared s of_source h does =
    let w = c.args.world.now in
    let old = c.args.store.now in
    let effect = effect_told w.classes brought shared s of_source in
    carries.by_answer p w old.heap c.args.locals.now kind others owner shared s of_source brought c.args.answer (answer.MakesWeak c.in-MakesWeak.reference) c.in-MakesWeak.is _ _ _ _ _ (λ makes.
    barriers.noted_so p w old.heap c.args.locals.now (answer.MakesWeak c.in-MakesWeak.reference) kind others owner shared s effect (record old { weaks = c.make_weak.new.weaks }) (noted_at c.in-MakesWeak.reference old.heap.marking) c.note-in-MakesWeak.new.heap c.args.pending.now c.args.locals.now (given.Global c.in_ok-held-in-MakesWeak.held) c.note-in-MakesWeak.ensures (barriers.stays_at c.in-MakesWeak.reference old.heap.marking)
    (carries.makes_weak p w old c.args.pending.now c.args.locals.now others owner shared s h brought c.make_weak.new.weaks c.in_ok-held-in-MakesWeak.held c.in-MakesWeak.reference makes c.in_ok-held-in-MakesWeak.ensures.made)) does

pub note-requires-in-MakesWeak : goal.note-requires-in-MakesWeak
note-requires-in-MakesWeak c =
    let makes = made_weak (as_answer c.in-MakesWeak.is c.requires.possible.8) in
    barriers.reference_there c.args.store.now.heap c.in-MakesWeak.reference makes.0 makes.1

pub returns-in_ok-held-in-MakesWeak-clause-barrier : goal.returns-in_ok-held-in-MakesWeak-clause-barrier
returns-in_ok-held-in-MakesWeak-clause-barrier c = barriers.notes_weak c.args.store.now.heap c.note-in-MakesWeak.new.heap c.args.answer c.in-MakesWeak.reference c.in-MakesWeak.is c.note-in-MakesWeak.ensures

pub returns-in-Deletes-clause-carried : goal.returns-in-Deletes-clause-carried
returns-in-Deletes-clause-carried c p kind brought others owner shared s of_source h does =
    let w = c.args.world.now in
    let old = c.args.store.now in
    let effect = effect_told w.classes brought shared s of_source in
    let locals = c.args.locals.now in
    let key = c.in-Deletes.key in
    let gone : c.delete.new.self ≡ without locals key = search rules in
    carries.by_answer p w old.heap locals kind others owner shared s of_source brought c.args.answer (answer.Deletes key) c.in-Deletes.is _ _ _ _ _ (λ deletes.
    subst (λ (l : LocalTable). CarriesOut p w old.heap locals (answer.Deletes key) kind others owner shared s effect false old c.args.pending.now l given.Nothing) (sym gone)
    (carries.deletes p w old c.args.pending.now locals others owner shared s h brought key deletes)) does
