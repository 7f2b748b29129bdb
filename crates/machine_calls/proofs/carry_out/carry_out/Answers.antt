use Rattle.std.proofs.Common.{rules, ◌≡◌, ℕ, List, ◌+◌, ◌<◌, ◌≤◌, ◌^◌, Option, Some, None, length, true, false, refl, sym, ap, ◌∙◌, subst, arith}
use Rattle.std.specs.Global.{Vec}
use Rattle.std.specs.Prelude.{slice_get}
use Rattle.class_rules.specs.Class.{Classes}
use Rattle.class_rules.specs.declared.class_id.ClassId.{ClassId}
use Rattle.heap.specs.Heap.{Space, left_of}
use Rattle.jni.specs.declared.kinds.ResultKind.{ResultKind}
use Rattle.semantics.specs.CallEffects.{CallEffect}
use Rattle.semantics.specs.Thread.{Shared, Thread}
use Rattle.semantics.specs.World.{World}
use Rattle.world_values.proofs.LoadedWorlds.{few_loaded}
use Rattle.world_values.specs.SoundWorlds.{IsSound}
use Rattle.code_meaning.specs.Lowered.{Lowered}
use Rattle.machine_answers.specs.declared.answer.Answer.{Answer}
use Rattle.machine_answers.specs.declared.answer.Given.{Given}
use Rattle.machine_answers.specs.declared.answer.Given.TheVariants as given
use Rattle.machine_calls.specs.declared.carry_out.Carried.{Carried}
use Rattle.machine_scenes.specs.declared.store.Store.{Store}
use Rattle.machine_scenes.specs.declared.activation.Activation.{Activation}
use Rattle.machine_answers.specs.Answers.{effect_told}
use Rattle.machine_answers.specs.Copies.{space_with}
use Rattle.machine_scenes.specs.Buffers.{Acquired}
use Rattle.machine_calls.specs.CarriedOut.{CarriesOut, brought_to, failed, is_of_buffers, slots_after}
use Rattle.tables.specs.Locals.{LocalTable}
use Rattle.machine_answers.specs.declared.answer.Answer.TheVariants as answer
use Rattle.machine_calls.specs.Made.{HasMade, Makes, Raises}
use Rattle.machine_scenes.specs.declared.new_object.New.{New}
use Rattle.machine_scenes.specs.declared.new_object.New.TheVariants.{Fresh}
use Rattle.machine_scenes.specs.NewObjects.{cells_of_new, class_of_new, texts_in}
use Rattle.machine_calls.proofs.AnswerCases.{as_answer, copied_in, copied_out, gave, made, pending, raised, thrown, written}
use Rattle.machine_calls.proofs.Barriers as barriers
use Rattle.machine_calls.proofs.Makes.{refers_there}
use Rattle.machine_calls.specs.Barrier.{noted_at, reference_given}
use Rattle.machine_calls.proofs.CarryOuts as carries
use Rattle.machine_answers.proofs.LongTables.{classes_loaded}
use Rattle.machine_calls.proofs.carry_out.carry_out.Goals as goal

-- a class of the table has a small number
small : (w : World) (class : ℕ) → IsSound w → class ≤ length w.classes → class < 2 ^ 32
small w class sound high = omega (arith, high, few_loaded w sound, classes_loaded w)

-- an object was made in the store of the world's classes
has_made : (classes table : Classes) (texts : List (List ℕ)) (old after : Store) (new : New) (a : ℕ) (o : Option ℕ) → table ≡ classes → Makes table texts old new after o → o ≡ Some a → HasMade classes texts old new after a
has_made classes table texts old after new a o same made is = subst (λ (t : Classes). HasMade t texts old new after a) same (subst (Makes table texts old new after) is made)

unchanged : (table : Classes) (texts : List (List ℕ)) (old after : Store) (new : New) (o : Option ℕ) → Makes table texts old new after o → o ≡ None → after ≡ old
unchanged table texts old after new o made is = (subst (Makes table texts old new after) is made).0

-- none has room for it
short : (classes table : Classes) (texts : List (List ℕ)) (old after : Store) (new : New) (o : Option ℕ) → table ≡ classes → Makes table texts old new after o → o ≡ None → left_of old.heap < cells_of_new classes texts new
short classes table texts old after new o same made is = subst (λ (t : Classes). left_of old.heap < cells_of_new t texts new) same (subst (Makes table texts old new after) is made).1

module _ (p : Lowered) (w : World) (space : Space) (before : LocalTable) (a : Answer) (kind : ResultKind) (others : Acquired) (owner : ℕ) (shared : Shared) (s : Thread) (effect : CallEffect) where
  -- what was refused, told of a store that is as it was
  refused_in : (old new : Store) (after : Option ℕ) (locals : LocalTable) (carried : Carried) → new ≡ old → after ≡ slice_get new.loaded.items (length w.classes) → carried ≡ record { given = failed kind; refused = true }
      → CarriesOut p w space before a kind others owner shared s effect true old (slice_get old.loaded.items (length w.classes)) locals (failed kind) → CarriesOut p w space before a kind others owner shared s effect carried.refused new after locals carried.given
  refused_in old new after locals carried same is told h =
      subst (λ (r : Carried). CarriesOut p w space before a kind others owner shared s effect r.refused new after locals r.given) (sym told)
      (subst (λ (o : Option ℕ). CarriesOut p w space before a kind others owner shared s effect true new o locals (failed kind)) (sym is)
      (subst (λ (t : Store). CarriesOut p w space before a kind others owner shared s effect true t (slice_get t.loaded.items (length w.classes)) locals (failed kind)) (sym same) h))

pub make-requires-clause-class : goal.make-requires-clause-class
make-requires-clause-class c =
    let r = c.requires.possible in
    small c.args.calling.world.now (class_of_new c.in-Makes.new) c.threads.ensures.sound (made (as_answer c.in-Makes.is r.7)).1.makeable.high

-- what a new object is to refer to is there
pub make-requires-clause-there : goal.make-requires-clause-there
make-requires-clause-there c =
    let r = c.requires.possible in
    let it = made (as_answer c.in-Makes.is r.7) in
    refers_there c.args.calling.world.now.classes (texts_in c.args.calling.call.now.texts.items) c.args.store.now.heap c.in-Makes.new it.0 it.1.object

pub make-requires-in-Throws-clause-class : goal.make-requires-in-Throws-clause-class
make-requires-in-Throws-clause-class c =
    let r = c.requires.possible in
    small c.args.calling.world.now c.in-Throws.class.number c.threads.ensures.sound (thrown (as_answer c.in-Throws.is r.7)).high

-- the value that is written is there, and so is what it refers to
pub set-requires-clause-place : goal.set-requires-clause-place
set-requires-clause-place c = (written (as_answer c.in-Writes.is c.requires.possible.7)).2.within

pub set-requires-clause-target : goal.set-requires-clause-target
set-requires-clause-target c marked =
    let it = written (as_answer c.in-Writes.is c.requires.possible.7) in
    barriers.value_there c.args.store.now.heap c.in-Writes.value it.1 it.2.agrees

-- what is given is no new list
pub returns-in-Gives-clause-new_copy : goal.returns-in-Gives-clause-new_copy
returns-in-Gives-clause-new_copy c = barriers.no_new_copy c.args.store.now.elements (gave (as_answer c.in-Gives.is c.requires.possible.7)).1

pub returns-in-Pends-clause-new_copy : goal.returns-in-Pends-clause-new_copy
returns-in-Pends-clause-new_copy c = barriers.no_new_copy c.args.store.now.elements (pending (as_answer c.in-Pends.is c.requires.possible.7)).1.1

pub returns-in-Writes-clause-carried : goal.returns-in-Writes-clause-carried
returns-in-Writes-clause-carried c p args others shared s of_source h does =
    let w = c.args.calling.world.now in
    let kind = c.args.calling.call.now.result in
    let texts = texts_in c.args.calling.call.now.texts.items in
    let brought = brought_to p c.args.store.now c.args.activation.now c.args.calling.call.now c.args.calling.thread c.args.calling.owner others s args in
    let old = c.args.store.now in
    let effect = effect_told w.classes brought shared s of_source in
    carries.by_answer p w old.heap c.args.activation.now.locals kind others c.args.calling.owner shared s of_source brought c.args.answer (answer.Writes c.in-Writes.addr c.in-Writes.place c.in-Writes.value) c.in-Writes.is _ _ _ _ _ (λ writes.
    subst (λ (space : Space). CarriesOut p w old.heap c.args.activation.now.locals (answer.Writes c.in-Writes.addr c.in-Writes.place c.in-Writes.value) kind others c.args.calling.owner shared s effect false (record old { heap = space }) c.args.pending.now c.args.activation.now.locals given.Nothing) (sym c.set.ensures)
    (carries.writes p w old c.args.pending.now c.args.activation.now.locals others c.args.calling.owner shared s h brought c.in-Writes.addr c.in-Writes.place c.in-Writes.value writes)) does

pub returns-in-Some-clause-carried : goal.returns-in-Some-clause-carried
returns-in-Some-clause-carried c p args others shared s of_source h does =
    let w = c.args.calling.world.now in
    let kind = c.args.calling.call.now.result in
    let texts = texts_in c.args.calling.call.now.texts.items in
    let brought = brought_to p c.args.store.now c.args.activation.now c.args.calling.call.now c.args.calling.thread c.args.calling.owner others s args in
    let old = c.args.store.now in
    let effect = effect_told w.classes brought shared s of_source in
    let made = subst (λ (l : List (Vec ℕ)). Makes c.classes.result.now (texts_in l) old c.in-Makes.new c.make.new.store c.make.result) c.deref-texts.ensures.value c.make.ensures in
    carries.by_answer p w old.heap c.args.activation.now.locals kind others c.args.calling.owner shared s of_source brought c.args.answer (answer.Makes c.in-Makes.new) c.in-Makes.is _ _ _ _ _ (λ makes.
    carries.makes p w old c.args.pending.now c.args.activation.now.locals others c.args.calling.owner shared s h brought c.make.new.store c.in-Makes.new c.in-Some.addr
    (has_made w.classes c.classes.result.now texts old c.make.new.store c.in-Makes.new c.in-Some.addr c.make.result c.classes.ensures.classes made c.in-Some.is) makes) does

pub returns-in-None-clause-carried : goal.returns-in-None-clause-carried
returns-in-None-clause-carried c p args others shared s of_source h does =
    let w = c.args.calling.world.now in
    let kind = c.args.calling.call.now.result in
    let texts = texts_in c.args.calling.call.now.texts.items in
    let brought = brought_to p c.args.store.now c.args.activation.now c.args.calling.call.now c.args.calling.thread c.args.calling.owner others s args in
    let old = c.args.store.now in
    let effect = effect_told w.classes brought shared s of_source in
    let made = subst (λ (l : List (Vec ℕ)). Makes c.classes.result.now (texts_in l) old c.in-Makes.new c.make.new.store c.make.result) c.deref-texts.ensures.value c.make.ensures in
    carries.by_answer p w old.heap c.args.activation.now.locals kind others c.args.calling.owner shared s of_source brought c.args.answer (answer.Makes c.in-Makes.new) c.in-Makes.is _ _ _ _ _ (λ makes.
    refused_in p w old.heap c.args.activation.now.locals (answer.Makes c.in-Makes.new) kind others c.args.calling.owner shared s effect old c.make.new.store c.refuse.new.pending c.args.activation.now.locals c.refuse.result
    (unchanged c.classes.result.now texts old c.make.new.store c.in-Makes.new c.make.result made c.in-None.is) c.refuse.ensures.pending c.refuse.ensures.carried
    (carries.refuses_object p w old c.args.pending.now c.args.activation.now.locals others c.args.calling.owner shared s h brought c.in-Makes.new makes (short w.classes c.classes.result.now texts old c.make.new.store c.in-Makes.new c.make.result c.classes.ensures.classes made c.in-None.is))) does

pub returns-in-Some-make-clause-carried : goal.returns-in-Some-make-clause-carried
returns-in-Some-make-clause-carried c p args others shared s of_source h does =
    let w = c.args.calling.world.now in
    let kind = c.args.calling.call.now.result in
    let texts = texts_in c.args.calling.call.now.texts.items in
    let brought = brought_to p c.args.store.now c.args.activation.now c.args.calling.call.now c.args.calling.thread c.args.calling.owner others s args in
    let old = c.args.store.now in
    let effect = effect_told w.classes brought shared s of_source in
    let made = subst (λ (l : List (Vec ℕ)). Makes c.classes-in-Throws.result.now (texts_in l) old (Fresh c.in-Throws.class) c.make-in-Throws.new.store c.make-in-Throws.result) c.deref-texts.ensures.value c.make-in-Throws.ensures in
    carries.by_answer p w old.heap c.args.activation.now.locals kind others c.args.calling.owner shared s of_source brought c.args.answer (answer.Throws c.in-Throws.class) c.in-Throws.is _ _ _ _ _ (λ throws.
    subst (λ (g : Given). CarriesOut p w old.heap c.args.activation.now.locals (answer.Throws c.in-Throws.class) kind others c.args.calling.owner shared s effect false c.make-in-Throws.new.store (Some c.in-Some-make.addr) c.args.activation.now.locals g) (sym c.failed.ensures)
    (carries.throws p w old c.args.pending.now c.args.activation.now.locals others c.args.calling.owner shared s h brought c.make-in-Throws.new.store c.in-Throws.class c.in-Some-make.addr
    (has_made w.classes c.classes-in-Throws.result.now texts old c.make-in-Throws.new.store (Fresh c.in-Throws.class) c.in-Some-make.addr c.make-in-Throws.result c.classes-in-Throws.ensures.classes made c.in-Some-make.is) throws)) does

pub returns-in-None-make-clause-carried : goal.returns-in-None-make-clause-carried
returns-in-None-make-clause-carried c p args others shared s of_source h does =
    let w = c.args.calling.world.now in
    let kind = c.args.calling.call.now.result in
    let texts = texts_in c.args.calling.call.now.texts.items in
    let brought = brought_to p c.args.store.now c.args.activation.now c.args.calling.call.now c.args.calling.thread c.args.calling.owner others s args in
    let old = c.args.store.now in
    let effect = effect_told w.classes brought shared s of_source in
    let made = subst (λ (l : List (Vec ℕ)). Makes c.classes-in-Throws.result.now (texts_in l) old (Fresh c.in-Throws.class) c.make-in-Throws.new.store c.make-in-Throws.result) c.deref-texts.ensures.value c.make-in-Throws.ensures in
    carries.by_answer p w old.heap c.args.activation.now.locals kind others c.args.calling.owner shared s of_source brought c.args.answer (answer.Throws c.in-Throws.class) c.in-Throws.is _ _ _ _ _ (λ throws.
    refused_in p w old.heap c.args.activation.now.locals (answer.Throws c.in-Throws.class) kind others c.args.calling.owner shared s effect old c.make-in-Throws.new.store c.refuse-in-None-make.new.pending c.args.activation.now.locals c.refuse-in-None-make.result
    (unchanged c.classes-in-Throws.result.now texts old c.make-in-Throws.new.store (Fresh c.in-Throws.class) c.make-in-Throws.result made c.in-None-make.is) c.refuse-in-None-make.ensures.pending c.refuse-in-None-make.ensures.carried
    (carries.refuses_exception p w old c.args.pending.now c.args.activation.now.locals others c.args.calling.owner shared s h brought c.in-Throws.class throws (short w.classes c.classes-in-Throws.result.now texts old c.make-in-Throws.new.store (Fresh c.in-Throws.class) c.make-in-Throws.result c.classes-in-Throws.ensures.classes made c.in-None-make.is))) does

pub returns-in-Gives-clause-carried : goal.returns-in-Gives-clause-carried
returns-in-Gives-clause-carried c p args others shared s of_source h does =
    let w = c.args.calling.world.now in
    let kind = c.args.calling.call.now.result in
    let texts = texts_in c.args.calling.call.now.texts.items in
    let brought = brought_to p c.args.store.now c.args.activation.now c.args.calling.call.now c.args.calling.thread c.args.calling.owner others s args in
    let old = c.args.store.now in
    let effect = effect_told w.classes brought shared s of_source in
    carries.by_answer p w old.heap c.args.activation.now.locals kind others c.args.calling.owner shared s of_source brought c.args.answer (answer.Gives c.in-Gives.given) c.in-Gives.is _ _ _ _ _ (λ gives.
    barriers.noted_so p w old.heap c.args.activation.now.locals (answer.Gives c.in-Gives.given) kind others c.args.calling.owner shared s effect old (noted_at (reference_given c.in-Gives.given) old.heap.marking) c.note_given.new.heap c.args.pending.now c.args.activation.now.locals c.in-Gives.given c.note_given.ensures (barriers.stays_at (reference_given c.in-Gives.given) old.heap.marking)
    (carries.gives p w old c.args.pending.now c.args.activation.now.locals others c.args.calling.owner shared s h brought refl c.in-Gives.given gives)) does

-- what is given is there
pub note_given-requires : goal.note_given-requires
note_given-requires c =
    let r = c.requires.possible in
    barriers.given_there c.args.store.now.heap (gave (as_answer c.in-Gives.is r.7)).1

pub returns-in-Gives-clause-barrier : goal.returns-in-Gives-clause-barrier
returns-in-Gives-clause-barrier c = barriers.notes_given c.args.store.now.heap c.note_given.new.heap c.args.answer c.in-Gives.given c.in-Gives.is c.note_given.ensures

-- what is done by buffers, monitors, references or frames leaves the number slots
numbers_same : (space : Space) (a : Answer) (numbers : List ℕ) → is_of_buffers a ≡ true → slots_after space a numbers ≡ numbers
numbers_same space (answer.CopiesOut region) numbers is = absurd (cc)
numbers_same space a numbers is = refl

pub returns-in-Ok-clause-carried : goal.returns-in-Ok-clause-carried
returns-in-Ok-clause-carried c p args others shared s of_source h does =
    c.in-Ok.ensures.carried p c.args.calling.call.now.result (brought_to p c.args.store.now c.args.activation.now c.args.calling.call.now c.args.calling.thread c.args.calling.owner others s args) others shared s of_source h does
    (record { buffers = refl; in_use = refl; thread = refl })

pub returns-in-Ok-clause-numbers : goal.returns-in-Ok-clause-numbers
returns-in-Ok-clause-numbers c =
    ap (λ (t : Activation). t.slots.numbers.items) c.in-Ok.ensures.stays
    ∙ sym (numbers_same c.args.store.now.heap c.args.answer c.args.activation.now.slots.numbers.items (search rules))

pub returns-in-Ok-clause-stays : goal.returns-in-Ok-clause-stays
returns-in-Ok-clause-stays c =
    let old = c.args.activation.now in
    let new = c.carry_out_buffers.new.activation in
    let stays = c.in-Ok.ensures.stays in
    stays ∙ (λ i. record old { locals = new.locals; slots = record old.slots { numbers = sym (ap (λ (t : Activation). t.slots.numbers) stays) i; buffers = new.slots.buffers } })

pub carry_out_buffers-requires-clause-possible : goal.carry_out_buffers-requires-clause-possible
carry_out_buffers-requires-clause-possible c =
    let r = c.requires.possible in
    (r.0, c.args.calling.call.now.result, brought_to r.0 c.args.store.now c.args.activation.now c.args.calling.call.now c.args.calling.thread c.args.calling.owner r.2 r.4 r.1, r.2, r.3, r.4, r.5, r.6, r.7, record { buffers = refl; in_use = refl; thread = refl })

-- a message and an exception were made in the store of the world's classes
both_made : (classes table : Classes) (texts : List (List ℕ)) (old after : Store) (class : ClassId) (place a : ℕ) (o : Option ℕ) → table ≡ classes → Raises table texts old class place after o → o ≡ Some a → Raises classes texts old class place after (Some a)
both_made classes table texts old after class place a o same made is = subst (λ (t : Classes). Raises t texts old class place after (Some a)) same (subst (Raises table texts old class place after) is made)

none_made : (classes table : Classes) (texts : List (List ℕ)) (old after : Store) (class : ClassId) (place : ℕ) (o : Option ℕ) → table ≡ classes → Raises table texts old class place after o → o ≡ None → Raises classes texts old class place after None
none_made classes table texts old after class place o same made is = subst (λ (t : Classes). Raises t texts old class place after None) same (subst (Raises table texts old class place after) is made)

pub raise-requires-clause-class : goal.raise-requires-clause-class
raise-requires-clause-class c =
    let r = c.requires.possible in
    small c.args.calling.world.now c.in-Raises.class.number c.threads.ensures.sound (raised (as_answer c.in-Raises.is r.7)).high

pub returns-in-Some-raise-clause-carried : goal.returns-in-Some-raise-clause-carried
returns-in-Some-raise-clause-carried c p args others shared s of_source h does =
    let w = c.args.calling.world.now in
    let kind = c.args.calling.call.now.result in
    let texts = texts_in c.args.calling.call.now.texts.items in
    let brought = brought_to p c.args.store.now c.args.activation.now c.args.calling.call.now c.args.calling.thread c.args.calling.owner others s args in
    let old = c.args.store.now in
    let effect = effect_told w.classes brought shared s of_source in
    let raised = subst (λ (l : List (Vec ℕ)). Raises c.classes-in-Raises.result.now (texts_in l) old c.in-Raises.class c.in-Raises.place c.raise.new.store c.raise.result) c.deref-texts.ensures.value c.raise.ensures in
    let class = c.in-Raises.class in
    let place = c.in-Raises.place in
    let made = both_made w.classes c.classes-in-Raises.result.now texts old c.raise.new.store class place c.in-Some-raise.exception c.raise.result c.classes-in-Raises.ensures.classes raised c.in-Some-raise.is in
    carries.by_answer p w old.heap c.args.activation.now.locals kind others c.args.calling.owner shared s of_source brought c.args.answer (answer.Raises class place) c.in-Raises.is _ _ _ _ _ (λ raises.
    carries.raises p w old c.args.pending.now c.args.activation.now.locals others c.args.calling.owner shared s h brought class place raises made.0 c.raise.new.store made.1 c.in-Some-raise.exception made.2 made.3) does

pub returns-in-None-raise-clause-carried : goal.returns-in-None-raise-clause-carried
returns-in-None-raise-clause-carried c p args others shared s of_source h does =
    let w = c.args.calling.world.now in
    let kind = c.args.calling.call.now.result in
    let texts = texts_in c.args.calling.call.now.texts.items in
    let brought = brought_to p c.args.store.now c.args.activation.now c.args.calling.call.now c.args.calling.thread c.args.calling.owner others s args in
    let old = c.args.store.now in
    let effect = effect_told w.classes brought shared s of_source in
    let raised = subst (λ (l : List (Vec ℕ)). Raises c.classes-in-Raises.result.now (texts_in l) old c.in-Raises.class c.in-Raises.place c.raise.new.store c.raise.result) c.deref-texts.ensures.value c.raise.ensures in
    let class = c.in-Raises.class in
    let place = c.in-Raises.place in
    let none = none_made w.classes c.classes-in-Raises.result.now texts old c.raise.new.store class place c.raise.result c.classes-in-Raises.ensures.classes raised c.in-None-raise.is in
    carries.by_answer p w old.heap c.args.activation.now.locals kind others c.args.calling.owner shared s of_source brought c.args.answer (answer.Raises class place) c.in-Raises.is _ _ _ _ _ (λ raises.
    refused_in p w old.heap c.args.activation.now.locals (answer.Raises class place) kind others c.args.calling.owner shared s effect old c.raise.new.store c.refuse-in-None-raise.new.pending c.args.activation.now.locals c.refuse-in-None-raise.result none.0 c.refuse-in-None-raise.ensures.pending c.refuse-in-None-raise.ensures.carried
    (carries.refuses_raise p w old c.args.pending.now c.args.activation.now.locals others c.args.calling.owner shared s h brought class place raises none.1)) does

pub returns-in-Pends-clause-carried : goal.returns-in-Pends-clause-carried
returns-in-Pends-clause-carried c p args others shared s of_source h does =
    let w = c.args.calling.world.now in
    let kind = c.args.calling.call.now.result in
    let texts = texts_in c.args.calling.call.now.texts.items in
    let brought = brought_to p c.args.store.now c.args.activation.now c.args.calling.call.now c.args.calling.thread c.args.calling.owner others s args in
    let old = c.args.store.now in
    let effect = effect_told w.classes brought shared s of_source in
    carries.by_answer p w old.heap c.args.activation.now.locals kind others c.args.calling.owner shared s of_source brought c.args.answer (answer.Pends c.in-Pends.exception c.in-Pends.given) c.in-Pends.is _ _ _ _ _ (λ pends.
    barriers.noted_so p w old.heap c.args.activation.now.locals (answer.Pends c.in-Pends.exception c.in-Pends.given) kind others c.args.calling.owner shared s effect old (noted_at (reference_given c.in-Pends.given) (noted_at c.in-Pends.exception old.heap.marking)) c.note_pending.new.heap c.in-Pends.exception c.args.activation.now.locals c.in-Pends.given c.note_pending.ensures (barriers.stays_both c.in-Pends.exception (reference_given c.in-Pends.given) old.heap.marking)
    (carries.pends p w old c.args.pending.now c.args.activation.now.locals others c.args.calling.owner shared s h brought refl c.in-Pends.exception c.in-Pends.given pends)) does

-- what is to be pending is there
pub note_pending-requires-clause-exception : goal.note_pending-requires-clause-exception
note_pending-requires-clause-exception c =
    let r = c.requires.possible in
    let exception = (pending (as_answer c.in-Pends.is r.7)).0 in
    barriers.reference_there c.args.store.now.heap c.in-Pends.exception exception.0 exception.1

pub note_pending-requires-clause-given : goal.note_pending-requires-clause-given
note_pending-requires-clause-given c =
    let r = c.requires.possible in
    barriers.given_there c.args.store.now.heap (pending (as_answer c.in-Pends.is r.7)).1.1

pub returns-in-Pends-clause-barrier : goal.returns-in-Pends-clause-barrier
returns-in-Pends-clause-barrier c = barriers.notes_pending c.args.store.now.heap c.note_pending.new.heap c.args.answer c.in-Pends.exception c.in-Pends.given c.in-Pends.is c.note_pending.ensures

pub returns-in-CopiesOut-clause-carried : goal.returns-in-CopiesOut-clause-carried
returns-in-CopiesOut-clause-carried c p args others shared s of_source h does =
    let w = c.args.calling.world.now in
    let kind = c.args.calling.call.now.result in
    let brought = brought_to p c.args.store.now c.args.activation.now c.args.calling.call.now c.args.calling.thread c.args.calling.owner others s args in
    let old = c.args.store.now in
    let effect = effect_told w.classes brought shared s of_source in
    carries.by_answer p w old.heap c.args.activation.now.locals kind others c.args.calling.owner shared s of_source brought c.args.answer (answer.CopiesOut c.in-CopiesOut.region) c.in-CopiesOut.is _ _ _ _ _ (λ copies.
    carries.copies_out p w old c.args.pending.now c.args.activation.now.locals others c.args.calling.owner shared s h brought c.in-CopiesOut.region copies) does

pub returns-in-CopiesIn-clause-carried : goal.returns-in-CopiesIn-clause-carried
returns-in-CopiesIn-clause-carried c p args others shared s of_source h does =
    let w = c.args.calling.world.now in
    let kind = c.args.calling.call.now.result in
    let brought = brought_to p c.args.store.now c.args.activation.now c.args.calling.call.now c.args.calling.thread c.args.calling.owner others s args in
    let old = c.args.store.now in
    let effect = effect_told w.classes brought shared s of_source in
    carries.by_answer p w old.heap c.args.activation.now.locals kind others c.args.calling.owner shared s of_source brought c.args.answer (answer.CopiesIn c.in-CopiesIn.region) c.in-CopiesIn.is _ _ _ _ _ (λ copies.
    subst (λ (space : Space). CarriesOut p w old.heap c.args.activation.now.locals (answer.CopiesIn c.in-CopiesIn.region) kind others c.args.calling.owner shared s effect false (record old { heap = space }) c.args.pending.now c.args.activation.now.locals given.Nothing) (ap (space_with old.heap c.in-CopiesIn.region) (sym c.deref.ensures.value) ∙ sym c.copy_in.ensures)
    (carries.copies_in p w old c.args.pending.now c.args.activation.now.locals others c.args.calling.owner shared s h brought c.in-CopiesIn.region copies)) does

-- what is known of a region that is copied
pub copy_out-requires : goal.copy_out-requires
copy_out-requires c =
    let copied = copied_out (as_answer c.in-CopiesOut.is c.requires.possible.7) in
    record { within = copied.within; slots = λ i inside. subst (λ (l : List ℕ). c.in-CopiesOut.region.slot + i < length l) (sym c.deref_mut.ensures.value) (copied.slots i inside) }

pub copy_in-requires : goal.copy_in-requires
copy_in-requires c =
    let copied = copied_in (as_answer c.in-CopiesIn.is c.requires.possible.7) in
    record { within = copied.within; slots = λ i inside. subst (λ (l : List ℕ). c.in-CopiesIn.region.slot + i < length l) (sym c.deref.ensures.value) (copied.slots i inside) }
