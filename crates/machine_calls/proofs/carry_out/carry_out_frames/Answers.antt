use Rattle.std.proofs.Common.{zero, suc, ◌≡◌, ℕ, ◌-◌, ◌<◌, ◌^◌, Bool, Option, length, true, false, refl, sym, ◌∙◌, subst, arith}
use Rattle.std.specs.Prelude.{slice_get, if◌then◌else◌}
use Rattle.heap.specs.Heap.{Space}
use Rattle.jni.specs.declared.kinds.ResultKind.{ResultKind}
use Rattle.semantics.specs.CallEffects.{CallEffect}
use Rattle.semantics.specs.Thread.{Shared, Thread}
use Rattle.semantics.specs.World.{World}
use Rattle.code_meaning.specs.Lowered.{Lowered}
use Rattle.machine_answers.specs.Answers.{effect_told}
use Rattle.machine_answers.specs.declared.answer.Answer.{Answer}
use Rattle.machine_answers.specs.declared.answer.Given.TheVariants as given
use Rattle.machine_answers.specs.declared.answer.Given.{Given}
use Rattle.machine_scenes.specs.declared.store.Store.{Store}
use Rattle.machine_scenes.specs.Buffers.{Acquired}
use Rattle.machine_calls.specs.CarriedOut.{CarriesOut}
use Rattle.std.proofs.lemmas.Bool.{ltb-true}
use Rattle.std.specs.Prelude.{nat_lt}
use Rattle.tables.specs.declared.fault.TableFault.{TableFault}
use Rattle.tables.specs.declared.fault.TableFault.TheVariants as fault
use Rattle.tables.specs.Locals.{LocalTable, capacities, pushed}
use Rattle.machine_answers.specs.declared.answer.Answer.TheVariants as answer
use Rattle.machine_calls.proofs.AnswerCases.{as_answer, popped}
use Rattle.machine_calls.proofs.Barriers as barriers
use Rattle.machine_calls.proofs.CarryOuts as carries
use Rattle.machine_calls.specs.Barrier.{noted_at}
use Rattle.machine_calls.proofs.carry_out.carry_out_frames.Goals as goal

module _ (p : Lowered) (w : World) (space : Space) (before : LocalTable) (a : Answer) (kind : ResultKind) (others : Acquired) (owner : ℕ) (shared : Shared) (s : Thread) (effect : CallEffect) where
  -- what was told of frames that can't have the room
  told_of_frames : (store : Store) (after : Option ℕ) (locals old : LocalTable) (g : Given) → locals ≡ old → after ≡ slice_get store.loaded.items (length w.classes)
      → g ≡ given.Number (2 ^ 32 - 4)
      → CarriesOut p w space before a kind others owner shared s effect false store (slice_get store.loaded.items (length w.classes)) old (given.Number (2 ^ 32 - 4)) → CarriesOut p w space before a kind others owner shared s effect false store after locals g
  told_of_frames store after locals old g same is told h =
      subst (λ (x : Given). CarriesOut p w space before a kind others owner shared s effect false store after locals x) (sym told)
      (subst (λ (o : Option ℕ). CarriesOut p w space before a kind others owner shared s effect false store o locals (given.Number (2 ^ 32 - 4))) (sym is)
      (subst (λ (l : LocalTable). CarriesOut p w space before a kind others owner shared s effect false store (slice_get store.loaded.items (length w.classes)) l (given.Number (2 ^ 32 - 4))) (sym same) h))

-- there is no frame, or one at least
some_or_none : {P : Type 0} (n : ℕ) → (n ≡ 0 → P) → (0 < n → P) → P
some_or_none zero none some = none refl
some_or_none (suc n) none some = some (omega arith)

pub returns-then-ensure_room-clause-carried : goal.returns-then-ensure_room-clause-carried
returns-then-ensure_room-clause-carried c p kind brought others owner shared s of_source h does =
    let w = c.args.world.now in
    let old = c.args.store.now in
    let effect = effect_told w.classes brought shared s of_source in
    let locals = c.args.locals.now in
    let more = c.in-Ensures.more in
    carries.by_answer p w old.heap locals kind others owner shared s of_source brought c.args.answer (answer.Ensures more) c.in-Ensures.is _ _ _ _ _ (λ ensures.
    some_or_none (length locals.frames)
    (λ none. subst (λ (l : LocalTable). CarriesOut p w old.heap locals (answer.Ensures more) kind others owner shared s effect false old c.args.pending.now l (given.Number 0)) (sym (c.ensure_room.ensures.none none).1)
    (carries.ensures_none p w old c.args.pending.now locals others owner shared s h brought more ensures none))
    (λ some.
    let had = c.ensure_room.ensures.had some c.if-ensure_room.true in
    subst (λ (l : LocalTable). CarriesOut p w old.heap locals (answer.Ensures more) kind others owner shared s effect false old c.args.pending.now l (given.Number 0)) (sym had.0)
    (carries.ensures p w old c.args.pending.now locals others owner shared s h brought more ensures some had.1))) does

pub returns-else-ensure_room-clause-carried : goal.returns-else-ensure_room-clause-carried
returns-else-ensure_room-clause-carried c p kind brought others owner shared s of_source h does =
    let w = c.args.world.now in
    let old = c.args.store.now in
    let effect = effect_told w.classes brought shared s of_source in
    let locals = c.args.locals.now in
    let more = c.in-Ensures.more in
    let not_had = c.ensure_room.ensures.refused c.if-ensure_room.false in
    carries.by_answer p w old.heap locals kind others owner shared s of_source brought c.args.answer (answer.Ensures more) c.in-Ensures.is _ _ _ _ _ (λ ensures.
    told_of_frames p w old.heap locals (answer.Ensures more) kind others owner shared s effect old c.refuse_frames.new.pending c.ensure_room.new.locals locals c.refuse_frames.result not_had.1 c.refuse_frames.ensures.pending c.refuse_frames.ensures.given
    (carries.ensures_not p w old c.args.pending.now locals others owner shared s h brought more ensures not_had.0 not_had.2)) does

pub returns-in-RefusesFrames-clause-carried : goal.returns-in-RefusesFrames-clause-carried
returns-in-RefusesFrames-clause-carried c p kind brought others owner shared s of_source h does =
    let w = c.args.world.now in
    let old = c.args.store.now in
    let effect = effect_told w.classes brought shared s of_source in
    let frames = c.args.locals.now in
    carries.by_answer p w old.heap c.args.locals.now kind others owner shared s of_source brought c.args.answer answer.RefusesFrames c.in-RefusesFrames.is _ _ _ _ _ (λ refuses.
    told_of_frames p w old.heap c.args.locals.now answer.RefusesFrames kind others owner shared s effect old c.refuse_frames-in-RefusesFrames.new.pending frames frames c.refuse_frames-in-RefusesFrames.result refl c.refuse_frames-in-RefusesFrames.ensures.pending c.refuse_frames-in-RefusesFrames.ensures.given
    (carries.refuses_room p w old c.args.pending.now frames others owner shared s h brought refuses)) does

pub returns-in-Ok-clause-carried : goal.returns-in-Ok-clause-carried
returns-in-Ok-clause-carried c p kind brought others owner shared s of_source h does =
    let w = c.args.world.now in
    let old = c.args.store.now in
    let effect = effect_told w.classes brought shared s of_source in
    let locals = c.args.locals.now in
    let capacity = c.in-Pushes.capacity in
    carries.by_answer p w old.heap locals kind others owner shared s of_source brought c.args.answer (answer.Pushes capacity) c.in-Pushes.is _ _ _ _ _ (λ pushes.
    subst (λ (l : LocalTable). CarriesOut p w old.heap locals (answer.Pushes capacity) kind others owner shared s effect false old c.args.pending.now l (given.Number 0)) (sym c.in-Ok.ensures.ok)
    (carries.pushes p w old c.args.pending.now locals others owner shared s h brought capacity pushes c.in-Ok.ensures.within)) does

-- a fault that isn't of memory tells that there would be too much room
full_over : (n m : ℕ) (e : TableFault) → e ≡ fault.Full → e ≡ (if nat_lt n m then fault.Full else fault.Memory) → n < m
full_over n m e full told = by_test (nat_lt n m) refl (sym full ∙ told)
  where
    by_test : (b : Bool) → nat_lt n m ≡ b → fault.Full ≡ (if b then fault.Full else fault.Memory) → n < m
    by_test true over h = ltb-true n m over
    by_test false over h = absurd (cc)

pub returns-in-Err-Full-clause-carried : goal.returns-in-Err-Full-clause-carried
returns-in-Err-Full-clause-carried c p kind brought others owner shared s of_source h does =
    let w = c.args.world.now in
    let old = c.args.store.now in
    let effect = effect_told w.classes brought shared s of_source in
    let locals = c.args.locals.now in
    let capacity = c.in-Pushes.capacity in
    let over : 1024 < capacities (pushed locals capacity) = full_over 1024 (capacities (pushed locals capacity)) c.in-Err-Full.field-0 c.in-Err-Full.field-0-is c.in-Err-Full.ensures.fault in
    carries.by_answer p w old.heap locals kind others owner shared s of_source brought c.args.answer (answer.Pushes capacity) c.in-Pushes.is _ _ _ _ _ (λ pushes.
    told_of_frames p w old.heap locals (answer.Pushes capacity) kind others owner shared s effect old c.refuse_frames-in-Err-Full.new.pending c.push.new.self locals c.refuse_frames-in-Err-Full.result c.in-Err-Full.ensures.err c.refuse_frames-in-Err-Full.ensures.pending c.refuse_frames-in-Err-Full.ensures.given
    (carries.pushes_not p w old c.args.pending.now locals others owner shared s h brought capacity pushes over)) does

pub returns-in-Pops-clause-carried : goal.returns-in-Pops-clause-carried
returns-in-Pops-clause-carried c p kind brought others owner shared s of_source h does =
    let w = c.args.world.now in
    let old = c.args.store.now in
    let effect = effect_told w.classes brought shared s of_source in
    let locals = c.args.locals.now in
    let a = c.in-Pops.reference in
    carries.by_answer p w old.heap locals kind others owner shared s of_source brought c.args.answer (answer.Pops a) c.in-Pops.is _ _ _ _ _ (λ pops.
    barriers.noted_so p w old.heap locals (answer.Pops a) kind others owner shared s effect old (noted_at a old.heap.marking) c.note.new.heap c.args.pending.now c.pop_frame.new.locals (given.Reference a) c.note.ensures (barriers.stays_at a old.heap.marking)
    (some_or_none (length locals.frames)
    (λ none. subst (λ (l : LocalTable). CarriesOut p w old.heap locals (answer.Pops a) kind others owner shared s effect false old c.args.pending.now l (given.Reference a)) (sym (c.pop_frame.ensures.none none))
    (carries.pops_none p w old c.args.pending.now locals others owner shared s h brought a pops none))
    (λ some. subst (λ (l : LocalTable). CarriesOut p w old.heap locals (answer.Pops a) kind others owner shared s effect false old c.args.pending.now l (given.Reference a)) (sym (c.pop_frame.ensures.some some))
    (carries.pops p w old c.args.pending.now locals others owner shared s h brought a pops)))) does

pub note-requires : goal.note-requires
note-requires c =
    let it = popped (as_answer c.in-Pops.is c.requires.possible.8) in
    barriers.reference_there c.args.store.now.heap c.in-Pops.reference it.0 it.1

pub returns-in-Pops-clause-barrier : goal.returns-in-Pops-clause-barrier
returns-in-Pops-clause-barrier c = barriers.notes_popped c.args.store.now.heap c.note.new.heap c.args.answer c.in-Pops.reference c.in-Pops.is c.note.ensures
