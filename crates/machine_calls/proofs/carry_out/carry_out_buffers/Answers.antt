use Rattle.std.proofs.Common.{◌<◌, List, length, Result, Ok, Err, sym, ap, subst}
use Rattle.std.specs.Prelude.{OnErr}
use Rattle.std.proofs.lemmas.Result.{IfOk-weaker}
use Rattle.machine_answers.specs.declared.answer.Answer.TheVariants as answer
use Rattle.machine_calls.proofs.AnswerCases.{as_answer, copied, released, viewed}
use Rattle.machine_scenes.proofs.BlocksOfNames.{is_address}
use Rattle.machine_scenes.specs.Buffers.{HeldBuffers, acquired_by, beside}
use Rattle.machine_scenes.specs.declared.buffer.Buffer.{Buffer}
use Rattle.machine_calls.proofs.BufferCarries as buffers
use Rattle.machine_calls.proofs.CarryOuts as carries
use Rattle.machine_scenes.proofs.Taken.{few_pins}
use Rattle.machine_calls.proofs.carry_out.carry_out_buffers.Goals as goal

pub acquire_copy-requires : goal.acquire_copy-requires
acquire_copy-requires c =
    let it = copied (as_answer c.in-AcquiresCopy.is c.requires.possible.8) in
    is_address c.args.store.now.heap c.in-AcquiresCopy.object it.name it.there

pub acquire_view-buffer-requires-clause-pins : goal.acquire_view-buffer-requires-clause-pins
acquire_view-buffer-requires-clause-pins c =
    let r = c.requires.possible in
    let old = c.args.store.now in
    let view = viewed (as_answer c.in-AcquiresView.is r.8) in
    few_pins old.heap old.elements old.views (length r.4.heap) c.in-AcquiresView.object view.0 (beside r.3 (acquired_by r.5)) r.7.store_agrees.buffers view.1

pub release-requires-clause-back : goal.release-requires-clause-back
release-requires-clause-back c =
    let r = c.requires.possible in
    let w = c.args.calling.world.now in
    let old = c.args.store.now in
    buffers.can_copy_back r.0 w old c.args.pending.now c.args.activation.now.locals r.3 c.args.calling.owner r.4 r.5 r.7 r.2 c.in-Releases.released (released (as_answer c.in-Releases.is r.8)) (ap (λ (b : HeldBuffers). b.copies) r.9.buffers) (ap (λ (b : HeldBuffers). b.owner) r.9.buffers)

pub release-requires-clause-held : goal.release-requires-clause-held
release-requires-clause-held c =
    let r = c.requires.possible in
    let w = c.args.calling.world.now in
    let old = c.args.store.now in
    buffers.can_give_up r.0 w old c.args.pending.now c.args.activation.now.locals r.3 c.args.calling.owner r.4 r.5 r.7 r.2 c.in-Releases.released (released (as_answer c.in-Releases.is r.8)) (ap (λ (b : HeldBuffers). b.copies) r.9.buffers) (ap (λ (b : HeldBuffers). b.owner) r.9.buffers)

pub release-requires-clause-slot : goal.release-requires-clause-slot
release-requires-clause-slot c =
    let r = c.requires.possible in
    let w = c.args.calling.world.now in
    let old = c.args.store.now in
    subst (λ (l : List Buffer). c.in-Releases.released.slot < length l) (sym c.deref_mut.ensures.value)
    (subst (λ (b : HeldBuffers). c.in-Releases.released.slot < length b.slots) r.9.buffers
    (buffers.slot_there r.0 w old c.args.pending.now c.args.activation.now.locals r.3 c.args.calling.owner r.4 r.5 r.7 r.2 c.in-Releases.released (released (as_answer c.in-Releases.is r.8)) (ap (λ (b : HeldBuffers). b.copies) r.9.buffers) (ap (λ (b : HeldBuffers). b.owner) r.9.buffers)))

pub returns-in_ok-buffer-in-AcquiresCopy-clause-carried : goal.returns-in_ok-buffer-in-AcquiresCopy-clause-carried
returns-in_ok-buffer-in-AcquiresCopy-clause-carried c p kind brought others shared s of_source h does brings =
    let w = c.args.calling.world.now in
    let old = c.args.store.now in
    let a = c.in-AcquiresCopy.object in
    carries.by_answer p w old.heap c.args.activation.now.locals kind others c.args.calling.owner shared s of_source brought c.args.answer (answer.AcquiresCopy a) c.in-AcquiresCopy.is _ _ _ _ _ (λ acquires.
    buffers.acquires_copy p w old c.args.pending.now c.args.activation.now.locals others c.args.calling.owner shared s h brought a acquires brings.in_use c.in_ok-buffer-in-AcquiresCopy.buffer c.acquire_copy.new.elements c.in_ok-buffer-in-AcquiresCopy.ensures.ok) does

pub returns-in-AcquiresView-clause-carried : goal.returns-in-AcquiresView-clause-carried
returns-in-AcquiresView-clause-carried c p kind brought others shared s of_source h does brings =
    let w = c.args.calling.world.now in
    let old = c.args.store.now in
    let a = c.in-AcquiresView.object in
    carries.by_answer p w old.heap c.args.activation.now.locals kind others c.args.calling.owner shared s of_source brought c.args.answer (answer.AcquiresView a) c.in-AcquiresView.is _ _ _ _ _ (λ acquires.
    buffers.acquires_view p w old c.args.pending.now c.args.activation.now.locals others c.args.calling.owner shared s h brought a acquires brings.in_use c.acquire_view-buffer.result c.acquire_view-buffer.new.heap c.acquire_view-buffer.new.views c.acquire_view-buffer.ensures) does

pub returns-in-Releases-clause-carried : goal.returns-in-Releases-clause-carried
returns-in-Releases-clause-carried c p kind brought others shared s of_source h does brings =
    let w = c.args.calling.world.now in
    let old = c.args.store.now in
    let r = c.in-Releases.released in
    carries.by_answer p w old.heap c.args.activation.now.locals kind others c.args.calling.owner shared s of_source brought c.args.answer (answer.Releases r) c.in-Releases.is _ _ _ _ _ (λ releases.
    buffers.releases p w old c.args.pending.now c.args.activation.now.locals others c.args.calling.owner shared s h brought r releases (ap (λ (b : HeldBuffers). b.copies) brings.buffers) (ap (λ (b : HeldBuffers). b.owner) brings.buffers) c.release.new.heap c.release.new.elements c.release.new.views c.release.ensures.released) does

pub returns-in_default-clause-carried : goal.returns-in_default-clause-carried
returns-in_default-clause-carried c =
    IfOk-weaker c.carry_out_monitors.result _ _
    (λ given told p kind brought others shared s of_source h does brings. told p kind brought others c.args.calling.owner shared s of_source h does brings.thread) c.carry_out_monitors.ensures.carried

pub returns-in_default-clause-new_copy : goal.returns-in_default-clause-new_copy
returns-in_default-clause-new_copy c = IfOk-weaker c.carry_out_monitors.result _ _ (λ given told. told c.args.store.now.elements) c.carry_out_monitors.ensures.no_copy

-- where nothing was done the call is as it was
on_err : {T E : Type 0} (P Q : Type 0) (r : Result T E) → (P → Q) → OnErr r P → OnErr r Q
on_err P Q (Ok x) f h = tt
on_err P Q (Err e) f h = f h

pub returns-in_default-clause-kept : goal.returns-in_default-clause-kept
returns-in_default-clause-kept c = on_err _ _ c.carry_out_monitors.result (λ kept. (kept.0, kept.1, λ i. record c.args.activation.now { locals = kept.2 i })) c.carry_out_monitors.ensures.kept

pub carry_out_monitors-requires-clause-possible : goal.carry_out_monitors-requires-clause-possible
carry_out_monitors-requires-clause-possible c = let r = c.requires.possible in (r.0, r.1, r.2, r.3, r.4, r.5, r.6, r.7, r.8, r.9.thread)
