use Rattle.std.proofs.Common.{◌≡◌, Bool, length, ap, refl, sym, ◌∙◌, subst, arith}
use Rattle.std.specs.Prelude.{Option, Result, Ok, Err, IfOk, is_some}
use Rattle.std.specs.Global.{Vec}
use Rattle.class_rules.specs.Class.{Classes}
use Rattle.replay_arguments.specs.declared.shared.Shared.{Shared}
use Rattle.replay_arguments.specs.Shares.{shared_view}
use Rattle.semantics.specs.Thread.{BuffersInUse}
use Rattle.semantics.specs.World.{World}
use Rattle.replay_terms.specs.Views.{in_use_view}
use Rattle.replay_threads.specs.declared.thread.Thread.{Thread}
use Rattle.std.proofs.lemmas.Option.{slice_get_read}
use Rattle.std.proofs.lemmas.Result.{IfOk-weaker}
use Rattle.syntax.specs.Views.{unit_tree}
use Rattle.semantics.specs.Journal as entry
use Rattle.semantics.specs.declared.event.Event.{Event}
use Rattle.replay_threads.specs.States.{AreInRange, TakesEntry, in_use_by}
use Rattle.replay_threads.specs.Threads.{TakesStep}
use Rattle.replay_threads.proofs.StateLemmas.{in_use_same, takes, range_at, range_set}
use Rattle.replay_threads.proofs.state.take_whole_turn.Goals as goal

pub take_step-requires-clause-range : goal.take_step-requires-clause-range
take_step-requires-clause-range c =
    let ts = c.args.state.now.threads.items in
    let at = slice_get_read ts (length ts) c.args.stepper.place c.index_mut-thread.result.now refl c.requires.live.there c.index_mut-thread.ensures.value in
    range_at ts c.args.stepper.place c.index_mut-thread.result.now c.requires.range at

-- where it was written down
noted_so : {E : Type 0} (r : Result Bool E) (P : Bool → Type 0) (took : Option Event) (N : Type 0) → IfOk r (λ possible. possible ≡ is_some took) → IfOk r (λ _. N) → (N → P (is_some took)) → IfOk r P
noted_so (Ok possible) P took N is noted goes = subst P (sym is) (goes noted)
noted_so (Err e) P took N is noted goes = tt

pub returns-clause-step : goal.returns-clause-step
returns-clause-step c =
    let unit = unit_tree c.args.functions.now in
    let m = c.args.state.now in
    let t = c.index_mut-thread.result.now in
    let after = c.take_step.new.thread in
    let new = c.note.new.state in
    let at = slice_get_read m.threads.items (length m.threads.items) c.args.stepper.place t refl c.requires.live.there c.index_mut-thread.ensures.value in
    noted_so c.note.result (λ possible. TakesEntry unit m (entry.Step c.args.stepper.thread c.args.refused) possible new) c.in_ok-took.took _ c.note.ensures.possible c.note.ensures.noted
    (λ noted w s h.
    let seen = subst (λ (s' : Shared). TakesStep unit c.classes.result.now (in_use_view c.buffers_in_use.result) c.args.stepper.thread c.args.refused (shared_view m.shared) t c.in_ok-took.took (shared_view s') after) (sym noted.shared) c.in_ok-took.ensures.step in
    let known = subst (λ (T : Classes). TakesStep unit T (in_use_view c.buffers_in_use.result) c.args.stepper.thread c.args.refused (shared_view m.shared) t c.in_ok-took.took (shared_view new.shared) after) (c.classes.ensures.classes ∙ ap (λ (v : World). v.classes) (sym h.world)) seen in
    let step = subst (λ (u : BuffersInUse). TakesStep unit w.classes u c.args.stepper.thread c.args.refused (shared_view m.shared) t c.in_ok-took.took (shared_view new.shared) after) (c.buffers_in_use.ensures ∙ ap in_use_by c.deref.ensures.value ∙ in_use_same unit w m s h) known in
    takes unit w m s h c.requires.range c.args.stepper.thread c.args.refused c.args.stepper.place t after c.in_ok-took.took new
    (omega arith) at (c.requires.live.live t at) c.requires.live.runs (sym (c.requires.live.free unit w s h c.requires.range)) step
    noted.world (ap (λ (v : Vec Thread). v.items) noted.threads) noted.printed noted.stop)

pub returns-clause-range : goal.returns-clause-range
returns-clause-range c =
    IfOk-weaker c.note.result _ (λ _. AreInRange c.note.new.state.threads.items) (λ possible noted.
    subst (λ (v : Vec Thread). AreInRange v.items) (sym noted.threads)
    (range_set c.args.state.now.threads.items c.args.stepper.place c.take_step.new.thread c.requires.range c.in_ok-took.ensures.range)) c.note.ensures.noted
