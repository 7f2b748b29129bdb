-- What is carried out of monitors is what the source's call leaves.
use Rattle.std.proofs.Common.{◌≡◌, ℕ, pos, ◌∷◌, false, List, Option, Some, refl, sym, ap, ◌∙◌, subst, arith, inl, length, ◌+◌}
use Rattle.std.specs.Prelude.{map}
use Rattle.code_meaning.specs.Lowered.{Lowered}
use Rattle.heap.proofs.Staying.{stays_same}
use Rattle.heap.specs.Heap.{Space}
use Rattle.heap.specs.Layout.{layout_of}
use Rattle.machine_scenes.proofs.ObjectExtents.{none_laid}
use Rattle.jni.specs.declared.kinds.ResultKind.{ResultKind}
use Rattle.jni.specs.declared.kinds.ResultKind.TheVariants.{GivesInt}
use Rattle.semantics.specs.CallEffects.{CallEffect, ScalarResult}
use Rattle.semantics.specs.Answer.{Answer as SourceAnswer, effect_of}
use Rattle.semantics.specs.AnswerTable.{monitor_entered, monitor_left}
use Rattle.semantics.specs.Thread as source
use Rattle.semantics.specs.Thread.{Shared, Thread}
use Rattle.semantics.specs.declared.value.Value.TheVariants.{Int}
use Rattle.semantics.specs.World.{World}
use Rattle.monitors.specs.declared.monitors.Monitor.{Monitor}
use Rattle.monitors.specs.declared.monitors.Object.{Object}
use Rattle.monitors.specs.declared.monitors.Enter.{Enter}
use Rattle.monitors.specs.declared.monitors.Enter.TheVariants.{Entered}
use Rattle.monitors.specs.declared.monitors.Exit.{Exit}
use Rattle.monitors.specs.declared.monitors.Exit.TheVariants.{Left}
use Rattle.monitors.specs.Monitors.{AreOf, ChangesAt, entered, entering, left, leaving, monitor_of, object_of}
use Rattle.machine_scenes.specs.MonitorsAgree.{AreThere, MonitorsAgree}
use Rattle.machine_scenes.proofs.MonitorLaws as fit
use Rattle.machine_scenes.proofs.ForetoldMonitors.{enters_so, leaves_so}
use Rattle.machine_scenes.proofs.MonitorPlaces.{there_entered, there_left}
use Rattle.tables.specs.Locals.{LocalTable}
use Rattle.machine_answers.specs.declared.answer.Answer.{Answer}
use Rattle.machine_answers.specs.declared.answer.Answer.TheVariants as answer
use Rattle.machine_answers.specs.declared.answer.Given.TheVariants as given
use Rattle.machine_scenes.specs.declared.store.Store.{Store}
use Rattle.machine_answers.specs.Answers.{Brought, IsAnswer, IsEntered, IsExited}
use Rattle.machine_answers.specs.Answers as row
use Rattle.machine_scenes.specs.Buffers.{Acquired, acquired_by, beside, nothing_acquired}
use Rattle.machine_calls.specs.CarriedOut.{CarriesOut, IsPossible}
use Rattle.machine_scenes.specs.StoreAgrees.{Keeps, StoreAgrees}
use Rattle.machine_calls.proofs.BufferCarries.{effected}
use Rattle.machine_calls.proofs.BufferStores.{agrees_same}
use Rattle.machine_scenes.proofs.HeldSums.{beside_nothing}
use Rattle.machine_scenes.proofs.Keeping.{none_made}

-- other monitors
pub agrees_monitors : (p : Lowered) (w : World) (store : Store) (shared : Shared) (all : Acquired) → StoreAgrees p w store shared all → (ms : List Monitor) (ss : List source.Monitor) → MonitorsAgree ms ss → AreThere store.heap ms
    → StoreAgrees p w (record store { monitors = ms }) (record shared { monitors = ss }) all
agrees_monitors p w store shared all h ms ss agree there = record {
  heap = h.heap;
  laid_out = h.laid_out;
  cells = h.cells;
  table = h.table;
  begun = h.begun;
  births = h.births;
  statics = h.statics;
  named = h.named;
  keys = h.keys;
  weak_keys = h.weak_keys;
  weaks = h.weaks;
  globals = h.globals;
  buffers = h.buffers;
  monitors = agree;
  monitored = there;
}

pub keeps_monitors : (space : Space) (shared : Shared) (ss : List source.Monitor) → Keeps space shared space (record shared { monitors = ss })
keeps_monitors space shared ss = record {
  names = λ a n e. e;
  statics = inl refl;
  shapes = λ n o at. (o, at, refl, refl);
  room = none_made space shared.heap shared.heap (omega arith);
  laid = none_laid (layout_of space) (layout_of space) (length shared.heap + 1) shared.heap shared.heap (omega arith) refl;
  marking = stays_same space.marking;
  few = omega arith;
}

module _ (p : Lowered) (w : World) (store : Store) (pending : Option ℕ) (locals : LocalTable) (others : Acquired) (k owner : ℕ) (shared : Shared) (s : Thread) (h : IsPossible p w store pending locals others shared s) (brought : Brought) (thread : brought.thread ≡ k) where
  abbrev Does : Answer → ResultKind → SourceAnswer → Type 0
  Does a kind of_source = IsAnswer w.classes brought store.heap locals shared s a kind of_source

  -- the effect of an answer of the source, which a call of thread j brings
  abbrev of : (j : ℕ) → SourceAnswer → CallEffect
  of j a = effect_of w.classes brought.in_use j shared s brought.args a

  abbrev Carries : Answer → ResultKind → CallEffect → List Monitor → Type 0
  Carries a kind effect ms = CarriesOut p w store.heap locals a kind others owner shared s effect false (record store { monitors = ms }) pending locals (given.Number 0)

  -- other monitors, and 0 is given
  changed : (a : Answer) (effect : CallEffect) (ms : List Monitor) → fit.Does effect shared s ms → AreThere store.heap ms → Carries a GivesInt effect ms
  changed a effect ms does there =
      let after : Store = record store { monitors = ms } in
      let left_shared : Shared = record shared { monitors = does.monitors } in
      let all = beside others (acquired_by s) in
      subst (λ (e : CallEffect). Carries a GivesInt e ms) (sym does.is)
      (effected p w store pending locals others owner shared s h brought a GivesInt after (given.Number 0) left_shared s (ScalarResult (Int (pos 0))) refl refl refl (keeps_monitors store.heap shared does.monitors)
      (agrees_same p w after left_shared all (agrees_monitors p w store shared all h.store_agrees ms does.monitors does.agree there) (beside others (beside (acquired_by s) nothing_acquired)) (beside_nothing others (acquired_by s)))
      (row.int refl (record { sfits = omega arith })))

  -- what `enter` ensures of the object that is entered
  pub enters : (o : Object) {kind : ResultKind} {of_source : SourceAnswer} → Does (answer.Enters o) kind of_source → (came : Enter) (ms : List Monitor) → came ≡ entering k (monitor_of store.monitors o.name)
      → (came ≡ Entered → ChangesAt store.monitors ms o.name (Some (entered o k (monitor_of store.monitors o.name)))) → AreOf (o ∷ map object_of store.monitors) ms → Carries (answer.Enters o) kind (of brought.thread of_source) ms
  enters o (row.enters it) came ms is changes objects =
      let may = subst (λ (j : ℕ). IsEntered j store.heap shared o) thread it in
      let agree = h.store_agrees.monitors in
      let answer_is : Entered ≡ entering k (monitor_of store.monitors o.name) = enters_so k store.monitors shared.monitors agree o.name (record { own = may.own; few = may.few }) in
      let done = fit.enters w.classes brought.in_use k shared s brought.args store.monitors agree ms o answer_is (changes (is ∙ sym answer_is)) in
      changed (answer.Enters o) (of brought.thread (monitor_entered o.name (source.monitor_of shared.monitors o.name))) ms
      (record { monitors = done.monitors; is = ap (λ (j : ℕ). of j (monitor_entered o.name (source.monitor_of shared.monitors o.name))) thread ∙ done.is; agree = done.agree })
      (there_entered store.heap store.monitors ms o may.there h.store_agrees.monitored objects)

  -- what `exit` ensures of the object that is left
  pub exits : (n : ℕ) {kind : ResultKind} {of_source : SourceAnswer} → Does (answer.Exits n) kind of_source → (came : Exit) (ms : List Monitor) → came ≡ leaving k (monitor_of store.monitors n)
      → (came ≡ Left → ChangesAt store.monitors ms n (left (monitor_of store.monitors n))) → AreOf (map object_of store.monitors) ms → Carries (answer.Exits n) kind (of brought.thread of_source) ms
  exits n (row.exits it) came ms is changes objects =
      let owned = subst (λ (j : ℕ). IsExited j shared n) thread it in
      let agree = h.store_agrees.monitors in
      let answer_is : Left ≡ leaving k (monitor_of store.monitors n) = leaves_so k store.monitors shared.monitors agree n (record { monitor = owned.monitor; owned = owned.owned; own = owned.own }) in
      let done = fit.leaves w.classes brought.in_use k shared s brought.args store.monitors agree ms n answer_is (changes (is ∙ sym answer_is)) in
      changed (answer.Exits n) (of brought.thread (monitor_left brought.thread n (source.monitor_of shared.monitors n))) ms
      (record { monitors = done.monitors; is = ap (λ (j : ℕ). of j (monitor_left j n (source.monitor_of shared.monitors n))) thread ∙ done.is; agree = done.agree })
      (there_left store.heap store.monitors ms h.store_agrees.monitored objects)
