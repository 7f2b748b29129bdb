use Rattle.std.proofs.lemmas.List.{with_items_is, places}
use Rattle.std.proofs.Common.{rules, ◌≡◌, ℕ, suc, ◌-◌, ◌<◌, false, [], ◌∷◌, ◌++◌, List, refl, sym, ap, ◌∙◌, subst, arith}
use Rattle.std.specs.Prelude.{Result, Ok, Err, OnErr}
use Rattle.syntax.specs.declared.unit.Item.{Item}
use Rattle.semantics.specs.Journal.{Entry, Step, steps_in}
use Rattle.machine_collections.specs.Clearing.{clearing_of}
use Rattle.semantics.specs.Step.{is_blocked}
use Rattle.semantics.specs.World.{World}
use Rattle.heap.specs.Layout.{layout_of}
use Rattle.semantics.specs.EventViews.{printed_after}
use Rattle.machine_threads.specs.declared.thread.Thread.{Thread}
use Rattle.machine.specs.Run.{AdvancesAndNotes, CanAdvance, Corresponds, Run, CouldStep, event_of, is_refused, slices_of}
use Rattle.machine_scenes.specs.declared.store.Store.{Store}
use Rattle.machine.proofs.Steps.{counted_from}
use Rattle.machine.proofs.Turns.{Ready, next, ready, turn_here}
use Rattle.machine.proofs.machine.Machine.step_now.Goals as goal
use Rattle.machine.proofs.machine.Machine.step_now.Goals.{After-from}

-- ---- where the thread can step

number : (c : After-from) → c.args.k ≡ suc (c.from.result - 1)
number c = counted_from c.args.k c.from.result c.from.ensures c.requires.counted

-- the turn is its step
abbrev Here : After-from → Type 0
Here c =
    let i = c.self.inside in
    Ready i.program i.world i.store i.threads.items i.printed.items i.stop i.journal.entries c.self.invariant c.args.self.now c.self.view_is c.args.k (c.from.result - 1) (number c)

here : (c : After-from) → Here c
here c = ready _ _ _ _ _ _ _ c.self.invariant c.args.self.now c.self.view_is c.args.k (c.from.result - 1) (number c) c.requires.is_thread c.requires.could

pub invariant_of-self : goal.invariant_of-self
invariant_of-self c = rw (c.make_room.ensures.printed, c.make_room.ensures.journal) c.self.invariant

pub returns-in_err-make_room-clause-runs : goal.returns-in_err-make_room-clause-runs
returns-in_err-make_room-clause-runs c = rw (invariant_of-self c).replays refl

-- with this journal and this store the machine is seen as it was
err_so : {T E : Type 0} (unit : List Item) (world : World) (journal before : List Entry) (store had : Store) (now : Run) (k : ℕ) (r : Result T E) → journal ≡ before → store ≡ had
    → ◌≡◌ {A = Run} (record { unit = unit; world = world; journal = before; layout = layout_of had.heap; slices = slices_of had.heap.marking }) now → CouldStep now k
    → OnErr r ((◌≡◌ {A = Run} (record { unit = unit; world = world; journal = journal; layout = layout_of store.heap; slices = slices_of store.heap.marking }) now) × CouldStep now k)
err_so unit world journal before store had now k (Ok x) same kept view could = tt
err_so unit world journal before store had now k (Err e) same kept view could = (
  ap (λ (j : List Entry). let r : Run = record { unit = unit; world = world; journal = j; layout = layout_of store.heap; slices = slices_of store.heap.marking } in r) same
      ∙ ap (λ (h : Store). let r : Run = record { unit = unit; world = world; journal = before; layout = layout_of h.heap; slices = slices_of h.heap.marking } in r) kept ∙ view,
  could,
)

pub returns-in_err-make_room-clause-err : goal.returns-in_err-make_room-clause-err
returns-in_err-make_room-clause-err c =
    err_so c.self.inside.program.unit c.self.inside.world _ _ c.self.inside.store _ _ _ _ c.make_room.ensures.journal refl c.self.view_is c.requires.could

pub returns-in_err-advanced-clause-err : goal.returns-in_err-advanced-clause-err
returns-in_err-advanced-clause-err c =
    err_so c.self.inside.program.unit c.self.inside.world _ _ c.advance_or_collect.new.store _ _ _ _ (c.in_err-advanced.ensures.journal ∙ c.make_room.ensures.journal) c.in_err-advanced.ensures.store c.self.view_is c.requires.could

pub advance_or_collect-requires-clause-stands : goal.advance_or_collect-requires-clause-stands
advance_or_collect-requires-clause-stands c =
    let r = here (goal.at.advance_or_collect-requires-clause-stands c).After-from in
    let i = c.self.inside in
    subst (λ (ts : List Thread). CanAdvance i.program i.world i.store ts (c.from.result - 1)) (sym c.deref_mut.ensures.value) (record {
      printed = i.printed.items;
      stop = i.stop;
      journal = i.journal.entries;
      stands = c.self.invariant;
      thread = r.thread;
      at = r.at;
      goes = r.goes;
      lives = r.lives;
      ready = subst (λ (n : ℕ). is_blocked i.world.classes c.self.invariant.state n ≡ false) (number (goal.at.advance_or_collect-requires-clause-stands c).After-from) r.free;
    })

-- few objects have been made
pub advance_or_collect-requires-clause-few : goal.advance_or_collect-requires-clause-few
advance_or_collect-requires-clause-few c =
    let could : CouldStep c.args.self.now c.args.k = c.requires.could in
    let room : steps_in c.self.inside.journal.entries < 1000000 = subst (λ (r : Run). steps_in r.journal < 1000000) (sym c.self.view_is) could.0 in
    omega (arith, c.self.invariant.born, room)

-- the journal has one more entry, after the clearing of a collection, if there was one
one_more : (old before noted after : List Entry) (cleared : List ℕ) (e : Entry) → after ≡ noted ++ e ∷ [] → noted ≡ before ++ clearing_of cleared → before ≡ old → after ≡ (old ++ clearing_of cleared) ++ e ∷ []
one_more old before noted after cleared e written clears kept = written ∙ ap (λ (j : List Entry). j ++ e ∷ []) (clears ∙ ap (λ (j : List Entry). j ++ clearing_of cleared) kept)

pub invariant_of-self-2 : goal.invariant_of-self-2
invariant_of-self-2 c =
    let a = (goal.at.invariant_of-self-2 c).After-from in
    let i = c.self.inside in
    let x = c.in_ok-advanced.advanced in
    let later = c.advance_or_collect.new.threads in
    let went = subst (λ (ts : List Thread). AdvancesAndNotes i.program i.world i.store ts (c.from.result - 1) c.make_room.new.journal c.advance_or_collect.new.store later c.advance_or_collect.new.journal x) c.deref_mut.ensures.value c.in_ok-advanced.ensures.advances in
    let s = next _ _ _ _ _ _ _ c.self.invariant c.args.self.now c.self.view_is c.args.k (c.from.result - 1) (number a) (here a) c.advance_or_collect.new.store later went.cleared x went.advances in
    let printed : c.write_step.new.printed.items ≡ printed_after i.printed.items c.args.k (event_of x) = c.write_step.ensures.printed ∙ ap (λ l. printed_after l c.args.k (event_of x)) c.make_room.ensures.printed in
    let journal = one_more i.journal.entries c.make_room.new.journal.entries c.advance_or_collect.new.journal.entries c.write_step.new.journal.entries went.cleared (Step c.args.k (is_refused x)) c.write_step.ensures.journal went.entries c.make_room.ensures.journal in
    subst (λ (ts : List Thread). Corresponds i.program i.world c.advance_or_collect.new.store ts c.write_step.new.printed.items c.write_step.new.stop c.write_step.new.journal.entries) (sym (with_items_is i.threads later (search (rules, places))))
    (rw (printed, c.write_step.ensures.stop, journal) s)

pub returns-clause-turn : goal.returns-clause-turn
returns-clause-turn c =
    let a = (goal.at.returns-clause-turn c).After-from in
    let i = c.self.inside in
    let x = c.in_ok-advanced.advanced in
    let went = subst (λ (ts : List Thread). AdvancesAndNotes i.program i.world i.store ts (c.from.result - 1) c.make_room.new.journal c.advance_or_collect.new.store c.advance_or_collect.new.threads c.advance_or_collect.new.journal x) c.deref_mut.ensures.value c.in_ok-advanced.ensures.advances in
    let journal = one_more i.journal.entries c.make_room.new.journal.entries c.advance_or_collect.new.journal.entries c.write_step.new.journal.entries went.cleared (Step c.args.k (is_refused x)) c.write_step.ensures.journal went.entries c.make_room.ensures.journal in
    rw c.write_step.ensures.turn (turn_here _ _ _ _ _ _ _ c.self.invariant c.args.self.now c.self.view_is c.args.k (c.from.result - 1) (number a) (here a) c.advance_or_collect.new.store c.advance_or_collect.new.threads went.cleared x went.advances x refl c.write_step.new.journal.entries journal)

pub returns-clause-runs : goal.returns-clause-runs
returns-clause-runs c = rw (invariant_of-self-2 c).replays refl
