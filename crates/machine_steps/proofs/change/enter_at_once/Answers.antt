use Rattle.std.proofs.Common.{ℕ, List, sym, ◌∙◌, subst}
use Rattle.std.specs.Prelude.{length}
use Rattle.base.proofs.Options.{none_there}
use Rattle.machine_threads.specs.Entry.{IsReady}
use Rattle.machine_steps.proofs.ChangedCalls.{entry_waits, ready_to_enter}
use Rattle.machine_steps.proofs.Entries.{enters}
use Rattle.machine_steps.specs.Pushed.{Enters}
use Rattle.machine_steps.proofs.change.enter_at_once.Goals as goal

pub enter_again-requires : goal.enter_again-requires
enter_again-requires c entering is =
    let a = c.requires.stands in
    subst (λ (l : List ℕ). IsReady c.args.program.now (length l) entering) (sym c.deref.ensures.value)
    (ready_to_enter c.args.program.now c.args.world.now c.args.store.now a.0 c.args.number a.1 a.2 c.args.thread.now a.3 c.requires.lowered a.4 entering is)

pub returns-clause-steps : goal.returns-clause-steps
returns-clause-steps c is others own shared s stands =
    let p = c.args.program.now in
    let w = c.args.world.now in
    let store = c.args.store.now in
    let t = c.args.thread.now in
    let after = c.enter_again.new.thread in
    let e = c.enter_again.ensures in
    let none = none_there t.call (sym c.is_some.ensures ∙ c.if-is_some.false) in
    let next = subst (λ (l : List ℕ). Enters p l t after) c.deref.ensures.value (e.calls is) in (
      entry_waits p w store others c.args.number own shared t s c.requires.lowered stands none,
      enters p w store others c.args.number own shared t after s c.requires.lowered stands.0 stands.1 none next (e.entering is) e.callers e.pending e.ending,
    )
