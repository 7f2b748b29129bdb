use Rattle.std.proofs.Common.{◌≡◌, suc, ◌-◌, Some, sym, ◌∙◌, subst}
use Rattle.std.specs.Prelude.{slice_get}
use Rattle.machine.specs.Run.{Run, Waits}
use Rattle.machine.proofs.Steps.{counted_from, owners, rest, shared_agrees, steady, the_thread, thread_there, threads_of, waits_here}
use Rattle.machine.proofs.machine.Machine.waits.Goals as goal
use Rattle.machine.proofs.machine.Machine.waits.Goals.{After-index-thread}

module _ (c : After-index-thread) where
  there : slice_get c.self.inside.threads.items (c.from.result - 1) ≡ Some c.index-thread.result.now
  there =
      thread_there c.self.inside.threads.items c.args.k c.from.result _ c.index-thread.result.now c.from.ensures c.requires.counted c.requires.is_thread (threads_of _ _ _ c.self.invariant.count c.self.view_is) c.index-thread.ensures

  number : c.args.k ≡ suc (c.from.result - 1)
  number = counted_from c.args.k c.from.result c.from.ensures c.requires.counted

pub waits-requires-clause-agrees : goal.waits-requires-clause-agrees
waits-requires-clause-agrees c =
    let a = (goal.at.waits-requires-clause-agrees c).After-index-thread in
    let t = c.index-thread.result.now in
    let i = c.from.result - 1 in
    let f = the_thread _ _ _ _ _ _ _ c.self.invariant c.args.k i t (number a) (there a) in (
      rest _ _ _ _ _ _ _ c.self.invariant c.args.k i t (number a) (there a),
      owners _ _ _ _ _ _ _ c.self.invariant c.args.k i t (number a) (there a) c.args.k,
      c.self.invariant.state.shared,
      f.source,
      (shared_agrees _ _ _ _ _ _ _ c.self.invariant c.args.k i t (number a) (there a), f.agrees, steady _ _ _ _ _ _ _ c.self.invariant c.args.k i t (number a) (there a)),
    )

pub returns : goal.returns
returns c =
    let a = (goal.at.returns c).After-index-thread in
    let m = c.self.invariant in
    let t = c.index-thread.result.now in
    let i = c.from.result - 1 in
    let f = the_thread _ _ _ _ _ _ _ m c.args.k i t (number a) (there a) in
    subst (λ (r : Run). Waits r c.args.k c.waits.result) c.self.view_is (
      m.state,
      m.replays,
      c.waits.ensures (rest _ _ _ _ _ _ _ m c.args.k i t (number a) (there a)) (owners _ _ _ _ _ _ _ m c.args.k i t (number a) (there a) c.args.k) m.state.shared f.source (shared_agrees _ _ _ _ _ _ _ m c.args.k i t (number a) (there a)) f.agrees
          (steady _ _ _ _ _ _ _ m c.args.k i t (number a) (there a))
          ∙ sym (waits_here _ _ _ _ _ _ _ m c.args.k i t (number a) (there a)),
    )
