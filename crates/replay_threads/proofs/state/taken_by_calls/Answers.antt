use Rattle.std.proofs.Common.{◌≡◌, length, sym, ◌∙◌, subst, arith}
use Rattle.std.proofs.lemmas.List.{length-reverse}
use Rattle.replay_steps.specs.declared.activation.Activation.{Activation}
use Rattle.replay_terms.specs.Views.{Takes}
use Rattle.replay_threads.specs.States.{call_copies, call_views, variables_at}
use Rattle.replay_threads.specs.Threads.{last_first}
use Rattle.replay_threads.proofs.BufferLemmas.{copied_next, none_past, total_copied, total_viewed, viewed_next}
use Rattle.replay_threads.proofs.CallerLists.{next_caller}
use Rattle.replay_threads.proofs.state.taken_by_calls.Goals as goal

pub loop-done-preserved : goal.loop-done-preserved
loop-done-preserved c =
    let callers = last_first c.args.callers.now in
    let done = c.loop-done.done in
    let caller = c.index-callers-callers.result in
    let here = next_caller c.args.callers.now done caller c.loop-done-test.true c.index-callers-callers.is in
    let before = c.loop-done.invariant in
    let taken = subst (λ (a : Activation). Takes a.locals.variables c.in_use-taken.result) (sym c.index-callers-callers.is) c.in_use-taken.ensures in
    let copies : c.in_use-taken.result.copied ≡ call_copies caller = taken.copied ∙ total_copied (variables_at caller) in
    let views : c.in_use-taken.result.views ≡ length (call_views caller) = taken.views ∙ total_viewed (variables_at caller) in (
      omega (arith, before.0, copies, copied_next call_copies call_views callers done caller here),
      omega (arith, before.1, views, viewed_next call_copies call_views callers done caller here),
      omega (arith, before.2, taken.within),
      omega (arith, before.3, taken.few),
    )

pub returns-clause-copied : goal.returns-clause-copied
returns-clause-copied c =
    let xs = c.args.callers.now in
    omega (arith, c.loop-done.invariant.0, (none_past call_copies call_views (last_first xs) c.loop-done.done (omega (arith, length-reverse xs, c.loop-done-test.false))).0)

pub returns-clause-views : goal.returns-clause-views
returns-clause-views c =
    let xs = c.args.callers.now in
    omega (arith, c.loop-done.invariant.1, (none_past call_copies call_views (last_first xs) c.loop-done.done (omega (arith, length-reverse xs, c.loop-done-test.false))).1)
