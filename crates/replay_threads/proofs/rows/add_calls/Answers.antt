use Rattle.std.proofs.Common.{◌+◌, ◌++◌, drop, sym, ap, ◌∙◌}
use Rattle.semantics.specs.Views.{names_of}
use Rattle.replay_steps.specs.declared.activation.Activation.{Activation}
use Rattle.replay_threads.specs.Rows.{call_names}
use Rattle.replay_threads.specs.Threads.{last_first}
use Rattle.replay_threads.proofs.AddedNames.{added_next}
use Rattle.replay_threads.proofs.CallerLists.{next_caller}
use Rattle.replay_threads.proofs.rows.add_calls.Goals as goal

pub loop-done-preserved : goal.loop-done-preserved
loop-done-preserved c =
    let callers = c.args.callers.now in
    let done = c.loop-done.done in
    let caller = c.index-callers-callers.result in
    let names = names_of c.loop-done.names.items in
    added_next call_names (drop done (last_first callers)) (drop (done + 1) (last_first callers)) caller names _ _
    (next_caller callers done caller c.loop-done-test.true c.index-callers-callers.is)
    (c.in_ok-add_to.ensures ∙ ap (λ (a : Activation). names ++ call_names a) (sym c.index-callers-callers.is))
    c.loop-done.invariant
