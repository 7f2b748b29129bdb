use Rattle.std.proofs.Common.{List, drop, map, ap, ◌∙◌, rules}
use Rattle.semantics.specs.Arguments.{Actual, passed_value}
use Rattle.replay_arguments.specs.Actuals.{actual_view}
use Rattle.replay_arguments.specs.Shares.{shared_view, sight_in}
use Rattle.replay_tasks.specs.declared.task.Task.TheVariants as task
use Rattle.replay_steps.proofs.CallerLemmas.{calls_from, none_called}
use Rattle.replay_steps.proofs.callers.entering_of.Goals as goal

pub returns-in_default : goal.returns-in_default
returns-in_default c = none_called (shared_view c.args.shared.now) c.args.activation.now c.args.line c.args.function.now c.requires (λ i there. c.in_default.not-Some (task.Invoke i) there)

pub returns : goal.returns
returns c =
    let s = shared_view c.args.shared.now in
    let a = c.args.activation.now in
    let i = c.in-Invoke.i in
    let sight = sight_in s a.locals.variables in
    let looked_up = ap (map actual_view) c.deref.ensures.value ∙ c.in_ok-actuals.ensures in
    calls_from s a c.args.line c.args.function.now i (search rules) c.requires _ (c.in_ok-arguments.ensures ∙ ap (λ (args : List Actual). map passed_value (drop 2 args)) looked_up)
