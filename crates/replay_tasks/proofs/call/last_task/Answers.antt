use Rattle.std.proofs.Common.{[], ◌∷◌, ◌++◌, map, ap, ◌∙◌}
use Rattle.syntax.specs.Shapes.{ref_tree}
use Rattle.semantics.specs.Task.{Invoke, NumberOperand}
use Rattle.semantics.specs.Term.{Term}
use Rattle.replay_terms.specs.Views.{looked_up}
use Rattle.replay_tasks.specs.Outcomes.{purpose_view}
use Rattle.replay_tasks.proofs.NumberLemmas.{last_are}
use Rattle.replay_tasks.proofs.call.last_task.Goals as goal

pub returns-clause-view : goal.returns-clause-view
returns-clause-view c =
    let f = c.args.function in
    let before = c.in-Some.before.now in
    rw c.put_task.ensures (
    ap (λ (t : Term). Invoke c.args.line (purpose_view c.args.line c.args.purpose) f (map looked_up before ++ NumberOperand t ∷ [])) c.in_ok-number.ensures.view
    ∙ ap (Invoke c.args.line (purpose_view c.args.line c.args.purpose) f)
    (last_are f c.args.arguments.now before (ref_tree c.in-Some.number) c.requires.last c.in-Some.ensures))
