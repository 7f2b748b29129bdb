use Rattle.std.proofs.Common.{map, rules, is_some}
use Rattle.semantics.specs.Views.{name_of}
use Rattle.replay_arguments.specs.Actuals.{actual_view}
use Rattle.replay_arguments.specs.Shares.{shared_view}
use Rattle.replay_terms.specs.Views.{variables_view}
use Rattle.replay_arguments.proofs.CheckedCalls.{is_some_name, passes}
use Rattle.replay_arguments.proofs.check.is_passed.Goals as goal

pub returns : goal.returns
returns c = λ passed.
    let scene = c.args.scene in
    passes scene.classes.now (shared_view scene.shared.now) (variables_view scene.locals.now.variables) scene.locals.now.frames (name_of scene.pending) c.args.buffer c.args.function (map actual_view c.args.actuals.now)
    (is_some scene.pending) (is_some_name scene.pending) (search rules) (search rules) (search rules) (search rules) (search rules) (search rules)
