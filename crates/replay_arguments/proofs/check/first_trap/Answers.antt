use Rattle.std.proofs.Common.{map, rules, is_some}
use Rattle.semantics.specs.Views.{name_of}
use Rattle.replay_arguments.specs.Actuals.{actual_view}
use Rattle.replay_arguments.specs.Shares.{shared_view}
use Rattle.replay_terms.specs.Views.{variables_view}
use Rattle.replay_arguments.proofs.CheckedCalls.{as_found, is_some_name}
use Rattle.replay_arguments.proofs.check.first_trap.Goals as goal

pub returns-then-not-asked : goal.returns-then-not-asked
returns-then-not-asked c =
    let scene = c.args.scene in
    as_found scene.classes.now (shared_view scene.shared.now) (variables_view scene.locals.now.variables) scene.locals.now.frames (name_of scene.pending) c.args.buffer c.args.function (map actual_view c.args.actuals.now)
    _ (is_some scene.pending) (is_some_name scene.pending) (search rules)

pub returns-then-some_deleted : goal.returns-then-some_deleted
returns-then-some_deleted c =
    let scene = c.args.scene in
    as_found scene.classes.now (shared_view scene.shared.now) (variables_view scene.locals.now.variables) scene.locals.now.frames (name_of scene.pending) c.args.buffer c.args.function (map actual_view c.args.actuals.now)
    _ (is_some scene.pending) (is_some_name scene.pending) (search rules)

pub returns-then-some_missing : goal.returns-then-some_missing
returns-then-some_missing c =
    let scene = c.args.scene in
    as_found scene.classes.now (shared_view scene.shared.now) (variables_view scene.locals.now.variables) scene.locals.now.frames (name_of scene.pending) c.args.buffer c.args.function (map actual_view c.args.actuals.now)
    _ (is_some scene.pending) (is_some_name scene.pending) (search rules)

pub returns-then-some_misfit : goal.returns-then-some_misfit
returns-then-some_misfit c =
    let scene = c.args.scene in
    as_found scene.classes.now (shared_view scene.shared.now) (variables_view scene.locals.now.variables) scene.locals.now.frames (name_of scene.pending) c.args.buffer c.args.function (map actual_view c.args.actuals.now)
    _ (is_some scene.pending) (is_some_name scene.pending) (search rules)

pub returns-then-not-go_together : goal.returns-then-not-go_together
returns-then-not-go_together c =
    let scene = c.args.scene in
    as_found scene.classes.now (shared_view scene.shared.now) (variables_view scene.locals.now.variables) scene.locals.now.frames (name_of scene.pending) c.args.buffer c.args.function (map actual_view c.args.actuals.now)
    _ (is_some scene.pending) (is_some_name scene.pending) (search rules)

pub returns-then-lacks_room : goal.returns-then-lacks_room
returns-then-lacks_room c =
    let scene = c.args.scene in
    as_found scene.classes.now (shared_view scene.shared.now) (variables_view scene.locals.now.variables) scene.locals.now.frames (name_of scene.pending) c.args.buffer c.args.function (map actual_view c.args.actuals.now)
    _ (is_some scene.pending) (is_some_name scene.pending) (search rules)

pub returns : goal.returns
returns c =
    let scene = c.args.scene in
    as_found scene.classes.now (shared_view scene.shared.now) (variables_view scene.locals.now.variables) scene.locals.now.frames (name_of scene.pending) c.args.buffer c.args.function (map actual_view c.args.actuals.now)
    _ (is_some scene.pending) (is_some_name scene.pending) (search rules)
