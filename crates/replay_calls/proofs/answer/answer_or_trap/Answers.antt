use Rattle.std.proofs.Common.{map, sym, subst}
use Rattle.syntax.specs.Views.{unit_tree}
use Rattle.semantics.specs.Views.{name_of}
use Rattle.replay_arguments.specs.Actuals.{actual_view}
use Rattle.replay_arguments.specs.Shares.{shared_view}
use Rattle.replay_calls.specs.Answers.{FitsCall, array_given}
use Rattle.replay_calls.proofs.FittingAnswers.{answer_fits}
use Rattle.replay_terms.specs.Views.{variables_view}
use Rattle.replay_calls.proofs.answer.answer_or_trap.Goals as goal

pub returns-in-None-clause-fits : goal.returns-in-None-clause-fits
returns-in-None-clause-fits c =
    let scene = c.args.scene in
    let vs = variables_view scene.locals.now.variables in
    let args = map actual_view c.args.actuals.now in
    let f = c.args.function in
    subst (FitsCall scene.shared.now.store (array_given vs args) f) (sym c.work_out.ensures)
    (answer_fits (unit_tree c.args.caller.unit.now) scene.classes.now c.args.caller.thread (shared_view scene.shared.now) vs scene.locals.now.frames 0 (name_of scene.pending) args f)
