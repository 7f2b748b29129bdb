use Rattle.std.proofs.Common.{refl}
use Rattle.std.proofs.lemmas.Result.{err_from_is_err_and}
use Rattle.syntax.specs.Views.{unit_tree}
use Rattle.semantics.specs.Start.{start}
use Rattle.replay.proofs.RunLemmas.{not_begun, refused_answer}
use Rattle.replay.proofs.journal.replay_with.Goals as goal

pub returns : goal.returns
returns g c =
    let s = c.in_ok-state.ensures in
    c.replay_from.ensures c.args.world.now (record { fits = s.fits; end = start (unit_tree c.args.functions.now) c.args.world.now; replays = refl; stands = s.stands; range = s.range })

pub returns-in_err-state : goal.returns-in_err-state
returns-in_err-state g c =
    let p = err_from_is_err_and c.from_residual.result c.from_residual.ensures.1 in
    rw (p.1, p.2) (refused_answer (unit_tree c.args.functions.now) c.args.world.now c.args.journal.now (g.W.Sink.written c.args.out.now) c.in_err-state.field-0.0 (not_begun (unit_tree c.args.functions.now) c.args.world.now c.args.journal.now c.in_err-state.field-0.0 c.in_err-state.ensures.fault))
