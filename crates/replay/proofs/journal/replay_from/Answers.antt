use Rattle.std.proofs.lemmas.Result.{err_from_is_err_and}
use Rattle.syntax.specs.Views.{unit_tree}
use Rattle.replay.proofs.RunLemmas.{refused_answer, ends}
use Rattle.replay.proofs.journal.replay_from.Goals as goal

pub returns-in_err-follow : goal.returns-in_err-follow
returns-in_err-follow g c = λ w first.
    let p = err_from_is_err_and c.from_residual.result c.from_residual.ensures.1 in
    rw (p.1, p.2) (refused_answer (unit_tree c.args.functions.now) w c.args.journal.now (g.W.Sink.written c.args.out.now) c.in_err-follow.field-0.0 (c.in_err-follow.ensures.refused w first))

pub returns : goal.returns
returns g c = λ w first.
    let unit = unit_tree c.args.functions.now in
    let replayed = c.in_ok-follow.ensures.end w first in
    (c.in_ok-write_report.ensures.0 unit w replayed, rw c.shown_stop.ensures (ends unit w c.args.journal.now c.follow.new.state replayed), c.in_ok-write_report.ensures.1)

pub returns-in_err-write_report : goal.returns-in_err-write_report
returns-in_err-write_report g c = λ w first.
    let unit = unit_tree c.args.functions.now in
    let replayed = c.in_ok-follow.ensures.end w first in
    let p = err_from_is_err_and c.from_residual-in_err-write_report.result c.from_residual-in_err-write_report.ensures.1 in
    rw (p.1, p.2) (c.in_err-write_report.ensures.0 unit w replayed, λ _. c.in_err-write_report.ensures.1)
