use Rattle.std.proofs.Common.{◌++◌}
use Rattle.std.proofs.lemmas.Result.{err_from_is_err_and}
use Rattle.cli_commands.specs.Telling.{place_text, reason_text, detail_text, excerpt}
use Rattle.sinks.proofs.Puts.{AppendsText-then, StopsWithin-more, StopsWithin-then, Writes-flushed}
use Rattle.cli_commands.proofs.telling.tell_from.Goals as goal

pub returns-in_err-put_all-clause-text : goal.returns-in_err-put_all-clause-text
returns-in_err-put_all-clause-text g c =
    let p = err_from_is_err_and c.from_residual.result c.from_residual.ensures.1 in
    rw p.1 (StopsWithin-more _ _ (c.args.source.name.now ++ place_text c.args.place ++ reason_text c.args.reason.kind.now c.args.reason.number c.args.reason.words.now ++ detail_text c.args.reason.detail.now) (excerpt c.args.source.text.now c.args.place)
    (StopsWithin-more _ _ (c.args.source.name.now ++ place_text c.args.place ++ reason_text c.args.reason.kind.now c.args.reason.number c.args.reason.words.now) (detail_text c.args.reason.detail.now)
    (StopsWithin-more _ _ (c.args.source.name.now ++ place_text c.args.place) (reason_text c.args.reason.kind.now c.args.reason.number c.args.reason.words.now)
    (StopsWithin-more _ _ c.args.source.name.now (place_text c.args.place) c.in_err-put_all.ensures))))

pub returns-in_err-put_place-clause-text : goal.returns-in_err-put_place-clause-text
returns-in_err-put_place-clause-text g c =
    let p = err_from_is_err_and c.from_residual-in_err-put_place.result c.from_residual-in_err-put_place.ensures.1 in
    rw p.1 (StopsWithin-more _ _ (c.args.source.name.now ++ place_text c.args.place ++ reason_text c.args.reason.kind.now c.args.reason.number c.args.reason.words.now ++ detail_text c.args.reason.detail.now) (excerpt c.args.source.text.now c.args.place)
    (StopsWithin-more _ _ (c.args.source.name.now ++ place_text c.args.place ++ reason_text c.args.reason.kind.now c.args.reason.number c.args.reason.words.now) (detail_text c.args.reason.detail.now)
    (StopsWithin-more _ _ (c.args.source.name.now ++ place_text c.args.place) (reason_text c.args.reason.kind.now c.args.reason.number c.args.reason.words.now)
    (StopsWithin-then _ _ _ c.args.source.name.now (place_text c.args.place) c.in_ok-put_all.ensures c.in_err-put_place.ensures))))

pub returns-in_err-put_reason-clause-text : goal.returns-in_err-put_reason-clause-text
returns-in_err-put_reason-clause-text g c =
    let p = err_from_is_err_and c.from_residual-in_err-put_reason.result c.from_residual-in_err-put_reason.ensures.1 in
    rw p.1 (StopsWithin-more _ _ (c.args.source.name.now ++ place_text c.args.place ++ reason_text c.args.reason.kind.now c.args.reason.number c.args.reason.words.now ++ detail_text c.args.reason.detail.now) (excerpt c.args.source.text.now c.args.place)
    (StopsWithin-more _ _ (c.args.source.name.now ++ place_text c.args.place ++ reason_text c.args.reason.kind.now c.args.reason.number c.args.reason.words.now) (detail_text c.args.reason.detail.now)
    (StopsWithin-then _ _ _ (c.args.source.name.now ++ place_text c.args.place) (reason_text c.args.reason.kind.now c.args.reason.number c.args.reason.words.now)
    (AppendsText-then _ _ _ c.args.source.name.now (place_text c.args.place) c.in_ok-put_all.ensures c.in_ok-put_place.ensures) c.in_err-put_reason.ensures)))

pub returns-in_err-put_detail-clause-text : goal.returns-in_err-put_detail-clause-text
returns-in_err-put_detail-clause-text g c =
    let p = err_from_is_err_and c.from_residual-in_err-put_detail.result c.from_residual-in_err-put_detail.ensures.1 in
    rw p.1 (StopsWithin-more _ _ (c.args.source.name.now ++ place_text c.args.place ++ reason_text c.args.reason.kind.now c.args.reason.number c.args.reason.words.now ++ detail_text c.args.reason.detail.now) (excerpt c.args.source.text.now c.args.place)
    (StopsWithin-then _ _ _ (c.args.source.name.now ++ place_text c.args.place ++ reason_text c.args.reason.kind.now c.args.reason.number c.args.reason.words.now) (detail_text c.args.reason.detail.now)
    (AppendsText-then _ _ _ (c.args.source.name.now ++ place_text c.args.place) (reason_text c.args.reason.kind.now c.args.reason.number c.args.reason.words.now)
    (AppendsText-then _ _ _ c.args.source.name.now (place_text c.args.place) c.in_ok-put_all.ensures c.in_ok-put_place.ensures) c.in_ok-put_reason.ensures) c.in_err-put_detail.ensures))

pub returns-in_err-put_excerpt-clause-text : goal.returns-in_err-put_excerpt-clause-text
returns-in_err-put_excerpt-clause-text g c =
    let p = err_from_is_err_and c.from_residual-in_err-put_excerpt.result c.from_residual-in_err-put_excerpt.ensures.1 in
    rw p.1 (StopsWithin-then _ _ _ (c.args.source.name.now ++ place_text c.args.place ++ reason_text c.args.reason.kind.now c.args.reason.number c.args.reason.words.now ++ detail_text c.args.reason.detail.now) (excerpt c.args.source.text.now c.args.place)
    (AppendsText-then _ _ _ (c.args.source.name.now ++ place_text c.args.place ++ reason_text c.args.reason.kind.now c.args.reason.number c.args.reason.words.now) (detail_text c.args.reason.detail.now)
    (AppendsText-then _ _ _ (c.args.source.name.now ++ place_text c.args.place) (reason_text c.args.reason.kind.now c.args.reason.number c.args.reason.words.now)
    (AppendsText-then _ _ _ c.args.source.name.now (place_text c.args.place) c.in_ok-put_all.ensures c.in_ok-put_place.ensures) c.in_ok-put_reason.ensures) c.in_ok-put_detail.ensures) c.in_err-put_excerpt.ensures)

pub returns-clause-text : goal.returns-clause-text
returns-clause-text g c =
    Writes-flushed _ _ _ c.flush.result _ (AppendsText-then _ _ _ (c.args.source.name.now ++ place_text c.args.place ++ reason_text c.args.reason.kind.now c.args.reason.number c.args.reason.words.now ++ detail_text c.args.reason.detail.now) (excerpt c.args.source.text.now c.args.place)
    (AppendsText-then _ _ _ (c.args.source.name.now ++ place_text c.args.place ++ reason_text c.args.reason.kind.now c.args.reason.number c.args.reason.words.now) (detail_text c.args.reason.detail.now)
    (AppendsText-then _ _ _ (c.args.source.name.now ++ place_text c.args.place) (reason_text c.args.reason.kind.now c.args.reason.number c.args.reason.words.now)
    (AppendsText-then _ _ _ c.args.source.name.now (place_text c.args.place) c.in_ok-put_all.ensures c.in_ok-put_place.ensures) c.in_ok-put_reason.ensures) c.in_ok-put_detail.ensures) c.in_ok-put_excerpt.ensures)
    c.flush.ensures.kept c.flush.ensures.same c.flush.ensures.failed
