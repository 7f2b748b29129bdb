use Rattle.std.proofs.Common.{rules}
use Rattle.std.proofs.lemmas.List.{drop_more, drop_all}
use Rattle.cli_logs.proofs.ListLemmas.{starts, goes_on, ends_at, finished, files_kept}
use Rattle.cli_logs.proofs.lists.list_each.Goals as goal

pub loop-name-init : goal.loop-name-init
loop-name-init g c = (starts _ _ _ c.args.names.now _ _, record { given = λ name bytes h. h; lacked = λ name h. h })

pub loop-name-preserved : goal.loop-name-preserved
loop-name-preserved g c =
    let at = drop_more c.args.names.now c.loop-name.name-index _ c.loop-name-test.true in (
      goes_on _ _ c.loop-name.invariant.0 at c.loop-name.invariant.1 (rw c.in-Ok.is at c.list_one.ensures.lists) c.list_one.ensures.err c.worse-status.ensures,
      files_kept c.list_one.ensures.kept c.list_one.ensures.still c.loop-name.invariant.1,
    )

pub returns-in-Err : goal.returns-in-Err
returns-in-Err g c =
    let at = drop_more c.args.names.now c.loop-name.name-index _ c.loop-name-test.true in
    let ended = rw c.in-Err.is at c.list_one.ensures.lists in
    ends_at _ _ c.loop-name.invariant.0 at c.loop-name.invariant.1 ended.1 ended.0

pub returns : goal.returns
returns g c = finished c.loop-name.invariant.0 (drop_all c.loop-name.name-index c.args.names.now (search rules))
