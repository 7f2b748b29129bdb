use Rattle.std.proofs.Common.{subst, sym, rules}
use Rattle.std.specs.List.{All}
use Rattle.std.proofs.lemmas.List.{drop_more, drop_all}
use Rattle.std.proofs.lemmas.List.Elements.{All-nil}
use Rattle.cli_logs.specs.Logs.{MayPass}
use Rattle.cli_logs.proofs.PassLemmas.{texts_of, goes_on}
use Rattle.cli_logs.proofs.logs.log_of.Goals as goal

pub loop-name-preserved : goal.loop-name-preserved
loop-name-preserved g c =
    let at = drop_more c.args.names.now c.loop-name.name-index _ c.loop-name-test.true in (
      goes_on _ _ _ _ c.loop-name.invariant.0 at c.loop-name.invariant.1 c.in_ok-one.ensures.passes c.max-status.ensures,
      λ other bytes h. c.loop-name.invariant.1 other bytes (c.in_ok-one.ensures.kept other bytes h),
    )

pub returns : goal.returns
returns g c = λ zero.
    let gives = g.F.Files.gives c.args.files.now in
    c.loop-name.invariant.0 zero (subst (λ rest. All (MayPass gives) (texts_of rest)) (sym (drop_all c.loop-name.name-index c.args.names.now (search rules))) (All-nil (MayPass gives)))
