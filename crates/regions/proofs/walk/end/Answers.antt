use Rattle.std.proofs.Common.{ap, sym, Ok, ◌∙◌}
use Rattle.syntax.specs.Tree.{End}
use Rattle.regions.specs.declared.joins.Path.{Path as PathInMemory}
use Rattle.region_rules.specs.RegionStates.{RegionState}
use Rattle.region_rules.specs.Regions.{On}
use Rattle.regions.specs.Walks.{path_value, go_on}
use Rattle.regions.proofs.PathLemmas.{Goes-along, end_held, end_left}
use Rattle.regions.proofs.walk.end.Goals as goal

pub returns-then-holds_own-clause-goes : goal.returns-then-holds_own-clause-goes
returns-then-holds_own-clause-goes c = λ outer is grows.
    let now = c.args.state.now in
    Goes-along c.refuse.result now _ _
    (ap (λ (w : PathInMemory). go_on outer (path_value w now) (End c.args.line)) c.in-On.is ∙ end_held outer now c.args.line (c.if-holds_own.ensures outer is grows))
    (c.refuse.ensures.fault now)

pub returns-else-holds_own-clause-goes : goal.returns-else-holds_own-clause-goes
returns-else-holds_own-clause-goes c = λ outer is grows.
    let now = c.args.state.now in
    ap (λ (w : PathInMemory). go_on outer (path_value w now) (End c.args.line)) c.in-On.is
    ∙ end_left outer now c.args.line (c.if-holds_own.ensures outer is grows)
    ∙ ap (λ (s : RegionState). Ok (On s)) (sym (c.truncate.ensures.left outer is grows))
