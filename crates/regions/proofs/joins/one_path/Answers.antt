use Rattle.std.proofs.Common.{Result, Ok, subst, ap, sym}
use Rattle.regions.specs.declared.fault.CheckError.{CheckError}
use Rattle.regions.specs.declared.joins.Branch.{Branch}
use Rattle.region_rules.specs.RegionStates.{RegionState}
use Rattle.region_rules.specs.Regions.{On}
use Rattle.regions.specs.Walks.{PathOrFault, Branches}
use Rattle.regions.specs.Paths.{join_paths}
use Rattle.regions.proofs.PathLemmas.{Goes-along}
use Rattle.regions.proofs.joins.one_path.Goals as goal

pub returns-in-Ok-clause-goes : goal.returns-in-Ok-clause-goes
returns-in-Ok-clause-goes c = λ expected other is.
    let passed : PathOrFault = Ok (On other) in
    let first = subst (λ (r : Result Branch CheckError). Branches r c.args.state.now expected other) c.in-Ok.is is in
    Goes-along c.join.result c.join.new.state _ _
    (ap (λ (r : PathOrFault). join_paths c.args.line r passed) first.3)
    (c.join.ensures.goes first.0 passed first.1 first.2 (ap (λ (s : RegionState). Ok (On s)) (sym first.4)))
