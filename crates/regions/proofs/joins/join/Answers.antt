use Rattle.std.proofs.Common.{Result, subst}
use Rattle.regions.specs.declared.fault.CheckError.{CheckError}
use Rattle.regions.specs.declared.joins.Path.{Path as PathInMemory}
use Rattle.regions.specs.Walks.{path_value, Goes}
use Rattle.regions.proofs.PathLemmas.{second_stops}
use Rattle.regions.proofs.joins.join.Goals as goal

pub returns-clause-goes : goal.returns-clause-goes
returns-clause-goes c = λ a expected saved same goes.
    second_stops c.args.line (path_value c.args.first.path a) expected c.in-Err.e (subst (λ (r : Result PathInMemory CheckError). Goes r c.args.state.now expected) c.in-Err.is goes)
