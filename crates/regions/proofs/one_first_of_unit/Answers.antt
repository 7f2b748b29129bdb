use Rattle.syntax.specs.Parts.{functions_of}
use Rattle.regions.proofs.UnitLemmas.{one_first_of}
use Rattle.regions.proofs.one_first_of_unit.Goals as goal

pub returns : goal.returns
returns c = λ unit. one_first_of (functions_of unit)
