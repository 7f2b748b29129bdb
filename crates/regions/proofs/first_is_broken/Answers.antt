use Rattle.syntax.specs.Parts.{functions_of}
use Rattle.regions.proofs.UnitLemmas.{first_broken_in}
use Rattle.regions.proofs.first_is_broken.Goals as goal

pub returns : goal.returns
returns c = λ unit. first_broken_in (functions_of unit)
