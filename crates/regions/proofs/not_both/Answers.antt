use Rattle.syntax.specs.Parts.{functions_of}
use Rattle.regions.proofs.FirstPaths.{no_first_in}
use Rattle.regions.proofs.not_both.Goals as goal

pub returns : goal.returns
returns c = λ unit. no_first_in (functions_of unit)
