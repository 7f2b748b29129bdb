use Rattle.syntax.specs.Parts.{functions_of}
use Rattle.regions.proofs.FirstPaths.{accepted_or_first}
use Rattle.regions.proofs.accepted_or_first.Goals as goal

pub returns : goal.returns
returns c = λ unit. accepted_or_first (functions_of unit)
