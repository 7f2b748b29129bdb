use Rattle.std.proofs.Common.{[], ◌∷◌, rules}
use Rattle.shared_passes.proofs.Moves.{begins}
use Rattle.shared_passes.proofs.tokens.new_cell.Goals as goal

pub ruled-requires : goal.ruled-requires
ruled-requires c = (search rules, (search rules, begins (0 ∷ [])))
