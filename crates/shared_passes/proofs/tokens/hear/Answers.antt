use Rattle.std.proofs.Common.{rules}
use Rattle.shared_passes.proofs.Moves.{settles_as}
use Rattle.shared_passes.proofs.tokens.hear.Goals as goal

pub load_as-requires : goal.load_as-requires
load_as-requires g c = (search rules, (search rules, (c.requires.own, settles_as _ _ _ _ c.requires.hosts c.requires.here c.requires.others)))
