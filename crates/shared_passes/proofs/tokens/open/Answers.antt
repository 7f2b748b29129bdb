use Rattle.std.proofs.Common.{rules}
use Rattle.shared_passes.proofs.Moves.{opens_as}
use Rattle.shared_passes.proofs.tokens.open.Goals as goal

pub split_pass-nobody-requires : goal.split_pass-nobody-requires
split_pass-nobody-requires g c = (search rules, (search rules, (c.requires.own, opens_as _ _ _ c.requires.first)))
