use Rattle.std.proofs.Common.{rules}
use Rattle.shared_passes.proofs.Moves.{lets_go_as}
use Rattle.shared_passes.proofs.tokens.let_go.Goals as goal

pub split_pass-requires : goal.split_pass-requires
split_pass-requires c = (search rules, (search rules, (c.requires.own, lets_go_as _ _ c.requires.hosts)))
