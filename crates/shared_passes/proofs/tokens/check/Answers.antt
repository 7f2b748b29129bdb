use Rattle.std.proofs.Common.{rules, ◌∙◌}
use Rattle.shared_passes.proofs.Moves.{checks_as, hosted}
use Rattle.shared_passes.proofs.tokens.check.Goals as goal

pub load_as-requires : goal.load_as-requires
load_as-requires g c =
    let t = c.take_in.ensures in
    (search rules, (search rules, (t.own ∙ c.requires.own.0, checks_as _ _ (hosted _ _ _ _ _ t.hosts))))
