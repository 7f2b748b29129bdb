use Rattle.std.proofs.Common.{rules, sym, ◌∙◌}
use Rattle.shared_passes.proofs.Moves.{takes_as, leaves_as, taken_in, sits}
use Rattle.shared_passes.proofs.tokens.take_in.Goals as goal

pub split_pass-pass-requires : goal.split_pass-pass-requires
split_pass-pass-requires c = (search rules, (search rules, (c.requires.own.1, leaves_as _ _ c.requires.seat)))

pub join_pass-requires : goal.join_pass-requires
join_pass-requires c =
    let o = c.requires.own in
    let s = c.split_pass-pass.ensures.given in
    (search rules, (search rules, ((o.0, s.0 ∙ o.1 ∙ sym o.0, s.2), takes_as _ _ _ _ c.requires.keeper (sits _ _ _ s.1))))

pub returns-clause-hosts : goal.returns-clause-hosts
returns-clause-hosts c = c.join_pass.ensures.1 ∙ taken_in _ _ _ _ c.requires.keeper c.split_pass-pass.ensures.given.1
