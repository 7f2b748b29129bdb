use Rattle.std.proofs.Common.{Some, sym, ap, ◌∙◌}
use Rattle.types.proofs.statements.Surroundings.keep_broken.Goals as goal

pub returns : goal.returns
returns c = λ broken first.
    rw c.in_ok-reserve.ensures at (c.keep.ensures broken (first ∙ ap (λ line. Some (line, c.args.rule)) (sym c.told-line.ensures)))
