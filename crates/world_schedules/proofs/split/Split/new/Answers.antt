use Rattle.std.proofs.Common.{◌==◌, arith}
use Rattle.std.proofs.lemmas.List.Splits.{length-slice_split}
use Rattle.std.proofs.lemmas.List.Sums.{count_by-le-length}
use Rattle.world_schedules.proofs.split.Split.new.Goals as goal

pub returns-clause-few : goal.returns-clause-few
returns-clause-few c =
    let text = c.args.text.now in
    omega (arith, length-slice_split (λ b. b == c.args.separator) text, count_by-le-length (λ b. b == c.args.separator) text)
