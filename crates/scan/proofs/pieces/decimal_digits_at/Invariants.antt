use Rattle.std.proofs.Common.{length, ◌-◌}
use Rattle.scan.proofs.Decimals.{IsFront}
use Rattle.scan.proofs.pieces.decimal_digits_at.Given as goal

abbrev pub invariant-loop-len : goal.invariant-loop-len
invariant-loop-len l = IsFront l.text l.len l.value

abbrev pub decreases-loop-len : goal.decreases-loop-len
decreases-loop-len l = length l.text - l.len
