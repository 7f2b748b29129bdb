use Rattle.std.proofs.Common.{◌≡◌, take}
use Rattle.shared_accounts.specs.Accounts.{numbers_of}
use Rattle.shared_accounts.proofs.lines.numbers_of.Given as goal

abbrev pub invariant-loop-line : goal.invariant-loop-line
invariant-loop-line l = l.numbers.items ≡ numbers_of (take l.line-index l.printed) l.k
