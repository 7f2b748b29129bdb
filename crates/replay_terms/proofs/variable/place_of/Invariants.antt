use Rattle.std.proofs.Common.{ℕ, ◌<◌}
use Rattle.replay_terms.proofs.ByNameLemmas.{IsOther}
use Rattle.replay_terms.proofs.variable.place_of.Given as goal

abbrev pub invariant-loop-place : goal.invariant-loop-place
invariant-loop-place l = (k : ℕ) → k < l.place → IsOther l.name l.contents.entries k
