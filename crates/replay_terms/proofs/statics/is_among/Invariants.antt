use Rattle.std.proofs.Common.{◌≡◌, drop}
use Rattle.semantics.specs.Reachable.{is_in}
use Rattle.semantics.specs.Views.{names_of}
use Rattle.replay_terms.proofs.statics.is_among.Given as goal

abbrev pub invariant-loop-other : goal.invariant-loop-other
invariant-loop-other l = is_in (names_of (drop l.other-index l.names)) l.name.number ≡ is_in (names_of l.names) l.name.number
