use Rattle.std.proofs.Common.{◌≡◌, ◌∷◌, drop}
use Rattle.semantics.specs.Views.{names_of}
use Rattle.semantics.specs.WeakReferences.{are_rising}
use Rattle.semantics.proofs.object_id.rise_from.Given as goal

abbrev pub invariant-loop-name : goal.invariant-loop-name
invariant-loop-name l = are_rising (l.before ∷ names_of (drop l.name-index l.names)) ≡ are_rising (l.fn.first.number ∷ names_of l.names)
