use Rattle.std.proofs.Common.{◌≡◌, ◌++◌, drop, map}
use Rattle.type_rules.proofs.known.Known.names.Given as goal

abbrev pub invariant-loop-d : goal.invariant-loop-d
invariant-loop-d g l = l.names.items ++ map (λ d. d.name.now) (drop l.d-index l.d-items) ≡ map (λ d. d.name.now) l.d-items
