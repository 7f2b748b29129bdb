use Rattle.std.proofs.Common.{◌≡◌, ◌++◌, ◌∷◌, cond, drop}
use Rattle.class_rules.specs.Mangling.{unescaped}
use Rattle.class_rules.proofs.mangling.unescape.Given as goal

abbrev pub invariant-loop-b : goal.invariant-loop-b
invariant-loop-b l =
    l.path.items ++ cond l.underscore (unescaped (95 ∷ drop l.b-index l.bytes)) (unescaped (drop l.b-index l.bytes))
    ≡ unescaped l.bytes
