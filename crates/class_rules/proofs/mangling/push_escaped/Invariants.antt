use Rattle.std.proofs.Common.{◌≡◌, ◌++◌, take, flat_map}
use Rattle.class_rules.specs.Mangling.{escaped_byte}
use Rattle.class_rules.proofs.mangling.push_escaped.Given as goal

abbrev pub invariant-loop-b : goal.invariant-loop-b
invariant-loop-b l = l.out.items ≡ l.fn.out.items ++ flat_map escaped_byte (take l.b-index l.path)
