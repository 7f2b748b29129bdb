use Rattle.std.proofs.Common.{[], length, ap, arith}
use Rattle.type_rules.proofs.KnownDeclarations.{known_after-length}
use Rattle.type_rules.proofs.known.Known.len.Goals as goal

pub returns : goal.returns
returns g c = omega (arith, c.len.ensures, c.self.inside.declared.ok, known_after-length c.self.inside.declared.items [], ap length c.self.view_is)
