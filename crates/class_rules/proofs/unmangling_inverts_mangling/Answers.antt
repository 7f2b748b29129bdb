use Rattle.class_rules.proofs.Mangled.{inverse}
use Rattle.class_rules.proofs.unmangling_inverts_mangling.Goals as goal

pub returns : goal.returns
returns c = inverse
