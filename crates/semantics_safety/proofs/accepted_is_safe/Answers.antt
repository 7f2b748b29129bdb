use Rattle.semantics_safety.proofs.FunctionGives.{unit_is_safe}
use Rattle.semantics_safety.proofs.accepted_is_safe.Goals as goal

pub returns : goal.returns
returns c = unit_is_safe c.unmangling_inverts_mangling.ensures
