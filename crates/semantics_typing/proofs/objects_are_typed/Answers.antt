use Rattle.semantics_typing.proofs.Runs.{unit_is_typed}
use Rattle.semantics_typing.proofs.objects_are_typed.Goals as goal

pub returns : goal.returns
returns c = unit_is_typed c.unmangling_inverts_mangling.ensures
