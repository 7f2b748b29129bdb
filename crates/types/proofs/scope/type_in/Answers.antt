use Rattle.types.proofs.scope.type_in.Goals as goal

pub returns : goal.returns
returns c = c.get.ensures
