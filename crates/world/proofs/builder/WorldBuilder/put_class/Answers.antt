use Rattle.world.proofs.builder.WorldBuilder.put_class.Goals as goal

pub returns-in-None : goal.returns-in-None
returns-in-None c = rw c.in-None.is c.put_class_below-in-None.ensures
