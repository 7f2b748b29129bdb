use Rattle.world.proofs.ReadWorlds.{one_world}
use Rattle.world.proofs.laws.texts_mean_one_world.Goals as goal

pub returns : goal.returns
returns c = one_world
