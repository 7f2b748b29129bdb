use Rattle.world.proofs.ReadWorlds.{worlds_read}
use Rattle.world.proofs.laws.worlds_are_read.Goals as goal

pub returns : goal.returns
returns c = worlds_read
