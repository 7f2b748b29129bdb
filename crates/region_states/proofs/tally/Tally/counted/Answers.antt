use Rattle.std.proofs.Common.{arith}
use Rattle.region_states.specs.StatesInMemory.{meets}
use Rattle.region_states.proofs.HolderLemmas.{few}
use Rattle.region_states.proofs.tally.Tally.counted.Goals as goal

pub note-requires : goal.note-requires
note-requires c = λ q. omega (arith, few (meets q) c.args.variables.now, c.loop-v.invariant q, c.requires)
