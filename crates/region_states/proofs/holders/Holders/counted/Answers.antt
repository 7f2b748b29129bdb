use Rattle.std.proofs.Common.{arith}
use Rattle.region_states.specs.StatesInMemory.{is_of}
use Rattle.region_states.proofs.HolderLemmas.{few}
use Rattle.region_states.proofs.holders.Holders.counted.Goals as goal

pub note-requires : goal.note-requires
note-requires c = λ x. omega (arith, few (is_of x) c.args.variables.now, c.loop-v.invariant x, c.requires)
