use Rattle.std.proofs.Common.{arith}
use Rattle.region_states.specs.declared.states.Condition.TheVariants as condition
use Rattle.region_states.proofs.tally.Tally.forget.Goals as goal

pub overflow_sub-self-6 : goal.overflow_sub-self-6
overflow_sub-self-6 c = omega (arith, c.one-6.ensures.number, c.requires condition.Critical)
