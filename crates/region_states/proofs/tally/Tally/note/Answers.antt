use Rattle.std.proofs.Common.{arith}
use Rattle.region_states.specs.declared.states.Condition.TheVariants as condition
use Rattle.region_states.proofs.tally.Tally.note.Goals as goal

pub overflow_add-self : goal.overflow_add-self
overflow_add-self c = omega (arith, c.one.ensures.few, c.requires condition.Dead)

pub overflow_add-self-2 : goal.overflow_add-self-2
overflow_add-self-2 c = omega (arith, c.one-2.ensures.few, c.requires condition.Reference)

pub overflow_add-self-3 : goal.overflow_add-self-3
overflow_add-self-3 c = omega (arith, c.one-3.ensures.few, c.requires condition.Untested)

pub overflow_add-self-4 : goal.overflow_add-self-4
overflow_add-self-4 c = omega (arith, c.one-4.ensures.few, c.requires condition.Free)

pub overflow_add-self-5 : goal.overflow_add-self-5
overflow_add-self-5 c = omega (arith, c.one-5.ensures.few, c.requires condition.Held)

pub overflow_add-self-6 : goal.overflow_add-self-6
overflow_add-self-6 c = omega (arith, c.one-6.ensures.few, c.requires condition.Critical)
