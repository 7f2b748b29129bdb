use Rattle.std.proofs.Common.{refl}
use Rattle.region_states.specs.declared.states.Condition.TheVariants as condition
use Rattle.region_states.proofs.tally.Tally.new.Goals as goal

pub returns : goal.returns
returns c condition.Dead = refl
returns c condition.Reference = refl
returns c condition.Untested = refl
returns c condition.Free = refl
returns c condition.Held = refl
returns c condition.Critical = refl
