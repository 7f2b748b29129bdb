-- The changes on the paths of a comparison with NULL.
use Rattle.std.specs.Prelude.{Bool, true, false, not, Option, Some, None}
use Rattle.syntax.specs.NullTests.{NullTest}
use Rattle.region_rules.specs.RegionStates.{RegionState, VariableState, with_changed, made_free}
use Rattle.region_rules.specs.Regions.{made_usable}

-- the change of a variable that turned out to be NULL, or not
abbrev pub made : (null : Bool) → VariableState → VariableState
made true = made_free
made false = made_usable

-- the state where a comparison holds
abbrev pub taught_true : RegionState → Option NullTest → RegionState
taught_true state None = state
taught_true state (Some test) = with_changed state test.name (made test.equal)

-- where it does not hold
abbrev pub taught_false : RegionState → Option NullTest → RegionState
taught_false state None = state
taught_false state (Some test) = with_changed state test.name (made (not test.equal))
