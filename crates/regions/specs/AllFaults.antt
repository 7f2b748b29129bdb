-- All faults of a unit's paths that are told, and not only the first.
use Rattle.std.specs.Prelude.{ℕ, List, [], ◌∷◌}
use Rattle.syntax.specs.Parts.{functions_of}
use Rattle.syntax.specs.Tree.{Function, SourceUnit}
use Rattle.region_rules.specs.declared.rule.RegionRule.{RegionRule}
use Rattle.region_rules.specs.Regions.{AcceptedFunction}
use Rattle.region_rules.specs.FirstFaults.{FirstInFunction}

-- of each function that isn't accepted its first fault, in the order of the functions
pub data AreFunctionFaults : List Function → List (ℕ × RegionRule) → Type 0 where
  for_none : AreFunctionFaults [] []
  for_accepted : (f : Function) (functions : List Function) (faults : List (ℕ × RegionRule)) → AcceptedFunction f → AreFunctionFaults functions faults
      → AreFunctionFaults (f ∷ functions) faults
  for_refused : (f : Function) (functions : List Function) (rule : RegionRule) (line : ℕ) (faults : List (ℕ × RegionRule)) → FirstInFunction rule line f
      → AreFunctionFaults functions faults → AreFunctionFaults (f ∷ functions) ((line, rule) ∷ faults)

-- these are told of a unit
abbrev pub AreRegionFaults : SourceUnit → List (ℕ × RegionRule) → Type 0
AreRegionFaults unit faults = AreFunctionFaults (functions_of unit) faults
