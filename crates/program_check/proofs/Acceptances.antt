-- A pass refuses the text of an accepted program for want of memory alone.
use Rattle.std.proofs.Common.{◌≡◌, List, ℕ, Ok, refl, subst}
use Rattle.syntax.specs.Tree.{SourceUnit}
use Rattle.parse_lexemes.specs.declared.fault.ParseError.{ParseError}
use Rattle.parse_lexemes.specs.declared.fault.ParseError.TheVariants as parsing
use Rattle.parse_lexemes.specs.Results.{Fails}
use Rattle.type_rules.specs.TypeRules.{IsWellTyped}
use Rattle.region_rules.specs.Regions.{HasRegions}
use Rattle.program_check.specs.declared.fault.RunError.TheVariants.{Memory}
use Rattle.program_check.specs.Errors.{of_parse}
use Rattle.program_check.specs.Programs.{IsProgram}

pub parse_accepts : (unit : SourceUnit) (f : ParseError) → Fails f (Ok unit) → of_parse f ≡ Memory
parse_accepts unit parsing.Memory h = refl
parse_accepts unit (parsing.Fault fault) h = absurd (cc h)

-- what the unit that was found keeps, where it is that of the program
module _ (text : List ℕ) (unit found : SourceUnit) (p : IsProgram text unit) (same : unit ≡ found) where
  pub is_well_typed : IsWellTyped found
  is_well_typed = subst IsWellTyped same p.well_typed

  pub has_regions : HasRegions found
  has_regions = subst HasRegions same p.regions
