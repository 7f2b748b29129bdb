-- Which program texts are accepted, and which fault another earns.
use Rattle.std.specs.Prelude.{◌≡◌, ℕ, List, Some, Err}
use Rattle.syntax.specs.Tree.{SourceUnit}
use Rattle.scan.specs.declared.token.Token.{Token}
use Rattle.scan.specs.declared.fault.ScanError.TheVariants as scanning
use Rattle.scan.specs.Spelling.{Spells}
use Rattle.scan.specs.Faults.{ScanFault, IsFirstFault, scan_rule_number}
use Rattle.parse_lexemes.specs.declared.fault.ParseError.TheVariants as parsing
use Rattle.parse_lexemes.specs.Faults.{ParseFault, parse_rule_number}
use Rattle.parse_lexemes.specs.Lexemes.{lexemes}
use Rattle.parse.specs.Reading.{unit_at}
use Rattle.parse.specs.Spelling.{SpellsUnit}
use Rattle.type_rules.specs.declared.rule.TypeRule.{TypeRule}
use Rattle.type_rules.specs.TypeRules.{type_rule_number, IsWellTyped, first_broken}
use Rattle.region_rules.specs.declared.rule.RegionRule.{RegionRule}
use Rattle.region_rules.specs.RegionRules.{region_rule_number}
use Rattle.region_rules.specs.Regions.{HasRegions}
use Rattle.region_rules.specs.FirstFaults.{IsFirstRegionFault}

-- the unit is the tree that the text spells, and it keeps the rules of types and regions
pub record IsProgram (text : List ℕ) (unit : SourceUnit) : Type 0 where
  pub spelled : SpellsUnit text unit
  pub well_typed : IsWellTyped unit
  pub regions : HasRegions unit

-- The text is refused with this number at this line, by the first pass that finds a fault.
pub data IsRefusedProgram (text : List ℕ) : (number line : ℕ) → Type 0 where
  -- it has no tokens
  by_scan : (fault : ScanFault) → IsFirstFault text (scanning.Fault fault) → IsRefusedProgram text (scan_rule_number fault.rule) fault.line
  -- its tokens form no tree
  by_parse : (tokens : List Token) (fault : ParseFault) → Spells text tokens
      → unit_at (lexemes text 1 tokens) ≡ Err (parsing.Fault fault)
      → IsRefusedProgram text (parse_rule_number fault.rule) fault.line
  -- a rule of types is broken
  by_types : (unit : SourceUnit) (rule : TypeRule) (line : ℕ) → SpellsUnit text unit
      → first_broken unit ≡ Some (line, rule) → IsRefusedProgram text (type_rule_number rule) line
  -- a rule of regions is broken
  by_regions : (unit : SourceUnit) (rule : RegionRule) (line : ℕ) → SpellsUnit text unit → IsWellTyped unit
      → IsFirstRegionFault rule line unit → IsRefusedProgram text (region_rule_number rule) line
