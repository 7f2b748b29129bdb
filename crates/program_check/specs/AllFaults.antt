-- Which faults of a program text are told together.
use Rattle.std.specs.Prelude.{◌≡◌, ℕ, List, [], ◌∷◌, map, Err}
use Rattle.syntax.specs.Tree.{SourceUnit}
use Rattle.scan.specs.declared.token.Token.{Token}
use Rattle.scan.specs.declared.fault.ScanError.TheVariants as scanning
use Rattle.scan.specs.Spelling.{Spells}
use Rattle.scan.specs.Faults.{ScanFault, IsFirstFault, scan_rule_number}
use Rattle.parse_lexemes.specs.declared.fault.ParseError.TheVariants as parsing
use Rattle.parse_lexemes.specs.Faults.{ParseFault, parse_rule_number}
use Rattle.parse_lexemes.specs.Lexemes.{lexemes}
use Rattle.parse.specs.Reading.{unit_at}
use Rattle.parse.specs.Spelling.{SpellsUnit}
use Rattle.type_rules.specs.declared.rule.TypeRule.{TypeRule}
use Rattle.type_rules.specs.TypeRules.{type_rule_number, IsWellTyped, BreaksTypeRule}
use Rattle.types.specs.AllFaults.{typing_faults}
use Rattle.region_rules.specs.declared.rule.RegionRule.{RegionRule}
use Rattle.region_rules.specs.RegionRules.{region_rule_number}
use Rattle.region_rules.specs.Regions.{HasRegions, BreaksRegionRule}
use Rattle.regions.specs.AllFaults.{AreRegionFaults}
use Rattle.code_meaning.specs.Length.{IsTooLong}
use Rattle.places.specs.declared.place.Place.{Place}
use Rattle.places.specs.declared.place.Place.TheVariants.{Line}
use Rattle.places.specs.declared.place.Text.TheVariants as which
use Rattle.program_check.specs.declared.fault.RunError.{RunError}
use Rattle.program_check.specs.declared.fault.RunError.TheVariants.{Memory, Fault, Writer}
use Rattle.program_check.specs.declared.faults.ToldFault as told
use Rattle.program_check.specs.Checks.{PassesCheck}
use Rattle.program_check.specs.Programs.{IsProgram}

-- the number of a fault and its place
abbrev pub Entry : Type 0
Entry = ℕ × Place

-- at a line of the program
abbrev pub on_line : (number line : ℕ) → Entry
on_line number line = (number, Line which.Program line)

abbrev pub of_type_rule : ℕ × TypeRule → Entry
of_type_rule f = on_line (type_rule_number f.1) f.0

abbrev pub of_region : ℕ × RegionRule → Entry
of_region f = on_line (region_rule_number f.1) f.0

-- the faults that are told of a text: the first pass that finds one decides
pub data AreFaults (text : List ℕ) : List Entry → Type 0 where
  -- none, where the check passes it
  in_none : PassesCheck text → AreFaults text []
  -- the first of its tokens
  in_tokens : (fault : ScanFault) → IsFirstFault text (scanning.Fault fault) → AreFaults text (on_line (scan_rule_number fault.rule) fault.line ∷ [])
  -- the first of the grammar
  in_grammar : (tokens : List Token) (fault : ParseFault) → Spells text tokens → unit_at (lexemes text 1 tokens) ≡ Err (parsing.Fault fault)
      → AreFaults text (on_line (parse_rule_number fault.rule) fault.line ∷ [])
  -- of each place the one of the least number
  in_types : (unit : SourceUnit) → SpellsUnit text unit → (IsWellTyped unit → ⊥) → AreFaults text (map of_type_rule (typing_faults unit))
  -- of each function the first
  in_regions : (unit : SourceUnit) (faults : List (ℕ × RegionRule)) → SpellsUnit text unit → IsWellTyped unit → (HasRegions unit → ⊥) → AreRegionFaults unit faults
      → AreFaults text (map of_region faults)
  -- that a function is too long, which has no line
  in_length : (unit : SourceUnit) → IsProgram text unit → IsTooLong unit → AreFaults text (on_line 51 0 ∷ [])

-- a rule that has this number is broken at this place of the text
pub data BreaksAt (text : List ℕ) : (number : ℕ) → Place → Type 0 where
  at_token : (fault : ScanFault) → IsFirstFault text (scanning.Fault fault) → BreaksAt text (scan_rule_number fault.rule) (Line which.Program fault.line)
  at_lexeme : (tokens : List Token) (fault : ParseFault) → Spells text tokens → unit_at (lexemes text 1 tokens) ≡ Err (parsing.Fault fault)
      → BreaksAt text (parse_rule_number fault.rule) (Line which.Program fault.line)
  of_type_rules : (unit : SourceUnit) (rule : TypeRule) (line : ℕ) → SpellsUnit text unit → BreaksTypeRule rule line unit
      → BreaksAt text (type_rule_number rule) (Line which.Program line)
  of_regions : (unit : SourceUnit) (rule : RegionRule) (line : ℕ) → SpellsUnit text unit → IsWellTyped unit → BreaksRegionRule rule line unit
      → BreaksAt text (region_rule_number rule) (Line which.Program line)
  of_length : (unit : SourceUnit) → IsProgram text unit → IsTooLong unit → BreaksAt text 51 (Line which.Program 0)

-- ---- faults in memory

abbrev pub ToldFault : Type 0
ToldFault = told.ToldFault

-- its number and its place
abbrev pub entry_of : ToldFault → Entry
entry_of f = (f.number, f.place)

-- the fault of an error is the only one
abbrev pub IsAlone : RunError → List Entry → Type 0
IsAlone Memory faults = ⊥
IsAlone (Fault number place) faults = faults ≡ (number, place) ∷ []
IsAlone Writer faults = ⊥
