-- The fault of a pass is one that the text earns.
use Rattle.std.proofs.Common.{◌≡◌, List, ℕ, Some}
use Rattle.syntax.specs.Tree.{SourceUnit}
use Rattle.scan.specs.declared.token.Token.{Token}
use Rattle.scan.specs.declared.fault.ScanError.{ScanError}
use Rattle.scan.specs.declared.fault.ScanError.TheVariants as scanning
use Rattle.scan.specs.Spelling.{Spells}
use Rattle.scan.specs.Faults.{IsFirstFault}
use Rattle.parse_lexemes.specs.declared.fault.ParseError.{ParseError}
use Rattle.parse_lexemes.specs.declared.fault.ParseError.TheVariants as parsing
use Rattle.parse_lexemes.specs.Lexemes.{lexemes}
use Rattle.parse.specs.Reading.{unit_at}
use Rattle.parse_lexemes.specs.Results.{Fails}
use Rattle.parse.specs.Spelling.{SpellsUnit}
use Rattle.types.specs.declared.fault.TypeError.{TypeError}
use Rattle.types.specs.declared.fault.TypeError.TheVariants as typing
use Rattle.types.specs.Faults.{IfBroken, fault_of}
use Rattle.type_rules.specs.TypeRules.{IsWellTyped, first_broken}
use Rattle.regions.specs.declared.fault.CheckError.{CheckError}
use Rattle.regions.specs.declared.fault.CheckError.TheVariants as region_checking
use Rattle.region_rules.specs.FirstFaults.{IsFirstRegionFault}
use Rattle.regions.specs.Findings as findings
use Rattle.program_check.specs.Errors.{of_scan, of_parse, of_types, of_regions}
use Rattle.program_check.specs.Passes.{IsRefusal}
use Rattle.program_check.specs.Programs.{by_scan, by_parse, by_types, by_regions}

pub scan_refusal : (text : List ℕ) (f : ScanError) → IsFirstFault text f → IsRefusal text (of_scan f)
scan_refusal text scanning.Memory h = tt
scan_refusal text (scanning.Fault fault) h = by_scan fault h

pub parse_refusal : (text : List ℕ) (tokens : List Token) (f : ParseError) → Spells text tokens → Fails f (unit_at (lexemes text 1 tokens)) → IsRefusal text (of_parse f)
parse_refusal text tokens parsing.Memory s h = tt
parse_refusal text tokens (parsing.Fault fault) s h = by_parse tokens fault s h

pub types_refusal : (text : List ℕ) (unit : SourceUnit) (f : TypeError) → SpellsUnit text unit → IfBroken f (λ g. first_broken unit ≡ Some (fault_of g)) → IsRefusal text (of_types f)
types_refusal text unit typing.Memory s h = tt
types_refusal text unit (typing.Fault fault) s h = by_types unit fault.rule fault.line s h

pub regions_refusal : (text : List ℕ) (unit : SourceUnit) (f : CheckError) → SpellsUnit text unit → IsWellTyped unit → findings.IfBroken f (λ g. IsFirstRegionFault g.rule g.line unit) → IsRefusal text (of_regions f)
regions_refusal text unit region_checking.Memory s t h = tt
regions_refusal text unit (region_checking.Fault fault) s t h = by_regions unit fault.rule fault.line s t h
