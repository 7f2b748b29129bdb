-- The errors of the passes over a program text, as errors of that text.
use Rattle.scan.specs.declared.fault.ScanError.{ScanError}
use Rattle.scan.specs.declared.fault.ScanError.TheVariants as scanning
use Rattle.scan.specs.Faults.{scan_rule_number}
use Rattle.parse_lexemes.specs.declared.fault.ParseError.{ParseError}
use Rattle.parse_lexemes.specs.declared.fault.ParseError.TheVariants as parsing
use Rattle.parse_lexemes.specs.Faults.{parse_rule_number}
use Rattle.types.specs.declared.fault.TypeError.{TypeError}
use Rattle.types.specs.declared.fault.TypeError.TheVariants as typing
use Rattle.type_rules.specs.TypeRules.{type_rule_number}
use Rattle.regions.specs.declared.fault.CheckError.{CheckError}
use Rattle.regions.specs.declared.fault.CheckError.TheVariants as region_checking
use Rattle.region_rules.specs.RegionRules.{region_rule_number}
use Rattle.places.specs.declared.place.Place.TheVariants.{Line}
use Rattle.program_check.specs.declared.fault.RunError.{RunError}
use Rattle.program_check.specs.declared.fault.RunError.TheVariants.{Memory, Fault}
use Rattle.places.specs.declared.place.Text.TheVariants as which

abbrev pub of_scan : ScanError → RunError
of_scan scanning.Memory = Memory
of_scan (scanning.Fault fault) = Fault (scan_rule_number fault.rule) (Line which.Program fault.line)

abbrev pub of_parse : ParseError → RunError
of_parse parsing.Memory = Memory
of_parse (parsing.Fault fault) = Fault (parse_rule_number fault.rule) (Line which.Program fault.line)

abbrev pub of_types : TypeError → RunError
of_types typing.Memory = Memory
of_types (typing.Fault fault) = Fault (type_rule_number fault.rule) (Line which.Program fault.line)

abbrev pub of_regions : CheckError → RunError
of_regions region_checking.Memory = Memory
of_regions (region_checking.Fault fault) = Fault (region_rule_number fault.rule) (Line which.Program fault.line)

-- a function is too long, which has no line
abbrev pub too_long : RunError
too_long = Fault 51 (Line which.Program 0)
