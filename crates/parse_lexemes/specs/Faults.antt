-- Faults of tokens, and the numbers of the rules.
use Rattle.std.specs.Prelude.{ℕ}
use Rattle.places.specs.declared.fault.Fault.{Fault as FaultAt}
use Rattle.parse_lexemes.specs.declared.fault.ParseRule.{ParseRule}
use Rattle.parse_lexemes.specs.declared.fault.ParseRule.TheVariants.{NoForm, TooHigh, TooMany}
use Rattle.parse_lexemes.specs.declared.fault.ParseError.{ParseError}
use Rattle.parse_lexemes.specs.declared.fault.ParseError.TheVariants.{Fault}

-- a rule that tokens break, and the line
abbrev pub ParseFault : Type 0
ParseFault = FaultAt ParseRule ℕ

-- 11 to 13
abbrev pub parse_rule_number : ParseRule → ℕ
parse_rule_number NoForm = 11
parse_rule_number TooHigh = 12
parse_rule_number TooMany = 13

-- the rule is broken at this line
abbrev pub breaks : ParseRule → ℕ → ParseError
breaks rule line = Fault (record { rule = rule; line = line })
