-- Why a line of a text is refused.
use Rattle.std.specs.Prelude.{ℕ, List, ◌∷◌, []}
use Rattle.class_rules.specs.declared.rule.ClassRule.{ClassRule}
use Rattle.class_rules.specs.declared.rule.ClassRule.TheVariants.{NameTaken, BadSuperclass, BadSignature, TooMany}
use Rattle.class_rules.specs.Additions.{class_rule_number}

-- why a line is refused
pub data LineRule : Type 0 where
  OfClass : ClassRule → LineRule
  LineForm WrongName OutOfLimit HeapFull : LineRule

-- the rules in the order of their numbers
abbrev pub line_rules : List LineRule
line_rules = OfClass NameTaken ∷ OfClass BadSuperclass ∷ OfClass BadSignature ∷ OfClass TooMany ∷ LineForm ∷ WrongName ∷ OutOfLimit ∷ HeapFull ∷ []

-- the number of the fault
abbrev pub line_rule_number : LineRule → ℕ
line_rule_number (OfClass rule) = class_rule_number rule
line_rule_number LineForm = 81
line_rule_number WrongName = 82
line_rule_number OutOfLimit = 83
line_rule_number HeapFull = 84
