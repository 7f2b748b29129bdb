-- The rules that a line breaks, as they are held in memory.
use Rattle.std.specs.Prelude.{ℕ}
use Rattle.class_rules.specs.declared.rule.ClassRule.TheVariants.{NameTaken, BadSuperclass, BadSignature, TooMany}
use Rattle.world_schedules.specs.declared.fault.Rule.{Rule}
use Rattle.world_schedules.specs.declared.fault.Rule.TheVariants as held
use Rattle.world_schedules.specs.LineRules.{LineRule, OfClass, LineForm, WrongName, OutOfLimit, HeapFull, line_rule_number}

-- the rule
abbrev pub rule_of : Rule → LineRule
rule_of held.NameTaken = OfClass NameTaken
rule_of held.Superclass = OfClass BadSuperclass
rule_of held.Signature = OfClass BadSignature
rule_of held.Classes = OfClass TooMany
rule_of held.Form = LineForm
rule_of held.Name = WrongName
rule_of held.Limit = OutOfLimit
rule_of held.Heap = HeapFull

-- its number
abbrev pub rule_number : Rule → ℕ
rule_number rule = line_rule_number (rule_of rule)
