-- All faults of a unit that are told, and not only the first.
use Rattle.std.specs.Prelude.{ℕ, List, take, flat_map}
use Rattle.syntax.specs.Tree.{SourceUnit}
use Rattle.type_rules.specs.declared.rule.TypeRule.{TypeRule}
use Rattle.type_rules.specs.TypeRules.{Place, broken_at, places}

-- of a place at which rules are broken the one of the least number
abbrev pub told_at : Place → List (ℕ × TypeRule)
told_at place = take 1 (broken_at place)

-- those of all places, in text order
abbrev pub typing_faults : SourceUnit → List (ℕ × TypeRule)
typing_faults unit = flat_map told_at (places unit)
