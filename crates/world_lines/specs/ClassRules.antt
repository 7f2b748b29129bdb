-- The rules on a line that ask the classes before it alone.
use Rattle.std.specs.Prelude.{Bool, true, ◌&&◌, Option, Some, None}
use Rattle.std.specs.List.{list_all}
use Rattle.base.specs.declared.element.ElementType.TheVariants.{Int as JInt}
use Rattle.class_rules.specs.declared.rule.ClassRule.{ClassRule}
use Rattle.class_rules.specs.Class.{FieldType, NumberField, ReferenceField, Classes}
use Rattle.classes.specs.Refusals.{first_broken}
use Rattle.world_values.specs.WorldLines.{WorldValue, WorldLine}
use Rattle.world_values.specs.WorldRules.{is_formed_value, is_well_formed, value_in_range, breaks_class_rule}
use Rattle.world_lines.specs.LineContents.{written_values}

-- the least rule on classes and fields that it breaks
abbrev pub broken_class_rule : Classes → WorldLine → Option ClassRule
broken_class_rule classes line = first_broken (λ rule. breaks_class_rule rule classes line)

abbrev pub is_formed : Classes → WorldLine → Bool
is_formed classes line = is_well_formed classes line && list_all is_formed_value (written_values line)

-- whether a number is in the range of its place's type; an argument is in that of jint
abbrev pub is_place_in_range : Option FieldType → WorldValue → Bool
is_place_in_range (Some (NumberField t)) v = value_in_range t v
is_place_in_range (Some (ReferenceField c)) v = true
is_place_in_range None v = value_in_range JInt v
