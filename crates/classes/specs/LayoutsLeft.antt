-- What is left of a walk along a layout.
use Rattle.std.specs.Prelude.{List, ◌++◌, drop, flat_map, reverse}
use Rattle.classes.specs.declared.layout_fields.Position.{Position}
use Rattle.class_rules.specs.Class.{Classes}
use Rattle.class_rules.specs.Fields.{FieldId, own_fields}

-- the fields from a position on: the others of its class, and then those of the classes below
abbrev pub rest_from : Classes → Position → List FieldId
rest_from classes p = drop p.place (own_fields classes p.class.number) ++ flat_map (own_fields classes) (reverse p.below)
