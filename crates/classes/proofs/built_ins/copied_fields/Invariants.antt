use Rattle.std.proofs.Common.{◌≡◌, map, take}
use Rattle.classes.specs.BuiltInList.{listed_field}
use Rattle.classes.proofs.built_ins.copied_fields.Given as goal

abbrev pub invariant-loop-field : goal.invariant-loop-field
invariant-loop-field l = l.copies ≡ map listed_field (take l.field-index l.fields)
