use Rattle.std.proofs.Common.{◌≡◌, drop}
use Rattle.class_rules.specs.Fields.{layout, same_field}
use Rattle.replay_arguments.specs.Actuals.{given_field}
use Rattle.replay_arguments.proofs.FieldLemmas.{NonePasses}
use Rattle.replay_arguments.proofs.field.searched_field_place.Given as goal

abbrev pub invariant-loop-place : goal.invariant-loop-place
invariant-loop-place l = record {
  none : NonePasses (same_field (given_field l.field)) (layout l.classes l.fn.class.number) l.place;
  left : drop l.place (layout l.classes l.fn.class.number) ≡ l.fields;
}
