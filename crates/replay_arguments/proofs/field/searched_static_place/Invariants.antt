use Rattle.class_rules.specs.Fields.{own_statics, same_field}
use Rattle.replay_arguments.specs.Actuals.{given_field}
use Rattle.replay_arguments.proofs.FieldLemmas.{NonePasses}
use Rattle.replay_arguments.proofs.field.searched_static_place.Given as goal

abbrev pub invariant-loop-place : goal.invariant-loop-place
invariant-loop-place l = NonePasses (same_field (given_field l.field)) (own_statics l.classes (given_field l.field).class) l.place
