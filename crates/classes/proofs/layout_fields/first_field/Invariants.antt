use Rattle.std.proofs.Common.{◌≡◌, ◌≤◌, length}
use Rattle.classes.specs.LayoutsLeft.{rest_from}
use Rattle.classes.proofs.layout_fields.first_field.Given as goal

abbrev pub invariant-loop-field : goal.invariant-loop-field
invariant-loop-field l = record {
  rest : rest_from l.classes l.position ≡ rest_from l.classes l.initial.position;
  place : l.position.place ≤ l.initial.position.place;
}

abbrev pub decreases-loop-field : goal.decreases-loop-field
decreases-loop-field l = length l.position.below
