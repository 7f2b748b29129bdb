use Rattle.std.proofs.Common.{◌∙◌, true, false}
use Rattle.classes.specs.Views.{field_type_view}
use Rattle.world_lines.specs.LineViews.{value_view}
use Rattle.world.specs.Gathered.{can_hold}
use Rattle.world.proofs.PlacesOfValues.{next_passes, all_passed}
use Rattle.world.proofs.rules.all_can_hold.Goals as goal

pub returns-then-not-can_hold : goal.returns-then-not-can_hold
returns-then-not-can_hold c =
    next_passes (can_hold c.args.classes.now c.args.names.now (field_type_view c.args.field_type)) value_view c.args.values.now c.loop-value.value-index _ false c.loop-value-test.true c.if-not-can_hold.ensures ∙ c.loop-value.invariant

pub loop-value-preserved : goal.loop-value-preserved
loop-value-preserved c =
    next_passes (can_hold c.args.classes.now c.args.names.now (field_type_view c.args.field_type)) value_view c.args.values.now c.loop-value.value-index _ true c.loop-value-test.true c.if-not-can_hold.ensures ∙ c.loop-value.invariant

pub returns : goal.returns
returns c =
    all_passed (can_hold c.args.classes.now c.args.names.now (field_type_view c.args.field_type)) value_view c.args.values.now c.loop-value.value-index c.loop-value-test.false ∙ c.loop-value.invariant
