use Rattle.std.proofs.Common.{ap, ◌∙◌, true, false}
use Rattle.std.specs.List.{list_all}
use Rattle.world_lines.specs.LineViews.{value_view}
use Rattle.world.specs.Gathered.{is_known}
use Rattle.world.proofs.PlacesOfValues.{next_passes, all_passed}
use Rattle.world.proofs.rules.has_known_values.Goals as goal

pub loop-value-init : goal.loop-value-init
loop-value-init c = ap (list_all (is_known c.args.classes.now c.args.names.now)) c.values_of-values.ensures

pub returns-then-not-is_known : goal.returns-then-not-is_known
returns-then-not-is_known c =
    next_passes (is_known c.args.classes.now c.args.names.now) value_view c.values_of-values.result.now c.loop-value.value-index _ false c.loop-value-test.true c.if-not-is_known.ensures ∙ c.loop-value.invariant

pub loop-value-preserved : goal.loop-value-preserved
loop-value-preserved c =
    next_passes (is_known c.args.classes.now c.args.names.now) value_view c.values_of-values.result.now c.loop-value.value-index _ true c.loop-value-test.true c.if-not-is_known.ensures ∙ c.loop-value.invariant

pub returns : goal.returns
returns c = all_passed (is_known c.args.classes.now c.args.names.now) value_view c.values_of-values.result.now c.loop-value.value-index c.loop-value-test.false ∙ c.loop-value.invariant
