use Rattle.std.proofs.Common.{sym, ap, ◌∙◌, drop, map, ◌+◌}
use Rattle.std.specs.Prelude.{◌&&◌}
use Rattle.world_lines.specs.LineViews.{value_view}
use Rattle.world_values.specs.WorldRules.{each_in_range}
use Rattle.world_lines.proofs.NumbersInRange.{types_of, in_range_more, all_in_range}
use Rattle.world_lines.proofs.rules.fields_in_range.Goals as goal

pub returns-then-not-is_place_in_range : goal.returns-then-not-is_place_in_range
returns-then-not-is_place_in_range c =
    let rest = each_in_range (types_of (drop 1 c.loop-value.fields)) (map value_view (drop (c.loop-value.value-index + 1) c.args.values.now)) in
    ap (λ b. b && rest) c.if-not-is_place_in_range.ensures
    ∙ sym (in_range_more value_view c.loop-value.fields c.args.values.now c.loop-value.value-index _ _ c.next_type.ensures.first c.loop-value-test.true)
    ∙ c.loop-value.invariant

pub loop-value-preserved : goal.loop-value-preserved
loop-value-preserved c =
    let rest = each_in_range (types_of (drop 1 c.loop-value.fields)) (map value_view (drop (c.loop-value.value-index + 1) c.args.values.now)) in
    ap (λ fs. each_in_range (types_of fs) (map value_view (drop (c.loop-value.value-index + 1) c.args.values.now))) c.next_type.ensures.rest
    ∙ ap (λ b. b && rest) c.if-not-is_place_in_range.ensures
    ∙ sym (in_range_more value_view c.loop-value.fields c.args.values.now c.loop-value.value-index _ _ c.next_type.ensures.first c.loop-value-test.true)
    ∙ c.loop-value.invariant

pub returns : goal.returns
returns c =
    sym (all_in_range value_view c.loop-value.fields c.args.values.now c.loop-value.value-index c.loop-value-test.false)
    ∙ c.loop-value.invariant
