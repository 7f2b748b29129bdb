use Rattle.std.proofs.Common.{map, ap, ◌∙◌, pos}
use Rattle.std.proofs.lemmas.List.{map-append, take_all}
use Rattle.base.specs.declared.element.ElementType.TheVariants.{Int as JInt}
use Rattle.world_lines.specs.declared.value.Value.TheVariants.{Number}
use Rattle.world.specs.Gathered.{value_at}
use Rattle.world_lines.specs.LineViews.{value_view}
use Rattle.world_values.specs.Views.{object_value_view}
use Rattle.world_values.specs.WorldRules.{value_in_range}
use Rattle.world.proofs.ValuesInMemory.{each_passes, map_more}
use Rattle.world.proofs.builder.WorldBuilder.values_at.Goals as goal

pub value_at-requires : goal.value_at-requires
value_at-requires c = each_passes (value_in_range JInt) value_view c.args.values.now c.loop-value.value-index (Number (pos 0)) c.loop-value-test.true c.requires

pub loop-value-init : goal.loop-value-init
loop-value-init c = ap (map object_value_view) c.new-held.ensures.items

pub loop-value-preserved : goal.loop-value-preserved
loop-value-preserved c =
    ap (map object_value_view) c.in_ok-push.ensures.items
    ∙ map-append object_value_view c.loop-value.held.items _
    ∙ map_more (value_at c.args.self.now.classes c.args.self.now.names) value_view c.args.values.now c.loop-value.value-index (Number (pos 0)) (map object_value_view c.loop-value.held.items) (object_value_view c.value_at.result) c.loop-value-test.true
    c.loop-value.invariant c.value_at.ensures

pub returns : goal.returns
returns c = c.loop-value.invariant ∙ ap (λ values. map (value_at c.args.self.now.classes c.args.self.now.names) (map value_view values)) (take_all c.loop-value.value-index c.args.values.now c.loop-value-test.false)
