use Rattle.std.proofs.Common.{ap, ◌∙◌, map}
use Rattle.std.specs.List.{list_all}
use Rattle.base.specs.declared.element.ElementType.TheVariants.{Int as JInt}
use Rattle.world.specs.GatheredViews.{gathered_of}
use Rattle.world_lines.specs.LineViews.{value_view}
use Rattle.world_values.specs.WorldLines.{ArrayLine}
use Rattle.world_values.specs.WorldRules.{value_in_range}
use Rattle.world.proofs.KeptRules.{keeps, all_in_jint}
use Rattle.world.proofs.builder.WorldBuilder.take_array.Goals as goal

pub put_values-requires-clause-numbers : goal.put_values-requires-clause-numbers
put_values-requires-clause-numbers c =
    let k = keeps (gathered_of c.args.self.now) (ArrayLine c.args.array.now.name.now c.args.array.now.element (map value_view c.args.array.now.values.items)) c.requires in
    ap (λ values. list_all (value_in_range JInt) (map value_view values)) c.deref.ensures.value
    ∙ all_in_jint c.args.self.now.classes c.args.self.now.names _ (map value_view c.args.array.now.values.items) k.held k.ranged
