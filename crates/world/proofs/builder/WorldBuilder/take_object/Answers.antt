use Rattle.std.proofs.Common.{ap, ◌+◌, ◌∙◌, map, length, arith}
use Rattle.std.specs.List.{list_all}
use Rattle.std.proofs.lemmas.Bool.{ltb-true}
use Rattle.std.proofs.lemmas.List.{length-map}
use Rattle.base.specs.declared.element.ElementType.TheVariants.{Int as JInt}
use Rattle.world.specs.GatheredViews.{gathered_of}
use Rattle.world_lines.specs.LineViews.{value_view}
use Rattle.world_values.specs.WorldLines.{ObjectLine}
use Rattle.world_values.specs.WorldRules.{value_in_range}
use Rattle.world.proofs.KeptRules.{keeps, all_in_jint}
use Rattle.world.proofs.builder.WorldBuilder.take_object.Goals as goal

pub put_values-requires-clause-few : goal.put_values-requires-clause-few
put_values-requires-clause-few c =
    let g = gathered_of c.args.self.now in
    let k = keeps g (ObjectLine c.args.object.now.name.now c.args.object.now.class.now (map value_view c.args.object.now.values.items)) c.requires in
    let few = ltb-true (length g.names + 1) 65537 k.place in
    omega (arith, few)

pub put_values-requires-clause-room : goal.put_values-requires-clause-room
put_values-requires-clause-room c =
    let k = keeps (gathered_of c.args.self.now) (ObjectLine c.args.object.now.name.now c.args.object.now.class.now (map value_view c.args.object.now.values.items)) c.requires in
    omega (arith, k.room, length-map c.args.object.now.values.items value_view, ap length c.deref.ensures.value)

pub put_values-requires-clause-numbers : goal.put_values-requires-clause-numbers
put_values-requires-clause-numbers c =
    let k = keeps (gathered_of c.args.self.now) (ObjectLine c.args.object.now.name.now c.args.object.now.class.now (map value_view c.args.object.now.values.items)) c.requires in
    ap (λ values. list_all (value_in_range JInt) (map value_view values)) c.deref.ensures.value
    ∙ all_in_jint c.args.self.now.classes c.args.self.now.names _ (map value_view c.args.object.now.values.items) k.held k.ranged
