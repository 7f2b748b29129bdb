use Rattle.std.proofs.Common.{◌≡◌, ℕ, List, Option, OnOk, unwrap_or, length, subst, ap, ◌∙◌, map, arith}
use Rattle.std.specs.List.{list_all}
use Rattle.std.proofs.Math.ListN.{length-map}
use Rattle.base.specs.declared.element.ElementType.TheVariants.{Int as JInt}
use Rattle.world_lines.specs.declared.value.Value.{Value}
use Rattle.world.specs.Gathered.{value_at, with_object}
use Rattle.world.specs.GatheredViews.{gathered_of}
use Rattle.world_lines.specs.LineViews.{value_view}
use Rattle.world_values.specs.WorldLines.{ObjectsLine}
use Rattle.world_values.specs.WorldRules.{value_in_range}
use Rattle.class_rules.specs.declared.class_id.ClassId.{ClassId}
use Rattle.class_rules.specs.ClassIds.{class_id}
use Rattle.class_rules.proofs.ClassIds.{number_or}
use Rattle.world.proofs.KeptRules.{keeps, all_in_jint}
use Rattle.world.proofs.builder.WorldBuilder.take_objects.Goals as goal

pub put_values-requires-clause-room : goal.put_values-requires-clause-room
put_values-requires-clause-room c =
    let k = keeps (gathered_of c.args.self.now) (ObjectsLine c.args.object.now.name.now c.args.object.now.class.now (map value_view c.args.object.now.values.items)) c.requires in
    omega (arith, k.room, length-map c.args.object.now.values.items value_view, ap length c.deref.ensures.value)

pub put_values-requires-clause-numbers : goal.put_values-requires-clause-numbers
put_values-requires-clause-numbers c =
    let k = keeps (gathered_of c.args.self.now) (ObjectsLine c.args.object.now.name.now c.args.object.now.class.now (map value_view c.args.object.now.values.items)) c.requires in
    ap (λ values. list_all (value_in_range JInt) (map value_view values)) c.deref.ensures.value
    ∙ all_in_jint c.args.self.now.classes c.args.self.now.names _ (map value_view c.args.object.now.values.items) k.held k.ranged

pub returns : goal.returns
returns c =
    let g = gathered_of c.args.self.now in
    let held = map (value_at g.classes g.names) in
    let class = ap (λ (k : ClassId). k.number) c.unwrap_or-class.ensures ∙ number_or c.in_ok-find_array_of.field-0 (class_id 0) ∙ ap (λ (o : Option ℕ). unwrap_or o 0) c.in_ok-find_array_of.ensures in
    subst (λ (k : ℕ). OnOk c.put_values.result (gathered_of c.put_values.new.self ≡ with_object g c.args.object.now.name.now k (held (map value_view c.args.object.now.values.items)))) class
    (subst (λ (values : List Value). OnOk c.put_values.result (gathered_of c.put_values.new.self ≡ with_object g c.args.object.now.name.now c.unwrap_or-class.result.number (held (map value_view values)))) c.deref.ensures.value c.put_values.ensures)
