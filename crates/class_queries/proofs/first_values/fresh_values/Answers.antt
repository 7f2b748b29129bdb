use Rattle.std.proofs.Common.{◌++◌, map, ap, ◌∙◌}
use Rattle.class_rules.specs.Fields.{FieldId, layout}
use Rattle.classes.specs.FieldViews.{field_id_view}
use Rattle.classes.proofs.Walks.{made_more, made_all}
use Rattle.semantics.specs.World.{initial}
use Rattle.world_values.specs.Views.{object_value_view}
use Rattle.class_queries.proofs.first_values.fresh_values.Goals as goal

pub loop-id-preserved : goal.loop-id-preserved
loop-id-preserved c =
    let id = field_id_view c.in-Some.id in
    let whole = map (λ (f : FieldId). initial f.field.type) (layout c.args.classes.now c.args.class.number) in
    ap (λ vs. map object_value_view vs ++ map (λ (f : FieldId). initial f.field.type) c.next.new.self) c.in_ok-push.ensures.items
    ∙ made_more object_value_view (λ (f : FieldId). initial f.field.type) c.loop-id.values.items c.initial.result c.loop-id.fields c.next.new.self id whole c.in-Some.ensures c.initial.ensures c.loop-id.invariant

pub returns-clause-values : goal.returns-clause-values
returns-clause-values c = made_all (λ (f : FieldId). initial f.field.type) (map object_value_view c.loop-id.values.items) c.loop-id.fields (map (λ (f : FieldId). initial f.field.type) (layout c.args.classes.now c.args.class.number)) c.in_default.ensures.0 c.loop-id.invariant
