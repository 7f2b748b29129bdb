use Rattle.std.proofs.Common.{sym, ap, ◌∙◌, drop, map, ◌+◌}
use Rattle.std.specs.Prelude.{◌&&◌}
use Rattle.class_rules.specs.Fields.{FieldId}
use Rattle.classes.specs.FieldViews.{field_id_view}
use Rattle.world.specs.Gathered.{each_can_hold}
use Rattle.world_lines.specs.LineViews.{value_view}
use Rattle.world.proofs.PlacesOfValues.{from_here, held_more, no_place, all_held}
use Rattle.world.proofs.rules.fields_can_hold.Goals as goal

pub returns-in-None : goal.returns-in-None
returns-in-None c =
    let T = c.args.classes.now in
    sym (no_place T c.args.names.now value_view c.args.values.now c.loop-value.value-index)
    ∙ ap (from_here T c.args.names.now value_view c.args.values.now c.loop-value.value-index) (sym c.in-None.ensures.0)
    ∙ c.loop-value.invariant

pub returns-then-not-can_hold : goal.returns-then-not-can_hold
returns-then-not-can_hold c =
    let T = c.args.classes.now in
    let field = field_id_view c.in-Some.id in
    let rest = each_can_hold T c.args.names.now (map (λ (f : FieldId). f.field.type) c.next.new.self) (map value_view (drop (c.loop-value.value-index + 1) c.args.values.now)) in
    ap (λ b. b && rest) c.if-not-can_hold.ensures
    ∙ sym (held_more T c.args.names.now value_view c.args.values.now c.loop-value.value-index field c.next.new.self _ c.loop-value-test.true)
    ∙ ap (from_here T c.args.names.now value_view c.args.values.now c.loop-value.value-index) (sym c.in-Some.ensures)
    ∙ c.loop-value.invariant

pub loop-value-preserved : goal.loop-value-preserved
loop-value-preserved c =
    let T = c.args.classes.now in
    let field = field_id_view c.in-Some.id in
    let rest = each_can_hold T c.args.names.now (map (λ (f : FieldId). f.field.type) c.next.new.self) (map value_view (drop (c.loop-value.value-index + 1) c.args.values.now)) in
    ap (λ b. b && rest) c.if-not-can_hold.ensures
    ∙ sym (held_more T c.args.names.now value_view c.args.values.now c.loop-value.value-index field c.next.new.self _ c.loop-value-test.true)
    ∙ ap (from_here T c.args.names.now value_view c.args.values.now c.loop-value.value-index) (sym c.in-Some.ensures)
    ∙ c.loop-value.invariant

pub returns : goal.returns
returns c =
    sym (all_held c.args.classes.now c.args.names.now value_view c.args.values.now c.loop-value.value-index c.loop-value.fields c.loop-value-test.false)
    ∙ c.loop-value.invariant
