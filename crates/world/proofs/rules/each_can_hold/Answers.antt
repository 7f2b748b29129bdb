use Rattle.std.proofs.Common.{sym, ap, ◌∙◌, map}
use Rattle.class_rules.specs.Class.{NumberField, ReferenceField}
use Rattle.world_lines.specs.declared.line.Line.{Line}
use Rattle.world.specs.Gathered.{each_can_hold}
use Rattle.world_lines.specs.LineContents.{written_values}
use Rattle.world_lines.specs.LineViews.{value_view, line_view}
use Rattle.world_values.specs.WorldRules.{types_of_line}
use Rattle.world.proofs.PlacesOfValues.{held_alike}
use Rattle.world.proofs.rules.each_can_hold.Goals as goal

pub returns-in-Objects : goal.returns-in-Objects
returns-in-Objects c =
    let classes = c.args.classes.now in
    let names = c.args.names.now in
    let values = c.in-Objects.object.values.items in
    c.all_can_hold.ensures
    ∙ held_alike classes names value_view (ReferenceField c.class_number-class-in-Objects.result.number) values c.deref-in-Objects.result.now c.deref-in-Objects.ensures.value
    ∙ ap (λ n. each_can_hold classes names (map (λ v. ReferenceField n) (map value_view values)) (map value_view values)) c.class_number-class-in-Objects.ensures
    ∙ ap (λ (l : Line). each_can_hold classes names (types_of_line classes (line_view l)) (written_values (line_view l))) (sym c.in-Objects.is)

pub returns-in-Array : goal.returns-in-Array
returns-in-Array c =
    let classes = c.args.classes.now in
    let names = c.args.names.now in
    c.all_can_hold-in-Array.ensures
    ∙ held_alike classes names value_view (NumberField c.in-Array.array.element) c.in-Array.array.values.items c.deref-in-Array.result.now c.deref-in-Array.ensures.value
    ∙ ap (λ (l : Line). each_can_hold classes names (types_of_line classes (line_view l)) (written_values (line_view l))) (sym c.in-Array.is)
