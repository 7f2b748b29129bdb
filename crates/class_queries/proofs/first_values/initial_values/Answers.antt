use Rattle.std.proofs.Common.{◌≡◌, ◌≤◌, length, map, sym, ap, ◌∙◌, arith}
use Rattle.std.specs.Prelude.{slice_get, Some}
use Rattle.std.specs.Option.{option_map}
use Rattle.class_rules.specs.Class.{Field}
use Rattle.classes.specs.Views.{field_view}
use Rattle.semantics.specs.World.{initial}
use Rattle.world_values.specs.Views.{object_value_view}
use Rattle.class_queries.proofs.MadeLists.{mapped_more, mapped_all}
use Rattle.class_queries.proofs.first_values.initial_values.Goals as goal

pub loop-place-preserved : goal.loop-place-preserved
loop-place-preserved c =
    let fields = c.args.fields.now in
    let field = c.unwrap-field.result in
    let at : slice_get fields c.loop-place.place ≡ Some (field_view field) = sym c.get.ensures ∙ ap (option_map field_view) c.unwrap-field.ensures in
    ap (map object_value_view) c.in_ok-push.ensures.items
    ∙ mapped_more object_value_view (λ (f : Field). initial f.type) c.loop-place.values.items c.initial.result fields c.loop-place.place (field_view field) at c.initial.ensures c.loop-place.invariant

pub returns : goal.returns
returns c =
    let fields = c.args.fields.now in
    let past : length fields ≤ c.loop-place.place = omega (arith, c.len-place-end.ensures, c.loop-place-test.false) in
    mapped_all (λ (f : Field). initial f.type) (map object_value_view c.loop-place.values.items) fields c.loop-place.place past c.loop-place.invariant
