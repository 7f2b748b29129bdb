use Rattle.std.proofs.Common.{length, sym, ap, ◌∙◌, arith}
use Rattle.class_rules.specs.Fields.{layout, same_field}
use Rattle.classes.specs.FieldViews.{field_id_view}
use Rattle.classes.proofs.Walks.{comes, comes_next}
use Rattle.replay_arguments.specs.Actuals.{given_field}
use Rattle.replay_arguments.proofs.FieldLemmas.{none_more, place_found, place_missing}
use Rattle.replay_arguments.proofs.field.searched_field_place.Goals as goal

pub unwrap-other-requires : goal.unwrap-other-requires
unwrap-other-requires c =
    let fields = layout c.args.classes.now c.args.class.number in
    comes c.next.result field_id_view fields c.loop-place.fields c.next.new.self c.loop-place.place c.next.ensures c.loop-place.invariant.left (omega (arith, c.len-count.ensures.len, ap length c.of-fields.ensures, c.loop-place-test.true))

pub returns-then-is_field : goal.returns-then-is_field
returns-then-is_field c =
    let fields = layout c.args.classes.now c.args.class.number in
    let next = comes_next c.next.result field_id_view fields c.loop-place.fields c.next.new.self c.loop-place.place c.unwrap-other.result c.next.ensures c.loop-place.invariant.left c.unwrap-other.ensures in
    place_found (same_field (given_field c.args.field)) fields c.loop-place.place (field_id_view c.unwrap-other.result) next.0 (sym c.is_field.ensures ∙ c.if-is_field.true) c.loop-place.invariant.none

pub loop-place-preserved : goal.loop-place-preserved
loop-place-preserved c =
    let fields = layout c.args.classes.now c.args.class.number in
    let next = comes_next c.next.result field_id_view fields c.loop-place.fields c.next.new.self c.loop-place.place c.unwrap-other.result c.next.ensures c.loop-place.invariant.left c.unwrap-other.ensures in
    record {
      none = none_more (same_field (given_field c.args.field)) fields c.loop-place.place (field_id_view c.unwrap-other.result) next.0 (sym c.is_field.ensures ∙ c.if-is_field.false) c.loop-place.invariant.none;
      left = next.1;
    }

pub returns : goal.returns
returns c =
    let fields = layout c.args.classes.now c.args.class.number in
    place_missing (same_field (given_field c.args.field)) fields (λ i y low there. c.loop-place.invariant.none i y (omega (arith, low, c.len-count.ensures.len, ap length c.of-fields.ensures, c.loop-place-test.false)) there)
