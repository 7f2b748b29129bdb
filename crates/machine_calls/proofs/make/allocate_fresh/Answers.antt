use Rattle.std.proofs.Common.{◌≡◌, ℕ, suc, ◌+◌, List, length, Option, Some, refl, sym, ap, ◌∙◌, arith}
use Rattle.std.specs.Prelude.{slice_get}
use Rattle.std.specs.Option.{option_map}
use Rattle.std.proofs.lemmas.List.{length-map}
use Rattle.std.proofs.lemmas.Option.{slice_get-map}
use Rattle.class_rules.specs.Class.{Classes, FieldType, NumberField, ReferenceField}
use Rattle.class_rules.specs.Fields.{FieldId, layout}
use Rattle.classes.specs.FieldViews.{field_id_view}
use Rattle.classes.specs.Views.{field_type_view}
use Rattle.classes.proofs.Walks.{comes, comes_next}
use Rattle.heap.specs.declared.value.Value.{Value}
use Rattle.heap.specs.declared.value.Value.TheVariants.{Null, Block as Refers}
use Rattle.heap.specs.Marks.{Marks, noted_in}
use Rattle.heap.specs.Heap.{Space, end_of, fresh_block, with_block, with_value, values_at}
use Rattle.machine_calls.specs.Made.{next_block}
use Rattle.machine_scenes.specs.NewObjects.{initial_value, initial_values}
use Rattle.machine_scenes.proofs.FilledBlocks.{cells_all, filled_block, filled_fresh, filled_within, filled_more, marking_with}
use Rattle.machine_calls.proofs.make.allocate_fresh.Goals as goal

-- a zero or null field refers to nothing
no_reference : (type : FieldType) (a : ℕ) → initial_value type ≡ Refers a → ⊥
no_reference (NumberField t) a e = cc
no_reference (ReferenceField c) a e = cc

-- so that nothing is noted
quiet : (o : Option Marks) (v : Value) (type : FieldType) → v ≡ initial_value type → noted_in v o ≡ o
quiet o v type is = ap (λ (x : Value). noted_in x o) is ∙ of_type type
  where
    of_type : (type : FieldType) → noted_in (initial_value type) o ≡ o
    of_type (NumberField t) = refl
    of_type (ReferenceField c) = refl

-- the value of a place
value_at : (classes : Classes) (class i : ℕ) (f : FieldId) (v : Value) → slice_get (layout classes class) i ≡ Some f → v ≡ initial_value f.field.type → slice_get (initial_values classes class) i ≡ Some v
value_at classes class i f v at is =
    slice_get-map (λ (x : FieldId). initial_value x.field.type) (layout classes class) i
    ∙ ap (option_map (λ (x : FieldId). initial_value x.field.type)) at
    ∙ ap (λ (x : Value). Some x) (sym is)

pub loop-place-init : goal.loop-place-init
loop-place-init c =
    let s = c.args.heap.now in
    let values = initial_values c.args.classes.now c.args.class.number in
    let long : c.len-count.result ≡ length values = c.len-count.ensures.len ∙ ap (λ (fs : List FieldId). length fs) c.of-fields.ensures ∙ sym (length-map (layout c.args.classes.now c.args.class.number) (λ (x : FieldId). initial_value x.field.type)) in
    record {
      filled =
          c.in-Ok.ensures.block
          ∙ ap (λ (a : ℕ). with_block s (fresh_block a c.args.class.number c.args.birth c.len-count.result Null)) c.in-Ok.ensures.address
          ∙ filled_fresh s c.args.class.number c.args.birth c.len-count.result values long;
      left = sym c.of-fields.ensures;
    }

pub unwrap-id-requires : goal.unwrap-id-requires
unwrap-id-requires c =
    comes c.next.result field_id_view (layout c.args.classes.now c.args.class.number) c.loop-place.fields c.next.new.self c.loop-place.place c.next.ensures c.loop-place.invariant.left
    (omega (arith, c.len-count.ensures.len, ap (λ (fs : List FieldId). length fs) c.of-fields.ensures, c.loop-place-test.true))

pub set-requires-clause-target : goal.set-requires-clause-target
set-requires-clause-target c under a e = absurd (no_reference (field_type_view c.unwrap-id.result.field.field_type) a (sym c.initial_value.ensures ∙ e))

pub set-requires-clause-place : goal.set-requires-clause-place
set-requires-clause-place c =
    let s = c.args.heap.now in
    let values = initial_values c.args.classes.now c.args.class.number in
    let there : length (values_at c.loop-place.heap c.in-Ok.addr) ≡ length values =
    ap (λ (a : ℕ). length (values_at c.loop-place.heap a)) c.in-Ok.ensures.address
    ∙ ap (λ (t : Space). length (values_at t (end_of s))) c.loop-place.invariant.filled
    ∙ filled_within s c.args.class.number c.args.birth values c.loop-place.place c.count.ensures.laid_out in
    let long : length values ≡ length (layout c.args.classes.now c.args.class.number) = length-map (layout c.args.classes.now c.args.class.number) (λ (x : FieldId). initial_value x.field.type) in
    omega (arith, c.loop-place-test.true, c.len-count.ensures.len, ap (λ (fs : List FieldId). length fs) c.of-fields.ensures)

pub loop-place-preserved : goal.loop-place-preserved
loop-place-preserved c =
    let s = c.args.heap.now in
    let i = c.loop-place.place in
    let birth = c.args.birth in
    let values = initial_values c.args.classes.now c.args.class.number in
    let came = comes_next c.next.result field_id_view (layout c.args.classes.now c.args.class.number) c.loop-place.fields c.next.new.self i c.unwrap-id.result c.next.ensures c.loop-place.invariant.left c.unwrap-id.ensures in
    let value = value_at c.args.classes.now c.args.class.number i (field_id_view c.unwrap-id.result) c.initial_value.result came.0 c.initial_value.ensures in
    let next : suc i ≡ i + 1 = omega arith in
    record {
      filled =
          c.set.ensures
          ∙ ap (λ (t : Space). with_value t c.in-Ok.addr i c.initial_value.result) c.loop-place.invariant.filled
          ∙ ap (λ (a : ℕ). with_value (with_block s (filled_block s c.args.class.number birth values i)) a i c.initial_value.result) c.in-Ok.ensures.address
          ∙ filled_more s c.args.class.number birth values i c.initial_value.result c.count.ensures.laid_out value (quiet (marking_with s) c.initial_value.result (field_type_view c.unwrap-id.result.field.field_type) c.initial_value.ensures)
          ∙ ap (λ (k : ℕ). with_block s (filled_block s c.args.class.number birth values k)) next;
      left = came.1;
    }

pub returns-after-loop-place : goal.returns-after-loop-place
returns-after-loop-place c =
    let s = c.args.heap.now in
    let values = initial_values c.args.classes.now c.args.class.number in
    let long : length values ≡ length (layout c.args.classes.now c.args.class.number) = length-map (layout c.args.classes.now c.args.class.number) (λ (x : FieldId). initial_value x.field.type) in
    let all : filled_block s c.args.class.number c.args.birth values c.loop-place.place ≡ next_block s c.args.class.number c.args.birth values =
    ap (λ (l : List Value). next_block s c.args.class.number c.args.birth l)
    (cells_all values c.loop-place.place (omega (arith, c.loop-place-test.false, c.len-count.ensures.len, ap (λ (fs : List FieldId). length fs) c.of-fields.ensures))) in (
      c.loop-place.invariant.filled ∙ ap (with_block s) all,
      omega (arith, c.in-Ok.ensures.room, c.len-count.ensures.len, ap (λ (fs : List FieldId). length fs) c.of-fields.ensures),
      c.in-Ok.ensures.address,
    )
