use Rattle.std.proofs.Common.{◌≡◌, ◌+◌, ◌++◌, List, length, map, take, drop, ap, ◌∙◌, arith}
use Rattle.std.specs.Vec.{with_items}
use Rattle.std.proofs.lemmas.List.{with_items_is}
use Rattle.class_rules.specs.declared.class_id.ClassId.{ClassId}
use Rattle.semantics.specs.CallEffects.{overwritten}
use Rattle.semantics.specs.Heap.{number_in}
use Rattle.semantics.specs.Object.{Object, ObjectValue, Number}
use Rattle.semantics.specs.Views.{object_value_view}
use Rattle.semantics.specs.declared.object_value.ObjectValue.{ObjectValue as InMemory}
use Rattle.replay_objects.proofs.NumberLemmas.{overwritten_marked, overwritten_values}
use Rattle.replay_objects.proofs.store.overwrite.Goals.{After-object-1}
use Rattle.replay_objects.proofs.store.overwrite.Goals as goal

-- the values that are left
left : (c : After-object-1) → map object_value_view (with_items c.keep_numbers.new.object.values c.write_numbers.new.values).items ≡ map Number (overwritten (map number_in (map object_value_view c.args.object.now.values.items)) c.args.start c.args.numbers.now)
left c =
    let kept = c.keep_numbers.new.object.values in
    let old = map object_value_view c.args.object.now.values.items in
    let start = c.args.start in
    let numbers = c.args.numbers.now in
    ap (λ (l : List InMemory). map object_value_view l)
    (with_items_is kept c.write_numbers.new.values (omega (arith, c.write_numbers.auto.values, ap (λ (l : List InMemory). length l) c.deref_mut.ensures.value, kept.ok)))
    ∙ c.write_numbers.ensures
    ∙ ap (λ (l : List ObjectValue). take start l ++ map Number numbers ++ drop (start + length numbers) l) (ap (λ (l : List InMemory). map object_value_view l) c.deref_mut.ensures.value ∙ c.keep_numbers.ensures.values)
    ∙ overwritten_values old start numbers

pub returns-clause-view : goal.returns-clause-view
returns-clause-view c =
    let kept = c.keep_numbers.new.object in
    let values = map object_value_view (with_items kept.values c.write_numbers.new.values).items in
    ap (λ (class : ClassId). let o : Object = record { class = class.number; values = values } in o) c.keep_numbers.ensures.class
    ∙ ap (λ (vs : List ObjectValue). let o : Object = record { class = c.args.object.now.class.number; values = vs } in o) (left c)

pub returns-clause-mark : goal.returns-clause-mark
returns-clause-mark c = λ marked.
    overwritten_marked (map object_value_view c.args.object.now.values.items) c.args.start c.args.numbers.now
    (map object_value_view (with_items c.keep_numbers.new.object.values c.write_numbers.new.values).items) (left c)
