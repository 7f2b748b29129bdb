use Rattle.std.proofs.Common.{◌≡◌, List, map, sym, ap, subst}
use Rattle.std.proofs.lemmas.List.{map-set}
use Rattle.semantics.specs.Object.{Object, ObjectValue}
use Rattle.world_values.specs.Views.{object_value_view}
use Rattle.replay_objects.specs.Stores.{as_number}
use Rattle.replay_objects.proofs.NumberLemmas.{both_marks, still_numbers}
use Rattle.replay_objects.proofs.store.put_value.Goals as goal

pub returns-then-place-len-clause-view : goal.returns-then-place-len-clause-view
returns-then-place-len-clause-view c =
    ap (λ (vs : List ObjectValue). let o : Object = record { class = c.args.object.now.class.number; values = vs } in o) (map-set object_value_view c.args.object.now.values.items c.args.place c.args.value)

pub returns-then-place-len-clause-mark : goal.returns-then-place-len-clause-mark
returns-then-place-len-clause-mark c = λ marked both.
    let values = map object_value_view c.args.object.now.values.items in
    let value = object_value_view c.args.value in
    let marks = both_marks c.args.object.now.has_numbers c.is_number.result (map as_number values ≡ values) (as_number value ≡ value) both marked c.is_number.ensures in
    subst (λ (l : List ObjectValue). map as_number l ≡ l) (sym (map-set object_value_view c.args.object.now.values.items c.args.place c.args.value)) (still_numbers values c.args.place value marks.0 marks.1)
