use Rattle.std.proofs.Common.{◌≡◌, ◌+◌, ◌++◌, ◌∷◌, [], ◌∙◌, length, ap, sym, Some}
use Rattle.std.proofs.lemmas.List.{length-map}
use Rattle.class_rules.specs.Class.{ArrayOfObjects, class_named, array_name}
use Rattle.class_rules.specs.BuiltIns.{array_class}
use Rattle.class_rules.specs.Additions.{new_class}
use Rattle.classes.specs.Views.{class_view, classes_view}
use Rattle.classes.proofs.AddedClasses.{with_both, arrays_are_new}
use Rattle.classes.proofs.entries.Entries.put_class.Goals as goal

pub returns : goal.returns
returns c =
    let T = c.args.self.now in
    let es = c.self.inside.classes.entries in
    let same = ap classes_view c.in_ok-reserve.ensures.entries ∙ c.self.view_is in
    let is_class = c.plain.ensures c.in_ok-name.name ∙ ap (λ n. new_class n (Some c.args.superclass.number)) c.in_ok-name.ensures.items in
    let number : c.len-number.result + 1 ≡ length T + 1 = ap (λ n. n + 1) (c.len-number.ensures.len ∙ ap length c.in_ok-reserve.ensures.entries ∙ sym (length-map es class_view) ∙ ap length c.self.view_is) in
    with_both T (classes_view c.put_in_room.new.classes.entries) (classes_view c.put_in_room-2.new.classes.entries) c.args.name.now c.args.superclass.number _ _
    (c.put_in_room.ensures.classes ∙ ap (λ xs. xs ++ class_view (c.in_ok-name.name, c.plain.result) ∷ []) same)
    c.put_in_room-2.ensures.classes is_class
    (c.of_arrays.ensures c.in_ok-arrays.arrays ∙ ap (λ n. array_class n (ArrayOfObjects (c.len-number.result + 1))) c.in_ok-arrays.ensures ∙ ap (λ n. array_class (array_name c.args.name.now) (ArrayOfObjects n)) number)

pub put_in_room-requires-clause-new : goal.put_in_room-requires-clause-new
put_in_room-requires-clause-new c =
    let same = ap classes_view c.in_ok-reserve.ensures.entries ∙ c.self.view_is in
    (λ i. class_named (same i) (c.in_ok-name.ensures.items i)) ∙ c.requires.new

pub put_in_room-requires-2-clause-new : goal.put_in_room-requires-2-clause-new
put_in_room-requires-2-clause-new c =
    let same = ap classes_view c.in_ok-reserve.ensures.entries ∙ c.self.view_is in
    let is_class = c.plain.ensures c.in_ok-name.name ∙ ap (λ n. new_class n (Some c.args.superclass.number)) c.in_ok-name.ensures.items in
    arrays_are_new c.args.self.now (classes_view c.put_in_room.new.classes.entries) c.args.name.now c.args.superclass.number (class_view (c.in_ok-name.name, c.plain.result)) (class_view (c.in_ok-arrays.arrays, c.of_arrays.result))
    (c.put_in_room.ensures.classes ∙ ap (λ xs. xs ++ class_view (c.in_ok-name.name, c.plain.result) ∷ []) same)
    is_class c.in_ok-arrays.ensures c.requires.new_arrays
