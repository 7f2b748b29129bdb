use Rattle.std.proofs.Common.{◌≡◌, ◌≤◌, ℕ, ◌+◌, ℤ, pos, List, ◌++◌, length, map, take, drop, get_or, to_z, of_z, w32, ap, ◌∙◌, arith, rules}
use Rattle.std.specs.Prelude.{slice_set}
use Rattle.std.proofs.Math.Facts.{to_z-of_z}
use Rattle.std.proofs.lemmas.List.{length-map, length-take-le, map-set}
use mir.Val.{SFits}
use Rattle.semantics.specs.declared.object_value.ObjectValue.TheVariants as object_value
use Rattle.semantics.specs.Object.{ObjectValue, Number}
use Rattle.semantics.specs.Views.{object_value_view}
use Rattle.replay_objects.proofs.NumberLemmas.{next_in}
use Rattle.replay_objects.proofs.store.write_numbers.Goals as goal

pub loop-place-preserved : goal.loop-place-preserved
loop-place-preserved c =
    let start = c.args.start in
    let numbers = c.args.numbers.now in
    let values = c.loop-place.values in
    let old = map object_value_view c.args.values.now in
    let i = c.loop-place.place in
    let z = get_or numbers i (pos 0) in
    let fits : SFits w32 z = search rules in
    let room : start + length numbers ≤ length old = omega (arith, c.requires, length-map c.args.values.now object_value_view) in
    let next : start + i + 1 ≡ start + (i + 1) = omega arith in
    map-set object_value_view values (start + i) (object_value.Number (to_z w32 (of_z w32 z)))
    ∙ ap (λ (y : ℤ). slice_set (map object_value_view values) (start + i) (Number y)) (to_z-of_z {w = w32} fits)
    ∙ ap (λ (l : List ObjectValue). slice_set l (start + i) (Number z)) c.loop-place.invariant
    ∙ next_in Number (take start old) numbers old i (start + i) (pos 0) (omega (arith, length-take-le start old (omega (arith, room)))) c.loop-place-test.true (omega (arith, room, c.loop-place-test.true))
    ∙ ap (λ (n : ℕ). take start old ++ map Number (take (i + 1) numbers) ++ drop n old) next
