use Rattle.std.proofs.Common.{◌≡◌, ℕ, zero, suc, ◌-◌, ◌<◌, ◌^◌, List, map, length, Some, refl, sym, ap, ◌∙◌, arith}
use Rattle.std.proofs.lemmas.List.{map-set, length-map}
use Rattle.std.proofs.lemmas.Option.{slice_get_read, slice_get-map}
use Rattle.std.specs.Prelude.{slice_get, slice_set}
use Rattle.std.specs.Option.{option_map}
use Rattle.semantics.specs.CallEffects.{overwritten}
use Rattle.semantics.specs.Heap.{Heap, numbers_of, values_of, object_at, with_numbers}
use Rattle.semantics.specs.Object.{Object, ObjectValue}
use Rattle.semantics.specs.Views.{object_value_view}
use Rattle.replay_objects.specs.declared.store.Object.{Object as InMemory}
use Rattle.replay_objects.specs.Stores.{IsMarked, object_view}
use Rattle.replay_objects.proofs.NumberLemmas.{each_set, numbers_back}
use Rattle.replay_objects.proofs.store.Store.set_numbers.Goals as goal

-- the values of an object that is there
values_there : (heap : Heap) (n : ℕ) (o : Object) → (n ≡ 0 → ⊥) → slice_get heap (n - 1) ≡ Some o → values_of heap n ≡ o.values
values_there heap zero o low at = absurd (low refl)
values_there heap (suc i) o low at =
    let e : suc i - 1 ≡ i = omega arith in
    let there : object_at heap (suc i) ≡ Some o = ap (slice_get heap) (sym e) ∙ at in
    rw there refl

pub overwrite-requires-clause-room : goal.overwrite-requires-clause-room
overwrite-requires-clause-room c =
    let objects = c.self.inside.objects.items in
    let place = c.args.name.number - 1 in
    let o = c.index_mut.result.now in
    let here : slice_get objects place ≡ Some o = slice_get_read objects (length objects) place o refl (omega (arith, c.if-name-eq0.false, c.if-name-count.false, c.len-count.ensures, c.self.inside.objects.ok)) c.index_mut.ensures.value in
    let at : slice_get (map object_view objects) place ≡ Some (object_view o) = slice_get-map object_view objects place ∙ ap (option_map object_view) here in
    let values = ap (λ (h : Heap). values_of h c.args.name.number) (sym c.self.view_is) ∙ values_there (map object_view objects) c.args.name.number (object_view o) c.if-name-eq0.false at in
    omega (arith, c.requires, ap (λ (vs : List ObjectValue). length vs) values, length-map o.values.items object_value_view)

pub invariant_of-self : goal.invariant_of-self
invariant_of-self c =
    let objects = c.self.inside.objects.items in
    let place = c.args.name.number - 1 in
    let o = c.index_mut.result.now in
    let here : slice_get objects place ≡ Some o = slice_get_read objects (length objects) place o refl (omega (arith, c.if-name-eq0.false, c.if-name-count.false, c.len-count.ensures, c.self.inside.objects.ok)) c.index_mut.ensures.value in
    let short : length o.values.items < 2 ^ 31 = c.self.invariant.0 place o here in (
      each_set (λ (p : InMemory). length p.values.items < 2 ^ 31) objects place c.overwrite.new.object c.self.invariant.0 (omega (arith, short, c.overwrite.ensures.length)),
      each_set IsMarked objects place c.overwrite.new.object c.self.invariant.1 c.overwrite.ensures.mark,
    )

pub returns : goal.returns
returns c =
    let objects = c.self.inside.objects.items in
    let place = c.args.name.number - 1 in
    let o = c.index_mut.result.now in
    let here : slice_get objects place ≡ Some o = slice_get_read objects (length objects) place o refl (omega (arith, c.if-name-eq0.false, c.if-name-count.false, c.len-count.ensures, c.self.inside.objects.ok)) c.index_mut.ensures.value in
    let at : slice_get (map object_view objects) place ≡ Some (object_view o) = slice_get-map object_view objects place ∙ ap (option_map object_view) here in
    map-set object_view objects place c.overwrite.new.object
    ∙ ap (λ (x : Object). slice_set (map object_view objects) place x) c.overwrite.ensures.view
    ∙ numbers_back (map object_view objects) c.args.name.number c.args.start c.args.numbers.now (object_view o) c.if-name-eq0.false at
    ∙ ap (λ (h : Heap). with_numbers h c.args.name.number (overwritten (numbers_of h c.args.name.number) c.args.start c.args.numbers.now)) c.self.view_is
