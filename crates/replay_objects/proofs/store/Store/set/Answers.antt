use Rattle.std.proofs.Common.{◌≡◌, ℕ, zero, suc, ◌-◌, map, length, Some, refl, sym, ap, ◌∙◌, arith}
use Rattle.std.proofs.lemmas.List.{map-set}
use Rattle.std.proofs.lemmas.Option.{slice_get_read, slice_get-map}
use Rattle.std.specs.Prelude.{slice_get, slice_set}
use Rattle.std.specs.Option.{option_map}
use Rattle.semantics.specs.Heap.{Heap, object_at, with_value_at}
use Rattle.semantics.specs.Object.{Object, ObjectValue}
use Rattle.replay_objects.specs.Stores.{object_view}
use Rattle.world_values.specs.Views.{object_value_view}
use Rattle.replay_objects.proofs.store.Store.set.Goals as goal

-- an object that is there is put back with another value
put_back : (heap : Heap) (n place : ℕ) (o : Object) (v : ObjectValue) → (n ≡ 0 → ⊥) → slice_get heap (n - 1) ≡ Some o → slice_set heap (n - 1) (record { class = o.class; values = slice_set o.values place v }) ≡ with_value_at heap n place v
put_back heap zero place o v low at = absurd (low refl)
put_back heap (suc i) place o v low at =
    let e : suc i - 1 ≡ i = omega arith in
    let there : object_at heap (suc i) ≡ Some o = ap (slice_get heap) (sym e) ∙ at in
    rw (e, there) refl

pub returns : goal.returns
returns c =
    let objects = c.self.inside.objects.items in
    let place = c.args.name.number - 1 in
    let o = c.index_mut.result.now in
    let v = object_value_view c.args.value in
    let here : slice_get objects place ≡ Some o = slice_get_read objects (length objects) place o refl (omega (arith, c.if-name-eq0.false, c.if-name-count.false, c.len-count.ensures, c.self.inside.objects.ok)) c.index_mut.ensures.value in
    let at : slice_get (map object_view objects) place ≡ Some (object_view o) = slice_get-map object_view objects place ∙ ap (option_map object_view) here in
    map-set object_view objects place c.put_value.new.object
    ∙ ap (λ (x : Object). slice_set (map object_view objects) place x) c.put_value.ensures.view
    ∙ put_back (map object_view objects) c.args.name.number c.args.place (object_view o) v c.if-name-eq0.false at
    ∙ ap (λ (h : Heap). with_value_at h c.args.name.number c.args.place v) c.self.view_is
