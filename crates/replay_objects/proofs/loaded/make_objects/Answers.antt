use Rattle.std.proofs.Common.{◌≡◌, ℕ, ◌+◌, List, [], ◌∷◌, ◌++◌, length, map, take, Some, refl, sym, ap, ◌∙◌, arith}
use Rattle.std.specs.Prelude.{slice_get}
use Rattle.std.proofs.lemmas.List.{length-map, take_all}
use Rattle.std.proofs.lemmas.Option.{slice_get_read}
use Rattle.base.proofs.Lists.{take_next}
use Rattle.semantics.specs.Heap.{Heap}
use Rattle.semantics.specs.Object.{ObjectValue, Object}
use Rattle.semantics.specs.World.{loaded_objects}
use Rattle.semantics.proofs.ShownRows.{length-loaded}
use Rattle.world_values.proofs.LoadedWorlds.{loaded_object}
use Rattle.world_values.specs.Views.{object_value_view}
use Rattle.replay_objects.proofs.LoadedLemmas.{loaded_short}
use Rattle.replay_objects.proofs.loaded.make_objects.Goals as goal

pub add-requires : goal.add-requires
add-requires c =
    let w = c.args.world.now in
    let items = c.objects-object-items.result.now in
    let place = length w.classes + 1 + c.loop-object.object-index in
    let here : slice_get w.objects c.loop-object.object-index ≡ Some c.object-item.result =
    ap (λ (l : Heap). slice_get l c.loop-object.object-index) (sym c.objects-object-items.ensures.objects)
    ∙ slice_get_read items (length items) c.loop-object.object-index c.object-item.result refl c.loop-object-test.true c.object-item.is in
    let at = loaded_object w place c.loop-object.object-index refl ∙ here in
    let given = ap (map object_value_view) c.in_ok-values.ensures.items ∙ c.values.ensures in
    let short = loaded_short w place c.object-item.result c.objects-object-items.ensures.sound at in
    let held = c.in_ok-values.values.items in
    omega (arith, short, length-map held object_value_view, ap length given)

pub loop-object-preserved : goal.loop-object-preserved
loop-object-preserved c =
    let w = c.args.world.now in
    let items = c.objects-object-items.result.now in
    let place = length w.classes + 1 + c.loop-object.object-index in
    let here : slice_get w.objects c.loop-object.object-index ≡ Some c.object-item.result =
    ap (λ (l : Heap). slice_get l c.loop-object.object-index) (sym c.objects-object-items.ensures.objects)
    ∙ slice_get_read items (length items) c.loop-object.object-index c.object-item.result refl c.loop-object-test.true c.object-item.is in
    let at = loaded_object w place c.loop-object.object-index refl ∙ here in
    let given = ap (map object_value_view) c.in_ok-values.ensures.items ∙ c.values.ensures in
    let object : ◌≡◌ {A = Object} (record { class = c.class.result.number; values = map object_value_view c.in_ok-values.values.items }) c.object-item.result =
    ap (λ (n : ℕ). let o : Object = record { class = n; values = map object_value_view c.in_ok-values.values.items } in o) c.class.ensures
    ∙ ap (λ (vs : List ObjectValue). let o : Object = record { class = c.object-item.result.class; values = vs } in o) given in
    let e : place + 1 ≡ length w.classes + 1 + (c.loop-object.object-index + 1) = omega arith in
    c.in_ok-add.ensures.ok
    ∙ ap (λ (l : Heap). l ++ record { class = c.class.result.number; values = map object_value_view c.in_ok-values.values.items } ∷ []) c.loop-object.invariant
    ∙ ap (λ (o : Object). take place (loaded_objects w) ++ o ∷ []) object
    ∙ sym (take_next (loaded_objects w) place c.object-item.result at)
    ∙ ap (λ n. take n (loaded_objects w)) e

pub returns : goal.returns
returns c =
    let w = c.args.world.now in
    c.loop-object.invariant
    ∙ take_all (length w.classes + 1 + c.loop-object.object-index) (loaded_objects w) (omega (arith, length-loaded w, c.loop-object-test.false, ap length c.objects-object-items.ensures.objects))
