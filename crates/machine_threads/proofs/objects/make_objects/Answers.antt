use Rattle.std.proofs.Common.{◌≡◌, ℕ, ◌+◌, true, List, [], ◌∷◌, ◌++◌, length, map, take, Some, refl, sym, ap, ◌∙◌, subst, arith}
use Rattle.std.specs.Prelude.{slice_get}
use Rattle.std.specs.List.{list_all}
use Rattle.std.proofs.lemmas.List.{length-map, take_all}
use Rattle.std.proofs.lemmas.Option.{slice_get_read}
use Rattle.semantics.specs.Heap.{Heap}
use Rattle.semantics.specs.Object.{ObjectValue, Object}
use Rattle.semantics.specs.World.{loaded_objects}
use Rattle.semantics.proofs.ShownRows.{length-loaded}
use Rattle.world_values.proofs.LoadedWorlds.{loaded_object, object_class, object_given}
use Rattle.world_values.specs.CallArguments.{is_argument}
use Rattle.world_values.specs.Views.{object_value_view}
use Rattle.machine_scenes.specs.HeapAgrees.{AreMade}
use Rattle.machine_threads.proofs.MadeInOrder.{room, counted, next}
use Rattle.machine_threads.proofs.objects.make_objects.Goals.{After-values}
use Rattle.machine_threads.proofs.objects.make_objects.Goals as goal

-- the object that is made
here : (c : After-values) → slice_get c.args.world.now.objects c.loop-object.object-index ≡ Some c.object-item.result
here c =
    let items = c.objects-object-items.result.now in
    ap (λ (l : Heap). slice_get l c.loop-object.object-index) (sym c.objects-object-items.ensures.objects)
    ∙ slice_get_read items (length items) c.loop-object.object-index c.object-item.result refl c.loop-object-test.true c.object-item.is

made_next : (c : After-values) → slice_get (loaded_objects c.args.world.now) (length c.args.world.now.classes + 1 + c.loop-object.object-index) ≡ Some c.object-item.result
made_next c = loaded_object c.args.world.now (length c.args.world.now.classes + 1 + c.loop-object.object-index) c.loop-object.object-index refl ∙ here c

pub make-requires-clause-class : goal.make-requires-clause-class
make-requires-clause-class c =
    let class = object_class c.args.world.now c.loop-object.object-index c.object-item.result c.objects-object-items.ensures.sound (here c) in
    omega (arith, c.class.ensures, class.1, c.len.ensures.len, c.len.ensures.few, ap length c.classes.ensures.classes)

pub make-requires-clause-room : goal.make-requires-clause-room
make-requires-clause-room c =
    let w = c.args.world.now in
    let free = room w c.objects-object-items.ensures.sound c.loop-object.heap c.loop-object.loaded.items _ c.object-item.result c.loop-object.invariant.made (made_next c) c.loop-object.invariant.cells in
    omega (arith, free, ap length c.values.ensures, length-map c.values.result.now object_value_view)

pub make-requires-clause-given : goal.make-requires-clause-given
make-requires-clause-given c =
    let w = c.args.world.now in
    let count = counted w c.objects-object-items.ensures.sound c.loop-object.heap c.loop-object.loaded.items _ c.object-item.result c.loop-object.invariant.made (made_next c) c.loop-object.invariant.cells in
    let given = object_given w c.loop-object.object-index c.object-item.result c.objects-object-items.ensures.sound (here c) in
    subst (λ (vs : List ObjectValue). list_all (is_argument (length c.loop-object.loaded.items)) vs ≡ true) (sym c.values.ensures)
    (subst (λ (n : ℕ). list_all (is_argument n) c.object-item.result.values ≡ true) (sym count) given)

pub loop-object-preserved : goal.loop-object-preserved
loop-object-preserved c =
    let w = c.args.world.now in
    let place = length w.classes + 1 + c.loop-object.object-index in
    let before : Heap = take place (loaded_objects w) in
    let there = made_next (goal.at.loop-object-preserved c).After-values in
    let later = next w c.objects-object-items.ensures.sound c.loop-object.heap c.loop-object.loaded.items place c.object-item.result c.loop-object.invariant.made there c.loop-object.invariant.cells in
    let object : ◌≡◌ {A = Object} (record { class = c.class.result.number; values = map object_value_view c.values.result.now }) c.object-item.result =
    ap (λ (n : ℕ). let o : Object = record { class = n; values = map object_value_view c.values.result.now } in o) c.class.ensures
    ∙ ap (λ (vs : List ObjectValue). let o : Object = record { class = c.object-item.result.class; values = vs } in o) c.values.ensures in
    let e : place + 1 ≡ length w.classes + 1 + (c.loop-object.object-index + 1) = omega arith in
    record {
      made = subst (AreMade c.make.new.heap c.make.new.loaded.items) (ap (λ (o : Object). before ++ o ∷ []) object ∙ sym later ∙ ap (λ n. take n (loaded_objects w)) e) (c.in_ok-make.ensures.made before c.loop-object.invariant.made);
      cells = c.in_ok-make.ensures.cells ∙ c.loop-object.invariant.cells;
    }

pub returns-clause-made : goal.returns-clause-made
returns-clause-made c =
    let w = c.args.world.now in
    let all = take_all (length w.classes + 1 + c.loop-object.object-index) (loaded_objects w) (omega (arith, length-loaded w, c.loop-object-test.false, ap length c.objects-object-items.ensures.objects)) in
    subst (AreMade c.loop-object.heap c.loop-object.loaded.items) all c.loop-object.invariant.made
