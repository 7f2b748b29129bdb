use Rattle.std.proofs.Common.{◌≡◌, true, List, [], ◌∷◌, ◌++◌, length, map, take, sym, ap, ◌∙◌, subst, arith}
use Rattle.std.specs.List.{list_all}
use Rattle.std.specs.Prelude.{OnOk}
use Rattle.std.proofs.lemmas.List.{length-map}
use Rattle.class_rules.specs.BuiltIns.{out_of_memory_error}
use Rattle.class_rules.specs.Class.{Classes}
use Rattle.class_rules.specs.Fields.{FieldId, layout}
use Rattle.semantics.specs.Heap.{Heap}
use Rattle.semantics.specs.Object.{ObjectValue, Object}
use Rattle.semantics.specs.World.{initial, fresh_object, loaded_objects}
use Rattle.world_values.proofs.LoadedWorlds.{loaded_error, initial_given}
use Rattle.world_values.specs.CallArguments.{is_argument}
use Rattle.world_values.specs.Views.{object_value_view}
use Rattle.machine_scenes.specs.HeapAgrees.{AreMade}
use Rattle.machine_threads.proofs.MadeInOrder.{room, few, next}
use Rattle.machine_threads.proofs.objects.make_error.Goals.{After-deref}
use Rattle.machine_threads.proofs.objects.make_error.Goals as goal

-- the values of the OutOfMemoryError object
values_are : (c : After-deref) → map object_value_view c.deref.result.now ≡ (fresh_object c.args.world.now.classes out_of_memory_error).values
values_are c =
    ap (map object_value_view) c.deref.ensures.value ∙ c.in_ok-error.ensures.values
    ∙ ap (λ (T : Classes). map (λ (f : FieldId). initial f.field.type) (layout T out_of_memory_error)) c.classes.ensures.classes

pub make-requires-clause-room : goal.make-requires-clause-room
make-requires-clause-room c =
    let w = c.args.world.now in
    let free = room w c.classes.ensures.sound c.args.heap.now c.args.loaded.now.items (length w.classes) _ c.requires.classes (loaded_error w) c.requires.cells in
    omega (arith, free, ap length (values_are c), length-map c.deref.result.now object_value_view)

pub make-requires-clause-few : goal.make-requires-clause-few
make-requires-clause-few c =
    let w = c.args.world.now in
    few w c.classes.ensures.sound c.args.heap.now c.args.loaded.now.items (length w.classes) _ c.requires.classes (loaded_error w) c.requires.cells

pub make-requires-clause-given : goal.make-requires-clause-given
make-requires-clause-given c =
    let count = length c.args.loaded.now.items in
    subst (λ (vs : List ObjectValue). list_all (is_argument count) vs ≡ true) (sym (values_are c)) (initial_given count (layout c.args.world.now.classes out_of_memory_error))

pub returns-clause-made : goal.returns-clause-made
returns-clause-made c =
    let w = c.args.world.now in
    let before : Heap = take (length w.classes) (loaded_objects w) in
    let later = next w c.classes.ensures.sound c.args.heap.now c.args.loaded.now.items (length w.classes) _ c.requires.classes (loaded_error w) c.requires.cells in
    let values = values_are (goal.at.returns-clause-made c).After-deref in
    let object : ◌≡◌ {A = Object} (record { class = out_of_memory_error; values = map object_value_view c.deref.result.now }) (fresh_object w.classes out_of_memory_error) =
    ap (λ (vs : List ObjectValue). let o : Object = record { class = out_of_memory_error; values = vs } in o) values in
    subst (λ (objects : Heap). OnOk c.make.result (AreMade c.make.new.heap c.make.new.loaded.items objects)) (ap (λ (o : Object). before ++ o ∷ []) object ∙ sym later) (c.make.ensures.made before c.requires.classes)
