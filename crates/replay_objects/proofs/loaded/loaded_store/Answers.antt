use Rattle.std.proofs.Common.{◌≡◌, List, [], ◌∷◌, ◌++◌, length, map, take, sym, ap, ◌∙◌}
use Rattle.base.proofs.Lists.{take_next}
use Rattle.class_rules.specs.BuiltIns.{out_of_memory_error}
use Rattle.class_rules.specs.Class.{Classes}
use Rattle.class_rules.specs.Fields.{FieldId, layout}
use Rattle.semantics.specs.Heap.{Heap}
use Rattle.semantics.specs.Object.{ObjectValue, Object}
use Rattle.semantics.specs.World.{initial, fresh_object, loaded_objects}
use Rattle.world_values.proofs.LoadedWorlds.{loaded_error}
use Rattle.world_values.specs.Views.{object_value_view}
use Rattle.replay_objects.proofs.loaded.loaded_store.Goals as goal

pub make_objects-requires : goal.make_objects-requires
make_objects-requires c =
    let w = c.args.world.now in
    let values = c.in_ok-error.ensures.values ∙ ap (λ (T : Classes). map (λ (f : FieldId). initial f.field.type) (layout T out_of_memory_error)) c.classes.ensures.classes in
    let object : ◌≡◌ {A = Object} (record { class = out_of_memory_error; values = map object_value_view c.in_ok-error.error.items }) (fresh_object w.classes out_of_memory_error) =
    ap (λ (vs : List ObjectValue). let o : Object = record { class = out_of_memory_error; values = vs } in o) values in
    c.in_ok-add.ensures.ok
    ∙ ap (λ (l : Heap). l ++ record { class = out_of_memory_error; values = map object_value_view c.in_ok-error.error.items } ∷ []) c.in_ok-make_class_objects.ensures
    ∙ ap (λ (o : Object). take (length w.classes) (loaded_objects w) ++ o ∷ []) object
    ∙ sym (take_next (loaded_objects w) (length w.classes) (fresh_object w.classes out_of_memory_error) (loaded_error w))
