use Rattle.std.proofs.Common.{◌≡◌, ◌+◌, true, List, [], ◌∷◌, ◌++◌, length, map, take, sym, ap, ◌∙◌, subst, arith}
use Rattle.std.specs.List.{list_all}
use Rattle.std.proofs.lemmas.List.{length-map}
use Rattle.class_rules.specs.BuiltIns.{class_class}
use Rattle.class_rules.specs.Class.{Classes}
use Rattle.class_rules.specs.Fields.{own_statics}
use Rattle.semantics.specs.Heap.{Heap}
use Rattle.semantics.specs.Object.{ObjectValue, Object}
use Rattle.semantics.specs.World.{class_object, loaded_objects}
use Rattle.world_values.proofs.LoadedWorlds.{loaded_class, initial_given, statics_new}
use Rattle.world_values.specs.CallArguments.{is_argument}
use Rattle.world_values.specs.Views.{object_value_view}
use Rattle.machine_scenes.specs.HeapAgrees.{AreMade}
use Rattle.machine_threads.proofs.MadeInOrder.{room, next}
use Rattle.machine_threads.proofs.objects.make_class_objects.Goals.{After-deref}
use Rattle.machine_threads.proofs.objects.make_class_objects.Goals as goal

values_are : (c : After-deref) → map object_value_view c.deref.result.now ≡ (class_object c.args.world.now.classes (c.loop-place.place + 1)).values
values_are c =
    let T = c.args.world.now.classes in
    let n = c.loop-place.place + 1 in
    let fields = c.own_statics.result.now in
    let is = c.own_statics.ensures ∙ ap (λ (U : Classes). own_statics U n) c.classes-classes.ensures.classes in
    ap (map object_value_view) c.deref.ensures.value ∙ c.in_ok-values.ensures ∙ statics_new T n fields is

pub make-requires-clause-room : goal.make-requires-clause-room
make-requires-clause-room c =
    let w = c.args.world.now in
    let place = c.loop-place.place in
    let at = loaded_class w place (omega (arith, c.loop-place-test.true, c.len-place-end.ensures.len, ap length c.classes-classes.ensures.classes)) in
    let free = room w c.classes-classes.ensures.sound c.loop-place.heap c.loop-place.loaded.items place _ c.loop-place.invariant.made at c.loop-place.invariant.cells in
    omega (arith, free, ap length (values_are c), length-map c.deref.result.now object_value_view)

pub make-requires-clause-given : goal.make-requires-clause-given
make-requires-clause-given c =
    subst (λ (vs : List ObjectValue). list_all (is_argument (length c.loop-place.loaded.items)) vs ≡ true) (sym (values_are c)) (initial_given (length c.loop-place.loaded.items) (own_statics c.args.world.now.classes (c.loop-place.place + 1)))

pub loop-place-preserved : goal.loop-place-preserved
loop-place-preserved c =
    let w = c.args.world.now in
    let place = c.loop-place.place in
    let before : Heap = take place (loaded_objects w) in
    let at = loaded_class w place (omega (arith, c.loop-place-test.true, c.len-place-end.ensures.len, ap length c.classes-classes.ensures.classes)) in
    let object : ◌≡◌ {A = Object} (record { class = class_class; values = map object_value_view c.deref.result.now }) (class_object w.classes (place + 1)) =
    ap (λ (vs : List ObjectValue). let o : Object = record { class = class_class; values = vs } in o) (values_are (goal.at.loop-place-preserved c).After-deref) in
    record {
      made = subst (AreMade c.make.new.heap c.make.new.loaded.items)
          (ap (λ (o : Object). before ++ o ∷ []) object
          ∙ sym (next w c.classes-classes.ensures.sound c.loop-place.heap c.loop-place.loaded.items place _ c.loop-place.invariant.made at c.loop-place.invariant.cells))
          (c.in_ok-make.ensures.made before c.loop-place.invariant.made);
      cells = c.in_ok-make.ensures.cells ∙ c.loop-place.invariant.cells;
    }
