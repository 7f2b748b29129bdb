use Rattle.std.proofs.Common.{◌≡◌, ◌+◌, List, [], ◌∷◌, ◌++◌, length, map, take, sym, ap, ◌∙◌, arith}
use Rattle.std.proofs.lemmas.List.{length-map}
use Rattle.base.proofs.Lists.{take_next}
use Rattle.class_rules.specs.BuiltIns.{class_class}
use Rattle.class_rules.specs.Class.{Classes}
use Rattle.class_rules.specs.Fields.{own_statics}
use Rattle.semantics.specs.Heap.{Heap}
use Rattle.semantics.specs.Object.{ObjectValue, Object}
use Rattle.semantics.specs.World.{class_object, loaded_objects}
use Rattle.world_values.proofs.LoadedWorlds.{loaded_class, statics_new}
use Rattle.world_values.specs.Views.{object_value_view}
use Rattle.replay_objects.proofs.LoadedLemmas.{loaded_short}
use Rattle.replay_objects.proofs.loaded.make_class_objects.Goals as goal

pub add-requires : goal.add-requires
add-requires c =
    let w = c.args.world.now in
    let place = c.loop-place.place in
    let n = place + 1 in
    let at = loaded_class w place (omega (arith, c.loop-place-test.true, c.len-place-end.ensures.len, ap length c.classes-classes.ensures.classes)) in
    let is = c.own_statics.ensures ∙ ap (λ (U : Classes). own_statics U n) c.classes-classes.ensures.classes in
    let values = c.in_ok-values.ensures ∙ statics_new w.classes n c.own_statics.result.now is in
    let short = loaded_short w place (class_object w.classes n) c.classes-classes.ensures.sound at in
    let held = c.in_ok-values.values.items in
    omega (arith, short, length-map held object_value_view, ap length values)

pub loop-place-preserved : goal.loop-place-preserved
loop-place-preserved c =
    let w = c.args.world.now in
    let place = c.loop-place.place in
    let n = place + 1 in
    let at = loaded_class w place (omega (arith, c.loop-place-test.true, c.len-place-end.ensures.len, ap length c.classes-classes.ensures.classes)) in
    let is = c.own_statics.ensures ∙ ap (λ (U : Classes). own_statics U n) c.classes-classes.ensures.classes in
    let values = c.in_ok-values.ensures ∙ statics_new w.classes n c.own_statics.result.now is in
    let object : ◌≡◌ {A = Object} (record { class = class_class; values = map object_value_view c.in_ok-values.values.items }) (class_object w.classes n) =
    ap (λ (vs : List ObjectValue). let o : Object = record { class = class_class; values = vs } in o) values in
    c.in_ok-add.ensures.ok
    ∙ ap (λ (l : Heap). l ++ record { class = class_class; values = map object_value_view c.in_ok-values.values.items } ∷ []) c.loop-place.invariant
    ∙ ap (λ (o : Object). take place (loaded_objects w) ++ o ∷ []) object
    ∙ sym (take_next (loaded_objects w) place (class_object w.classes n) at)
