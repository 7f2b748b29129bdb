-- A call of the machine and the source's call that it stands for: what is known of its arguments once it has passed its checks.
use Rattle.std.proofs.Common.{◌≡◌, ℕ, zero, suc, ◌<◌, ◌≤◌, false, List, ◌∷◌, length, Option, Some, refl, sym, ap, ◌∙◌, subst, arith, ◌++◌}
use Rattle.std.specs.List.{AllZip}
use Rattle.std.specs.Option.{option_map_or}
use Rattle.class_rules.specs.BuiltIns.{class_class, no_such_method_error}
use Rattle.class_rules.specs.Grown.{HasMethodError}
use Rattle.heap.specs.Heap.{name_at}
use Rattle.jni.specs.declared.function.JniFunction.{JniFunction}
use Rattle.jni.specs.JniFunction.{parameters_for}
use Rattle.jni.specs.declared.kinds.ParameterKind.{ParameterKind}
use Rattle.jni.specs.declared.kinds.ParameterKind.TheVariants.{ClassObject}
use Rattle.semantics.specs.Arguments.{reference_given, name_or_zero}
use Rattle.semantics.specs.Heap.{class_of, object_at}
use Rattle.semantics.specs.Object.{Object}
use Rattle.semantics.specs.World.{loaded_objects}
use Rattle.semantics_typing.proofs.TableKinds.{grown_long}
use Rattle.code_meaning.specs.Does.{AllTogether}
use Rattle.code_meaning.specs.Fits.{IsReferenceKind}
use Rattle.machine_scenes.specs.declared.handle.Handle.{Handle}
use Rattle.machine_scenes.specs.Buffers.{Acquired, acquired_by, beside}
use Rattle.machine_answers.specs.declared.answer.Answer.{Answer}
use Rattle.machine_scenes.specs.NewObjects.{IsMakeable}
use Rattle.machine_answers.specs.Asked.{references_of}
use Rattle.machine_scenes.specs.Statics.{References}
use Rattle.machine_answers.specs.Checked.{some_misfit, some_missing, may_be_null}
use Rattle.machine_scenes.specs.Given.{IsGiven, operand_at, operand_of, class_there}
use Rattle.machine_scenes.specs.HeapAgrees.{ReferenceAgrees}
use Rattle.machine_answers.specs.Sights.{name_seen}
use Rattle.machine_answers.specs.WorkedOut.{class_object}
use Rattle.machine_answers.proofs.CallChecks.{class_is, reference_at_place}
use Rattle.machine_scenes.proofs.Handles.{class_known}
use Rattle.machine_scenes.proofs.BlocksOfNames.{Named, named}
use Rattle.machine_answers.proofs.CallTraps.{none_deleted, none_lacking, none_unfit}
use Rattle.machine_answers.proofs.LongTables.{classes_loaded}
use Rattle.machine_answers.proofs.CallOperands.{GivenObject, class_object_is, object_at_place, is_class}
use Rattle.machine_answers.specs.Answered.{TwoCalls, Asked, Passes, scene, unit}

module _ (both : TwoCalls) where
  open both use {p, w, store, pending, activation, call, others, k, owner, shared, s, target, sound, args}

  abbrev pub references : References
  references = references_of store activation

  abbrev pub fields : List (Option Handle)
  fields = activation.slots.fields.items

  -- what the buffers of all threads take
  abbrev pub all : Acquired
  all = beside others (acquired_by s)

  abbrev pub at : (i : ℕ) → Option ℕ
  at i = operand_at references (operand_of call.operands i)

  pub agrees : (f : JniFunction) → Asked both f → (i : ℕ) → ReferenceAgrees store.heap (at i) (reference_given args i)
  agrees f h i = reference_at_place (unit both) w.classes store.heap references fields i h.given

  pub table_of : (f : JniFunction) → Asked both f → (c : ℕ) → 0 < c → c ≤ length w.classes → ReferenceAgrees store.heap (class_object store.loaded.items (Some c)) (Some c)
  table_of f h c low high = class_object_is store.heap store.loaded.items (length (loaded_objects w)) c h.store_agrees.table low (omega (arith, high, classes_loaded w))

  -- the object of a name that a block has
  pub object_of : (f : JniFunction) → Asked both f → (a n : ℕ) → name_at store.heap a ≡ Some n → (o : Object) × (object_at shared.heap n ≡ Some o)
  object_of f h a n there =
      let object : Named store.heap shared.heap a n = named store.heap shared.heap a n h.store_agrees.heap there in
      (object.agrees.object, ap (object_at shared.heap) (sym object.birth) ∙ object.agrees.is)

  low_name : (n : ℕ) (o : Object) → object_at shared.heap n ≡ Some o → 0 < n
  low_name zero o h = absurd (cc)
  low_name (suc n) o h = omega arith

  -- a built-in class after Class
  pub built_in_class : (c : ℕ) → 2 < c → c ≤ 42 → IsMakeable w.classes c
  built_in_class c low high = record { low = omega (arith, low); high = omega (arith, high, grown_long w.classes sound.grown); no_class = λ e. let is : c ≡ 2 = e in omega (arith, low, is) }

  -- the exception of a method that isn't found
  pub method_error : HasMethodError w.classes → IsMakeable w.classes no_such_method_error
  method_error has = record { low = omega arith; high = (class_known w.classes no_such_method_error has.class has.there).1; no_class = λ e. let is : 43 ≡ 2 = e in omega (arith, is) }

  -- the object of argument i
  pub object_given_at : (f : JniFunction) (before : List ParameterKind) (q : ParameterKind) (after : List ParameterKind) → IsReferenceKind q → may_be_null q ≡ false → parameters_for f (length args) ≡ before ++ q ∷ after → Asked both f
      → Passes both → GivenObject (unit both) w.classes store.heap references fields call.operands args (length before)
  object_given_at f before q after kind never are h free =
      object_at_place (unit both) w.classes store.heap references fields before q after kind never (subst (λ (l : List ParameterKind). AllTogether (IsGiven (unit both) w.classes store.heap references fields) l call.operands args) are h.given)
      (none_deleted p w store pending activation call others k owner shared s target f args h free)
      (subst (λ (l : List ParameterKind). some_missing references fields l call.operands ≡ false) are (none_lacking p w store pending activation call others k owner shared s target f args h free))

  -- the class that argument i is
  pub class_given : (f : JniFunction) (before after : List ParameterKind) → parameters_for f (length args) ≡ before ++ ClassObject ∷ after → Asked both f → Passes both
      → let n = name_or_zero (name_seen store.heap (at (length before))) in (0 < n) × (n ≤ length w.classes)
  class_given f before after are h free =
      let given = object_given_at f before ClassObject after tt refl are h free in
      let object = object_of f h given.address given.name given.named in
      let class : class_of shared.heap given.name ≡ object.0.class = ap (λ (o : Option Object). option_map_or (λ (x : Object). x.class) o 0) object.1 in
      let of_class : class_there store.heap given.address ≡ class_class = is_class (unit both) w.classes store.heap references fields before after call.operands given.address given.at
      (subst (λ (l : List ParameterKind). some_misfit w.classes store.heap references l call.operands ≡ false) are (none_unfit p w store pending activation call others k owner shared s target f args h free)) in
      let same : object.0.class ≡ class_class = sym class ∙ sym (class_is (unit both) w.classes store.heap references fields shared.heap h.store_agrees.heap.blocks given.address given.name given.named) ∙ of_class in
      let name : name_or_zero (name_seen store.heap (at (length before))) ≡ given.name = ap (λ (o : Option ℕ). name_or_zero (name_seen store.heap o)) given.at ∙ ap name_or_zero given.named in
      let low = low_name given.name object.0 object.1 in
      let high : given.name ≤ length w.classes = (h.typed.objects given.name object.0 object.1).of_class same in
      (omega (arith, low, name), omega (arith, high, name))
