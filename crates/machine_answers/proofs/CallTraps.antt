-- What is checked of a call whose operands are given is what the source checks, and what is known of it then.
use Rattle.std.proofs.Common.{length, ap, sym, ◌≡◌, ℕ, Bool, true, false, not, List, [], ◌∷◌, Option, Some, None, is_some, refl, ◌∙◌, subst}
use Rattle.std.specs.Prelude.{◌&&◌, ◌||◌, IsSome}
use Rattle.std.specs.List.{AllZip, list_any}
use Rattle.syntax.specs.Tree.{SourceUnit}
use Rattle.syntax.specs.Views.{unit_tree}
use Rattle.class_rules.specs.Class.{Classes}
use Rattle.class_rules.specs.Fields.{FieldId}
use Rattle.classes.specs.FieldViews.{field_of}
use Rattle.classes.specs.declared.class.FieldHandle.{FieldHandle}
use Rattle.code.specs.Call.{Call}
use Rattle.code.specs.declared.instr.Operand.{Operand}
use Rattle.code.specs.declared.instr.Operand.TheVariants as operand
use Rattle.heap.specs.Heap.{Space, IsAddress}
use Rattle.jni.specs.declared.function.JniFunction.{JniFunction}
use Rattle.jni.specs.declared.kinds.ParameterKind.{ParameterKind}
use Rattle.jni.specs.JniFunction.{is_allowed_pending, parameters_for, prototype}
use Rattle.semantics.specs.Arguments.{Actual, field_given}
use Rattle.semantics.specs.CallSight.{ArgumentSight, sight_of_call}
use Rattle.semantics.specs.Checks.{first_trap, go_together}
use Rattle.semantics.specs.CallStep.{trap_of_call}
use Rattle.semantics.specs.Object.{Reference}
use Rattle.semantics.specs.Task.{Target}
use Rattle.semantics.specs.Thread.{Shared, Thread}
use Rattle.semantics.specs.declared.trap.Trap.{Trap}
use Rattle.semantics.specs.declared.trap.Trap.TheVariants.{NullReference, ExceptionPending, WrongObject, DeletedReference, NoCapacity}
use Rattle.semantics.specs.Variable.{StaticReference}
use Rattle.semantics.specs.World.{World}
use Rattle.code_meaning.specs.Does as list
use Rattle.code_meaning.specs.Does.{AllTogether}
use Rattle.code_meaning.specs.Lowered.{Lowered}
use Rattle.machine_scenes.specs.declared.handle.Handle.{Handle}
use Rattle.machine_scenes.specs.declared.store.Store.{Store}
use Rattle.machine_scenes.specs.declared.activation.Activation.{Activation}
use Rattle.machine_scenes.specs.FieldIds.{FieldAgrees, IsMethod, MethodAgrees}
use Rattle.machine_scenes.specs.StoreAgrees.{HeldAgrees}
use Rattle.machine_answers.specs.Asked.{IsAsked, references_of, scene_of}
use Rattle.machine_scenes.specs.Statics.{References, held_address, held_argument, static_at}
use Rattle.machine_scenes.specs.declared.references.Held.{Held}
use Rattle.machine_scenes.specs.Buffers.{Acquired}
use Rattle.machine_answers.specs.Checked.{fit_together, some_missing, some_misfit, puts_local, trap_found}
use Rattle.machine_answers.specs.Sights.{MethodIsThere, element_wanted, gives_deleted, trap_seen}
use Rattle.machine_answers.proofs.SightsAgree.{argument_is, same_together, same_trap}
use Rattle.machine_answers.proofs.TrapsSeen.{deep_is_last, found_seen, is_too_deep, own_misfit, own_missing, together_seen, with_depth}
use Rattle.machine_scenes.specs.Scenes.{Scene}
use Rattle.machine_scenes.specs.declared.handle.MethodHandle.{MethodHandle}
use Rattle.semantics.specs.CallStep.{target_element}
use Rattle.semantics.specs.Method.{MethodId}
use Rattle.semantics.proofs.CheckLaws.{fits_and_goes}
use Rattle.machine_scenes.specs.Locals.{locals_after}
use Rattle.tables.specs.Locals.{has_room}
use Rattle.machine_scenes.specs.Given as given
use Rattle.machine_scenes.specs.Given.{operand_at, field_at, field_there, method_at, operand_of, AreAddresses, AreHandles, IsGiven, ReferenceIsThere}
use Rattle.machine_scenes.specs.HeapAgrees.{ReferenceAgrees}
use Rattle.machine_scenes.proofs.BlocksOfNames.{block_there}
use Rattle.machine_answers.proofs.CallChecks as checks

-- ---- operands

-- where a method ID is a handle, it is that of a method
is_method : (unit : SourceUnit) (classes : Classes) (o : Option MethodHandle) (m : Option MethodId) → MethodAgrees unit classes o m → MethodIsThere unit classes o
is_method unit classes None m agrees h e = absurd (cc)
is_method unit classes (Some g) None agrees h e = absurd agrees
is_method unit classes (Some g) (Some m) agrees h e = let same : g ≡ h = cc in (m, subst (λ (x : MethodHandle). IsMethod unit classes x m) same agrees)

-- where a field ID is a handle, it is that of a field
is_handle : (classes : Classes) (o : Option FieldHandle) (f : Option FieldId) (h : FieldHandle) → FieldAgrees classes o f → o ≡ Some h → IsSome (field_of classes h)
is_handle classes None f h agrees e = absurd (cc)
is_handle classes (Some g) None h agrees e = absurd agrees
is_handle classes (Some g) (Some f) h agrees e =
    let same : g ≡ h = cc in
    some_field (field_of classes h) (subst (λ (x : FieldHandle). field_of classes x ≡ Some f) same agrees)
  where
    some_field : (o : Option FieldId) → o ≡ Some f → IsSome o
    some_field None h = absurd (cc)
    some_field (Some x) h = refl

module _ (unit : SourceUnit) (classes : Classes) (space : Space) (references : References) (fields : List (Option Handle)) where
  static_address : (x : Held) (r : StaticReference) (b : ℕ) → HeldAgrees space (held_argument x) r → held_address x ≡ Some b → IsAddress space b
  static_address x r b h e =
      let none : (c : ℕ) → ◌≡◌ {A = Option ℕ} None (Some c) → IsAddress space c = λ c e. absurd (cc) in
      checks.by_argument space (λ x r. (c : ℕ) → held_address x ≡ Some c → IsAddress space c) none (λ a n e c is. block_there space (Some a) (Some n) c e is)
      (λ a n e c is. block_there space (Some a) (Some n) c e is) none none x r h b e

  one_address : {p : ParameterKind} {o : Operand} {a : Actual} → IsGiven unit classes space references fields p o a → (b : ℕ) → operand_at references o ≡ Some b → IsAddress space b
  one_address (given.reference kind (given.local {i = i} r takes agrees)) b e = block_there space (operand_at references (operand.Local i)) r b agrees e
  one_address (given.reference kind (given.static {i = i} {r = r} takes agrees)) b e = static_address (static_at references i) r b agrees e
  one_address h b e = absurd (cc)

  one_handle : {p : ParameterKind} {o : Operand} {a : Actual} → IsGiven unit classes space references fields p o a → (g : FieldHandle) → field_at fields o ≡ Some g → IsSome (field_of classes g)
  one_handle (given.field {i = i} {f = f} agrees) g e = is_handle classes (field_at fields (operand.FieldId i)) f g agrees e
  one_handle (given.reference kind (given.null takes)) g e = absurd (cc)
  one_handle h g e = absurd (cc)

  all_addresses : {ps : List ParameterKind} {operands : List Operand} {args : List Actual} → AllTogether (IsGiven unit classes space references fields) ps operands args → AreAddresses space references operands
  all_addresses list.none = tt
  all_addresses (list.more h rest) = (one_address h, all_addresses rest)

  all_handles : {ps : List ParameterKind} {operands : List Operand} {args : List Actual} → AllTogether (IsGiven unit classes space references fields) ps operands args → AreHandles classes fields operands
  all_handles list.none = tt
  all_handles (list.more h rest) = (one_handle h, all_handles rest)

-- ---- tests that passed

-- no test of these holds
pub record Passed (p d m w r : Bool) : Type 0 where
  pub pending : p ≡ false
  pub deleted : d ≡ false
  pub missing : m ≡ false
  pub wrong : w ≡ false
  pub room : r ≡ false

pub all_passed : (p d m w r : Bool) → first_trap ((p, ExceptionPending) ∷ (d, DeletedReference) ∷ (m, NullReference) ∷ (w, WrongObject) ∷ (r, NoCapacity) ∷ []) ≡ None → Passed p d m w r
all_passed false false false false false h = record { pending = refl; deleted = refl; missing = refl; wrong = refl; room = refl }
all_passed p d m w r h = absurd (cc)

pub same_pending : (space : Space) (o : Option ℕ) (q : Reference) → ReferenceAgrees space o q → is_some o ≡ is_some q
same_pending space None None h = refl
same_pending space None (Some n) h = absurd h
same_pending space (Some a) None h = absurd h
same_pending space (Some a) (Some n) h = refl

module _ (p : Lowered) (w : World) (store : Store) (pending : Option ℕ) (activation : Activation) (call : Call) (others : Acquired) (k owner : ℕ) (shared : Shared) (s : Thread) (target : Target) (f : JniFunction) (args : List Actual) (h : IsAsked p w store pending activation call others k owner shared s target f args) where
  pub objects_there : AreAddresses store.heap (references_of store activation) call.operands
  objects_there = all_addresses (unit_tree p.unit) w.classes store.heap (references_of store activation) activation.slots.fields.items h.given

  pub handles_there : AreHandles w.classes activation.slots.fields.items call.operands
  handles_there = all_handles (unit_tree p.unit) w.classes store.heap (references_of store activation) activation.slots.fields.items h.given

  -- what the scene's checks find
  abbrev pub found_trap : Option Trap
  found_trap = trap_found (scene_of (unit_tree p.unit) w.classes store activation k pending) (has_room (locals_after f activation.locals)) (element_wanted call.target) f call.operands

  -- which sees this
  abbrev scene : Scene
  scene = scene_of (unit_tree p.unit) w.classes store activation k pending

  pub pending_there : ReferenceIsThere store.heap pending
  pending_there a e = block_there store.heap pending s.pending a h.pending_agrees e

  pub method_there : MethodIsThere (unit_tree p.unit) w.classes (method_at activation.slots.fields.items (operand_of call.operands 1))
  method_there = is_method (unit_tree p.unit) w.classes _ _ (checks.method_at_place (unit_tree p.unit) w.classes store.heap (references_of store activation) activation.slots.fields.items 1 h.given)

  -- of the source's call
  of_call : IsAsked p w store pending activation call others k owner shared s target call.function args
  of_call = subst (λ (g : JniFunction). IsAsked p w store pending activation call others k owner shared s target g args) (sym h.same_function) h

  -- the field of an argument is that of the source's
  pub field_is : (i : ℕ) → field_there w.classes (field_at activation.slots.fields.items (operand_of call.operands i)) ≡ field_given args i
  field_is i = ap (λ (a : ArgumentSight). a.field) (argument_is scene activation.locals (length s.callers) call shared.heap args of_call.store_agrees.heap of_call.given of_call.words of_call.texts i)

  -- is what is seen of it
  pub found_as_seen : found_trap ≡ trap_seen scene activation.locals call
  found_as_seen =
      ap (λ (g : JniFunction). trap_found scene (has_room (locals_after g activation.locals)) (element_wanted call.target) g call.operands) (sym h.same_function)
      ∙ found_seen scene activation.locals call pending_there objects_there method_there

  -- which is the trap of the source's call, of which how deep calls are is checked last
  pub seen_is : with_depth (is_too_deep f (length s.callers)) (trap_seen scene activation.locals call) ≡ trap_of_call w.classes shared s target f args
  seen_is =
      subst (λ (g : JniFunction). with_depth (is_too_deep g (length s.callers)) (trap_seen scene activation.locals call) ≡ trap_of_call w.classes shared s target g args) h.same_function
      (deep_is_last scene activation.locals (length s.callers) call
      ∙ same_trap p w store pending activation call others k owner shared s target args of_call)

  module _ (none : found_trap ≡ None) where
    passed : Passed (is_some pending && not (is_allowed_pending f)) (list_any (gives_deleted (references_of store activation)) call.operands) (some_missing (references_of store activation) activation.slots.fields.items (prototype f).parameters call.operands)
        (some_misfit w.classes store.heap (references_of store activation) (prototype f).parameters call.operands || not (fit_together (unit_tree p.unit) w.classes store.heap (references_of store activation) activation.slots.fields.items call.operands (element_wanted call.target) f)) (puts_local (prototype f).result && not (has_room (locals_after f activation.locals)))
    passed = all_passed _ _ _ _ _ none

    fitting : (some_misfit w.classes store.heap (references_of store activation) (prototype f).parameters call.operands ≡ false) × (fit_together (unit_tree p.unit) w.classes store.heap (references_of store activation) activation.slots.fields.items call.operands (element_wanted call.target) f ≡ true)
    fitting = fits_and_goes _ _ passed.wrong

    -- where nothing is found, the arguments go together
    pub fits_where_none : fit_together (unit_tree p.unit) w.classes store.heap (references_of store activation) activation.slots.fields.items call.operands (element_wanted call.target) f ≡ true
    fits_where_none = fitting.1

  -- where the source's call is stopped by no check, nothing is seen
  pub free_seen : trap_of_call w.classes shared s target f args ≡ None → trap_seen scene activation.locals call ≡ None
  free_seen free = none_of (trap_seen scene activation.locals call) (seen_is ∙ free)
    where
      none_of : (o : Option Trap) → with_depth (is_too_deep f (length s.callers)) o ≡ None → o ≡ None
      none_of (Some t) e = absurd (cc)
      none_of None e = refl

  module _ (free : trap_seen scene activation.locals call ≡ None) where
    found_none : found_trap ≡ None
    found_none = found_as_seen ∙ free

    -- the arguments go together
    pub has_passed : fit_together (unit_tree p.unit) w.classes store.heap (references_of store activation) activation.slots.fields.items call.operands (element_wanted call.target) f ≡ true
    has_passed = fits_where_none found_none

    -- no operand gives a static that is marked as deleted
    pub none_deleted : list_any (gives_deleted (references_of store activation)) call.operands ≡ false
    none_deleted = (passed found_none).deleted

    -- no operand gives NULL where that isn't allowed
    pub none_lacking : some_missing (references_of store activation) activation.slots.fields.items (parameters_for f (length args)) call.operands ≡ false
    none_lacking = sym (own_missing scene f (length args) call.operands) ∙ (passed found_none).missing

    -- none gives an object of another kind
    pub none_unfit : some_misfit w.classes store.heap (references_of store activation) (parameters_for f (length args)) call.operands ≡ false
    none_unfit = sym (own_misfit scene f (length args) call.operands) ∙ (fitting found_none).0

    -- a local reference has room
    pub room_left : (puts_local (prototype f).result && not (has_room (locals_after f activation.locals))) ≡ false
    room_left = (passed found_none).room

    -- so do the source's
    pub goes_together : go_together w.classes (sight_of_call shared s f args) (target_element s.variables target) f ≡ true
    goes_together =
        subst (λ (g : JniFunction). go_together w.classes (sight_of_call shared s g args) (target_element s.variables target) g ≡ true) h.same_function
        (sym (together_seen scene activation.locals (length s.callers) call pending_there objects_there method_there call.function refl ∙ same_together p w store pending activation call others k owner shared s target args of_call)
        ∙ subst (λ (g : JniFunction). fit_together (unit_tree p.unit) w.classes store.heap (references_of store activation) activation.slots.fields.items call.operands (element_wanted call.target) g ≡ true) (sym h.same_function) has_passed)
