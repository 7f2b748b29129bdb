-- What the checks find in memory is the trap by what is seen of the call.
use Rattle.std.proofs.Common.{◌≡◌, ℕ, zero, suc, ◌+◌, ◌-◌, ◌++◌, Bool, true, false, not, List, [], ◌∷◌, drop, length, replicate, slice_get, Option, Some, None, is_some, refl, sym, ap, ◌∙◌, arith}
use Rattle.std.specs.Prelude.{◌==◌, ◌&&◌, ◌||◌, if◌then◌else◌, nat_le, zip}
use Rattle.std.specs.List.{list_any}
use Rattle.std.specs.Option.{option_map, option_map_or}
use Rattle.base.specs.declared.element.ElementType.{ElementType}
use Rattle.base.specs.Limits.{most_activations}
use Rattle.syntax.specs.declared.declared_type.ParameterType.{ParameterType}
use Rattle.syntax.specs.declared.declared_type.ParameterType.TheVariants.{Jint as IntParameter, Reference as ReferenceParameter}
use Rattle.syntax.specs.declared.unit.ResultType.{ResultType}
use Rattle.syntax.specs.Tree.{Function, Parameter}
use Rattle.class_rules.specs.Class.{Classes, FieldType, NumberField, ReferenceField, assignable}
use Rattle.class_rules.specs.Fields.{FieldId}
use Rattle.class_queries.specs.Kinds.{class_misfits}
use Rattle.code.specs.Call.{Call}
use Rattle.code.specs.declared.instr.Operand.{Operand}
use Rattle.code.specs.declared.instr.Operand.TheVariants as operand
use Rattle.heap.specs.Heap.{Block, Space, block_at}
use Rattle.jni.specs.declared.function.JniFunction.{JniFunction}
use Rattle.jni.specs.declared.function.JniFunction.TheVariants.{CallStaticIntMethod, CallStaticObjectMethod, CallStaticVoidMethod, PopLocalFrame}
use Rattle.jni.specs.JniFunction.{calls_method, is_allowed_pending, parameters_for, prototype}
use Rattle.jni.specs.declared.kinds.ParameterKind.{ParameterKind}
use Rattle.jni.specs.declared.kinds.ParameterKind.TheVariants.{Nullable, AnyReference, LocalVariable, StaticVariable, WeakVariable, Passed, ClassObject, NumberArray, AnyArray, ObjectArray, StringObject, MethodID}
use Rattle.jni.specs.declared.kinds.ResultKind.{ResultKind}
use Rattle.jni.specs.declared.kinds.ResultKind.TheVariants.{NewLocal}
use Rattle.semantics.specs.Arguments.{name_or_zero}
use Rattle.semantics.specs.CallSight.{ArgumentSight, CallSight, name_of_first}
use Rattle.semantics.specs.Checks.{is_int, is_reference_result, is_void, first_trap}
use Rattle.semantics.specs.Checks as source
use Rattle.semantics.specs.Method.{MethodId}
use Rattle.semantics.specs.Thread.{Monitor}
use Rattle.semantics.specs.Variable.{StaticReference}
use Rattle.monitors.specs.declared.monitors.Monitor.{Monitor as Owned}
use Rattle.semantics.specs.declared.trap.Trap.{Trap}
use Rattle.semantics.specs.declared.trap.Trap.TheVariants.{CallsTooDeep, NullReference, ExceptionPending, WrongObject, DeletedReference, NoCapacity}
use Rattle.semantics.proofs.CheckLaws.{lacks_without, together_without}
use Rattle.tables.specs.Locals.{LocalTable, has_room}
use Rattle.machine_scenes.specs.declared.handle.MethodHandle.{MethodHandle}
use Rattle.machine_scenes.specs.FieldIds.{IsMethod}
use Rattle.machine_scenes.specs.Given.{AreAddresses, ReferenceIsThere, class_of_given, class_there, field_at, field_there, fits_there, method_at, name_there, operand_at, operand_of, operand_or_null}
use Rattle.machine_scenes.specs.Locals.{locals_after}
use Rattle.machine_scenes.specs.Scenes.{Scene}
use Rattle.machine_answers.specs.Checked.{called, calls_well, fit_together, fits_type_there, function_in, may_be_null, misfits, puts_local, returns, some_misfit, some_missing, takes, takes_all, trap_found}
use Rattle.machine_answers.specs.Sights.{MethodIsThere, argument_seen, element_wanted, gives_deleted, gives_null, call_seen, each_seen, is_number, is_reference, kinds, method_seen, name_seen, null_seen, trap_seen}
use Rattle.machine_answers.proofs.SightParts.{name_is}

-- ---- how deep calls are, which is checked last

-- a method is called, and as many calls are made from one another as may be
abbrev pub is_too_deep : JniFunction → (callers : ℕ) → Bool
is_too_deep f callers = calls_method f && nat_le most_activations (callers + 1)

-- the trap of a call whose other checks found this
abbrev pub with_depth : (deep : Bool) → Option Trap → Option Trap
with_depth deep (Some trap) = Some trap
with_depth true None = Some CallsTooDeep
with_depth false None = None

deep_last : (deep : Bool) (tests : List (Bool × Trap)) → first_trap (tests ++ (deep, CallsTooDeep) ∷ []) ≡ with_depth deep (first_trap tests)
deep_last true [] = refl
deep_last false [] = refl
deep_last deep ((true, trap) ∷ tests) = refl
deep_last deep ((false, trap) ∷ tests) = deep_last deep tests

-- one call alone isn't too deep
not_alone : (f : JniFunction) → is_too_deep f 0 ≡ false
not_alone f = by_kind (calls_method f)
  where
    by_kind : (b : Bool) → (b && nat_le 64 (0 + 1)) ≡ false
    by_kind true = refl
    by_kind false = refl

undeep : (deep : Bool) (o : Option Trap) → deep ≡ false → with_depth deep o ≡ o
undeep true o h = absurd (cc)
undeep false None h = refl
undeep false (Some trap) h = refl

-- ---- what no check looks at

-- what the checks find, but that of how deep calls are
module _ (classes : Classes) (sight : CallSight) (element : ElementType) (f : JniFunction) where
  abbrev found : Option Trap
  found =
      first_trap (
      (is_some sight.pending && not (is_allowed_pending f), ExceptionPending)
      ∷ (list_any (λ (a : ArgumentSight). a.is_deleted) sight.arguments, DeletedReference)
      ∷ (list_any source.misses (source.with_kinds classes sight f), NullReference)
      ∷ (list_any (source.misfits classes) (source.with_kinds classes sight f) || not (source.go_together classes sight element f), WrongObject)
      ∷ (source.lacks_room classes sight f (prototype f).result, NoCapacity)
      ∷ [])

  pub depth_last : source.trap_of classes sight element f ≡ with_depth (is_too_deep f sight.callers) found
  unfolding source.trap_of
  depth_last =
      deep_last (is_too_deep f sight.callers) (
      (is_some sight.pending && not (is_allowed_pending f), ExceptionPending)
      ∷ (list_any (λ (a : ArgumentSight). a.is_deleted) sight.arguments, DeletedReference)
      ∷ (list_any source.misses (source.with_kinds classes sight f), NullReference)
      ∷ (list_any (source.misfits classes) (source.with_kinds classes sight f) || not (source.go_together classes sight element f), WrongObject)
      ∷ (source.lacks_room classes sight f (prototype f).result, NoCapacity)
      ∷ [])

-- no other check looks at a monitor, at what a static holds that is deleted, or at how deep calls are
module _ (classes : Classes) (sight : CallSight) (m : Option Monitor) (o : Option StaticReference) (n : ℕ) where
  abbrev other : CallSight
  other = record sight { monitor = m; held = o; callers = n }

  found_without : (element : ElementType) (f : JniFunction) → found classes other element f ≡ found classes sight element f
  found_without element f =
      let together = together_without classes sight m o n element f in
      let lacks = lacks_without classes sight m o n f (prototype f).result in
      λ i. first_trap (
      (is_some sight.pending && not (is_allowed_pending f), ExceptionPending)
      ∷ (list_any (λ (a : ArgumentSight). a.is_deleted) sight.arguments, DeletedReference)
      ∷ (list_any source.misses (source.with_kinds classes sight f), NullReference)
      ∷ (list_any (source.misfits classes) (source.with_kinds classes sight f) || not (together i), WrongObject)
      ∷ (lacks i, NoCapacity)
      ∷ [])

  pub trap_without : (element : ElementType) (f : JniFunction) → source.trap_of classes other element f ≡ with_depth (is_too_deep f n) (found classes sight element f)
  trap_without element f = depth_last classes other element f ∙ ap (with_depth (is_too_deep f n)) (found_without element f)

-- so whatever monitors are owned, they find the same
pub whatever_monitors : (scene : Scene) (monitors : List Owned) (locals : LocalTable) (call : Call) → trap_seen (record scene { monitors = monitors }) locals call ≡ trap_seen scene locals call
whatever_monitors scene monitors locals call =
    let sight = call_seen scene locals 0 call in
    trap_without scene.classes sight (call_seen (record scene { monitors = monitors }) locals 0 call).monitor sight.held 0 (element_wanted call.target) call.function
    ∙ sym (depth_last scene.classes sight (element_wanted call.target) call.function)

-- a call for which others wait finds the same, or that calls are too deep
pub deep_is_last : (scene : Scene) (locals : LocalTable) (callers : ℕ) (call : Call)
    → with_depth (is_too_deep call.function callers) (trap_seen scene locals call) ≡ source.trap_of scene.classes (call_seen scene locals callers call) (element_wanted call.target) call.function
deep_is_last scene locals callers call =
    let sight = call_seen scene locals 0 call in
    ap (with_depth (is_too_deep call.function callers)) (depth_last scene.classes sight (element_wanted call.target) call.function ∙ undeep (is_too_deep call.function 0) (found scene.classes sight (element_wanted call.target) call.function) (not_alone call.function))
    ∙ sym (trap_without scene.classes sight sight.monitor sight.held callers (element_wanted call.target) call.function)

-- ---- one operand

-- a reference that is there has a name
named : (space : Space) (r : Option ℕ) → ReferenceIsThere space r → is_some r ≡ is_some (name_seen space r)
named space None h = refl
named space (Some a) h = by_block (block_at space a) (h a refl)
  where
    by_block : (o : Option Block) → is_some o ≡ true → true ≡ is_some (option_map (λ (b : Block). b.birth) o)
    by_block None e = absurd (cc)
    by_block (Some b) e = refl

lacks_one : (p : ParameterKind) (b : Bool) → (not (may_be_null p) && b) ≡ (not (source.may_be_null p) && null_seen b (Some p))
lacks_one Nullable b = refl
lacks_one AnyReference b = refl
lacks_one LocalVariable b = refl
lacks_one StaticVariable b = refl
lacks_one WeakVariable b = refl
lacks_one Passed b = refl
lacks_one p true = refl
lacks_one p false = refl

module _ (scene : Scene) where
  same_misfit : (p : ParameterKind) (c : ℕ) → class_misfits scene.classes p c ≡ source.misfits_class scene.classes p c
  same_misfit ClassObject c = refl
  same_misfit (NumberArray T) c = refl
  same_misfit AnyArray c = refl
  same_misfit ObjectArray c = refl
  same_misfit StringObject c = refl
  same_misfit p c = refl

  misfits_one : (p : ParameterKind) (r : Option ℕ) → ReferenceIsThere scene.space r
      → misfits scene.classes scene.space p r ≡ (is_some (name_seen scene.space r) && source.misfits_class scene.classes p (class_of_given scene.space r))
  misfits_one p None h = refl
  misfits_one p (Some a) h =
      same_misfit p (class_there scene.space a)
      ∙ ap (λ b. b && source.misfits_class scene.classes p (class_there scene.space a)) (named scene.space (Some a) h)

  pub fits_one : (r : Option ℕ) (c : ℕ) → ReferenceIsThere scene.space r
      → fits_there scene.classes scene.space r c ≡ option_map_or (λ (n : ℕ). assignable scene.classes (class_of_given scene.space r) c) (name_seen scene.space r) true
  fits_one None c h = refl
  fits_one (Some a) c h = by_name (name_seen scene.space (Some a)) (sym (named scene.space (Some a) h))
    where
      by_name : (o : Option ℕ) → is_some o ≡ true → assignable scene.classes (class_there scene.space a) c ≡ option_map_or (λ (n : ℕ). assignable scene.classes (class_there scene.space a) c) o true
      by_name None e = absurd (cc)
      by_name (Some n) e = refl

-- ---- operands one after another

module _ (R : ParameterKind → Operand → Bool) where
  -- some operand is so for its parameter
  abbrev some_pair : List ParameterKind → List Operand → Bool
  some_pair (p ∷ ps) (o ∷ os) = R p o || some_pair ps os
  some_pair ps os = false

  -- which it never is where a method is given it
  without_passed : ((o : Operand) → R Passed o ≡ false) → (n : ℕ) (own : List ParameterKind) (os : List Operand) → some_pair (own ++ replicate n Passed) os ≡ some_pair own os
  without_passed never zero [] os = refl
  without_passed never (suc n) [] [] = refl
  without_passed never (suc n) [] (o ∷ os) = let one = never o in let further = without_passed never n [] os in λ i. one i || further i
  without_passed never n (q ∷ own) [] = refl
  without_passed never n (q ∷ own) (o ∷ os) = ap (λ b. R q o || b) (without_passed never n own os)

  of_own : ((o : Operand) → R Passed o ≡ false) → (f : JniFunction) (n : ℕ) (os : List Operand) → some_pair (parameters_for f n) os ≡ some_pair (prototype f).parameters os
  of_own never f n os = by_kind (calls_method f)
    where
      own : List ParameterKind
      own = (prototype f).parameters

      by_kind : (b : Bool) → some_pair (own ++ (if b then replicate (n - length own) Passed else [])) os ≡ some_pair own os
      by_kind true = without_passed never (n - length own) own os
      by_kind false = without_passed never 0 own os

  -- as it is of what is seen
  pairs_seen : (P : ParameterKind × ArgumentSight → Bool) (ps : List ParameterKind) (os : List Operand) (seen : ℕ → ArgumentSight)
      → ((i : ℕ) (p : ParameterKind) (o : Operand) → slice_get ps i ≡ Some p → slice_get os i ≡ Some o → R p o ≡ P (p, seen i)) → some_pair ps os ≡ list_any P (zip ps (each_seen seen os))
  pairs_seen P [] os seen h = refl
  pairs_seen P (p ∷ ps) [] seen h = refl
  pairs_seen P (p ∷ ps) (o ∷ os) seen h =
      let one = h 0 p o refl refl in
      let further = pairs_seen P ps os (λ i. seen (suc i)) (λ i q x e f. h (suc i) q x e f) in
      λ i. one i || further i

module _ (scene : Scene) where
  abbrev lacks : ParameterKind → Operand → Bool
  lacks p o = not (may_be_null p) && gives_null scene.references scene.fields o

  abbrev misfit : ParameterKind → Operand → Bool
  misfit p o = misfits scene.classes scene.space p (operand_at scene.references o)

  missing_pairs : (ps : List ParameterKind) (os : List Operand) → some_missing scene.references scene.fields ps os ≡ some_pair lacks ps os
  missing_pairs [] os = refl
  missing_pairs (p ∷ ps) [] = refl
  missing_pairs (p ∷ ps) (o ∷ os) = ap (λ b. lacks p o || b) (missing_pairs ps os)

  misfit_pairs : (ps : List ParameterKind) (os : List Operand) → some_misfit scene.classes scene.space scene.references ps os ≡ some_pair misfit ps os
  misfit_pairs [] os = refl
  misfit_pairs (p ∷ ps) [] = refl
  misfit_pairs (p ∷ ps) (o ∷ os) = ap (λ b. misfit p o || b) (misfit_pairs ps os)

  -- what a method is given may be NULL, and of each kind
  pub own_missing : (f : JniFunction) (n : ℕ) (os : List Operand) → some_missing scene.references scene.fields (prototype f).parameters os ≡ some_missing scene.references scene.fields (parameters_for f n) os
  own_missing f n os = missing_pairs (prototype f).parameters os ∙ sym (missing_pairs (parameters_for f n) os ∙ of_own lacks (λ o. refl) f n os)

  pub own_misfit : (f : JniFunction) (n : ℕ) (os : List Operand) → some_misfit scene.classes scene.space scene.references (prototype f).parameters os ≡ some_misfit scene.classes scene.space scene.references (parameters_for f n) os
  own_misfit f n os = misfit_pairs (prototype f).parameters os ∙ sym (misfit_pairs (parameters_for f n) os ∙ of_own misfit (λ o. fits_all (operand_at scene.references o)) f n os)
    where
      fits_all : (r : Option ℕ) → misfits scene.classes scene.space Passed r ≡ false
      fits_all None = refl
      fits_all (Some a) = refl

  some_deleted : (os : List Operand) (seen : ℕ → ArgumentSight) → ((i : ℕ) (o : Operand) → slice_get os i ≡ Some o → gives_deleted scene.references o ≡ (seen i).is_deleted)
      → list_any (gives_deleted scene.references) os ≡ list_any (λ (a : ArgumentSight). a.is_deleted) (each_seen seen os)
  some_deleted [] seen h = refl
  some_deleted (o ∷ os) seen h =
      let one = h 0 o refl in
      let further = some_deleted os (λ i. seen (suc i)) (λ i x e. h (suc i) x e) in
      λ i. one i || further i

as_many : (seen : ℕ → ArgumentSight) (os : List Operand) → length os ≡ length (each_seen seen os)
as_many seen [] = refl
as_many seen (o ∷ os) = ap suc (as_many (λ i. seen (suc i)) os)

-- what is passed to a method
takes_one : (type : ParameterType) (o : Operand) (a : ArgumentSight) → is_number o ≡ a.is_number → is_reference (Some Passed) o ≡ a.is_reference → takes type o ≡ source.passes type a
takes_one IntParameter operand.Number a number reference = number
takes_one IntParameter o a number reference = number
takes_one (ReferenceParameter type) operand.Null a number reference = reference
takes_one (ReferenceParameter type) o a number reference = reference

takes_seen : (parameters : List Parameter) (os : List Operand) (seen : ℕ → ArgumentSight)
    → ((i : ℕ) (o : Operand) → slice_get os i ≡ Some o → (is_number o ≡ (seen i).is_number) × (is_reference (Some Passed) o ≡ (seen i).is_reference))
    → takes_all parameters os ≡ source.all_pass parameters (each_seen seen os)
takes_seen [] [] seen h = refl
takes_seen [] (o ∷ os) seen h = refl
takes_seen (p ∷ parameters) [] seen h = refl
takes_seen (p ∷ parameters) (o ∷ os) seen h =
    let one = takes_one p.type o (seen 0) (h 0 o refl).0 (h 0 o refl).1 in
    let further = takes_seen parameters os (λ i. seen (suc i)) (λ i x e. h (suc i) x e) in
    λ i. one i && further i

-- a place within a list of one kind alone
all_passed : (n : ℕ) (os : List Operand) (i : ℕ) (o : Operand) → length os ≡ n → slice_get os i ≡ Some o → slice_get (replicate n Passed) i ≡ Some Passed
all_passed n [] i o count e = absurd (cc)
all_passed zero (x ∷ os) i o count e = absurd (omega (arith, count))
all_passed (suc n) (x ∷ os) zero o count e = refl
all_passed (suc n) (x ∷ os) (suc i) o count e = all_passed n os i o (omega (arith, count)) e

-- ---- a call

-- a call that sees this, whose references are there
module _ (scene : Scene) (locals : LocalTable) (callers : ℕ) (call : Call) (pending : ReferenceIsThere scene.space scene.pending)
    (there : AreAddresses scene.space scene.references call.operands) (method : MethodIsThere scene.unit scene.classes (method_at scene.fields (operand_of call.operands 1))) where
  abbrev sight : CallSight
  sight = call_seen scene locals callers call

  abbrev seen : ℕ → ArgumentSight
  seen i = argument_seen scene locals callers call i

  abbrev operands : List Operand
  operands = call.operands

  -- the field of the second argument
  abbrev asked : FieldId
  asked = field_there scene.classes (field_at scene.fields (operand_of operands 1))

  operand_is : (i : ℕ) (o : Operand) → slice_get operands i ≡ Some o → o ≡ operand_of operands i
  operand_is i o e = sym (ap (λ (x : Option Operand). operand_or_null x) e)

  reference_there : (i : ℕ) → ReferenceIsThere scene.space (operand_at scene.references (operand_of operands i))
  reference_there i = at_place operands i there
    where
      at_place : (os : List Operand) (i : ℕ) → AreAddresses scene.space scene.references os → ReferenceIsThere scene.space (operand_at scene.references (operand_of os i))
      at_place [] i h = λ a e. absurd (cc)
      at_place (o ∷ os) zero h = h.0
      at_place (o ∷ os) (suc i) h = at_place os i h.1

  -- the object of an argument by its name
  name_at_place : (i : ℕ) → name_there scene.space (operand_at scene.references (operand_of operands i)) ≡ name_or_zero (seen i).reference
  name_at_place i = name_is scene.space (operand_at scene.references (operand_of operands i))

  -- ---- arguments together

  fits_field_seen : (type : FieldType) → fits_type_there scene.classes scene.space (operand_at scene.references (operand_of operands 2)) type ≡ source.fits_field scene.classes (seen 2) type
  fits_field_seen (NumberField T) = refl
  fits_field_seen (ReferenceField c) = fits_one scene (operand_at scene.references (operand_of operands 2)) c (reference_there 2)

  -- what a method is passed comes after the class and the method ID
  abbrev CallsMethod : Type 0
  CallsMethod = kinds scene locals callers call ≡ ClassObject ∷ MethodID ∷ replicate (length operands - 2) Passed

  passed_seen : CallsMethod → (parameters : List Parameter) → takes_all parameters (drop 2 operands) ≡ source.all_pass parameters (drop 2 sight.arguments)
  passed_seen of_method parameters = by_operands operands refl
    where
      by_operands : (os : List Operand) → operands ≡ os → takes_all parameters (drop 2 os) ≡ source.all_pass parameters (drop 2 (each_seen seen os))
      by_operands [] same = takes_seen parameters [] seen (λ i o e. absurd (cc))
      by_operands (o ∷ []) same = takes_seen parameters [] seen (λ i o e. absurd (cc))
      by_operands (o ∷ x ∷ os) same = takes_seen parameters os (λ i. seen (suc (suc i))) (λ i y e. (ap is_number (is i y e), ap (is_reference (Some Passed)) (is i y e) ∙ sym (ap (λ (q : Option ParameterKind). is_reference q (operand_of operands (suc (suc i)))) (kind i y e))))
        where
          is : (i : ℕ) (y : Operand) → slice_get os i ≡ Some y → y ≡ operand_of operands (suc (suc i))
          is i y e = operand_is (suc (suc i)) y (ap (λ (xs : List Operand). slice_get xs (suc (suc i))) same ∙ e)

          kind : (i : ℕ) (y : Operand) → slice_get os i ≡ Some y → slice_get (kinds scene locals callers call) (suc (suc i)) ≡ Some Passed
          kind i y e =
              let count : length operands ≡ suc (suc (length os)) = ap length same in
              ap (λ (ps : List ParameterKind). slice_get ps (suc (suc i))) of_method ∙ all_passed (length operands - 2) os i y (omega (arith, count)) e

  called_seen : CallsMethod → (f : JniFunction) (wants : ResultType → Bool) → ((r : ResultType) → returns f r ≡ wants r) → (h : Option MethodHandle) → MethodIsThere scene.unit scene.classes h
      → calls_well scene.unit scene.classes scene.space scene.references scene.fields operands f (called scene.unit scene.classes scene.space scene.references scene.fields operands h) ≡ source.calls_well scene.classes sight wants (method_seen scene.unit h)
  called_seen of_method f wants same None is = refl
  called_seen of_method f wants same (Some h) is =
      (λ i. calls_well scene.unit scene.classes scene.space scene.references scene.fields operands f (if h.class.number == name_at_place 0 i then function_in (it.1.item i) else None))
      ∙ by_class (h.class.number == name_of_first sight)
      ∙ sym (ap (λ (o : Option Function). source.calls_well scene.classes sight wants (option_map (λ (g : Function). let m : MethodId = record { class = h.class.number; function = g } in m) o)) it.1.function)
    where
      it : (m : MethodId) × IsMethod scene.unit scene.classes h m
      it = is h refl

      by_class : (b : Bool) → calls_well scene.unit scene.classes scene.space scene.references scene.fields operands f (if b then Some it.0.function else None) ≡ (b && wants it.0.function.result && source.all_pass it.0.function.parameters (drop 2 sight.arguments))
      by_class true = let one = same it.0.function.result in let further = passed_seen of_method it.0.function.parameters in λ i. one i && further i
      by_class false = refl

  pub together_seen : (f : JniFunction) → call.function ≡ f → fit_together scene.unit scene.classes scene.space scene.references scene.fields operands (element_wanted call.target) f ≡ source.go_together scene.classes sight (element_wanted call.target) f
  unfolding source.go_together
  together_seen CallStaticVoidMethod of = called_seen (ap (λ f. parameters_for f (length operands)) of) CallStaticVoidMethod is_void (λ r. refl) _ method
  together_seen CallStaticIntMethod of = called_seen (ap (λ f. parameters_for f (length operands)) of) CallStaticIntMethod is_int (λ r. refl) _ method
  together_seen CallStaticObjectMethod of = called_seen (ap (λ f. parameters_for f (length operands)) of) CallStaticObjectMethod is_reference_result (λ r. refl) _ method
  together_seen f of =
      let first = name_at_place 0 in
      let second = name_at_place 1 in
      let field = fits_field_seen asked.field.type in
      let third = fits_one scene (operand_at scene.references (operand_of operands 2)) (name_or_zero (seen 1).reference) (reference_there 2) in
      grind (arith, first, second, field, third)

  -- ---- all of them

  room_seen : (f : JniFunction) (kind : ResultKind) → (puts_local kind && not (has_room (locals_after f locals))) ≡ source.lacks_room scene.classes sight f kind
  room_seen f NewLocal = no_room f
    where
      no_room : (f : JniFunction) → not (has_room (locals_after f locals)) ≡ source.has_no_room scene.classes sight f
      no_room PopLocalFrame = refl
      no_room f = refl
  room_seen f kind = refl

  -- what is found is the trap by what is seen
  pub trap_is_seen : with_depth (is_too_deep call.function callers) (trap_found scene (has_room (locals_after call.function locals)) (element_wanted call.target) call.function operands) ≡ source.trap_of scene.classes sight (element_wanted call.target) call.function
  trap_is_seen =
      let deep = is_too_deep call.function callers in
      let all = kinds scene locals callers call in
      let same = ap (λ n. parameters_for call.function n) (as_many seen operands) in
      let exception = named scene.space scene.pending pending in
      let deleted = some_deleted scene operands seen (λ i o e. ap (gives_deleted scene.references) (operand_is i o e)) in
      let missing =
      own_missing scene call.function (length operands) operands ∙ missing_pairs scene all operands
      ∙ pairs_seen (lacks scene) source.misses all operands seen (λ i p o at e. lacks_one p (gives_null scene.references scene.fields o) ∙ (λ j. not (source.may_be_null p) && null_seen (gives_null scene.references scene.fields (operand_is i o e j)) (sym at j)))
      ∙ ap (λ (ps : List ParameterKind). list_any source.misses (zip ps sight.arguments)) same in
      let misfit =
      own_misfit scene call.function (length operands) operands ∙ misfit_pairs scene all operands
      ∙ pairs_seen (misfit scene) (source.misfits scene.classes) all operands seen (λ i p o at e. ap (misfit scene p) (operand_is i o e) ∙ misfits_one scene p (operand_at scene.references (operand_of operands i)) (reference_there i))
      ∙ ap (λ (ps : List ParameterKind). list_any (source.misfits scene.classes) (zip ps sight.arguments)) same in
      let together = together_seen call.function refl in
      let room = room_seen call.function (prototype call.function).result in
      (λ i. with_depth deep (first_trap ((exception i && not (is_allowed_pending call.function), ExceptionPending) ∷ (deleted i, DeletedReference) ∷ (missing i, NullReference) ∷ (misfit i || not (together i), WrongObject) ∷ (room i, NoCapacity) ∷ [])))
      ∙ sym (depth_last scene.classes sight (element_wanted call.target) call.function)

-- what is found is the trap of a call for which none waits
pub found_seen : (scene : Scene) (locals : LocalTable) (call : Call) → ReferenceIsThere scene.space scene.pending → AreAddresses scene.space scene.references call.operands → MethodIsThere scene.unit scene.classes (method_at scene.fields (operand_of call.operands 1))
    → trap_found scene (has_room (locals_after call.function locals)) (element_wanted call.target) call.function call.operands ≡ trap_seen scene locals call
found_seen scene locals call pending there method =
    sym (undeep (is_too_deep call.function 0) _ (not_alone call.function)) ∙ trap_is_seen scene locals 0 call pending there method
