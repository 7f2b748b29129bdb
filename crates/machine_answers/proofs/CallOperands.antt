-- What is known of a call's operands, by the kinds of its parameters.
use Rattle.std.proofs.Common.{inl, inr, ◌≡◌, ℕ, zero, suc, ◌+◌, ◌-◌, ◌<◌, ◌≤◌, ◌^◌, Bool, true, false, not, List, [], ◌∷◌, ◌++◌, length, Option, Some, None, is_none, slice_get, refl, sym, ap, ◌∙◌, subst, arith, eqb, ⊎_elim, ℤ}
use Rattle.std.specs.Prelude.{◌⊎◌, ◌||◌, ◌==◌, FitsSigned, ◌&&◌}
use Rattle.std.specs.Int.{w32}
use Rattle.std.proofs.lemmas.List.{length-map}
use Rattle.std.specs.List.{AllZip, list_any}
use Rattle.std.specs.Option.{option_map_or}
use Rattle.std.proofs.lemmas.Bool.Decides.{eqb_tells}
use Rattle.syntax.specs.Tree.{SourceUnit}
use Rattle.class_rules.specs.BuiltIns.{class_class, has_own_making, string_class}
use Rattle.class_rules.specs.Class.{Class, Classes, class_at, class_kind, is_plain, superclass}
use Rattle.class_rules.proofs.GrownTables.{IsOrdered}
use Rattle.classes.specs.declared.class.FieldHandle.{FieldHandle}
use Rattle.code.specs.declared.instr.Operand.{Operand}
use Rattle.code.specs.declared.instr.Operand.TheVariants as operand
use Rattle.heap.specs.Heap.{Space, IsLaidOut, name_at, values_at}
use Rattle.jni.specs.declared.kinds.ParameterKind.{ParameterKind}
use Rattle.jni.specs.declared.kinds.ParameterKind.TheVariants.{Passed, ClassObject, FieldID, IntNumber}
use Rattle.semantics.specs.Arguments.{Actual, ReferenceActual, FieldActual, MethodActual, TextActual, VariableActual, ModeActual, NothingActual, reference_given, NumberActual}
use Rattle.semantics.specs.Object.{Reference}
use Rattle.code_meaning.specs.Does as list
use Rattle.code_meaning.specs.Does.{AllTogether}
use Rattle.code_meaning.specs.Fits.{IsReferenceKind}
use Rattle.machine_scenes.specs.declared.handle.Handle.{Handle}
use Rattle.machine_scenes.specs.Statics.{References, held_address, holds_deleted, holds_null, static_at}
use Rattle.machine_scenes.specs.declared.references.Held.{Held}
use Rattle.machine_scenes.specs.declared.references.Held.TheVariants as held
use Rattle.class_queries.specs.Kinds.{class_misfits}
use Rattle.machine_answers.specs.Sights.{gives_deleted, gives_null, values_seen, value_seen}
use Rattle.machine_answers.specs.Checked.{misfits, some_misfit, some_missing, may_be_null}
use Rattle.machine_scenes.specs.Given as given
use Rattle.machine_scenes.specs.Given.{operand_at, operand_of, class_there, IsGiven, field_at}
use Rattle.machine_scenes.specs.HeapAgrees.{ReferenceAgrees, IsTable}
use Rattle.machine_answers.specs.WorkedOut.{class_object}
use Rattle.machine_answers.proofs.CallChecks.{reference_at_place}
use Rattle.machine_answers.proofs.FewValues.{few_values}
use Rattle.machine_scenes.proofs.Handles.{class_known}

-- ---- what is there

-- an object has fewer values than there are `jint`s
pub few_there : (space : Space) (o : Option ℕ) → IsLaidOut space → space.cells ≤ 1048576 → length (values_seen space o) < 2 ^ 31
few_there space None laid_out limit = omega arith
few_there space (Some a) laid_out limit = let few = few_values space a laid_out limit in let same = length-map (values_at space a) (value_seen space) in omega (arith, few, same)

-- ---- class objects

-- the class object of a class of the table
pub class_object_is : (space : Space) (loaded : List ℕ) (count c : ℕ) → IsTable space loaded count → 0 < c → c ≤ count → ReferenceAgrees space (class_object loaded (Some c)) (Some c)
class_object_is space loaded count c table low high = by_address (slice_get loaded (c - 1)) refl
  where
    there : (xs : List ℕ) (i : ℕ) → i < length xs → slice_get xs i ≡ None → ⊥
    there [] i h e = absurd (omega (arith, h))
    there (x ∷ xs) zero h e = absurd (cc)
    there (x ∷ xs) (suc i) h e = there xs i (omega (arith, h)) e

    by_address : (o : Option ℕ) → slice_get loaded (c - 1) ≡ o → ReferenceAgrees space o (Some c)
    by_address None e = absurd (there loaded (c - 1) (omega (arith, low, high, table.counted)) e)
    by_address (Some a) e = let same : (c - 1) + 1 ≡ c = omega (arith, low) in table.named (c - 1) a e ∙ ap (λ (n : ℕ). Some n) same

pub super_known : (classes : Classes) → IsOrdered classes → (c s : ℕ) → superclass classes c ≡ Some s → (0 < s) × (s ≤ length classes)
super_known classes o c s h = by_class (class_at classes c) refl h
  where
    by_class : (k : Option Class) → class_at classes c ≡ k → option_map_or (λ (d : Class). d.superclass) k None ≡ Some s → (0 < s) × (s ≤ length classes)
    by_class None e q = absurd (cc)
    by_class (Some d) e q = let b = o.superclasses c s d e q in class_known classes s b.class b.is

pub same_number : (n m : ℕ) → not (n == m) ≡ false → n ≡ m
same_number n m same =
    ⊎_elim (λ (t : (eqb n m ≡ true) × (n ≡ m)). t.1)
    (λ (t : (eqb n m ≡ false) × (n ≡ m → ⊥)). absurd (let clash : not false ≡ false = ap not (sym t.0) ∙ same in cc))
    (eqb_tells n m)

module _ (unit : SourceUnit) (classes : Classes) (space : Space) (references : References) (fields : List (Option Handle)) where
  -- ---- the object of an argument

  -- operand i gives an object
  pub record GivenObject (operands : List Operand) (args : List Actual) (i : ℕ) : Type 0 where
    pub address : ℕ
    pub name : ℕ
    pub at : operand_at references (operand_of operands i) ≡ Some address
    pub is : reference_given args i ≡ Some name
    pub named : name_at space address ≡ Some name

  first_of : (a b : Bool) → (a || b) ≡ false → a ≡ false
  first_of true b h = absurd (cc)
  first_of false b h = refl

  second_of : (a b : Bool) → (a || b) ≡ false → b ≡ false
  second_of true b h = absurd (cc)
  second_of false b h = h

  some_address : (o : Option ℕ) → is_none o ≡ false → (a : ℕ) × (o ≡ Some a)
  some_address None h = absurd (cc)
  some_address (Some a) h = (a, refl)

  some_held : (x : Held) → holds_deleted x ≡ false → holds_null x ≡ false → (a : ℕ) × (held_address x ≡ Some a)
  some_held held.Empty whole h = absurd (cc)
  some_held (held.At a) whole h = (a, refl)
  some_held (held.Weakly a) whole h = (a, refl)
  some_held held.Cleared whole h = absurd (cc)
  some_held held.Deleted whole h = absurd (cc)

  object_in : {p : ParameterKind} {o : Operand} {a : Actual} → IsReferenceKind p → may_be_null p ≡ false → IsGiven unit classes space references fields p o a → gives_deleted references o ≡ false → gives_null references fields o ≡ false → (b : ℕ) × (operand_at references o ≡ Some b)
  object_in kind never (given.reference of (given.local {i = i} r takes agrees)) whole h = some_address (operand_at references (operand.Local i)) h
  object_in kind never (given.reference of (given.static {i = i} takes agrees)) whole h = some_held (static_at references i) whole h
  object_in kind never (given.reference of (given.null takes)) whole h = absurd (cc)
  object_in kind never (given.passed fits) whole h = absurd (cc)
  object_in kind never h whole null = absurd kind

  by_reference : (operands : List Operand) (args : List Actual) (i a : ℕ) (q : Reference) → operand_at references (operand_of operands i) ≡ Some a → reference_given args i ≡ q → ReferenceAgrees space (Some a) q → GivenObject operands args i
  by_reference operands args i a None at is h = absurd h
  by_reference operands args i a (Some n) at is h = record { address = a; name = n; at = at; is = is; named = h }

  -- an argument that may not be NULL
  pub object_at_place : (before : List ParameterKind) (p : ParameterKind) (after : List ParameterKind) → IsReferenceKind p → may_be_null p ≡ false → {operands : List Operand} {args : List Actual}
      → AllTogether (IsGiven unit classes space references fields) (before ++ p ∷ after) operands args → list_any (gives_deleted references) operands ≡ false → some_missing references fields (before ++ p ∷ after) operands ≡ false → GivenObject operands args (length before)
  object_at_place [] p after kind never (list.more {y = o} {z = a} {ys = operands} {zs = args} h rest) whole missing =
      let no_null : (not (may_be_null p) && gives_null references fields o) ≡ false = first_of (not (may_be_null p) && gives_null references fields o) (some_missing references fields after operands) missing in
      let found = object_in kind never h (first_of (gives_deleted references o) (list_any (gives_deleted references) operands) whole) (subst (λ (b : Bool). (not b && gives_null references fields o) ≡ false) never no_null) in
      by_reference (o ∷ operands) (a ∷ args) 0 found.0 (reference_given (a ∷ args) 0) found.1 refl
      (subst (λ (x : Option ℕ). ReferenceAgrees space x (reference_given (a ∷ args) 0)) found.1 (reference_at_place unit classes space references fields 0 (list.more h rest)))
  object_at_place (q ∷ before) p after kind never (list.more {y = o} {ys = operands} h rest) whole missing =
      let further = object_at_place before p after kind never rest (second_of (gives_deleted references o) (list_any (gives_deleted references) operands) whole)
      (second_of (not (may_be_null q) && gives_null references fields o) (some_missing references fields (before ++ p ∷ after) operands) missing) in
      record { address = further.address; name = further.name; at = further.at; is = further.is; named = further.named }

  -- a field ID that may not be NULL
  some_handle : (o : Option FieldHandle) → is_none o ≡ false → (h : FieldHandle) × (o ≡ Some h)
  some_handle None h = absurd (cc)
  some_handle (Some x) h = (x, refl)

  handle_in : {o : Operand} {a : Actual} → IsGiven unit classes space references fields FieldID o a → gives_null references fields o ≡ false → (h : FieldHandle) × (field_at fields o ≡ Some h)
  handle_in (given.field {i = i} agrees) h = some_handle (field_at fields (operand.FieldId i)) h
  handle_in given.null_field h = absurd (cc)
  handle_in (given.reference kind there) h = absurd kind

  pub second_field : (p : ParameterKind) (parameters : List ParameterKind) {operands : List Operand} {args : List Actual} → AllTogether (IsGiven unit classes space references fields) (p ∷ FieldID ∷ parameters) operands args
      → some_missing references fields (p ∷ FieldID ∷ parameters) operands ≡ false → (h : FieldHandle) × (field_at fields (operand_of operands 1) ≡ Some h)
  second_field p parameters (list.more {y = o} first (list.more {y = x} {ys = operands} second rest)) missing =
      let later = second_of (not (may_be_null p) && gives_null references fields o) (some_missing references fields (FieldID ∷ parameters) (x ∷ operands)) missing in
      handle_in second (first_of (gives_null references fields x) (some_missing references fields parameters operands) later)

  pub is_number : {o : Operand} {a : Actual} → IsGiven unit classes space references fields IntNumber o a → (z : ℤ) × (a ≡ NumberActual z) × FitsSigned w32 z
  is_number (given.number {z = z} fits) = (z, refl, fits)
  is_number (given.reference kind there) = absurd kind

  -- ---- its class

  -- an object is of the kind that its parameter asks for
  pub of_kind : (before : List ParameterKind) (p : ParameterKind) (after : List ParameterKind) (operands : List Operand) (a : ℕ) → operand_at references (operand_of operands (length before)) ≡ Some a
      → some_misfit classes space references (before ++ p ∷ after) operands ≡ false → class_misfits classes p (class_there space a) ≡ false
  of_kind before p after [] a at misfit = absurd (cc)
  of_kind [] p after (o ∷ operands) a at misfit = sym (ap (misfits classes space p) at) ∙ first_of (misfits classes space p (operand_at references o)) (some_misfit classes space references after operands) misfit
  of_kind (q ∷ before) p after (o ∷ operands) a at misfit =
      of_kind before p after operands a at (second_of (misfits classes space q (operand_at references o)) (some_misfit classes space references (before ++ p ∷ after) operands) misfit)

  -- it is an object of the class Class
  pub is_class : (before after : List ParameterKind) (operands : List Operand) (a : ℕ) → operand_at references (operand_of operands (length before)) ≡ Some a
      → some_misfit classes space references (before ++ ClassObject ∷ after) operands ≡ false → class_there space a ≡ class_class
  is_class before after operands a at misfit = same_number (class_there space a) class_class (of_kind before ClassObject after operands a at misfit)

pub own_making : (classes : Classes) (c : ℕ) → not (has_own_making classes c) ≡ true → c ≡ class_class → ⊥
own_making classes c h is = clash (not (is_plain (class_kind classes class_class))) (class_class == string_class) (ap (λ (n : ℕ). not (has_own_making classes n)) (sym is) ∙ h)
  where
    clash : (a b : Bool) → not (a || b || (class_class == class_class)) ≡ true → ⊥
    clash true b h = cc
    clash false true h = cc
    clash false false h = cc
