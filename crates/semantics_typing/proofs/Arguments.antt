-- What is known of the arguments of a call that no trap stopped.
use Rattle.std.proofs.Common.{◌≡◌, ℕ, ℤ, zero, suc, Bool, true, false, ◌||◌, List, [], ◌∷◌, length, map, zip, Option, Some, None, refl, ap, subst, if◌then◌else◌}
use Rattle.std.specs.Prelude.{slice_get, ◌==◌}
use Rattle.std.specs.List.{list_any, AllByRecursion}
use Rattle.std.specs.Str.{bytes_eq}
use Rattle.std.proofs.lemmas.Bool.{eqb-true, not-false}
use Rattle.base.specs.Bytes.{Identifier, lookup}
use Rattle.class_rules.specs.BuiltIns.{class_class, string_class, number_array}
use Rattle.class_rules.specs.Class.{Classes, class_kind, is_object_array}
use Rattle.class_rules.specs.Fields.{FieldId}
use Rattle.jni.specs.declared.kinds.ParameterKind.{ParameterKind}
use Rattle.jni.specs.declared.kinds.ParameterKind.TheVariants.{ClassObject, ObjectArray, StringObject, NumberArray, FieldID, TextBytes, ArrayVariable}
use Rattle.type_rules.specs.declared.ty.ExprType.TheVariants as types
use Rattle.semantics.specs.Arguments.{Actual, ReferenceActual, FieldActual, look_up, reference_in_actual, name_or_zero, field_in_actual, text_in_actual, variable_in_actual}
use Rattle.semantics.specs.CallSight.{ArgumentSight, argument_seen, is_deleted}
use Rattle.semantics.specs.Checks.{misfits, misses}
use Rattle.semantics.specs.Heap.{Heap, class_of}
use Rattle.semantics.specs.Sight.{Sight, seen, held_field, held_reference}
use Rattle.semantics.specs.Task.{Operand}
use Rattle.semantics.specs.Thread.{Frame}
use Rattle.semantics.specs.Variable.{Variable, FieldHandle, MethodHandle, Scalar, LocalRef, Elements, LocalArray, StaticReference, Empty, Live, Deleted, Variables, Statics, Weakly, Cleared}
use Rattle.semantics_safety.specs.Owners.{Owners}
use Rattle.semantics_safety.specs.Points as rule
use Rattle.semantics_safety.specs.Points.{Point, OperandFits, OperandsFit}
use Rattle.semantics_safety.specs.Stands.{Stands}
use Rattle.semantics_safety.specs.WeakNames.{WeakNames}
use Rattle.world_values.specs.DeclaredFields.{IsDeclared}
use Rattle.semantics_typing.specs.Objects.{IsTypedVariable, AreTypedVariables}
use Rattle.semantics_typing.specs.Texts.{IsText}

-- ---- one argument

-- the object of an argument
abbrev pub object_in : Option Actual → ℕ
object_in a = name_or_zero (reference_in_actual a)

-- what is known of it, by its kind
abbrev pub IsKnownAs : Classes → Heap → Variables → ParameterKind → Option Actual → Type 0
IsKnownAs classes heap vs ClassObject a = class_of heap (object_in a) ≡ class_class
IsKnownAs classes heap vs ObjectArray a = is_object_array (class_kind classes (class_of heap (object_in a))) ≡ true
IsKnownAs classes heap vs StringObject a = class_of heap (object_in a) ≡ string_class
IsKnownAs classes heap vs (NumberArray t) a = class_of heap (object_in a) ≡ number_array t
IsKnownAs classes heap vs FieldID a = IsDeclared classes (field_in_actual a)
IsKnownAs classes heap vs (ArrayVariable t) a = (zs : List ℤ) × (lookup (variable_in_actual a) vs ≡ Some (LocalArray t zs))
IsKnownAs classes heap vs TextBytes a = IsText (text_in_actual a)
IsKnownAs classes heap vs kind a = Unit {0}

-- its text, if it is one, is of bytes
abbrev pub HasActualText : Actual → Type 0
HasActualText a = IsText (text_in_actual (Some a))

-- the kinds of objects
abbrev IsObjectKind : ParameterKind → Type 0
IsObjectKind ClassObject = Unit {0}
IsObjectKind ObjectArray = Unit {0}
IsObjectKind StringObject = Unit {0}
IsObjectKind (NumberArray t) = Unit {0}
IsObjectKind kind = ⊥

-- what an argument can be
abbrev IsArgument : StaticReference → Type 0
IsArgument (Weakly n) = ⊥
IsArgument Cleared = ⊥
IsArgument r = Unit {0}

held_argument : (o : Option Variable) (s : Option StaticReference) → IsArgument (held_reference o s)
held_argument (Some (LocalRef level None)) s = tt
held_argument (Some (LocalRef level (Some n))) s = tt
held_argument (Some (Scalar v)) s = tt
held_argument (Some (FieldHandle f)) s = tt
held_argument (Some (MethodHandle f)) s = tt
held_argument (Some (Elements t b)) s = tt
held_argument (Some (LocalArray t zs)) s = tt
held_argument None (Some Empty) = tt
held_argument None (Some (Live n)) = tt
held_argument None (Some (Weakly n)) = tt
held_argument None (Some Cleared) = tt
held_argument None (Some Deleted) = tt
held_argument None None = tt

module _ (classes : Classes) (heap : Heap) (vs : Variables) where
  -- what is seen of an argument
  abbrev of : Actual → ArgumentSight
  of a = argument_seen heap (Some a)

  object_known : (kind : ParameterKind) → IsObjectKind kind → (x : Identifier) (r : StaticReference) → IsArgument r → is_deleted (ReferenceActual x r) ≡ false → misses (kind, of (ReferenceActual x r)) ≡ false → misfits classes (kind, of (ReferenceActual x r)) ≡ false
      → IsKnownAs classes heap vs kind (Some (ReferenceActual x r))
  object_known kind of x Deleted arg d m f = absurd (cc)
  object_known ClassObject of x Empty arg d m f = absurd (cc)
  object_known ObjectArray of x Empty arg d m f = absurd (cc)
  object_known StringObject of x Empty arg d m f = absurd (cc)
  object_known (NumberArray t) of x Empty arg d m f = absurd (cc)
  object_known ClassObject of x (Live n) arg d m f = eqb-true (class_of heap n) class_class (not-false (class_of heap n == class_class) f)
  object_known ObjectArray of x (Live n) arg d m f = not-false (is_object_array (class_kind classes (class_of heap n))) f
  object_known StringObject of x (Live n) arg d m f = eqb-true (class_of heap n) string_class (not-false (class_of heap n == string_class) f)
  object_known (NumberArray t) of x (Live n) arg d m f = eqb-true (class_of heap n) (number_array t) (not-false (class_of heap n == number_array t) f)
  object_known kind of x (Weakly n) arg d m f = absurd arg
  object_known kind of x Cleared arg d m f = absurd arg
  object_known kind of x r arg d m f = absurd of

  field_known : (o : Option FieldId) → misses (FieldID, of (FieldActual o)) ≡ false → ((f : FieldId) → o ≡ Some f → IsDeclared classes f) → IsKnownAs classes heap vs FieldID (Some (FieldActual o))
  field_known None m h = absurd (cc)
  field_known (Some f) m h = h f refl

pub variable_typed : (classes : Classes) (heap : Heap) (x : Identifier) (vs : Variables) (v : Variable) → AreTypedVariables classes heap vs → lookup x vs ≡ Some v → IsTypedVariable classes heap v
variable_typed classes heap x [] v h e = absurd (cc)
variable_typed classes heap x ((y, w) ∷ vs) v h e = by_test (bytes_eq x y) e (variable_typed classes heap x vs v h.1)
  where
    by_test : (b : Bool) → (if b then Some w else lookup x vs) ≡ Some v → (lookup x vs ≡ Some v → IsTypedVariable classes heap v) → IsTypedVariable classes heap v
    by_test true e later = let same : w ≡ v = cc in subst (IsTypedVariable classes heap) same h.0
    by_test false e later = later e

-- what is known of each
abbrev pub AreKnownAs : Classes → Heap → Variables → List ParameterKind → List Actual → Type 0
AreKnownAs classes heap vs [] [] = Unit {0}
AreKnownAs classes heap vs (kind ∷ kinds) (a ∷ args) = IsKnownAs classes heap vs kind (Some a) × AreKnownAs classes heap vs kinds args
AreKnownAs classes heap vs kinds args = ⊥

pub known_at : (classes : Classes) (heap : Heap) (vs : Variables) (kinds : List ParameterKind) (args : List Actual) (i : ℕ) (kind : ParameterKind) → AreKnownAs classes heap vs kinds args → slice_get kinds i ≡ Some kind → IsKnownAs classes heap vs kind (slice_get args i)
known_at classes heap vs [] [] i kind h e = absurd (cc)
known_at classes heap vs [] (a ∷ args) i kind h e = absurd h
known_at classes heap vs (c ∷ kinds) [] i kind h e = absurd h
known_at classes heap vs (c ∷ kinds) (a ∷ args) zero kind h e = let same : c ≡ kind = cc in subst (λ (x : ParameterKind). IsKnownAs classes heap vs x (Some a)) same h.0
known_at classes heap vs (c ∷ kinds) (a ∷ args) (suc i) kind h e = known_at classes heap vs kinds args i kind h.1 e

-- as many are looked up as there are operands
pub looked_up : (p : Point) (sight : Sight) {kinds : List ParameterKind} {operands : List Operand} → OperandsFit p kinds operands → length (map (look_up sight) (zip kinds operands)) ≡ length operands
looked_up p sight rule.done = refl
looked_up p sight (rule.next fit rest) = ap suc (looked_up p sight rest)

-- ---- all arguments

module _ (classes : Classes) (heap : Heap) (ss : Statics) (vs : Variables) (frames : List Frame) (p : Point) {weak : WeakNames} {own : Owners} (stands : Stands weak own ss vs frames p) (typed : AreTypedVariables classes heap vs) where
  abbrev sight : Sight
  sight = seen vs ss heap

  abbrev Known : ParameterKind → Actual → Type 0
  Known kind a = IsKnownAs classes heap vs kind (Some a)

  held_declared : (o : Option Variable) → ((v : Variable) → o ≡ Some v → IsTypedVariable classes heap v) → (f : FieldId) → held_field o ≡ Some f → IsDeclared classes f
  held_declared None h f e = absurd (cc)
  held_declared (Some (FieldHandle None)) h f e = absurd (cc)
  held_declared (Some (FieldHandle (Some g))) h f e = let same : g ≡ f = cc in subst (IsDeclared classes) same (h (FieldHandle (Some g)) refl)
  held_declared (Some (MethodHandle m)) h f e = absurd (cc)
  held_declared (Some (Scalar v)) h f e = absurd (cc)
  held_declared (Some (LocalRef level r)) h f e = absurd (cc)
  held_declared (Some (Elements t b)) h f e = absurd (cc)
  held_declared (Some (LocalArray t zs)) h f e = absurd (cc)

  -- what is seen of an operand
  abbrev of_operand : ParameterKind → Operand → ArgumentSight
  of_operand kind o = argument_seen heap (Some (look_up sight (kind, o)))

  -- and of all
  abbrev all_seen : List ParameterKind → List Operand → List ArgumentSight
  all_seen kinds operands = map (λ (a : Actual). argument_seen heap (Some a)) (map (look_up sight) (zip kinds operands))

  one_known : {kind : ParameterKind} {o : Operand} → OperandFits p kind o → HasActualText (look_up sight (kind, o)) → is_deleted (look_up sight (kind, o)) ≡ false → misses (kind, of_operand kind o) ≡ false → misfits classes (kind, of_operand kind o) ≡ false → Known kind (look_up sight (kind, o))
  one_known (rule.reference rule.class_object rule.null) text d m f = object_known classes heap vs ClassObject tt [] Empty tt d m f
  one_known (rule.reference rule.object_array rule.null) text d m f = object_known classes heap vs ObjectArray tt [] Empty tt d m f
  one_known (rule.reference rule.string rule.null) text d m f = object_known classes heap vs StringObject tt [] Empty tt d m f
  one_known (rule.reference (rule.number_array {t = t}) rule.null) text d m f = object_known classes heap vs (NumberArray t) tt [] Empty tt d m f
  one_known (rule.reference rule.class_object (rule.named {x = x} fits)) text d m f = object_known classes heap vs ClassObject tt x (sight.reference x) (held_argument (lookup x vs) (lookup x ss)) d m f
  one_known (rule.reference rule.object_array (rule.named {x = x} fits)) text d m f = object_known classes heap vs ObjectArray tt x (sight.reference x) (held_argument (lookup x vs) (lookup x ss)) d m f
  one_known (rule.reference rule.string (rule.named {x = x} fits)) text d m f = object_known classes heap vs StringObject tt x (sight.reference x) (held_argument (lookup x vs) (lookup x ss)) d m f
  one_known (rule.reference (rule.number_array {t = t}) (rule.named {x = x} fits)) text d m f = object_known classes heap vs (NumberArray t) tt x (sight.reference x) (held_argument (lookup x vs) (lookup x ss)) d m f
  one_known (rule.field rule.null) text d m f = field_known classes heap vs None m (λ g e. absurd (cc))
  one_known (rule.field (rule.named {x = x} is)) text d m f = field_known classes heap vs (held_field (lookup x vs)) m (held_declared (lookup x vs) (λ v e. variable_typed classes heap x vs v typed e))
  one_known (rule.array {t = t} {size = size} {x = x} is) text d m f = let h = stands.types x (types.Array t size) is in (h.0, h.1)
  one_known rule.text text d m f = text
  one_known fits text d m f = tt

  none_of : (a b : Bool) → (a || b) ≡ false → (a ≡ false) × (b ≡ false)
  none_of true b h = absurd (cc)
  none_of false b h = (refl, h)

  pub all_known : {kinds : List ParameterKind} {operands : List Operand} → OperandsFit p kinds operands → AllByRecursion HasActualText (map (look_up sight) (zip kinds operands))
      → list_any (λ (a : ArgumentSight). a.is_deleted) (all_seen kinds operands) ≡ false
      → list_any misses (zip kinds (all_seen kinds operands)) ≡ false
      → list_any (misfits classes) (zip kinds (all_seen kinds operands)) ≡ false
      → AreKnownAs classes heap vs kinds (map (look_up sight) (zip kinds operands))
  all_known rule.done texts d m f = tt
  all_known (rule.next {kind = kind} {kinds = kinds} {o = o} {operands = operands} fit rest) texts d m f =
      let args = all_seen kinds operands in
      let x = none_of (is_deleted (look_up sight (kind, o))) (list_any (λ (a : ArgumentSight). a.is_deleted) args) d in
      let y = none_of (misses (kind, of_operand kind o)) (list_any misses (zip kinds args)) m in
      let z = none_of (misfits classes (kind, of_operand kind o)) (list_any (misfits classes) (zip kinds args)) f in
      (one_known fit texts.0 x.0 y.0 z.0, all_known rest texts.1 x.1 y.1 z.1)
