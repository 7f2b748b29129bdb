-- What is seen in memory of an argument is what the source's call sees of it.
use Rattle.std.proofs.Common.{inl, inr, ◌≡◌, ℕ, Bool, true, false, List, Option, Some, None, is_none, refl, sym, ap, ◌∙◌, subst}
use Rattle.std.specs.Prelude.{◌⊎◌, ℤ, unwrap_or}
use Rattle.std.specs.Option.{option_map}
use Rattle.base.specs.Bytes.{Identifier}
use Rattle.syntax.specs.Tree.{Function, SourceUnit}
use Rattle.class_rules.specs.Class.{Classes}
use Rattle.class_rules.specs.Fields.{FieldId}
use Rattle.classes.specs.declared.class.FieldHandle.{FieldHandle}
use Rattle.code.specs.declared.instr.Operand.{Operand}
use Rattle.code.specs.declared.instr.Operand.TheVariants as operand
use Rattle.jni.specs.declared.kinds.ParameterKind.{ParameterKind}
use Rattle.jni.specs.declared.kinds.ParameterKind.TheVariants.{IntNumber, Passed}
use Rattle.jni.specs.declared.kinds.ParameterKind.TheVariants as kinds
use Rattle.jni.specs.declared.mode.ReleaseMode.{ReleaseMode}
use Rattle.jni.specs.declared.mode.ReleaseMode.TheVariants.{CopyBackAndFree, CopyBack, FreeUncopied}
use Rattle.semantics.specs.Arguments.{Actual, ReferenceActual, FieldActual, MethodActual, field_in_actual, number_in_actual, name_or_zero, reference_in_actual, text_in_actual}
use Rattle.semantics.specs.CallSight.{is_deleted, ArgumentSight}
use Rattle.semantics.specs.CallSight as source
use Rattle.semantics.specs.Heap.{Heap}
use Rattle.semantics.specs.Method.{MethodId}
use Rattle.semantics.specs.Object.{Object, Reference}
use Rattle.semantics.specs.Variable.{StaticReference, Empty, Live, Deleted, as_static}
use Rattle.code_meaning.specs.Coding.{mode_code}
use Rattle.code_meaning.specs.Fits.{IsReferenceKind}
use Rattle.machine_scenes.specs.declared.handle.MethodHandle.{MethodHandle}
use Rattle.machine_scenes.specs.declared.references.Held.{Held}
use Rattle.machine_scenes.specs.declared.references.Held.TheVariants as held
use Rattle.machine_scenes.specs.FieldIds.{FieldAgrees, MethodAgrees}
use Rattle.machine_scenes.specs.Given as given
use Rattle.machine_scenes.specs.Given.{IsGiven, ReferenceIsGiven, field_at, field_there, method_at, operand_at}
use Rattle.machine_scenes.specs.HeapAgrees.{HeapAgrees, ReferenceAgrees}
use Rattle.machine_scenes.specs.Scenes.{Scene}
use Rattle.machine_scenes.specs.Statics.{held_address, held_argument, holds_deleted, holds_null, static_at}
use Rattle.machine_scenes.specs.StoreAgrees.{HeldAgrees}
use Rattle.machine_answers.specs.Sights.{gives_deleted, gives_null, is_number, is_reference, is_reference_kind, method_seen, mode_seen, null_seen, operand_seen, takes_word}
use Rattle.machine_answers.proofs.SightParts.{name_seen_is, object_seen_is}

-- ---- field IDs, method IDs and modes

field_is : (classes : Classes) (h : Option FieldHandle) (f : Option FieldId) → FieldAgrees classes h f → field_there classes h ≡ field_in_actual (Some (FieldActual f))
field_is classes None None h = refl
field_is classes None (Some f) h = absurd h
field_is classes (Some i) None h = absurd h
field_is classes (Some i) (Some f) h = ap (λ (o : Option FieldId). unwrap_or o (field_there classes None)) h

no_field_null : (classes : Classes) (h : Option FieldHandle) (f : Option FieldId) → FieldAgrees classes h f → is_none h ≡ source.is_null_actual (Some (FieldActual f))
no_field_null classes None None h = refl
no_field_null classes None (Some f) h = absurd h
no_field_null classes (Some i) None h = absurd h
no_field_null classes (Some i) (Some f) h = refl

method_is : (unit : SourceUnit) (classes : Classes) (h : Option MethodHandle) (m : Option MethodId) → MethodAgrees unit classes h m → method_seen unit h ≡ m
method_is unit classes None None h = refl
method_is unit classes None (Some m) h = absurd h
method_is unit classes (Some i) None h = absurd h
method_is unit classes (Some i) (Some m) h =
    ap (option_map (λ (f : Function). let n : MethodId = record { class = i.class.number; function = f } in n)) h.function
    ∙ ap (λ (c : ℕ). let n : MethodId = record { class = c; function = m.function } in Some n) h.class

no_method_null : (unit : SourceUnit) (classes : Classes) (h : Option MethodHandle) (m : Option MethodId) → MethodAgrees unit classes h m → is_none h ≡ source.is_null_actual (Some (MethodActual m))
no_method_null unit classes None None h = refl
no_method_null unit classes None (Some m) h = absurd h
no_method_null unit classes (Some i) None h = absurd h
no_method_null unit classes (Some i) (Some m) h = refl

mode_is : (m : ReleaseMode) → mode_seen (operand.Mode (mode_code m)) ≡ m
mode_is CopyBackAndFree = refl
mode_is CopyBack = refl
mode_is FreeUncopied = refl

-- ---- references

-- a local reference is NULL as its object is
no_local_null : (scene : Scene) (x : Identifier) (o : Option ℕ) (r : Reference) → ReferenceAgrees scene.space o r → is_none o ≡ source.is_null_actual (Some (ReferenceActual x (as_static r)))
no_local_null scene x None None h = refl
no_local_null scene x None (Some n) h = absurd h
no_local_null scene x (Some a) None h = absurd h
no_local_null scene x (Some a) (Some n) h = refl

-- a static is what it is as an argument
pub record StaticIs (scene : Scene) (x : Identifier) (h : Held) (r : StaticReference) : Type 0 where
  pub name : ReferenceAgrees scene.space (held_address h) (reference_in_actual (Some (ReferenceActual x r)))
  pub null : holds_null h ≡ source.is_null_actual (Some (ReferenceActual x r))
  pub deleted : holds_deleted h ≡ is_deleted (ReferenceActual x r)

static_is : (scene : Scene) (x : Identifier) (h : Held) (r : StaticReference) → HeldAgrees scene.space (held_argument h) r → StaticIs scene x h r
static_is scene x held.Empty Empty h = record { name = tt; null = refl; deleted = refl }
static_is scene x (held.At a) (Live n) h = record { name = h; null = refl; deleted = refl }
static_is scene x (held.Weakly a) (Live n) h = record { name = h; null = refl; deleted = refl }
static_is scene x held.Cleared Empty h = record { name = tt; null = refl; deleted = refl }
static_is scene x held.Deleted Deleted h = record { name = tt; null = refl; deleted = refl }
static_is scene x y r h = absurd h

-- ---- what a parameter says of an argument

-- a parameter of references is one
is_kind : (p : ParameterKind) → IsReferenceKind p → is_reference_kind (Some p) ≡ true
is_kind kinds.FieldID h = absurd h
is_kind kinds.MethodID h = absurd h
is_kind kinds.IsCopy h = absurd h
is_kind p h = refl

-- what is asked of it may be NULL
kind_null : (p : ParameterKind) → IsReferenceKind p → null_seen true (Some p) ≡ true
kind_null kinds.IsCopy h = absurd h
kind_null p h = refl

null_stays : (b : Bool) (p : ParameterKind) → IsReferenceKind p → null_seen b (Some p) ≡ b
null_stays true p h = kind_null p h
null_stays false p h = refl

-- ---- one argument

module _ (scene : Scene) (heap : Heap) (agrees : HeapAgrees scene.space heap) where
  -- what is seen of an operand with the number and the text of the argument
  abbrev shown : ParameterKind → Operand → Actual → ArgumentSight
  shown p o a = operand_seen scene (Some p) o (number_in_actual (Some a)) (text_in_actual (Some a))

  abbrev sight : Reference → Object → ℤ → List ℕ → FieldId → Option MethodId → ReleaseMode → (d e i k : Bool) → ArgumentSight
  sight r x z t f m n d e i k =
      record { reference = r; object = x; number = z; text = t; field = f; method = m; mode = n; is_deleted = d; is_null = e; is_number = i; is_reference = k }

  -- all that is asked of an argument
  same_sight : {r r' : Reference} {x x' : Object} {z : ℤ} {t : List ℕ} {f f' : FieldId} {m m' : Option MethodId} {n n' : ReleaseMode} {d d' : Bool} {e e' : Bool} {i i' : Bool} {k k' : Bool}
      → r ≡ r' → x ≡ x' → f ≡ f' → m ≡ m' → n ≡ n' → d ≡ d' → e ≡ e' → i ≡ i' → k ≡ k'
      → sight r x z t f m n d e i k ≡ sight r' x' z t f' m' n' d' e' i' k'
  same_sight a b c d e f g h i = cc

  by_reference : (p : ParameterKind) (o : Operand) (x : Identifier) (r : Reference) (s : StaticReference) → ReferenceAgrees scene.space (operand_at scene.references o) r → reference_in_actual (Some (ReferenceActual x s)) ≡ r
      → field_there scene.classes (field_at scene.fields o) ≡ field_in_actual None → method_seen scene.unit (method_at scene.fields o) ≡ None → mode_seen o ≡ CopyBackAndFree
      → gives_deleted scene.references o ≡ is_deleted (ReferenceActual x s) → null_seen (gives_null scene.references scene.fields o) (Some p) ≡ source.is_null_actual (Some (ReferenceActual x s))
      → is_number o ≡ false → is_reference (Some p) o ≡ true → shown p o (ReferenceActual x s) ≡ source.argument_seen heap (Some (ReferenceActual x s))
  by_reference p o x r s there is field method mode deleted null number reference =
      same_sight (name_seen_is scene.space (operand_at scene.references o) r there ∙ sym is)
      (object_seen_is scene.space heap agrees (operand_at scene.references o) r there ∙ ap (λ (q : Reference). source.object_seen heap (name_or_zero q)) (sym is))
      field method mode deleted null number reference

  as_it_is : (x : Identifier) (r : Reference) → reference_in_actual (Some (ReferenceActual x (as_static r))) ≡ r
  as_it_is x None = refl
  as_it_is x (Some n) = refl

  not_deleted : (x : Identifier) (r : Reference) → false ≡ is_deleted (ReferenceActual x (as_static r))
  not_deleted x None = refl
  not_deleted x (Some n) = refl

  reference_sight : {p : ParameterKind} {o : Operand} {r : StaticReference} → IsReferenceKind p → (x : Identifier) → ReferenceIsGiven scene.space scene.references p o r → shown p o (ReferenceActual x r) ≡ source.argument_seen heap (Some (ReferenceActual x r))
  reference_sight {p} kind x (given.null takes) = by_reference p operand.Null x None Empty tt refl refl refl refl refl (kind_null p kind) refl (is_kind p kind)
  reference_sight {p} kind x (given.local {i = i} r takes there) =
      by_reference p (operand.Local i) x r (as_static r) there (as_it_is x r) refl refl refl (not_deleted x r)
      (null_stays (gives_null scene.references scene.fields (operand.Local i)) p kind ∙ no_local_null scene x (operand_at scene.references (operand.Local i)) r there) refl refl
  reference_sight {p} kind x (given.static {i = i} {r = r} takes there) =
      let is = static_is scene x (static_at scene.references i) r there in
      by_reference p (operand.Static i) x (reference_in_actual (Some (ReferenceActual x r))) r is.name refl refl refl refl is.deleted
      (null_stays (gives_null scene.references scene.fields (operand.Static i)) p kind ∙ is.null) refl refl

  field_null : (b : Bool) → null_seen b (Some kinds.FieldID) ≡ b
  field_null true = refl
  field_null false = refl

  method_null : (b : Bool) → null_seen b (Some kinds.MethodID) ≡ b
  method_null true = refl
  method_null false = refl

  -- what is seen of an operand is what the argument is
  pub sight_is : {p : ParameterKind} {o : Operand} {a : Actual} → IsGiven scene.unit scene.classes scene.space scene.references scene.fields p o a → shown p o a ≡ source.argument_seen heap (Some a)
  sight_is (given.reference {x = x} kind there) = reference_sight kind x there
  sight_is (given.field {i = i} {f = f} there) =
      let h = field_at scene.fields (operand.FieldId i) in
      same_sight refl refl (field_is scene.classes h f there) refl refl refl (field_null (is_none h) ∙ no_field_null scene.classes h f there) refl refl
  sight_is (given.method {i = i} {m = m} there) =
      let h = method_at scene.fields (operand.MethodId i) in
      same_sight refl refl refl (method_is scene.unit scene.classes h m there) refl refl (method_null (is_none h) ∙ no_method_null scene.unit scene.classes h m there) refl refl
  sight_is (given.mode {m = m}) = same_sight refl refl refl refl (mode_is m) refl refl refl refl
  sight_is h = refl
