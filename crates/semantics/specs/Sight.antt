-- A view of the environment: what the expressions and calls of a thread can see of its variables, the statics and the heap.
use Rattle.std.specs.Prelude.{ℕ, Bool, true, false, ℤ, List, slice_get, is_none, Option, Some, None}
use Rattle.base.specs.Bytes.{Identifier, lookup}
use Rattle.class_rules.specs.Fields.{FieldId}
use Rattle.semantics.specs.Heap.{Heap, numbers_of}
use Rattle.semantics.specs.Method.{MethodId}
use Rattle.semantics.specs.declared.trap.Trap.TheVariants.{OutOfRange}
use Rattle.semantics.specs.declared.value.Value.{Value}
use Rattle.semantics.specs.Value.{Outcome, Gives, Traps, Stuck, outcome_then}
use Rattle.semantics.specs.Variable.{Variable, Scalar, LocalRef, FieldHandle, MethodHandle, Elements, LocalArray, NoBuffer, Copy, View, StaticReference, Empty, Variables, Statics, as_static, as_argument}

-- answers about a name, each where the name is of that kind
pub record Sight : Type 0 where
  -- the value of a number variable
  pub number : Identifier → Outcome Value
  -- whether a variable or a static holds NULL
  pub is_null : Identifier → Outcome Bool
  -- an element of a buffer or an array
  pub element : Identifier → ℕ → Outcome ℤ
  -- what a local reference or a static is as an argument
  pub reference : Identifier → StaticReference
  -- what a field ID holds
  pub field : Identifier → Option FieldId
  -- what a method ID holds
  pub method : Identifier → Option MethodId

-- the value of a number variable
abbrev pub scalar : Option Variable → Outcome Value
scalar (Some (Scalar v)) = Gives v
scalar v = Stuck

-- whether a variable holds NULL
abbrev pub variable_is_null : Variable → Outcome Bool
variable_is_null (LocalRef level r) = Gives (is_none r)
variable_is_null (FieldHandle f) = Gives (is_none f)
variable_is_null (MethodHandle m) = Gives (is_none m)
variable_is_null (Elements kind NoBuffer) = Gives true
variable_is_null (Elements kind b) = Gives false
variable_is_null v = Stuck

-- a deleted static isn't NULL
abbrev pub static_is_null : Option StaticReference → Outcome Bool
static_is_null (Some Empty) = Gives true
static_is_null (Some s) = Gives false
static_is_null None = Stuck

-- whether a variable or a static holds NULL
abbrev pub holds_null : Option Variable → Option StaticReference → Outcome Bool
holds_null (Some v) s = variable_is_null v
holds_null None s = static_is_null s

-- the numbers that a buffer or an array shows; a view shows the object's present ones
abbrev pub elements_of : Heap → Option Variable → Outcome (List ℤ)
elements_of heap (Some (Elements kind (Copy n zs))) = Gives zs
elements_of heap (Some (Elements kind (View n))) = Gives (numbers_of heap n)
elements_of heap (Some (LocalArray kind zs)) = Gives zs
elements_of heap v = Stuck

-- an element, or none past the end
abbrev pub in_range : {A : Type 0} → Option A → Outcome A
in_range (Some a) = Gives a
in_range None = Traps OutOfRange

-- what a local reference or a static is as an argument
abbrev pub held_reference : Option Variable → Option StaticReference → StaticReference
held_reference (Some (LocalRef level r)) s = as_static r
held_reference (Some v) s = Empty
held_reference None (Some s) = as_argument s
held_reference None None = Empty

-- what a field ID holds
abbrev pub held_field : Option Variable → Option FieldId
held_field (Some (FieldHandle f)) = f
held_field v = None

-- what a method ID holds
abbrev pub held_method : Option Variable → Option MethodId
held_method (Some (MethodHandle m)) = m
held_method v = None

-- what can be seen in these variables and statics and this heap
abbrev pub seen : Variables → Statics → Heap → Sight
seen vs ss heap = record {
  number = λ x. scalar (lookup x vs);
  is_null = λ x. holds_null (lookup x vs) (lookup x ss);
  element = λ x i. outcome_then (λ (zs : List ℤ). in_range (slice_get zs i)) (elements_of heap (lookup x vs));
  reference = λ x. held_reference (lookup x vs) (lookup x ss);
  field = λ x. held_field (lookup x vs);
  method = λ x. held_method (lookup x vs);
}
