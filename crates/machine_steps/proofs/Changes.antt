-- What can be seen once a variable has changed.
use Rattle.std.proofs.Common.{◌≡◌, ◌≢◌, ℕ, zero, suc, ℤ, pos, ◌<◌, true, List, length, replicate, Option, Some, None, refl, sym, ap, ◌∙◌, arith}
use Rattle.std.specs.Prelude.{slice_get, slice_set}
use Rattle.std.proofs.lemmas.List.{length-replicate}
use Rattle.std.proofs.lemmas.Option.{slice_get_past, slice_get_within}
use Rattle.base.specs.Bytes.{Identifier, lookup}
use Rattle.base.specs.declared.element.ElementType.{ElementType}
use Rattle.base.proofs.Lists.{get_set_other, get_set_same}
use Rattle.class_rules.specs.Fields.{FieldId}
use Rattle.semantics.specs.Method.{MethodId}
use Rattle.semantics.specs.Object.{Reference}
use Rattle.semantics.specs.Sight.{scalar, holds_null, elements_of, in_range, held_reference, held_field, held_method}
use Rattle.semantics.specs.Thread as source
use Rattle.semantics.specs.Thread.{Shared}
use Rattle.semantics.specs.declared.value.Value.{Value}
use Rattle.semantics.specs.Value.{Gives, Stuck, outcome_then, convert}
use Rattle.semantics.specs.Variable as variable
use Rattle.semantics.specs.Variable.{Variable, Scalar, LocalRef, FieldHandle, MethodHandle, Elements, LocalArray, NoBuffer, Empty, Variables, assign}
use Rattle.semantics.specs.declared.variable_kind.VariableKind.{VariableKind}
use Rattle.semantics.specs.declared.variable_kind.VariableKind.TheVariants as kinds
use Rattle.semantics_safety.specs.Owners.{Owners}
use Rattle.semantics_safety.proofs.NameLaws.{lookup_other, lookup_same}
use Rattle.code_meaning.specs.Slots.{visible_to, type_of_array, kind_of_variable, held_buffer, OthersStay, IsSet, IsNulled, IsReferred, IsFieldSet, IsBufferSet, IsMade, IsElementSet, IsMethodSet}
use Rattle.code_meaning.proofs.BufferLaws.{buffer_null}

-- ---- lists by name

-- ---- elements

get_replicate : {A : Type 0} (n i : ℕ) (a : A) → i < n → slice_get (replicate n a) i ≡ Some a
get_replicate zero i a below = absurd (omega arith)
get_replicate (suc n) zero a below = refl
get_replicate (suc n) (suc i) a below = get_replicate n i a (omega arith)

-- an element that can be seen of an array is in its list
seen_within : (zs : List ℤ) (i : ℕ) (z : ℤ) → in_range (slice_get zs i) ≡ Gives z → i < length zs
seen_within zs i z h = by_found (slice_get zs i) refl h
  where
    by_found : (o : Option ℤ) → slice_get zs i ≡ o → in_range o ≡ Gives z → i < length zs
    by_found None e h = absurd (cc)
    by_found (Some y) e h = slice_get_within zs i y e

-- one with an element type is an array
pub array_of : (o : Option Variable) (type : ElementType) → type_of_array o ≡ Some type → (zs : List ℤ) × (o ≡ Some (LocalArray type zs))
array_of None type h = absurd (cc)
array_of (Some (LocalArray t zs)) type h = (zs, ap (λ (u : ElementType). Some (LocalArray u zs)) (let same : t ≡ type = cc in same))
array_of (Some v) type h = absurd (cc)

-- a variable of a kind
pub scalar_by_kind : (o : Option Variable) → kind_of_variable o ≡ Some kinds.Number → (v : Value) × (o ≡ Some (Scalar v))
scalar_by_kind None h = absurd (cc)
scalar_by_kind (Some (Scalar v)) h = (v, refl)
scalar_by_kind (Some (LocalRef level r)) h = absurd (cc)
scalar_by_kind (Some (FieldHandle f)) h = absurd (cc)
scalar_by_kind (Some (MethodHandle f)) h = absurd (cc)
scalar_by_kind (Some (Elements t b)) h = absurd (cc)
scalar_by_kind (Some (LocalArray t zs)) h = absurd (cc)

pub local_by_kind : (o : Option Variable) → kind_of_variable o ≡ Some kinds.Reference → (level : ℕ) × (r : Reference) × (o ≡ Some (LocalRef level r))
local_by_kind None h = absurd (cc)
local_by_kind (Some (Scalar v)) h = absurd (cc)
local_by_kind (Some (LocalRef level r)) h = (level, r, refl)
local_by_kind (Some (FieldHandle f)) h = absurd (cc)
local_by_kind (Some (MethodHandle f)) h = absurd (cc)
local_by_kind (Some (Elements t b)) h = absurd (cc)
local_by_kind (Some (LocalArray t zs)) h = absurd (cc)

pub field_by_kind : (o : Option Variable) → kind_of_variable o ≡ Some kinds.Field → (f : Option FieldId) × (o ≡ Some (FieldHandle f))
field_by_kind None h = absurd (cc)
field_by_kind (Some (Scalar v)) h = absurd (cc)
field_by_kind (Some (LocalRef level r)) h = absurd (cc)
field_by_kind (Some (FieldHandle f)) h = (f, refl)
field_by_kind (Some (MethodHandle f)) h = absurd (cc)
field_by_kind (Some (Elements t b)) h = absurd (cc)
field_by_kind (Some (LocalArray t zs)) h = absurd (cc)

pub method_by_kind : (o : Option Variable) → kind_of_variable o ≡ Some kinds.Method → (m : Option MethodId) × (o ≡ Some (MethodHandle m))
method_by_kind None h = absurd (cc)
method_by_kind (Some (Scalar v)) h = absurd (cc)
method_by_kind (Some (LocalRef level r)) h = absurd (cc)
method_by_kind (Some (FieldHandle f)) h = absurd (cc)
method_by_kind (Some (MethodHandle m)) h = (m, refl)
method_by_kind (Some (Elements t b)) h = absurd (cc)
method_by_kind (Some (LocalArray t zs)) h = absurd (cc)

pub buffer_by_kind : (o : Option Variable) (t : ElementType) → kind_of_variable o ≡ Some (kinds.Buffer t) → (b : variable.Buffer) × (o ≡ Some (Elements t b))
buffer_by_kind None t h = absurd (cc)
buffer_by_kind (Some (Scalar v)) t h = absurd (cc)
buffer_by_kind (Some (LocalRef level r)) t h = absurd (cc)
buffer_by_kind (Some (FieldHandle f)) t h = absurd (cc)
buffer_by_kind (Some (MethodHandle f)) t h = absurd (cc)
buffer_by_kind (Some (Elements u b)) t h = (b, let same : u ≡ t = cc in ap (λ (e : ElementType). Some (Elements e b)) same)
buffer_by_kind (Some (LocalArray u zs)) t h = absurd (cc)

-- ---- a variable is set

-- the other variables' own references are what they were
abbrev pub OthersOwn : Owners → Owners → Identifier → Type 0
OthersOwn own own' x = (y : Identifier) → y ≢ x → own' y ≡ own y

-- the thread's variables with one of them set
module _ (own own' : Owners) (shared : Shared) (s t : source.Thread) (x : Identifier) (stay : OthersOwn own own' x) (v : Variable) (e : t.variables ≡ assign x v s.variables) where
  pub found : lookup x t.variables ≡ Some v
  found = ap (λ (vs : Variables). lookup x vs) e ∙ lookup_same x v s.variables

  pub others : OthersStay (visible_to own shared s) (visible_to own' shared t) x
  others y other =
      let same : lookup y t.variables ≡ lookup y s.variables = ap (λ (vs : Variables). lookup y vs) e ∙ lookup_other x y v s.variables other in
      record {
        number = ap scalar same;
        is_null = ap (λ (o : Option Variable). holds_null o (lookup y shared.statics)) same;
        element = λ u i array. ap (λ (o : Option Variable). outcome_then (λ (zs : List ℤ). in_range (slice_get zs i)) (elements_of shared.heap o)) same;
        reference = ap (λ (o : Option Variable). held_reference o (lookup y shared.statics)) same;
        field = ap held_field same;
        method = ap held_method same;
        buffer = ap held_buffer same;
        array_type = ap type_of_array same;
        kind = ap kind_of_variable same;
        owner = stay y other;
      }

  pub element_of : (i : ℕ) → (visible_to own' shared t).sight.element x i ≡ outcome_then (λ (zs : List ℤ). in_range (slice_get zs i)) (elements_of shared.heap (Some v))
  element_of i = ap (λ (o : Option Variable). outcome_then (λ (zs : List ℤ). in_range (slice_get zs i)) (elements_of shared.heap o)) found

  -- a variable that is NULL
  pub is_nulled : (kind : VariableKind) → scalar (Some v) ≡ Stuck → holds_null (Some v) (lookup x shared.statics) ≡ Gives true → held_reference (Some v) (lookup x shared.statics) ≡ Empty → held_field (Some v) ≡ None → held_method (Some v) ≡ None → held_buffer (Some v) ≡ NoBuffer → type_of_array (Some v) ≡ None → kind_of_variable (Some v) ≡ Some kind
      → IsNulled (visible_to own shared s) (Some kind) x (visible_to own' shared t)
  is_nulled kind number null reference field method no_buffer no_array same_kind = record {
    number = ap scalar found ∙ number;
    is_null = ap (λ (o : Option Variable). holds_null o (lookup x shared.statics)) found ∙ null;
    reference = ap (λ (o : Option Variable). held_reference o (lookup x shared.statics)) found ∙ reference;
    field = ap held_field found ∙ field;
    method = ap held_method found ∙ method;
    buffer = ap held_buffer found ∙ no_buffer;
    array_type = ap type_of_array found ∙ no_array;
    same_kind = ap kind_of_variable found ∙ same_kind;
    statics = refl;
    others = others;
  }

-- a number
pub is_set : (own own' : Owners) (shared : Shared) (s t : source.Thread) (x : Identifier) → OthersOwn own own' x → (v : Value) → t.variables ≡ assign x (Scalar v) s.variables → IsSet (visible_to own shared s) x v (visible_to own' shared t)
is_set own own' shared s t x stay v e = record { is = ap scalar (found own own' shared s t x stay (Scalar v) e); kind = ap kind_of_variable (found own own' shared s t x stay (Scalar v) e); statics = refl; others = others own own' shared s t x stay (Scalar v) e }

-- a local reference
pub is_referred : (own own' : Owners) (shared : Shared) (s t : source.Thread) (x : Identifier) → OthersOwn own own' x → (level : ℕ) (r : Reference) → t.variables ≡ assign x (LocalRef level r) s.variables → IsReferred (visible_to own shared s) x r (visible_to own' shared t)
is_referred own own' shared s t x stay level r e =
    let is = found own own' shared s t x stay (LocalRef level r) e in
    record {
      number = ap scalar is;
      is_null = ap (λ (o : Option Variable). holds_null o (lookup x shared.statics)) is;
      reference = ap (λ (o : Option Variable). held_reference o (lookup x shared.statics)) is;
      kind = ap kind_of_variable is;
      statics = refl;
      others = others own own' shared s t x stay (LocalRef level r) e;
    }

-- a field ID
pub is_field_set : (own own' : Owners) (shared : Shared) (s t : source.Thread) (x : Identifier) → OthersOwn own own' x → (f : Option FieldId) → t.variables ≡ assign x (FieldHandle f) s.variables → IsFieldSet (visible_to own shared s) x f (visible_to own' shared t)
is_field_set own own' shared s t x stay f e =
    let is = found own own' shared s t x stay (FieldHandle f) e in
    record {
      number = ap scalar is;
      is_null = ap (λ (o : Option Variable). holds_null o (lookup x shared.statics)) is;
      field = ap held_field is;
      kind = ap kind_of_variable is;
      statics = refl;
      others = others own own' shared s t x stay (FieldHandle f) e;
    }

-- a method ID
pub is_method_set : (own own' : Owners) (shared : Shared) (s t : source.Thread) (x : Identifier) → OthersOwn own own' x → (m : Option MethodId) → t.variables ≡ assign x (MethodHandle m) s.variables → IsMethodSet (visible_to own shared s) x m (visible_to own' shared t)
is_method_set own own' shared s t x stay m e =
    let is = found own own' shared s t x stay (MethodHandle m) e in
    record {
      number = ap scalar is;
      is_null = ap (λ (o : Option Variable). holds_null o (lookup x shared.statics)) is;
      method = ap held_method is;
      kind = ap kind_of_variable is;
      statics = refl;
      others = others own own' shared s t x stay (MethodHandle m) e;
    }

pub is_buffer_set : (own own' : Owners) (shared : Shared) (s t : source.Thread) (x : Identifier) → OthersOwn own own' x → (type : ElementType) (b : variable.Buffer) → t.variables ≡ assign x (Elements type b) s.variables → IsBufferSet (visible_to own shared s) type x b (visible_to own' shared t)
is_buffer_set own own' shared s t x stay type b e =
    let is = found own own' shared s t x stay (Elements type b) e in
    record {
      buffer = ap held_buffer is;
      is_null = ap (λ (o : Option Variable). holds_null o (lookup x shared.statics)) is ∙ buffer_null type b;
      kind = ap kind_of_variable is;
      statics = refl;
      others = others own own' shared s t x stay (Elements type b) e;
    }

-- a new array
pub is_made : (own own' : Owners) (shared : Shared) (s t : source.Thread) (x : Identifier) → OthersOwn own own' x → (type : ElementType) (n : ℕ) → t.variables ≡ assign x (LocalArray type (replicate n (pos 0))) s.variables → IsMade (visible_to own shared s) type x n (visible_to own' shared t)
is_made own own' shared s t x stay type n e = record {
  array_type = ap type_of_array (found own own' shared s t x stay (LocalArray type (replicate n (pos 0))) e);
  zeros = λ i below. element_of own own' shared s t x stay (LocalArray type (replicate n (pos 0))) e i ∙ ap in_range (get_replicate n i (pos 0) below);
  past = λ i above. element_of own own' shared s t x stay (LocalArray type (replicate n (pos 0))) e i ∙ ap in_range (slice_get_past (replicate n (pos 0)) i (omega (arith, above, length-replicate {A = ℤ} n (pos 0))));
  statics = refl;
  others = others own own' shared s t x stay (LocalArray type (replicate n (pos 0))) e;
}

-- an element of an array
pub is_element_set : (own own' : Owners) (shared : Shared) (s t : source.Thread) (x : Identifier) → OthersOwn own own' x → (type : ElementType) (zs : List ℤ) (i : ℕ) (z old : ℤ) → lookup x s.variables ≡ Some (LocalArray type zs) → (visible_to own shared s).sight.element x i ≡ Gives old
    → t.variables ≡ assign x (LocalArray type (slice_set zs i (convert type z))) s.variables → IsElementSet (visible_to own shared s) type x i z (visible_to own' shared t)
is_element_set own own' shared s t x stay type zs i z old array seen e =
    let new : Variable = LocalArray type (slice_set zs i (convert type z)) in
    let elements : (j : ℕ) → (visible_to own shared s).sight.element x j ≡ in_range (slice_get zs j) = λ j. ap (λ (o : Option Variable). outcome_then (λ (ys : List ℤ). in_range (slice_get ys j)) (elements_of shared.heap o)) array in
    let inside : i < length zs = seen_within zs i old (sym (elements i) ∙ seen) in
    record {
      array_type = ap type_of_array (found own own' shared s t x stay new e) ∙ sym (ap type_of_array array);
      is = element_of own own' shared s t x stay new e i ∙ ap in_range (get_set_same zs i (convert type z) inside);
      elements = λ j other. element_of own own' shared s t x stay new e j ∙ ap in_range (get_set_other zs i j (convert type z) other) ∙ sym (elements j);
      statics = refl;
      others = others own own' shared s t x stay new e;
    }
