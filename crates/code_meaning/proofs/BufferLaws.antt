-- What is seen of buffers, and what their elements are.
use Rattle.std.proofs.Common.{◌≡◌, ℕ, zero, suc, ℤ, ◌<◌, ◌^◌, List, replicate, Option, Some, None, refl, ap, ◌∙◌, subst}
use Rattle.std.specs.Prelude.{slice_get, FitsSigned}
use Rattle.std.specs.Int.{w32}
use Rattle.base.specs.Bytes.{Identifier, lookup}
use Rattle.base.specs.declared.element.ElementType.{ElementType}
use Rattle.semantics.specs.Heap.{Heap, numbers_of}
use Rattle.semantics.specs.Sight.{in_range, elements_of, variable_is_null, holds_null}
use Rattle.semantics.specs.declared.variable_kind.VariableKind.TheVariants as kinds
use Rattle.semantics.specs.Thread.{Shared, Thread}
use Rattle.semantics.specs.Value.{Gives, outcome_then}
use Rattle.semantics.specs.Variable as variable
use Rattle.semantics.specs.Variable.{Variable, Scalar, LocalRef, FieldHandle, MethodHandle, Elements, LocalArray, NoBuffer, Copy, View}
use Rattle.code.specs.Depth.{Listing}
use Rattle.code_meaning.specs.Layout.{Known}
use Rattle.code_meaning.specs.Slots.{type_of_array, kind_of_variable, held_buffer, Visible, visible_to, IsAsBefore, is_no_buffer, IsBufferSet, Slots, Shows, elements_in, seen_element, SeesBuffers}
use Rattle.code_meaning.proofs.StaticPlaces.{statics_stay}
use Rattle.code_meaning.proofs.SlotLaws.{slot_stays}

-- a variable of this kind is a buffer
pub buffer_by_kind : (o : Option Variable) (t : ElementType) → kind_of_variable o ≡ Some (kinds.Buffer t) → o ≡ Some (Elements t (held_buffer o))
buffer_by_kind None t h = absurd (cc)
buffer_by_kind (Some (Scalar v)) t h = absurd (cc)
buffer_by_kind (Some (LocalRef level r)) t h = absurd (cc)
buffer_by_kind (Some (FieldHandle f)) t h = absurd (cc)
buffer_by_kind (Some (MethodHandle m)) t h = absurd (cc)
buffer_by_kind (Some (Elements u b)) t h = let same : u ≡ t = cc in ap (λ (e : ElementType). Some (Elements e b)) same
buffer_by_kind (Some (LocalArray u zs)) t h = absurd (cc)

-- what is seen of one
element_is : (heap : Heap) (t : ElementType) (b : variable.Buffer) (i : ℕ) → outcome_then (λ (zs : List ℤ). in_range (slice_get zs i)) (elements_of heap (Some (Elements t b))) ≡ seen_element b (numbers_of heap) i
element_is heap t NoBuffer i = refl
element_is heap t (Copy n zs) i = refl
element_is heap t (View n) i = refl

-- what a thread sees of a buffer are its elements
pub buffer_seen : (own : Identifier → Option ℕ) (s : Shared) (t : Thread) (x : Identifier) (u : ElementType) (i : ℕ) → (visible_to own s t).kind x ≡ Some (kinds.Buffer u)
    → (visible_to own s t).sight.element x i ≡ seen_element ((visible_to own s t).buffer x) (visible_to own s t).numbers i
buffer_seen own s t x u i h =
    ap (λ (o : Option Variable). outcome_then (λ (zs : List ℤ). in_range (slice_get zs i)) (elements_of s.heap o)) (buffer_by_kind (lookup x t.variables) u h) ∙ element_is s.heap u (held_buffer (lookup x t.variables)) i

-- of buffers in slots, whose elements fit
pub sees_buffers : (own : Identifier → Option ℕ) (s : Shared) (t : Thread) (buffers : List variable.Buffer)
    → ((slot i : ℕ) (b : variable.Buffer) (z : ℤ) → slice_get buffers slot ≡ Some b → slice_get (elements_in b (numbers_of s.heap)) i ≡ Some z → (i < 2 ^ 31) × FitsSigned w32 z) → SeesBuffers (visible_to own s t) buffers
sees_buffers own s t buffers fit = record { seen = buffer_seen own s t; fit = fit }

-- of such as are all NULL
no_element : (numbers : ℕ → List ℤ) (n slot i : ℕ) (b : variable.Buffer) (z : ℤ) → slice_get (replicate n NoBuffer) slot ≡ Some b → slice_get (elements_in b numbers) i ≡ Some z → ⊥
no_element numbers zero slot i b z there found = let c : None ≡ Some b = there in cc
no_element numbers (suc n) zero i b z there found =
    let same : b ≡ NoBuffer = cc in
    let c : slice_get (elements_in NoBuffer numbers) i ≡ Some z = subst (λ (a : variable.Buffer). slice_get (elements_in a numbers) i ≡ Some z) same found in
    cc
no_element numbers (suc n) (suc slot) i b z there found = no_element numbers n slot i b z there found

pub sees_none : (own : Identifier → Option ℕ) (s : Shared) (t : Thread) (n : ℕ) → SeesBuffers (visible_to own s t) (replicate n NoBuffer)
sees_none own s t n = sees_buffers own s t (replicate n NoBuffer) (λ slot i b z there found. absurd (no_element (numbers_of s.heap) n slot i b z there found))

-- ---- another heap

-- a local array has its own elements
array_stays : (heap heap' : Heap) (o : Option Variable) (t : ElementType) (i : ℕ) → type_of_array o ≡ Some t
    → outcome_then (λ (zs : List ℤ). in_range (slice_get zs i)) (elements_of heap' o) ≡ outcome_then (λ (zs : List ℤ). in_range (slice_get zs i)) (elements_of heap o)
array_stays heap heap' None t i h = absurd (cc)
array_stays heap heap' (Some (Scalar v)) t i h = absurd (cc)
array_stays heap heap' (Some (LocalRef level r)) t i h = absurd (cc)
array_stays heap heap' (Some (FieldHandle f)) t i h = absurd (cc)
array_stays heap heap' (Some (MethodHandle m)) t i h = absurd (cc)
array_stays heap heap' (Some (Elements u b)) t i h = absurd (cc)
array_stays heap heap' (Some (LocalArray u zs)) t i h = refl

-- with another heap each name shows what it did
pub heap_changes : (own : Identifier → Option ℕ) (s : Shared) (t : Thread) (heap : Heap) (x : Identifier) → IsAsBefore (visible_to own s t) (visible_to own (record s { heap = heap }) t) x
heap_changes own s t heap x = record {
  number = refl;
  is_null = refl;
  element = λ u i array. array_stays s.heap heap (lookup x t.variables) u i array;
  reference = refl;
  field = refl;
  method = refl;
  buffer = refl;
  array_type = refl;
  kind = refl;
  owner = refl;
}

-- a buffer that isn't NULL, or is
pub buffer_null : (u : ElementType) (b : variable.Buffer) → variable_is_null (Elements u b) ≡ Gives (is_no_buffer b)
buffer_null u NoBuffer = refl
buffer_null u (Copy n zs) = refl
buffer_null u (View n) = refl

-- and a buffer holds what it did, as a view does of which an element is written
pub buffer_stays : (own : Identifier → Option ℕ) (s : Shared) (t : Thread) (heap : Heap) (x : Identifier) (u : ElementType) (b : variable.Buffer) → lookup x t.variables ≡ Some (Elements u b) → IsBufferSet (visible_to own s t) u x b (visible_to own (record s { heap = heap }) t)
buffer_stays own s t heap x u b at = record {
  buffer = ap held_buffer at;
  is_null = ap (λ (o : Option Variable). holds_null o (lookup x s.statics)) at ∙ buffer_null u b;
  kind = ap kind_of_variable at;
  statics = refl;
  others = λ y other. heap_changes own s t heap y;
}

-- ---- slots

-- where each name shows what it did, the slots show it still
pub shows_kept : (code : Listing) (known : Known) (old new : Visible) (slots : Slots) → ((x : Identifier) → IsAsBefore old new x) → new.statics ≡ old.statics → Shows code known old slots → Shows code known new slots
shows_kept code known old new slots same statics shows = record {
  numbers = shows.numbers;
  references = shows.references;
  owners = shows.owners;
  fields = shows.fields;
  buffers = shows.buffers;
  each = λ x s at. slot_stays old new x slots slots (same x) s.ty s.index (λ k p. refl) (λ r. (refl, refl)) (λ r. refl) (λ b. refl) (λ g. statics_stay old.statics new.statics statics x) (shows.each x s at);
}

-- so they do with another heap
pub shows_with_heap : (code : Listing) (known : Known) (own : Identifier → Option ℕ) (s : Shared) (t : Thread) (heap : Heap) (slots : Slots) → Shows code known (visible_to own s t) slots → Shows code known (visible_to own (record s { heap = heap }) t) slots
shows_with_heap code known own s t heap slots shows = shows_kept code known (visible_to own s t) (visible_to own (record s { heap = heap }) t) slots (heap_changes own s t heap) refl shows
