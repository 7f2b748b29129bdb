-- What a call is given that isn't entered yet, among the roots.
use Rattle.std.proofs.Common.{◌≡◌, ℕ, zero, suc, ◌+◌, ◌<◌, arith, refl, List, [], ◌∷◌, length, map, Option, Some, None, sym, ap, ◌∙◌, set}
use Rattle.std.specs.Prelude.{filter_map, slice_get}
use Rattle.std.specs.Option.{option_map}
use Rattle.base.proofs.Lists.{get_map}
use Rattle.class_rules.specs.Class.{Classes}
use Rattle.heap.specs.declared.value.Value.{Value}
use Rattle.heap.specs.declared.value.Value.TheVariants.{Number as Word, Null, Block as Address}
use Rattle.heap.specs.Heap.{Space}
use Rattle.semantics.specs.Heap.{reference_in}
use Rattle.semantics.specs.Object.{ObjectValue, Number, Refers}
use Rattle.semantics.specs.Reachable.{argument_roots}
use Rattle.semantics.specs.Task.{Task}
use Rattle.semantics.specs.Thread.{Caller}
use Rattle.semantics.specs.World.{Invocation}
use Rattle.code_meaning.specs.Lowered.{Lowered}
use Rattle.tables.specs.References.{references_in}
use Rattle.machine_scenes.specs.HeapAgrees.{NamesAgree, ValuesAgree}
use Rattle.machine_threads.specs.ThreadAgrees.{CallsToComeAgree, IsDue}
use Rattle.machine_threads.specs.declared.thread.Entering.{Entering}
use Rattle.machine_threads.specs.declared.thread.PendingCall.{PendingCall}
use Rattle.compact.proofs.Fronts.{front, front_get, front_same, front_step}
use Rattle.compact.specs.Same.{moved_value}
use Rattle.machine_collections.specs.Moving.{AreMovedAt}
use Rattle.machine_collections.specs.Roots.{argument_place, argument_places}
use Rattle.machine_collections.proofs.KeptReferences.{AreKept, ValuesAreKept}

-- ---- names

-- the objects of arguments that agree have the names among those of the source
values_named : (space : Space) (ws : List Value) (vs : List ObjectValue) → ValuesAgree space ws vs → NamesAgree space (references_in (map argument_place ws)) (filter_map reference_in vs)
values_named space [] [] h = tt
values_named space [] (v ∷ vs) h = absurd h
values_named space (w ∷ ws) [] h = absurd h
values_named space (Word n ∷ ws) (Number z ∷ vs) h = values_named space ws vs h.1
values_named space (Word n ∷ ws) (Refers r ∷ vs) h = absurd h.0
values_named space (Null ∷ ws) (Number z ∷ vs) h = absurd h.0
values_named space (Null ∷ ws) (Refers None ∷ vs) h = values_named space ws vs h.1
values_named space (Null ∷ ws) (Refers (Some n) ∷ vs) h = absurd h.0
values_named space (Address a ∷ ws) (Number z ∷ vs) h = absurd h.0
values_named space (Address a ∷ ws) (Refers None ∷ vs) h = absurd h.0
values_named space (Address a ∷ ws) (Refers (Some n) ∷ vs) h = (h.0, values_named space ws vs h.1)

-- so what a call is given that isn't entered yet is among the source's roots, and there is none where that has none
pub given_named : (p : Lowered) (classes : Classes) (space : Space) (made : ℕ) (e : Option Entering) (nexts : List PendingCall) (callers : List Caller) (tasks : Option (List Task)) (calls : List Invocation)
    → CallsToComeAgree p classes space made e nexts calls → IsDue e tasks callers → NamesAgree space (references_in (argument_places e)) (argument_roots callers tasks calls)
given_named p classes space made None nexts [] None calls h due = tt
given_named p classes space made None nexts [] (Some tasks) calls h due = tt
given_named p classes space made None nexts (c ∷ callers) None calls h due = absurd due
given_named p classes space made None nexts (c ∷ callers) (Some tasks) calls h due = tt
given_named p classes space made (Some e) nexts callers tasks [] h due = absurd h
given_named p classes space made (Some e) nexts [] None (call ∷ calls) h due = absurd due
given_named p classes space made (Some e) nexts [] (Some tasks) (call ∷ calls) h due = absurd due
given_named p classes space made (Some e) nexts (c ∷ callers) (Some tasks) (call ∷ calls) h due = absurd due
given_named p classes space made (Some e) nexts (c ∷ callers) None (call ∷ calls) h due = values_named space e.arguments.items call.arguments (h.0).arguments

-- ---- a collection

-- arguments whose addresses are kept are kept
pub values_kept : (Kept : ℕ → Type 0) (ws : List Value) → AreKept Kept (references_in (map argument_place ws)) → ValuesAreKept Kept ws
values_kept Kept [] h = tt
values_kept Kept (Word n ∷ ws) h = (tt, values_kept Kept ws h)
values_kept Kept (Null ∷ ws) h = (tt, values_kept Kept ws h)
values_kept Kept (Address a ∷ ws) h = (h.0, values_kept Kept ws h.1)

-- a call is to be entered where one was
pub due_moved : (f : Entering → Entering) (e : Option Entering) (tasks : Option (List Task)) (callers : List Caller) → IsDue e tasks callers → IsDue (option_map f e) tasks callers
due_moved f None tasks callers h = h
due_moved f (Some e) None [] h = absurd h
due_moved f (Some e) None (c ∷ callers) h = tt
due_moved f (Some e) (Some tasks) [] h = absurd h
due_moved f (Some e) (Some tasks) (c ∷ callers) h = absurd h

-- ---- place by place

-- what a place has is what its argument has now
record IsArgumentAt (to : ℕ → ℕ) (xs : List Value) (i : ℕ) (q : Option ℕ) : Type 0 where
  value : Value
  there : slice_get (front (moved_value to) i xs) i ≡ Some value
  is : q ≡ option_map to (argument_place value)

argument_at : (to : ℕ → ℕ) (xs : List Value) (places : List (Option ℕ)) (from i : ℕ) (q : Option ℕ) → AreMovedAt to (map argument_place xs) places from → i < length xs → slice_get places (from + i) ≡ Some q → IsArgumentAt to xs i q
argument_at to xs places from i q h less at =
    let x = there xs i less in
    let now : slice_get places (from + i) ≡ Some (option_map to (argument_place x.0)) = h i (argument_place x.0) (get_map argument_place xs i x.0 x.1) in
    record { value = x.0; there = front_get (moved_value to) i xs ∙ x.1; is = (let both : Some q ≡ Some (option_map to (argument_place x.0)) = sym at ∙ now in cc) }
  where
    there : (xs : List Value) (i : ℕ) → i < length xs → (x : Value) × (slice_get xs i ≡ Some x)
    there [] i less = absurd (omega (arith, less))
    there (x ∷ xs) zero less = (x, refl)
    there (x ∷ xs) (suc i) less = there xs i (omega (arith, less))

-- a reference is put back
pub argument_put : (to : ℕ → ℕ) (xs : List Value) (places : List (Option ℕ)) (from i a : ℕ) → AreMovedAt to (map argument_place xs) places from → i < length xs → slice_get places (from + i) ≡ Some (Some a)
    → set (front (moved_value to) i xs) i (Address a) ≡ front (moved_value to) (i + 1) xs
argument_put to xs places from i a h less at =
    let r = argument_at to xs places from i (Some a) h less at in
    ap (λ (v : Value). set (front (moved_value to) i xs) i v) (is_there r.value r.is) ∙ front_step (moved_value to) i xs r.value r.there
  where
    is_there : (v : Value) → Some a ≡ option_map to (argument_place v) → Address a ≡ moved_value to v
    is_there (Word n) e = absurd (cc)
    is_there Null e = absurd (cc)
    is_there (Address b) e = let same : a ≡ to b = cc in ap Address same

-- another stays
pub argument_stays : (to : ℕ → ℕ) (xs : List Value) (places : List (Option ℕ)) (from i : ℕ) (q : Option ℕ) → AreMovedAt to (map argument_place xs) places from → i < length xs → slice_get places (from + i) ≡ Some q → ((a : ℕ) → q ≡ Some a → ⊥)
    → front (moved_value to) i xs ≡ front (moved_value to) (i + 1) xs
argument_stays to xs places from i q h less at none =
    let r = argument_at to xs places from i q h less at in
    front_same (moved_value to) i xs r.value r.there (stays r.value r.is)
  where
    stays : (v : Value) → q ≡ option_map to (argument_place v) → moved_value to v ≡ v
    stays (Word n) e = refl
    stays Null e = refl
    stays (Address b) e = absurd (none (to b) e)
