-- A report shows nothing of a heap with the class objects and the OutOfMemoryError object alone.
use Rattle.std.specs.Prelude.{◌≡◌, ℕ, zero, suc, ◌+◌, ◌≤◌, Bool, true, false, nat_lt, List, [], ◌∷◌, ◌++◌, length, filter, refl}
use Rattle.std.specs.List.{enumerate_from}
use Rattle.std.proofs.Common.{ap, ◌∙◌, cond, arith, length-append}
use Rattle.std.proofs.lemmas.Bool.{le-ltb}
use Rattle.std.proofs.lemmas.List.{length-map}
use Rattle.std.proofs.lemmas.List.Elements.{filter-append}
use Rattle.std.proofs.lemmas.List.FromFn.{length-enumerate_from}
use Rattle.class_rules.specs.BuiltIns.{out_of_memory_error}
use Rattle.class_rules.specs.Class.{Class, Classes}
use Rattle.semantics.specs.Object.{Object}
use Rattle.semantics.specs.World.{World, class_object, class_objects, fresh_object, loaded_objects}
use Rattle.semantics.specs.Heap.{Heap}
use Rattle.semantics.specs.Reachable.{from_one, is_in, reachable}
use Rattle.semantics.specs.ReportOf.{shown}
use Rattle.semantics.specs.State.{State}
use Rattle.semantics.proofs.ReachableLemmas.{reachable_lists}

fails : (b : Bool) (x : ℕ) (p : ℕ → Bool) → p x ≡ false → filter p (cond b (x ∷ []) []) ≡ []
fails true x p e = rw e refl
fails false x p e = refl

-- no number from one to n is above m
none_above : (m n : ℕ) (p : ℕ → Bool) → n ≤ m → filter (λ x. nat_lt m x) (filter p (from_one n)) ≡ []
none_above m zero p h = refl
none_above m (suc n) p h =
    ap (filter (λ x. nat_lt m x)) (filter-append p (from_one n) (suc n ∷ []))
    ∙ filter-append (λ x. nat_lt m x) (filter p (from_one n)) (filter p (suc n ∷ []))
    ∙ ap (λ l. l ++ filter (λ x. nat_lt m x) (filter p (suc n ∷ []))) (none_above m n p (omega arith))
    ∙ fails (p (suc n)) (suc n) (λ x. nat_lt m x) (le-ltb m (suc n) h)

pub length-class_objects : (classes : Classes) → length (class_objects classes) ≡ length classes
length-class_objects classes = length-map (enumerate_from 1 classes) (λ (c : ℕ × Class). class_object classes c.0) ∙ length-enumerate_from 1 classes

-- how many objects are made at load, where the world has none of its own
length-loaded : (w : World) → w.objects ≡ [] → length (loaded_objects w) ≡ length w.classes + 1
length-loaded w none =
    let rest : List Object = fresh_object w.classes out_of_memory_error ∷ w.objects in
    let all : length (class_objects w.classes ++ rest) ≡ length (class_objects w.classes) + length rest = length-append (class_objects w.classes) rest in
    let one : length rest ≡ 1 = ap (λ (l : List Object). length (fresh_object w.classes out_of_memory_error ∷ l)) none in
    let classes : length (class_objects w.classes) ≡ length w.classes = length-class_objects w.classes in
    omega arith

-- no reachable object is shown
pub shown_none : (w : World) (s : State) → w.objects ≡ [] → s.shared.heap ≡ loaded_objects w → shown w s ≡ []
shown_none w s none heap =
    let names : List ℕ = reachable w s in
    let long : length s.shared.heap ≡ length w.classes + 1 = ap (λ (h : Heap). length h) heap ∙ length-loaded w none in
    ap (filter (λ n. nat_lt (length w.classes + 1) n)) ((reachable_lists w s).in_order)
    ∙ none_above (length w.classes + 1) (length s.shared.heap) (is_in names) (omega arith)
