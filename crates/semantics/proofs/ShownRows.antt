-- Which objects a report shows where the heap is as it was made at load.
use Rattle.std.proofs.Common.{◌≡◌, ℕ, zero, suc, ◌+◌, ◌<◌, ◌≤◌, Bool, true, false, cond, List, [], ◌∷◌, ◌++◌, length, map, get_or, Some, refl, sym, ap, ◌∙◌, subst, arith, append_assoc, length-append, Contains, ⊎_elim}
use Rattle.std.specs.Prelude.{slice_get, filter, ◌==◌, ◌||◌}
use Rattle.std.specs.List.{enumerate_from}
use Rattle.std.proofs.lemmas.Bool.{cases_lt}
use Rattle.std.proofs.lemmas.Bool.Decides.{nat_tests}
use Rattle.std.proofs.lemmas.List.{length-map}
use Rattle.std.proofs.lemmas.List.Elements.{filter-append, Contains-append_left, Contains-push}
use Rattle.std.proofs.lemmas.List.FromFn.{length-enumerate_from}
use Rattle.class_rules.specs.BuiltIns.{out_of_memory_error}
use Rattle.class_rules.specs.Class.{Class, Classes}
use Rattle.semantics.specs.Object.{Object}
use Rattle.semantics.specs.Report.{ShownRow}
use Rattle.semantics.specs.World.{World, class_object, class_objects, fresh_object, made_before, loaded_objects}
use Rattle.semantics.specs.Heap.{Heap, object_at}
use Rattle.semantics.specs.Reachable.{from_one, is_in, reachable, loaded_count}
use Rattle.semantics.specs.ReportOf.{row}

-- the world's objects are the last
pub loaded_is : (w : World) → loaded_objects w ≡ made_before w.classes ++ w.objects
loaded_is w = sym (append_assoc (class_objects w.classes) (fresh_object w.classes out_of_memory_error ∷ []) w.objects)

-- ---- all names are reachable

-- the numbers from 1 on
pub from_one-contains : (k n : ℕ) → 0 < n → n ≤ k → Contains (from_one k) n
from_one-contains zero n low high = absurd (omega arith)
from_one-contains (suc k) n low high =
    ⊎_elim
    (λ (l : n < suc k). Contains-append_left (from_one k) (suc k ∷ []) n (from_one-contains k n low (omega arith)))
    (λ (l : suc k ≤ n). let e : suc k ≡ n = omega arith in subst (λ m. Contains (from_one (suc k)) m) e (Contains-push (from_one k) (suc k)))
    (cases_lt n (suc k))

-- an element is among the elements
found_in : (xs : List ℕ) (n k : ℕ) → k < length xs → get_or xs k n ≡ n → is_in xs n ≡ true
found_in [] n k l e = absurd (omega arith)
found_in (y ∷ xs) n zero l e = subst (λ (b : Bool). (b || is_in xs n) ≡ true) (sym (same y n e)) refl
  where
    same : (y n : ℕ) → y ≡ n → (y == n) ≡ true
    same y n e = grind (arith, nat_tests)
found_in (y ∷ xs) n (suc k) l e = either (y == n) (is_in xs n) (found_in xs n k (omega arith) e)
  where
    either : (a b : Bool) → b ≡ true → (a || b) ≡ true
    either true b h = refl
    either false b h = h

-- nothing is left out where each passes
kept_one : (p : ℕ → Bool) (n : ℕ) → p n ≡ true → filter p (n ∷ []) ≡ n ∷ []
kept_one p n h = ap (λ (b : Bool). cond b (n ∷ []) []) h

all_kept : (p : ℕ → Bool) (k : ℕ) → ((n : ℕ) → 0 < n → n ≤ k → p n ≡ true) → filter p (from_one k) ≡ from_one k
all_kept p zero h = refl
all_kept p (suc k) h =
    filter-append p (from_one k) (suc k ∷ [])
    ∙ ap (λ (l : List ℕ). l ++ filter p (suc k ∷ [])) (all_kept p k (λ n low high. h n low (omega arith)))
    ∙ ap (λ (l : List ℕ). from_one k ++ l) (kept_one p (suc k) (h (suc k) (omega arith) (omega arith)))

pub length-before : (classes : Classes) → length (made_before classes) ≡ length classes + 1
length-before classes =
    let objects = length-map (enumerate_from 1 classes) (λ (c : ℕ × Class). class_object classes c.0) ∙ length-enumerate_from 1 classes in
    omega (arith, length-append (class_objects classes) (fresh_object classes out_of_memory_error ∷ []))

pub length-loaded : (w : World) → length (loaded_objects w) ≡ loaded_count w
length-loaded w = ap length (loaded_is w) ∙ length-append (made_before w.classes) w.objects ∙ ap (λ n. n + length w.objects) (length-before w.classes)

in_first : (a b c d e : List ℕ) (n : ℕ) → Contains a n → Contains (a ++ b ++ c ++ d ++ e) n
in_first a b c d e n h = Contains-append_left (a ++ b ++ c ++ d) e n (Contains-append_left (a ++ b ++ c) d n (Contains-append_left (a ++ b) c n (Contains-append_left a b n h)))

-- ---- their rows

-- this number of numbers, from one on
numbers_from : (from count : ℕ) → List ℕ
numbers_from from zero = []
numbers_from from (suc k) = from ∷ numbers_from (from + 1) k

get_after : (first : Heap) (o : Object) (rest : Heap) → slice_get (first ++ o ∷ rest) (length first) ≡ Some o
get_after [] o rest = refl
get_after (x ∷ first) o rest = get_after first o rest

object_after : (first : Heap) (o : Object) (rest : Heap) → object_at (first ++ o ∷ rest) (length first + 1) ≡ Some o
object_after first o rest = let e : length first + 1 ≡ suc (length first) = omega arith in ap (object_at (first ++ o ∷ rest)) e ∙ get_after first o rest

-- the row of an object with its name
abbrev object_row : Classes → ℕ × Object → ShownRow
object_row classes (name, o) = row classes name o.class o.values

-- the rows of the world's objects, which are made after the class objects and the OutOfMemoryError object
abbrev loaded_rows : World → List ShownRow
loaded_rows w = map (object_row w.classes) (enumerate_from (length w.classes + 2) w.objects)
