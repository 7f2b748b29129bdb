-- The names that are reached in the graph of names are those of the reachable objects.
use Rattle.std.proofs.Common.{◌≡◌, ℕ, zero, suc, ◌+◌, ◌<◌, Bool, true, List, [], ◌∷◌, ◌++◌, length, map, Option, Some, None, refl, sym, ap, ◌∙◌, subst, arith, inl, inr, ◌⊎◌, Contains}
use Rattle.std.specs.Prelude.{filter_map, slice_index_or}
use Rattle.std.proofs.lemmas.Bool.{false≢true}
use Rattle.class_rules.specs.Class.{Classes}
use Rattle.semantics.specs.Heap.{Heap, object_at, reference_in, values_of}
use Rattle.semantics.specs.Object.{Object, ObjectValue, Number, Refers}
use Rattle.semantics.specs.Report.{ShownRow}
use Rattle.semantics.specs.ReportOf.{report, row, shown, shown_row}
use Rattle.std.specs.Option.{option_map_or}
use Rattle.semantics.specs.Reachable.{from_one, IsName, roots, references_of, Reachable, Reached, FromRoot, FromObject}
use Rattle.semantics.specs.State.{State}
use Rattle.semantics.specs.World.{World}
use Rattle.semantics.proofs.ReachableLemmas.{In, contains_in, to_contains, in_head, in_tail, in_cases}
use Rattle.semantics.proofs.ShownNames.{Tells}
use Rattle.semantics.proofs.ShownRows.{from_one-contains}
use Rattle.reachability.specs.Reach.{IsReached, IsClosed}
use Rattle.reachability.specs.Reach.IsReached.{Root, Referred}
use Rattle.reachability.specs.Marks.{is_marked, AreReached}
use Rattle.report_objects.specs.Names.{IsWithin, within, references_in, AreRoots, MarksReached}
use Rattle.report_objects.specs.Rows.{marked_rows, AreReported}
use Rattle.report_objects.proofs.MarkedRoots.{within_yes, from_within, from_one-within}
use Rattle.report_objects.proofs.PassingNames.{shown_are, shown_reachable}

-- ---- the references of an object

abbrev targets : ℕ → List ObjectValue → List (Option ℕ)
targets count vs = map (λ (v : ObjectValue). within count (reference_in v)) vs

-- a reference among these is a name among the values, of an object
abbrev Target : ℕ → List ObjectValue → ℕ → Type 0
Target count vs q = In (filter_map reference_in vs) q × IsWithin count q

deeper : (count : ℕ) (v : ObjectValue) (vs : List ObjectValue) (q : ℕ) → Target count vs q → Target count (v ∷ vs) q
deeper count (Number z) vs q t = t
deeper count (Refers None) vs q t = t
deeper count (Refers (Some n)) vs q t = (in_tail n (filter_map reference_in vs) q t.0, t.1)

here : (count : ℕ) (v : ObjectValue) (vs : List ObjectValue) (q : ℕ) → within count (reference_in v) ≡ Some q → Target count (v ∷ vs) q
here count (Number z) vs q e = absurd (cc)
here count (Refers None) vs q e = absurd (cc)
here count (Refers (Some n)) vs q e =
    let w = from_within count n q e in
    let target : Target count (Refers (Some n) ∷ vs) n = (in_head n (filter_map reference_in vs), w.1) in
    subst (λ m. Target count (Refers (Some n) ∷ vs) m) w.0 target

from_target : (count : ℕ) (vs : List ObjectValue) (q k : ℕ) → k < length (targets count vs) → slice_index_or (targets count vs) k (Some q) ≡ Some q → Target count vs q
from_target count [] q k l e = absurd (omega (arith, l))
from_target count (v ∷ vs) q zero l e = here count v vs q e
from_target count (v ∷ vs) q (suc k) l e = deeper count v vs q (from_target count vs q k (omega (arith, l)) e)

abbrev Listed : ℕ → List ObjectValue → ℕ → Type 0
Listed count vs q = Contains (targets count vs) (Some q)

one_on : (count : ℕ) (v : ObjectValue) (vs : List ObjectValue) (q : ℕ) → Listed count vs q → Listed count (v ∷ vs) q
one_on count v vs q c = (suc c.0, omega (arith, c.1), c.2)

to_target : (count : ℕ) (vs : List ObjectValue) (q : ℕ) → IsWithin count q → In (filter_map reference_in vs) q → Listed count vs q
to_target count [] q w h = absurd (false≢true h)
to_target count (Number z ∷ vs) q w h = one_on count (Number z) vs q (to_target count vs q w h)
to_target count (Refers None ∷ vs) q w h = one_on count (Refers None) vs q (to_target count vs q w h)
to_target count (Refers (Some n) ∷ vs) q w h = go (in_cases n (filter_map reference_in vs) q h) (to_target count vs q w)
  where
    go : (n ≡ q) ⊎ In (filter_map reference_in vs) q → (In (filter_map reference_in vs) q → Listed count vs q) → Listed count (Refers (Some n) ∷ vs) q
    go (inl e) further = (0, omega arith, ap (λ m. within count (Some m)) e ∙ within_yes count q w)
    go (inr k) further = one_on count (Refers (Some n)) vs q (further k)

-- references lead to objects
pub closed : (heap : Heap) → IsClosed (IsWithin (length heap)) (references_in heap)
closed heap p q w c = (from_target (length heap) (values_of heap p) q c.0 c.1 c.2).1

-- ---- reached and reachable

is_name : (heap : Heap) (n : ℕ) → IsWithin (length heap) n → IsName heap n
is_name heap n w = from_one-contains (length heap) n w.0 w.1

is_within : (heap : Heap) (n : ℕ) → IsName heap n → IsWithin (length heap) n
is_within heap n c = from_one-within (length heap) n (contains_in (from_one (length heap)) n c)

-- what is in an object of a name
values_at : (heap other : Heap) (n : ℕ) → object_at heap n ≡ object_at other n → values_of heap n ≡ values_of other n
values_at heap other n e = ap (λ (o : Option Object). option_map_or (λ (x : Object). x.values) o []) e

-- what is reached from some names in a heap, in the graph of names and without it
module _ (heap : Heap) (from : List ℕ) (marks : List Bool) (are : AreRoots (length heap) (Contains from) marks) where
  abbrev Marked : ℕ → Type 0
  Marked n = IsReached (references_in heap) (λ r. is_marked marks r ≡ true) n

  from_marked : (n : ℕ) → Marked n → Reached heap from n
  from_marked n (Root p m) = let r = are.sound p m in FromRoot p (is_name heap p r.0) r.1
  from_marked n (Referred p q k c) =
      let t = from_target (length heap) (values_of heap p) q c.0 c.1 c.2 in
      FromObject p q (from_marked p k) (is_name heap q t.1) (to_contains (references_of heap p) q t.0)

  to_marked : (n : ℕ) → Reached heap from n → Marked n
  to_marked n (FromRoot p a c) = Root p (are.complete p (is_within heap p a) c)
  to_marked n (FromObject m q r a c) =
      Referred m q (to_marked m r) (to_target (length heap) (values_of heap m) q (is_within heap q a) (contains_in (references_of heap m) q c))

  pub marks_reached : (after : List Bool) → AreReached (references_in heap) marks after → MarksReached heap from after
  marks_reached after h = record { sound = λ n m. from_marked n (h.sound n m); complete = λ n r. h.complete n (to_marked n r) }

-- A state's objects that can be reached are those of a heap with as many.
module _ (w : World) (s : State) (objects : Heap) (count : length s.shared.heap ≡ length objects) (same : (n : ℕ) → Reachable w s n → object_at s.shared.heap n ≡ object_at objects n) (marks : List Bool) (are : AreRoots (length objects) (Contains (roots w s)) marks) where
  abbrev reached : ℕ → Type 0
  reached n = IsReached (references_in objects) (λ r. is_marked marks r ≡ true) n

  named : (n : ℕ) → IsWithin (length objects) n → IsName s.shared.heap n
  named n within = is_name s.shared.heap n (subst (λ (c : ℕ). IsWithin c n) (sym count) within)

  named_within : (n : ℕ) → IsName s.shared.heap n → IsWithin (length objects) n
  named_within n name = subst (λ (c : ℕ). IsWithin c n) count (is_within s.shared.heap n name)

  sound : (n : ℕ) → reached n → Reachable w s n
  sound n (Root p m) = let r = are.sound p m in FromRoot p (named p r.0) r.1
  sound n (Referred p q k c) =
      let there = sound p k in
      let t = from_target (length objects) (values_of objects p) q c.0 c.1 c.2 in
      let among = subst (λ (vs : List ObjectValue). In (filter_map reference_in vs) q) (sym (values_at s.shared.heap objects p (same p there))) t.0 in
      FromObject p q there (named q t.1) (to_contains (references_of s.shared.heap p) q among)

  complete : (n : ℕ) → Reachable w s n → reached n
  complete n (FromRoot p a c) = Root p (are.complete p (named_within p a) c)
  complete n (FromObject m q r a c) =
      let among = subst (λ (vs : List ObjectValue). In (filter_map reference_in vs) q) (values_at s.shared.heap objects m (same m r)) (contains_in (references_of s.shared.heap m) q c) in
      Referred m q (complete m r) (to_target (length objects) (values_of objects m) q (named_within q a) among)

  -- what is reached tells which objects are reachable
  pub tells : (after : List Bool) → AreReached (references_in objects) marks after → Tells w s (is_marked after)
  tells after h = record {
    sound = λ n a m. sound n (h.sound n m);
    complete = λ n r. h.complete n (complete n r);
  }

-- ---- the rows

-- the rows of two heaps are the same where the objects of the names are
same_rows : (classes : Classes) (heap other : Heap) (names : List ℕ) → ((n : ℕ) → In names n → object_at heap n ≡ object_at other n) → map (shown_row classes heap) names ≡ map (shown_row classes other) names
same_rows classes heap other [] same = refl
same_rows classes heap other (n ∷ names) same =
    ap (λ (o : Option Object). row classes n (option_map_or (λ (x : Object). x.class) o 0) (option_map_or (λ (x : Object). x.values) o []) ∷ map (shown_row classes heap) names) (same n (in_head n names))
    ∙ ap (λ (rows : List ShownRow). shown_row classes other n ∷ rows) (same_rows classes heap other names (λ m k. same m (in_tail n names m k)))

pub are_reported : (classes : Classes) (heap : Heap) (loaded : ℕ) (names : List ℕ) (marks after : List Bool) (first end : ℕ) → AreRoots (length heap) (Contains (from_one loaded ++ names)) marks → AreReached (references_in heap) marks after → first ≡ length classes + 2 → end ≡ length heap + 1
    → AreReported classes heap loaded names (marked_rows classes heap after first end)
unfolding report
are_reported classes heap loaded names marks after first end roots_marked reached begins ends w s has =
    let of_roots : AreRoots (length heap) (Contains (roots w s)) marks = record {
      counted = roots_marked.counted;
      sound = λ n marked. let it = roots_marked.sound n marked in (it.0, has.complete n it.1);
      complete = λ n within root. roots_marked.complete n within (has.sound n root);
    } in
    let told = tells w s heap has.count has.same marks of_roots after reached in
    ap (λ n. marked_rows classes heap after n end) begins
    ∙ ap (λ n. marked_rows classes heap after (length classes + 2) n) ends
    ∙ ap (λ (c : Classes). marked_rows c heap after (length c + 2) (length heap + 1)) (sym has.classes)
    ∙ ap (λ (n : ℕ). marked_rows w.classes heap after (length w.classes + 2) (n + 1)) (sym has.count)
    ∙ ap (map (shown_row w.classes heap)) (sym (shown_are w s (is_marked after) told))
    ∙ sym (same_rows w.classes s.shared.heap heap (shown w s) (λ n k. has.same n (shown_reachable w s n k)))
