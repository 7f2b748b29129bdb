-- What the buffers of all threads take, by those of one thread and of the others.
use Rattle.std.proofs.Common.{◌≡◌, ℕ, zero, suc, ◌+◌, List, [], ◌∷◌, ◌++◌, length, append_assoc, length-append, Some, refl, sym, ap, ◌∙◌, subst, arith}
use Rattle.std.specs.Prelude.{flat_map, slice_get, slice_set, sum_by}
use Rattle.std.proofs.lemmas.List.Concat.{flat_map-cons}
use Rattle.std.proofs.lemmas.List.Sums.{sum_by-cons}
use Rattle.semantics.specs.Start.{waiting_thread}
use Rattle.semantics.specs.Thread.{BuffersInUse, Caller, Thread, copied_by, lengths_copied, objects_viewed, viewed_by}
use Rattle.semantics.specs.World.{Invocation}
use Rattle.machine_scenes.specs.Buffers.{Acquired, SameAcquired, acquired_by, beside, in_use_of}
use Rattle.machine_scenes.specs.HeapAgrees.{times}
use Rattle.machine_scenes.proofs.HeldSums.{times_append}
use Rattle.machine_threads.specs.Callers.{beside_callers}
use Rattle.std.proofs.Common.{map}

-- what the buffers of these threads take
abbrev pub taken : List Thread → Acquired
taken ss = record { copied = sum_by copied_by ss; viewed = flat_map viewed_by ss }

-- the threads but the one at a place
abbrev pub without : List Thread → ℕ → List Thread
without [] i = []
without (s ∷ ss) zero = ss
without (s ∷ ss) (suc i) = s ∷ without ss i

-- what theirs take
abbrev pub others : List Thread → ℕ → Acquired
others ss i = taken (without ss i)

-- ---- one and the others

copied_parts : (ss : List Thread) (i : ℕ) (s : Thread) → slice_get ss i ≡ Some s → sum_by copied_by ss ≡ sum_by copied_by (without ss i) + copied_by s
copied_parts [] i s at = absurd (cc)
copied_parts (x ∷ ss) zero s at =
    let same : x ≡ s = cc in
    let first : copied_by x ≡ copied_by s = ap copied_by same in
    omega (arith, first, sum_by-cons copied_by x ss)
copied_parts (x ∷ ss) (suc i) s at = omega (arith, copied_parts ss i s at, sum_by-cons copied_by x ss, sum_by-cons copied_by x (without ss i))

-- how many views there are of an object, by a count of names that goes over lists
viewed_parts : (count : List ℕ → ℕ) → count [] ≡ 0 → ((xs ys : List ℕ) → count (xs ++ ys) ≡ count xs + count ys) → (ss : List Thread) (i : ℕ) (s : Thread) → slice_get ss i ≡ Some s
    → count (flat_map viewed_by ss) ≡ count (flat_map viewed_by (without ss i)) + count (viewed_by s)
viewed_parts count none both [] i s at = absurd (cc)
viewed_parts count none both (x ∷ ss) zero s at =
    let same : x ≡ s = cc in
    let first : count (viewed_by x) ≡ count (viewed_by s) = ap (λ (t : Thread). count (viewed_by t)) same in
    let parts = ap count (flat_map-cons viewed_by x ss) ∙ both (viewed_by x) (flat_map viewed_by ss) in
    omega (arith, first, parts)
viewed_parts count none both (x ∷ ss) (suc i) s at =
    let parts = ap count (flat_map-cons viewed_by x ss) ∙ both (viewed_by x) (flat_map viewed_by ss) in
    let fewer = ap count (flat_map-cons viewed_by x (without ss i)) ∙ both (viewed_by x) (flat_map viewed_by (without ss i)) in
    omega (arith, parts, fewer, viewed_parts count none both ss i s at)

-- what the call in progress views, the thread does
pub own_viewed : (s : Thread) → viewed_by s ≡ [] → objects_viewed s.variables ≡ []
own_viewed s none = by_list (flat_map (λ (c : Caller). objects_viewed c.variables) s.callers) none
  where
    by_list : (xs : List ℕ) → xs ++ objects_viewed s.variables ≡ [] → objects_viewed s.variables ≡ []
    by_list [] none = none
    by_list (x ∷ xs) none = absurd (cc)

own_parts : (ss : List Thread) (i : ℕ) (s : Thread) → slice_get ss i ≡ Some s → SameAcquired (taken ss) (beside (others ss i) (record { copied = copied_by s; viewed = viewed_by s }))
own_parts ss i s at = record {
  copied = copied_parts ss i s at;
  many = viewed_parts length refl (λ xs ys. length-append xs ys) ss i s at ∙ sym (length-append (flat_map viewed_by (without ss i)) (viewed_by s));
  viewed = λ n. viewed_parts (times n) refl (times_append n) ss i s at ∙ sym (times_append n (flat_map viewed_by (without ss i)) (viewed_by s));
}

-- a thread's buffers are those of its callers and of its call in progress
pub parted : (ss : List Thread) (i : ℕ) (s : Thread) → slice_get ss i ≡ Some s → SameAcquired (taken ss) (beside (beside_callers (others ss i) s) (acquired_by s))
parted ss i s at =
    let h = own_parts ss i s at in
    let below = flat_map (λ (c : Caller). objects_viewed c.variables) s.callers in
    let copied : sum_by copied_by ss ≡ sum_by copied_by (without ss i) + (sum_by (λ (c : Caller). lengths_copied c.variables) s.callers + lengths_copied s.variables) = h.copied in
    let parts = sym (append_assoc (flat_map viewed_by (without ss i)) below (objects_viewed s.variables)) in
    record {
      copied = omega (arith, copied);
      many = h.many ∙ ap length parts;
      viewed = λ n. h.viewed n ∙ ap (times n) parts;
    }

-- once that one is another
pub set_there : (ss : List Thread) (i : ℕ) (s t : Thread) → slice_get ss i ≡ Some s → slice_get (slice_set ss i t) i ≡ Some t
set_there [] i s t at = absurd (cc)
set_there (x ∷ ss) zero s t at = refl
set_there (x ∷ ss) (suc i) s t at = set_there ss i s t at

without_set : (ss : List Thread) (i : ℕ) (t : Thread) → without (slice_set ss i t) i ≡ without ss i
without_set [] i t = refl
without_set (x ∷ ss) zero t = refl
without_set (x ∷ ss) (suc i) t = ap (λ (l : List Thread). x ∷ l) (without_set ss i t)

pub same_back : (a b : Acquired) → SameAcquired a b → SameAcquired b a
same_back a b h = record { copied = sym h.copied; many = sym h.many; viewed = λ n. sym (h.viewed n) }

pub joined : (ss : List Thread) (i : ℕ) (s t : Thread) → slice_get ss i ≡ Some s → SameAcquired (beside (beside_callers (others ss i) t) (acquired_by t)) (taken (slice_set ss i t))
joined ss i s t at =
    same_back (taken (slice_set ss i t)) (beside (beside_callers (others ss i) t) (acquired_by t))
    (subst (λ (l : List Thread). SameAcquired (taken (slice_set ss i t)) (beside (beside_callers (taken l) t) (acquired_by t))) (without_set ss i t) (parted (slice_set ss i t) i t (set_there ss i s t at)))

pub in_use_same : (a b : Acquired) → SameAcquired a b → in_use_of a ≡ in_use_of b
in_use_same a b h =
    ap (λ (n : ℕ). let u : BuffersInUse = record { copied = n; views = length a.viewed } in u) h.copied
    ∙ ap (λ (n : ℕ). let u : BuffersInUse = record { copied = b.copied; views = n } in u) h.many

-- ---- before the first step

-- no buffer takes anything
pub none_taken : (calls : List (List Invocation)) → (sum_by copied_by (map waiting_thread calls) ≡ 0) × (flat_map viewed_by (map waiting_thread calls) ≡ [])
none_taken [] = (refl, refl)
none_taken (c ∷ calls) =
    let rest = none_taken calls in (
      omega (arith, sum_by-cons copied_by (waiting_thread c) (map waiting_thread calls), rest.0),
      flat_map-cons viewed_by (waiting_thread c) (map waiting_thread calls) ∙ rest.1,
    )
