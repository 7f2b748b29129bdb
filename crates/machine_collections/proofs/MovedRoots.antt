-- Roots are put back place by place.
use Rattle.std.proofs.Common.{◌≡◌, ℕ, zero, suc, ◌+◌, ◌<◌, ◌≤◌, List, [], ◌∷◌, ◌++◌, length, take, drop, length-append, append_assoc, append-nil, ◌⊎◌, inl, inr, Option, Some, None, IsSome, refl, sym, ap, ◌∙◌, subst, arith}
use Rattle.std.specs.Prelude.{flat_map, slice_get, slice_set}
use Rattle.std.specs.Option.{option_map}
use Rattle.std.proofs.lemmas.List.{length-map}
use Rattle.std.proofs.lemmas.List.Concat.{flat_map-cons}
use Rattle.std.proofs.lemmas.Option.{slice_get_within}
use Rattle.base.proofs.Lists.{drop_next, get_front, get_map, drop_past}
use Rattle.tables.specs.References.{address_at}
use Rattle.machine_threads.specs.declared.thread.Thread.{Thread}
use Rattle.machine_scenes.specs.declared.store.Store.{Store}
use Rattle.compact.proofs.Fronts.{front, front_get, front_same, front_step}
use Rattle.machine_collections.specs.Moving.{AreMovedAt, moved_slots}
use Rattle.machine_collections.specs.Roots.{loaded_places, root_places, thread_places}
use Rattle.monitors.specs.Monitors.{addresses}

-- ---- places

get_back : {A : Type 0} (xs ys : List A) (i : ℕ) (x : A) → slice_get ys i ≡ Some x → slice_get (xs ++ ys) (length xs + i) ≡ Some x
get_back [] ys i x h = let e : 0 + i ≡ i = omega arith in subst (λ (n : ℕ). slice_get ys n ≡ Some x) (sym e) h
get_back (y ∷ xs) ys i x h =
    let e : suc (length xs) + i ≡ suc (length xs + i) = omega arith in
    subst (λ (n : ℕ). slice_get (y ∷ xs ++ ys) n ≡ Some x) (sym e) (get_back xs ys i x h)

-- the first of some slots, and those after them
pub moved_front : (to : ℕ → ℕ) (xs ys places : List (Option ℕ)) (from : ℕ) → AreMovedAt to (xs ++ ys) places from → AreMovedAt to xs places from
moved_front to xs ys places from h = λ i r at. h i r (get_front xs ys i r at)

pub moved_back : (to : ℕ → ℕ) (xs ys places : List (Option ℕ)) (from : ℕ) → AreMovedAt to (xs ++ ys) places from → AreMovedAt to ys places (from + length xs)
moved_back to xs ys places from h = λ i r at.
    let e : from + (length xs + i) ≡ from + length xs + i = omega arith in
    subst (λ (n : ℕ). slice_get places n ≡ Some (option_map to r)) e (h (length xs + i) r (get_back xs ys i r at))

-- all places
pub moved_all : (to : ℕ → ℕ) (slots places : List (Option ℕ)) → places ≡ moved_slots to slots → AreMovedAt to slots places 0
moved_all to slots places h = λ i r at.
    let e : 0 + i ≡ i = omega arith in
    subst (λ (n : ℕ). slice_get places n ≡ Some (option_map to r)) (sym e) (ap (λ (l : List (Option ℕ)). slice_get l i) h ∙ get_map (option_map to) slots i r at)

-- the place of a slot
pub moved_below : (to : ℕ → ℕ) (slots places : List (Option ℕ)) (from i : ℕ) → AreMovedAt to slots places from → i < length slots → from + i < length places
moved_below to slots places from i h less =
    let at = there slots i less in
    slice_get_within places (from + i) (option_map to at.0) (h i at.0 at.1)
  where
    there : (xs : List (Option ℕ)) (i : ℕ) → i < length xs → (r : Option ℕ) × (slice_get xs i ≡ Some r)
    there [] i less = absurd (omega (arith, less))
    there (x ∷ xs) zero less = (x, refl)
    there (x ∷ xs) (suc i) less = there xs i (omega (arith, less))

moved_within : (to : ℕ → ℕ) (slots places : List (Option ℕ)) (from : ℕ) → AreMovedAt to slots places from → 0 < length slots → from + length slots ≤ length places
moved_within to [] places from h some = absurd (omega (arith, some))
moved_within to (x ∷ slots) places from h some =
    let last = moved_below to (x ∷ slots) places from (length slots) h (omega arith) in
    omega (arith, last)

-- so the last place isn't past the end
pub moved_end : (to : ℕ → ℕ) (slots places : List (Option ℕ)) (from : ℕ) → AreMovedAt to slots places from → (length slots ≡ 0) ⊎ (from + length slots ≤ length places)
moved_end to [] places from h = inl refl
moved_end to (x ∷ slots) places from h = inr (moved_within to (x ∷ slots) places from h (omega arith))

-- the only one of some slots
pub last_moved : (to : ℕ → ℕ) (r : Option ℕ) (places : List (Option ℕ)) (from n : ℕ) (q : Option ℕ) → AreMovedAt to (r ∷ []) places from → n ≡ from → slice_get places n ≡ Some q → q ≡ option_map to r
last_moved to r places from n q h is at =
    let e : from + 0 ≡ n = omega (arith, is) in
    let now : slice_get places n ≡ Some (option_map to r) = subst (λ (m : ℕ). slice_get places m ≡ Some (option_map to r)) e (h 0 r refl) in
    let both : Some q ≡ Some (option_map to r) = sym at ∙ now in cc

-- each kind of root at its places
pub parts_moved : (to : ℕ → ℕ) (store : Store) (ts : List Thread) (places : List (Option ℕ)) → places ≡ moved_slots to (root_places store ts)
    → AreMovedAt to (loaded_places store.loaded.items) places 0 × AreMovedAt to store.globals places (length store.loaded.items) × AreMovedAt to (flat_map thread_places ts) places (length store.loaded.items + length store.globals)
    × AreMovedAt to (addresses store.monitors) places (length store.loaded.items + length store.globals + length (flat_map thread_places ts))
parts_moved to store ts places h =
    let items = store.loaded.items in
    let threads = flat_map thread_places ts in
    let last = threads ++ addresses store.monitors in
    let rest = store.globals ++ last in
    let all = moved_all to (root_places store ts) places h in
    let count : 0 + length (loaded_places items) ≡ length items = omega (arith, length-map items (λ (a : ℕ). Some a)) in
    let later : AreMovedAt to rest places (length items) = subst (λ (n : ℕ). AreMovedAt to rest places n) count (moved_back to (loaded_places items) rest places 0 all) in
    let latest : AreMovedAt to last places (length items + length store.globals) = moved_back to store.globals last places (length items) later in (
      moved_front to (loaded_places items) rest places 0 all,
      moved_front to store.globals last places (length items) later,
      moved_front to threads (addresses store.monitors) places (length items + length store.globals) latest,
      moved_back to threads (addresses store.monitors) places (length items + length store.globals) latest,
    )

-- ---- slots

-- what a place has is what its slot has now
pub slot_moved : (to : ℕ → ℕ) (slots places : List (Option ℕ)) (from i : ℕ) (q : Option ℕ) → AreMovedAt to slots places from → i < length slots → slice_get places (from + i) ≡ Some q → (r : Option ℕ) × (slice_get (front (option_map to) i slots) i ≡ Some r) × (option_map to r ≡ q)
slot_moved to slots places from i q h less at =
    let here = there slots i less in
    let now : slice_get places (from + i) ≡ Some (option_map to here.0) = h i here.0 here.1 in
    (here.0, front_get (option_map to) i slots ∙ here.1, (let both : Some (option_map to here.0) ≡ Some q = sym now ∙ at in cc))
  where
    there : (xs : List (Option ℕ)) (i : ℕ) → i < length xs → (r : Option ℕ) × (slice_get xs i ≡ Some r)
    there [] i less = absurd (omega (arith, less))
    there (x ∷ xs) zero less = (x, refl)
    there (x ∷ xs) (suc i) less = there xs i (omega (arith, less))

-- a reference is put back
pub slot_put : (to : ℕ → ℕ) (slots places : List (Option ℕ)) (from i a : ℕ) → AreMovedAt to slots places from → i < length slots → slice_get places (from + i) ≡ Some (Some a) → slice_set (front (option_map to) i slots) i (Some a) ≡ front (option_map to) (i + 1) slots
slot_put to slots places from i a h less at =
    let r = slot_moved to slots places from i (Some a) h less at in
    ap (λ (o : Option ℕ). slice_set (front (option_map to) i slots) i o) (sym r.2) ∙ front_step (option_map to) i slots r.0 r.1

-- a free slot stays
pub slot_free : (to : ℕ → ℕ) (slots places : List (Option ℕ)) (from i : ℕ) (q : Option ℕ) → AreMovedAt to slots places from → i < length slots → slice_get places (from + i) ≡ Some q → ((a : ℕ) → q ≡ Some a → ⊥) → front (option_map to) i slots ≡ front (option_map to) (i + 1) slots
slot_free to slots places from i q h less at none =
    let r = slot_moved to slots places from i q h less at in
    front_same (option_map to) i slots r.0 r.1 (stays r.0 (λ a e. none a (sym r.2 ∙ e)))
  where
    stays : (o : Option ℕ) → ((a : ℕ) → option_map to o ≡ Some a → ⊥) → option_map to o ≡ o
    stays None h = refl
    stays (Some x) h = absurd (h (to x) refl)

-- the slot of a reference has one
pub slot_live : (to : ℕ → ℕ) (slots places : List (Option ℕ)) (from i a : ℕ) → AreMovedAt to slots places from → i < length slots → slice_get places (from + i) ≡ Some (Some a) → IsSome (address_at (front (option_map to) i slots) i)
slot_live to slots places from i a h less at =
    let r = slot_moved to slots places from i (Some a) h less at in
    live (front (option_map to) i slots) i r.0 r.1 (is_some r.0 r.2)
  where
    is_some : (o : Option ℕ) → option_map to o ≡ Some a → IsSome o
    is_some None e = absurd (cc)
    is_some (Some x) e = refl

    live : (xs : List (Option ℕ)) (i : ℕ) (r : Option ℕ) → slice_get xs i ≡ Some r → IsSome r → IsSome (address_at xs i)
    live [] i r e s = absurd (cc)
    live (x ∷ xs) zero r e s = let same : x ≡ r = cc in subst (λ (o : Option ℕ). IsSome o) (sym same) s
    live (x ∷ xs) (suc i) r e s = live xs i r e s

-- ---- the objects made at load

loaded_at : (to : ℕ → ℕ) (xs : List ℕ) (places : List (Option ℕ)) (i : ℕ) (q : Option ℕ) → AreMovedAt to (loaded_places xs) places 0 → i < length xs → slice_get places i ≡ Some q → (x : ℕ) × (slice_get xs i ≡ Some x) × (q ≡ Some (to x))
loaded_at to xs places i q h less at =
    let x = there xs i less in
    let e : 0 + i ≡ i = omega arith in
    let now : slice_get places i ≡ Some (Some (to x.0)) = subst (λ (n : ℕ). slice_get places n ≡ Some (Some (to x.0))) e (h i (Some x.0) (get_map (λ (a : ℕ). Some a) xs i x.0 x.1)) in
    (x.0, x.1, (let both : Some q ≡ Some (Some (to x.0)) = sym at ∙ now in cc))
  where
    there : (xs : List ℕ) (i : ℕ) → i < length xs → (x : ℕ) × (slice_get xs i ≡ Some x)
    there [] i less = absurd (omega (arith, less))
    there (x ∷ xs) zero less = (x, refl)
    there (x ∷ xs) (suc i) less = there xs i (omega (arith, less))

pub loaded_put : (to : ℕ → ℕ) (xs : List ℕ) (places : List (Option ℕ)) (i a : ℕ) → AreMovedAt to (loaded_places xs) places 0 → i < length xs → slice_get places i ≡ Some (Some a) → slice_set (front to i xs) i a ≡ front to (i + 1) xs
loaded_put to xs places i a h less at =
    let x = loaded_at to xs places i (Some a) h less at in
    let same : a ≡ to x.0 = let both : Some a ≡ Some (to x.0) = x.2 in cc in
    ap (λ (n : ℕ). slice_set (front to i xs) i n) same ∙ front_step to i xs x.0 (front_get to i xs ∙ x.1)

-- each of them has an address
pub loaded_some : (to : ℕ → ℕ) (xs : List ℕ) (places : List (Option ℕ)) (i : ℕ) (q : Option ℕ) → AreMovedAt to (loaded_places xs) places 0 → i < length xs → slice_get places i ≡ Some q → ((a : ℕ) → q ≡ Some a → ⊥) → ⊥
loaded_some to xs places i q h less at none = let x = loaded_at to xs places i q h less at in none (to x.0) x.2

-- ---- element by element

-- the places of the elements up to one
abbrev pub places_to : {A : Type 0} → (A → List (Option ℕ)) → List A → ℕ → List (Option ℕ)
places_to places_of xs i = flat_map places_of (take i xs)

-- the places of all are those of the first ones, of the next, and of those after it
pub moved_there : {A : Type 0} (places_of : A → List (Option ℕ)) (to : ℕ → ℕ) (xs : List A) (places : List (Option ℕ)) (from i : ℕ) (x : A) → AreMovedAt to (flat_map places_of xs) places from → slice_get xs i ≡ Some x → AreMovedAt to (places_of x) places (from + length (places_to places_of xs i))
moved_there places_of to [] places from i x h at = absurd (cc)
moved_there {A} places_of to (y ∷ xs) places from zero x h at =
    let same : y ≡ x = cc in
    let here : AreMovedAt to (places_of y) places from = moved_front to (places_of y) (flat_map places_of xs) places from (subst (λ (l : List (Option ℕ)). AreMovedAt to l places from) (flat_map-cons places_of y xs) h) in
    let e : from ≡ from + 0 = omega arith in
    subst (λ (n : ℕ). AreMovedAt to (places_of x) places n) e (subst (λ (z : A). AreMovedAt to (places_of z) places from) same here)
moved_there places_of to (y ∷ xs) places from (suc i) x h at =
    let later = moved_back to (places_of y) (flat_map places_of xs) places from (subst (λ (l : List (Option ℕ)). AreMovedAt to l places from) (flat_map-cons places_of y xs) h) in
    let r = moved_there places_of to xs places (from + length (places_of y)) i x later at in
    let long : length (places_to places_of (y ∷ xs) (suc i)) ≡ length (places_of y) + length (places_to places_of xs i) = ap length (flat_map-cons places_of y (take i xs)) ∙ length-append (places_of y) (places_to places_of xs i) in
    let e : from + length (places_of y) + length (places_to places_of xs i) ≡ from + length (places_to places_of (y ∷ xs) (suc i)) = omega (arith, long) in
    subst (λ (n : ℕ). AreMovedAt to (places_of x) places n) e r

-- one more
pub places_more : {A : Type 0} (places_of : A → List (Option ℕ)) (xs : List A) (i : ℕ) (x : A) → slice_get xs i ≡ Some x → length (places_to places_of xs (i + 1)) ≡ length (places_to places_of xs i) + length (places_of x)
places_more places_of [] i x at = absurd (cc)
places_more {A} places_of (y ∷ xs) zero x at =
    let same : y ≡ x = cc in
    ap length (flat_map-cons places_of y []) ∙ length-append (places_of y) [] ∙ (let e : length (places_of y) ≡ length (places_of x) = ap (λ (z : A). length (places_of z)) same in omega (arith, e))
places_more places_of (y ∷ xs) (suc i) x at =
    let rest = places_more places_of xs i x at in
    let next : suc i + 1 ≡ suc (i + 1) = omega arith in
    let one : length (places_to places_of (y ∷ xs) (suc (i + 1))) ≡ length (places_of y) + length (places_to places_of xs (i + 1)) = ap length (flat_map-cons places_of y (take (i + 1) xs)) ∙ length-append (places_of y) (places_to places_of xs (i + 1)) in
    let other : length (places_to places_of (y ∷ xs) (suc i)) ≡ length (places_of y) + length (places_to places_of xs i) = ap length (flat_map-cons places_of y (take i xs)) ∙ length-append (places_of y) (places_to places_of xs i) in
    ap (λ n. length (places_to places_of (y ∷ xs) n)) next ∙ omega (arith, one, other, rest)

-- an element after the first ones is as it was
pub still_there : {A : Type 0} (moved : A → A) (xs : List A) (i : ℕ) (x : A) → slice_get (front moved i xs) i ≡ Some x → slice_get xs i ≡ Some x
still_there moved xs i x at = sym (front_get moved i xs) ∙ at

-- ---- places that are gathered

-- past the end there is nothing
-- one element more was pushed
pub pushed_next : {A : Type 0} (done all whole pushed : List A) (i : ℕ) (x : A) → slice_get all i ≡ Some x → pushed ≡ done ++ x ∷ [] → done ++ drop i all ≡ whole → pushed ++ drop (i + 1) all ≡ whole
pushed_next {A} done all whole pushed i x at push before =
    ap (λ (l : List A). l ++ drop (i + 1) all) push
    ∙ append_assoc done (x ∷ []) (drop (i + 1) all)
    ∙ ap (λ (l : List A). done ++ l) (sym (drop_next all i x at))
    ∙ before

-- and all
pub pushed_all : {A : Type 0} (done all whole : List A) (i : ℕ) → length all ≤ i → done ++ drop i all ≡ whole → done ≡ whole
pushed_all {A} done all whole i past before = sym (append-nil done) ∙ ap (λ (l : List A). done ++ l) (sym (drop_past all i past)) ∙ before
