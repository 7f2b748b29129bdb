-- Names and frames that lie in memory, the last first.
use Rattle.std.proofs.Common.{◌≡◌, ℕ, zero, suc, ◌+◌, ◌-◌, ◌<◌, Bool, true, false, cond, List, [], ◌∷◌, ◌++◌, length, map, drop, take, reverse, get_or, slice_get, Some, refl, sym, ap, ◌∙◌, arith, append_assoc, append-nil}
use Rattle.std.specs.Prelude.{min, max, remove, ◌==◌, slice_set}
use Rattle.std.proofs.lemmas.List.{map-append, length-reverse, reverse-append}
use Rattle.std.proofs.lemmas.Option.{slice_get-get_or, slice_get-map}
use Rattle.std.proofs.lemmas.List.Sums.{sum_by-cons}
use Rattle.std.proofs.lemmas.Grind.{flat_map-append}
use Rattle.base.proofs.Lists.{drop_next, get_left, get_map, take_next}
use Rattle.semantics.specs.CallEffects.{deleted_in, with_capacity, with_local, without_local, without_one}
use Rattle.semantics.specs.Thread.{Frame, capacities}
use Rattle.semantics.specs.Views.{name_of, names_of}
use Rattle.semantics.specs.declared.object_id.ObjectId.{ObjectId}
use Rattle.replay_objects.specs.declared.frame.Frame.{Frame as InMemory}
use Rattle.replay_objects.specs.Frames.{frame_view, frames_view, references_in, without_in}

-- an element more at the end is one more at the beginning
last_first : {A : Type 0} (xs : List A) (p : ℕ) (x : A) → slice_get xs p ≡ Some x → reverse (take (p + 1) xs) ≡ x ∷ reverse (take p xs)
last_first xs p x at = ap reverse (take_next xs p x at) ∙ reverse-append (take p xs) (x ∷ [])

first_last : {A : Type 0} (xs : List A) (p : ℕ) (x : A) → slice_get xs p ≡ Some x → reverse (drop p xs) ≡ reverse (drop (p + 1) xs) ++ x ∷ []
first_last xs p x at = ap reverse (drop_next xs p x at) ∙ reverse-append (x ∷ []) (drop (p + 1) xs)

-- ---- names

module _ (n : ℕ) (objects : List ObjectId) where
  abbrev xs : List ℕ
  xs = names_of objects

  -- the name at a place
  abbrev pub name_at : ℕ → ℕ
  name_at p = (get_or objects p (record { number = 0 })).number

  is_there : (p : ℕ) → p < length objects → slice_get xs p ≡ Some (name_at p)
  is_there p low = slice_get-map (λ (o : ObjectId). o.number) objects p ∙ ap name_of (slice_get-get_or objects p (record { number = 0 }) low)

  -- the names after a place are others
  abbrev pub AreOthers : ℕ → Type 0
  AreOthers q = without_one n (reverse xs) ≡ reverse (drop q xs) ++ without_one n (reverse (take q xs))

  at_last : (p x : ℕ) (b : Bool) → slice_get xs p ≡ Some x → (n == x) ≡ b → AreOthers (p + 1)
      → without_one n (reverse xs) ≡ reverse (drop (p + 1) xs) ++ cond b (reverse (take p xs)) (x ∷ without_one n (reverse (take p xs)))
  at_last p x b at is h =
      h
      ∙ ap (λ (l : List ℕ). reverse (drop (p + 1) xs) ++ without_one n l) (last_first xs p x at)
      ∙ ap (λ (c : Bool). reverse (drop (p + 1) xs) ++ cond c (reverse (take p xs)) (x ∷ without_one n (reverse (take p xs)))) is

  pub passed : (p q : ℕ) → q ≡ p + 1 → p < length objects → (n == name_at p) ≡ false → AreOthers q → AreOthers p
  passed p q next low is h =
      at_last p (name_at p) false (is_there p low) is (rw next at h)
      ∙ sym (append_assoc (reverse (drop (p + 1) xs)) (name_at p ∷ []) (without_one n (reverse (take p xs))))
      ∙ ap (λ (l : List ℕ). l ++ without_one n (reverse (take p xs))) (sym (first_last xs p (name_at p) (is_there p low)))

  pub found : (p q : ℕ) → q ≡ p + 1 → p < length objects → (n == name_at p) ≡ true → AreOthers q → without_one n (reverse xs) ≡ reverse (remove xs p)
  found p q next low is h =
      let e : p + 1 ≡ suc p = omega arith in
      at_last p (name_at p) true (is_there p low) is (rw next at h)
      ∙ sym (reverse-append (take p xs) (drop (p + 1) xs))
      ∙ ap (λ (m : ℕ). reverse (take p xs ++ drop m xs)) e

  pub none_found : (q : ℕ) → q ≡ 0 → AreOthers q → without_one n (reverse xs) ≡ reverse xs
  none_found q is h = (rw is at h) ∙ append-nil (reverse xs)

-- ---- frames

-- the references in the frames from a place on
abbrev pub references_from : List InMemory → ℕ → List ℕ
references_from xs q = references_in (reverse (map frame_view (drop q xs)))

pub references_next : (xs : List InMemory) (p q : ℕ) (x : InMemory) → q ≡ p + 1 → slice_get xs p ≡ Some x → references_from xs p ≡ references_from xs q ++ x.references
references_next xs p q x next at =
    ap (λ (fs : List InMemory). references_in (reverse (map frame_view fs))) (drop_next xs p x at)
    ∙ ap references_in (reverse-append (frame_view x ∷ []) (map frame_view (drop (p + 1) xs)))
    ∙ flat_map-append (λ (f : Frame). f.references) (reverse (map frame_view (drop (p + 1) xs))) (frame_view x ∷ [])
    ∙ ap (λ (l : List ℕ). references_from xs (p + 1) ++ l) (append-nil x.references)
    ∙ ap (λ (m : ℕ). references_from xs m ++ x.references) (sym next)

-- ---- one frame among them

set_last : {A : Type 0} (xs : List A) (x y : A) → slice_set (xs ++ x ∷ []) (length xs) y ≡ xs ++ y ∷ []
set_last [] x y = refl
set_last {A} (z ∷ xs) x y = ap (λ (l : List A). z ∷ l) (set_last xs x y)

get_last : {A : Type 0} (xs : List A) (x : A) → slice_get (xs ++ x ∷ []) (length xs) ≡ Some x
get_last [] x = refl
get_last (z ∷ xs) x = get_last xs x

set_before : {A : Type 0} (xs ys : List A) (j : ℕ) (v : A) → j < length xs → slice_set (xs ++ ys) j v ≡ slice_set xs j v ++ ys
set_before [] ys j v low = absurd (omega (arith, low))
set_before (x ∷ xs) ys zero v low = refl
set_before {A} (x ∷ xs) ys (suc j) v low = ap (λ (l : List A). x ∷ l) (set_before xs ys j v (omega (arith, low)))

set_reversed : {A : Type 0} (xs : List A) (p j : ℕ) (v : A) → length xs ≡ p + 1 + j → slice_set (reverse xs) j v ≡ reverse (slice_set xs p v)
set_reversed [] p j v counted = absurd (omega (arith, counted))
set_reversed {A} (x ∷ xs) zero j v counted =
    let at : j ≡ length (reverse xs) = omega (arith, counted, length-reverse xs) in
    ap (λ (l : List A). slice_set l j v) (reverse-append (x ∷ []) xs)
    ∙ ap (λ i. slice_set (reverse xs ++ x ∷ []) i v) at
    ∙ set_last (reverse xs) x v
    ∙ sym (reverse-append (v ∷ []) xs)
set_reversed {A} (x ∷ xs) (suc p) j v counted =
    ap (λ (l : List A). slice_set l j v) (reverse-append (x ∷ []) xs)
    ∙ set_before (reverse xs) (x ∷ []) j v (omega (arith, counted, length-reverse xs))
    ∙ ap (λ (l : List A). l ++ x ∷ []) (set_reversed xs p j v (omega (arith, counted)))
    ∙ sym (reverse-append (x ∷ []) (slice_set xs p v))

get_reversed : {A : Type 0} (xs : List A) (p j : ℕ) → length xs ≡ p + 1 + j → slice_get (reverse xs) j ≡ slice_get xs p
get_reversed [] p j counted = absurd (omega (arith, counted))
get_reversed {A} (x ∷ xs) zero j counted =
    let at : j ≡ length (reverse xs) = omega (arith, counted, length-reverse xs) in
    ap (λ (l : List A). slice_get l j) (reverse-append (x ∷ []) xs)
    ∙ ap (λ i. slice_get (reverse xs ++ x ∷ []) i) at
    ∙ get_last (reverse xs) x
get_reversed {A} (x ∷ xs) (suc p) j counted =
    ap (λ (l : List A). slice_get l j) (reverse-append (x ∷ []) xs)
    ∙ get_left (reverse xs) (x ∷ []) j (omega (arith, counted, length-reverse xs))
    ∙ get_reversed xs p j (omega (arith, counted))

map_set : {A B : Type 0} (f : A → B) (xs : List A) (p : ℕ) (v : A) → map f (slice_set xs p v) ≡ slice_set (map f xs) p (f v)
map_set f [] p v = refl
map_set f (x ∷ xs) zero v = refl
map_set {A} {B} f (x ∷ xs) (suc p) v = ap (λ (l : List B). f x ∷ l) (map_set f xs p v)

map_length : {A B : Type 0} (f : A → B) (xs : List A) → length (map f xs) ≡ length xs
map_length f [] = refl
map_length f (x ∷ xs) = ap suc (map_length f xs)

first_of : {A : Type 0} (xs : List A) (x : A) → slice_get xs 0 ≡ Some x → xs ≡ x ∷ drop 1 xs
first_of [] x at = absurd (cc)
first_of {A} (y ∷ xs) x at = let same : y ≡ x = cc in ap (λ z. z ∷ xs) same

set_first : {A : Type 0} (xs : List A) (x y : A) → xs ≡ x ∷ drop 1 xs → slice_set xs 0 y ≡ y ∷ drop 1 xs
set_first [] x y is = absurd (cc)
set_first (z ∷ xs) x y is = refl

second_of : {A : Type 0} (xs : List A) → slice_get (drop 1 xs) 0 ≡ slice_get xs 1
second_of [] = refl
second_of (x ∷ xs) = refl

first_capacity : (f : Frame) (fs : List Frame) → capacities (f ∷ fs) ≡ f.capacity + capacities fs
first_capacity f fs = sum_by-cons (λ (g : Frame). g.capacity) f fs

-- a frame of the same capacity in its place
same_capacities : (frames : List Frame) (j : ℕ) (old new : Frame) → slice_get frames j ≡ Some old → new.capacity ≡ old.capacity → capacities (slice_set frames j new) ≡ capacities frames
same_capacities [] j old new at same = absurd (cc)
same_capacities (f ∷ frames) zero old new at same =
    let here : f ≡ old = cc in
    sum_by-cons (λ (g : Frame). g.capacity) new frames
    ∙ ap (λ n. n + capacities frames) (same ∙ ap (λ (g : Frame). g.capacity) (sym here))
    ∙ sym (sum_by-cons (λ (g : Frame). g.capacity) f frames)
same_capacities (f ∷ frames) (suc j) old new at same =
    sum_by-cons (λ (g : Frame). g.capacity) f (slice_set frames j new)
    ∙ ap (λ n. f.capacity + n) (same_capacities frames j old new at same)
    ∙ sym (sum_by-cons (λ (g : Frame). g.capacity) f frames)

module _ (xs : List InMemory) where
  pub length_view : length (frames_view xs) ≡ length xs
  length_view = length-reverse (map frame_view xs) ∙ map_length frame_view xs

  -- the frame at a place, counted from the lowest, and so at its place from the current one
  pub frame_at : (p j : ℕ) (x : InMemory) → length xs ≡ p + 1 + j → slice_get xs p ≡ Some x → slice_get (frames_view xs) j ≡ Some (frame_view x)
  frame_at p j x counted at = get_reversed (map frame_view xs) p j (map_length frame_view xs ∙ counted) ∙ get_map frame_view xs p x at

  -- another frame there
  pub frame_set : (p j : ℕ) (y : InMemory) → length xs ≡ p + 1 + j → frames_view (slice_set xs p y) ≡ slice_set (frames_view xs) j (frame_view y)
  frame_set p j y counted = ap (λ (l : List Frame). reverse l) (map_set frame_view xs p y) ∙ sym (set_reversed (map frame_view xs) p j (frame_view y) (map_length frame_view xs ∙ counted))

  -- a frame more, which is then the current one
  pub pushed_view : (x : InMemory) → frames_view (xs ++ x ∷ []) ≡ frame_view x ∷ frames_view xs
  pushed_view x = ap (λ (l : List Frame). reverse l) (map-append frame_view xs (x ∷ [])) ∙ reverse-append (map frame_view xs) (frame_view x ∷ [])

  pub pushed_total : (x : InMemory) (total : ℕ) → total ≡ capacities (frames_view xs) → total + x.capacity ≡ capacities (frames_view (xs ++ x ∷ []))
  pushed_total x total is =
      let whole = ap capacities (pushed_view x) ∙ first_capacity (frame_view x) (frames_view xs) in
      omega (arith, is, whole)

  -- the frame right below the current one
  pub below_at : (p : ℕ) (x : InMemory) → length xs ≡ p + 2 → slice_get xs p ≡ Some x → slice_get (drop 1 (frames_view xs)) 0 ≡ Some (frame_view x)
  below_at p x counted at = second_of (frames_view xs) ∙ frame_at p 1 x (omega (arith, counted)) at

  module _ (p : ℕ) (x : InMemory) (counted : length xs ≡ p + 1) (at : slice_get xs p ≡ Some x) where
    pub current_first : frames_view xs ≡ frame_view x ∷ drop 1 (frames_view xs)
    current_first = first_of (frames_view xs) (frame_view x) (frame_at p 0 x (omega (arith, counted)) at)

    -- another current one
    pub current_set : (y : InMemory) → frames_view (slice_set xs p y) ≡ frame_view y ∷ drop 1 (frames_view xs)
    current_set y = frame_set p 0 y (omega (arith, counted)) ∙ set_first (frames_view xs) (frame_view x) (frame_view y) current_first

    abbrev others : List Frame
    others = drop 1 (frames_view xs)

    set_capacities : (y : InMemory) → capacities (frames_view (slice_set xs p y)) ≡ y.capacity + capacities others
    set_capacities y = ap capacities (current_set y) ∙ first_capacity (frame_view y) others

    capacities_are : capacities (frames_view xs) ≡ x.capacity + capacities others
    capacities_are = ap capacities current_first ∙ first_capacity (frame_view x) others

    -- with room for more
    pub reserved_total : (y : InMemory) (total : ℕ) → total ≡ capacities (frames_view xs) → total - x.capacity + y.capacity ≡ capacities (frames_view (slice_set xs p y))
    reserved_total y total is = omega (arith, is, capacities_are, set_capacities y)

    pub reserved_view : (y : InMemory) (more : ℕ) → y.capacity ≡ length x.references + more → x.capacity < y.capacity → y.references ≡ x.references → frames_view (slice_set xs p y) ≡ with_capacity more (frames_view xs)
    reserved_view y more has above same =
        let wanted : y.capacity ≡ max x.capacity (length x.references + more) = omega (arith, has, above) in
        current_set y
        ∙ ap (λ (n : ℕ). let f : Frame = record { capacity = n; references = y.references } in f ∷ others) wanted
        ∙ ap (λ (l : List ℕ). let f : Frame = record { capacity = max x.capacity (length x.references + more); references = l } in f ∷ others) same
        ∙ sym (ap (with_capacity more) current_first)

    -- with one reference more
    pub received_total : (y : InMemory) → y.capacity ≡ x.capacity → capacities (frames_view xs) ≡ capacities (frames_view (slice_set xs p y))
    received_total y same = omega (arith, capacities_are, set_capacities y, same)

    pub received_view : (y : InMemory) (n : ℕ) → y.capacity ≡ x.capacity → y.references ≡ n ∷ x.references → frames_view (slice_set xs p y) ≡ with_local n (frames_view xs)
    received_view y n same has =
        current_set y
        ∙ ap (λ (m : ℕ). let f : Frame = record { capacity = m; references = y.references } in f ∷ others) same
        ∙ ap (λ (l : List ℕ). let f : Frame = record { capacity = x.capacity; references = l } in f ∷ others) has
        ∙ sym (ap (with_local n) current_first)

  -- the frame of a level has one reference less
  module _ (level n p : ℕ) (old new : InMemory) (above : 0 < level) (place : p + 1 ≡ min level (length xs)) (at : slice_get xs p ≡ Some old) where
    abbrev from_top : ℕ
    from_top = length (frames_view xs) - level

    counted : length xs ≡ p + 1 + from_top
    counted = omega (arith, length_view, above, place)

    pub removed_view : frame_view new ≡ without_in n (frame_view old) → frames_view (slice_set xs p new) ≡ without_local level n (frames_view xs)
    removed_view is = frame_set p from_top new counted ∙ ap (slice_set (frames_view xs) from_top) (is ∙ ap (deleted_in n) (sym (frame_at p from_top old counted at)))

    pub removed_total : new.capacity ≡ old.capacity → capacities (frames_view xs) ≡ capacities (frames_view (slice_set xs p new))
    removed_total same = sym (ap capacities (frame_set p from_top new counted) ∙ same_capacities (frames_view xs) from_top (frame_view old) (frame_view new) (frame_at p from_top old counted at) same)
