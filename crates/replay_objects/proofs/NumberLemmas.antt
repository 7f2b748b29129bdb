-- Values that are overwritten by numbers.
use Rattle.std.proofs.Common.{◌≡◌, ℕ, ℤ, zero, suc, ◌+◌, ◌-◌, ◌<◌, Bool, true, false, IsTrue, List, [], ◌∷◌, ◌++◌, length, map, take, drop, get_or, set, slice_get, Some, refl, sym, ap, ◌∙◌, subst, arith, append_assoc}
use Rattle.std.specs.Prelude.{slice_set, ◌&&◌}
use Rattle.std.proofs.lemmas.List.{length-append, length-map, length-take-le, drop_more, set_at, map_more, map-set, map-append, take-map, drop-map}
use Rattle.semantics.specs.CallEffects.{overwritten}
use Rattle.semantics.specs.Heap.{Heap, number_in, numbers_of, object_at, with_numbers}
use Rattle.semantics.specs.Object.{Object, ObjectValue, Number}
use Rattle.replay_objects.specs.Stores.{as_number}

-- a list of which a part is overwritten, and one element more
pub next_in : {A B : Type 0} (f : A → B) (front : List B) (new : List A) (old : List B) (i p : ℕ) (d : A) → length front + i ≡ p → i < length new → p < length old
    → set (front ++ map f (take i new) ++ drop p old) p (f (get_or new i d)) ≡ front ++ map f (take (i + 1) new) ++ drop (p + 1) old
next_in {A} {B} f front new old i p d at low room =
    let begun = front ++ map f (take i new) in
    let y = f (get_or new i d) in
    let counted : length begun ≡ p = omega (arith, length-append front (map f (take i new)), length-map (take i new) f, length-take-le i new (omega (arith, low)), at) in
    ap (λ (l : List B). set (begun ++ l) p y) (drop_more old p y room)
    ∙ set_at begun (get_or old p y) (drop (p + 1) old) y p counted
    ∙ sym (append_assoc begun (y ∷ []) (drop (p + 1) old))
    ∙ ap (λ (l : List B). l ++ drop (p + 1) old) (append_assoc front (map f (take i new)) (y ∷ []) ∙ ap (λ (l : List B). front ++ l) (sym (map_more f new i d low)))

-- among numbers a number is put
pub still_numbers : (values : List ObjectValue) (i : ℕ) (v : ObjectValue) → map as_number values ≡ values → as_number v ≡ v → map as_number (set values i v) ≡ set values i v
still_numbers values i v are is = map-set as_number values i v ∙ ap (λ (l : List ObjectValue). set l i (as_number v)) are ∙ ap (set values i) is

-- numbers, as values
as_numbers : (values : List ObjectValue) → map Number (map number_in values) ≡ map as_number values
as_numbers [] = refl
as_numbers (v ∷ values) = ap (λ (l : List ObjectValue). as_number v ∷ l) (as_numbers values)

numbers_are : (zs : List ℤ) → map as_number (map Number zs) ≡ map Number zs
numbers_are [] = refl
numbers_are (z ∷ zs) = ap (λ (l : List ObjectValue). Number z ∷ l) (numbers_are zs)

module _ (values : List ObjectValue) (start : ℕ) (new : List ℤ) where
  abbrev numbers : List ℤ
  numbers = map number_in values

  abbrev behind : ℕ
  behind = start + length new

  -- overwritten numbers, as values
  pub overwritten_values : take start (map as_number values) ++ map Number new ++ drop behind (map as_number values) ≡ map Number (overwritten numbers start new)
  overwritten_values =
      ap (λ (l : List ObjectValue). take start l ++ map Number new ++ drop behind l) (sym (as_numbers values))
      ∙ ap (λ (l : List ObjectValue). l ++ map Number new ++ drop behind (map Number numbers)) (take-map Number start numbers)
      ∙ ap (λ (l : List ObjectValue). map Number (take start numbers) ++ map Number new ++ l) (drop-map Number behind numbers)
      ∙ ap (λ (l : List ObjectValue). l ++ map Number (drop behind numbers)) (sym (map-append Number (take start numbers) new))
      ∙ sym (map-append Number (take start numbers ++ new) (drop behind numbers))

  -- they are numbers
  pub overwritten_marked : (l : List ObjectValue) → l ≡ map Number (overwritten numbers start new) → map as_number l ≡ l
  overwritten_marked l is = ap (map as_number) is ∙ numbers_are (overwritten numbers start new) ∙ sym is

-- an object that is there is put back with overwritten numbers
pub numbers_back : (heap : Heap) (n start : ℕ) (new : List ℤ) (o : Object) → (n ≡ 0 → ⊥) → slice_get heap (n - 1) ≡ Some o
    → slice_set heap (n - 1) (record { class = o.class; values = map Number (overwritten (map number_in o.values) start new) }) ≡ with_numbers heap n (overwritten (numbers_of heap n) start new)
numbers_back heap zero start new o low at = absurd (low refl)
numbers_back heap (suc i) start new o low at =
    let e : suc i - 1 ≡ i = omega arith in
    let there : object_at heap (suc i) ≡ Some o = ap (slice_get heap) (sym e) ∙ at in
    rw (e, there) refl

-- what holds of each element holds where one that it holds of is put among them
pub each_set : {A : Type 0} (P : A → Type 0) (xs : List A) (p : ℕ) (y : A) → ((i : ℕ) (x : A) → slice_get xs i ≡ Some x → P x) → P y → (i : ℕ) (x : A) → slice_get (slice_set xs p y) i ≡ Some x → P x
each_set P [] p y each new i x at = each i x at
each_set P (z ∷ xs) zero y each new zero x at = let is : y ≡ x = cc in subst P is new
each_set P (z ∷ xs) zero y each new (suc i) x at = each (suc i) x at
each_set P (z ∷ xs) (suc p) y each new zero x at = each zero x at
each_set P (z ∷ xs) (suc p) y each new (suc i) x at = each_set P xs p y (λ j w there. each (suc j) w there) new i x at

-- two marks
pub both_marks : (a b : Bool) (P Q : Type 0) → (a && b) ≡ true → (a ≡ true → P) → (IsTrue b → Q) → P × Q
both_marks true true P Q is p q = (p refl, q refl)
both_marks true false P Q is p q = absurd (cc)
both_marks false b P Q is p q = absurd (cc)
