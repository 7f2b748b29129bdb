-- A list up to an element, and with it.
use Rattle.std.proofs.Common.{◌≡◌, ℕ, zero, suc, ◌+◌, ◌<◌, List, [], ◌∷◌, ◌++◌, length, map, drop, take, reverse, Option, Some, None, refl, sym, ap, ◌∙◌, arith}
use Rattle.std.specs.Prelude.{remove, slice_get}
use Rattle.std.specs.Option.{IsSome, option_map}
use Rattle.std.proofs.lemmas.List.{drop-map, map-append, reverse-append, take-map}

module _ {A B : Type 0} (g : A → B) where
  pub map_reversed : (xs : List A) → map g (reverse xs) ≡ reverse (map g xs)
  map_reversed [] = refl
  map_reversed (x ∷ xs) =
      ap (map g) (reverse-append (x ∷ []) xs)
      ∙ map-append g (reverse xs) (x ∷ [])
      ∙ ap (λ (l : List B). l ++ g x ∷ []) (map_reversed xs)
      ∙ sym (reverse-append (g x ∷ []) (map g xs))

  pub map_removed : (xs : List A) (i : ℕ) → map g (remove xs i) ≡ remove (map g xs) i
  map_removed xs i =
      map-append g (take i xs) (drop (suc i) xs)
      ∙ ap (λ (l : List B). l ++ map g (drop (suc i) xs)) (sym (take-map g i xs))
      ∙ ap (λ (l : List B). take i (map g xs) ++ l) (sym (drop-map g (suc i) xs))

-- what is looked up within a list is there
pub is_there : {A B : Type 0} (view : A → B) (o : Option A) (xs : List B) (i : ℕ) → option_map view o ≡ slice_get xs i → i < length xs → IsSome o
is_there view (Some a) xs i e h = refl
is_there view None [] i e h = absurd (omega arith)
is_there view None (x ∷ xs) zero e h = absurd (cc)
is_there view None (x ∷ xs) (suc i) e h = is_there view None xs i e (omega arith)
