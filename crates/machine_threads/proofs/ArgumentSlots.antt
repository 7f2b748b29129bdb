-- What a call is given, argument by argument.
use Rattle.std.proofs.Common.{◌≡◌, ℕ, zero, suc, ◌+◌, Bool, true, List, [], ◌∷◌, ◌++◌, map, take, Option, Some, None, refl, ap, ◌∙◌, arith}
use Rattle.std.specs.Prelude.{filter_map, slice_get}
use Rattle.std.specs.List.{cons_option, list_all}
use Rattle.std.specs.Option.{option_map}
use Rattle.std.proofs.lemmas.Option.{slice_get-map}
use Rattle.base.proofs.Lists.{all_at}
use Rattle.semantics.specs.Object.{ObjectValue}
use Rattle.semantics.specs.declared.object_value.ObjectValue.{ObjectValue as InMemory}
use Rattle.world_values.specs.Views.{object_value_view}

consed : {Y : Type 0} (o : Option Y) (xs ys : List Y) → cons_option o (xs ++ ys) ≡ cons_option o xs ++ ys
consed None xs ys = refl
consed (Some y) xs ys = refl

more : {X Y : Type 0} (h : X → Option Y) (xs : List X) (i : ℕ) (x : X) → slice_get xs i ≡ Some x → filter_map h (take (suc i) xs) ≡ filter_map h (take i xs) ++ filter_map h (x ∷ [])
more h [] i x e = absurd (cc)
more {X} h (a ∷ xs) zero x e = let same : a ≡ x = cc in ap (λ (y : X). filter_map h (y ∷ [])) same
more h (a ∷ xs) (suc i) x e = ap (cons_option (h a)) (more h xs i x e) ∙ consed (h a) (filter_map h (take i xs)) (filter_map h (x ∷ []))

-- one argument more
pub given_more : {X Y : Type 0} (h : X → Option Y) (xs : List X) (i : ℕ) (x : X) → slice_get xs i ≡ Some x → filter_map h (take (i + 1) xs) ≡ filter_map h (take i xs) ++ filter_map h (x ∷ [])
given_more h xs i x e =
    let next : i + 1 ≡ suc i = omega arith in
    ap (λ (n : ℕ). filter_map h (take n xs)) next ∙ more h xs i x e

-- what holds of each argument holds of the one at a place
pub argument_at : (test : ObjectValue → Bool) (xs : List InMemory) (i : ℕ) (x : InMemory) → list_all test (map object_value_view xs) ≡ true → slice_get xs i ≡ Some x → test (object_value_view x) ≡ true
argument_at test xs i x h e = all_at test (map object_value_view xs) i (object_value_view x) h (slice_get-map object_value_view xs i ∙ ap (option_map object_value_view) e)
