-- The operands of a call from a place on.
use Rattle.std.proofs.Common.{◌≡◌, ◌≤◌, ◌+◌, ℕ, zero, suc, List, [], ◌∷◌, length, drop, Option, Some, None, slice_get, refl, sym, ap, ◌∙◌, arith}
use Rattle.std.specs.Prelude.{zip}
use Rattle.std.specs.Option.{option_map}
use Rattle.base.proofs.Lists.{drop_next, drop_none}

-- the first from a place on is that at the place
pub there_are : {A B : Type 0} (view : B → A) (xs : List A) (i : ℕ) (found : B) (o : Option B) → o ≡ Some found → option_map view o ≡ slice_get xs i → drop i xs ≡ view found ∷ drop (i + 1) xs
there_are view xs i found o is at = drop_next xs i (view found) (sym at ∙ ap (option_map view) is)

-- there are none
pub none_there : {A B : Type 0} (view : B → A) (xs : List A) (i : ℕ) (o : Option B) → o ≡ None → option_map view o ≡ slice_get xs i → drop i xs ≡ []
none_there view xs i o is at = drop_none xs i (sym at ∙ ap (option_map view) is)

pub no_pairs : {A B : Type 0} (ps : List A) (xs : List B) → xs ≡ [] → zip ps xs ≡ []
no_pairs [] xs h = refl
no_pairs (p ∷ ps) xs h = ap (zip (p ∷ ps)) h
