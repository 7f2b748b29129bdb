-- Weak global references.
use Rattle.std.specs.Prelude.{ℕ, List, map, slice_set, Option}
use Rattle.std.specs.Option.{option_flatten, option_map}
use Rattle.tables.specs.Keys.{value_at}

-- the address that each place has: none where it has no reference, and where its reference is cleared
abbrev pub weak_places : List (Option (Option ℕ)) → List (Option ℕ)
weak_places slots = map (λ (o : Option (Option ℕ)). option_flatten o) slots

-- the reference at a place, where there is one, has this address, or is cleared
abbrev pub with_weak : List (Option (Option ℕ)) → ℕ → Option ℕ → List (Option (Option ℕ))
with_weak slots place held = slice_set slots place (option_map (λ (before : Option ℕ). held) (value_at slots place))
