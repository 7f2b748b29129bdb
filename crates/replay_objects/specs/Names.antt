-- What is left of names when one is taken away.
use Rattle.std.specs.Prelude.{◌≡◌, ◌<◌, ℕ, List, length, remove, reverse, Option, Some, None}
use Rattle.semantics.specs.CallEffects.{without_one}

-- without the name at this place the names are those without one of this name; with no place, it isn't there
abbrev pub Leaves : ℕ → List ℕ → Option ℕ → Type 0
Leaves name names None = without_one name (reverse names) ≡ reverse names
Leaves name names (Some place) = (without_one name (reverse names) ≡ reverse (remove names place)) × (place < length names)
