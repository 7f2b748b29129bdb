-- Items of a unit by their places.
use Rattle.std.proofs.Common.{◌≡◌, ℕ, zero, suc, ◌≤◌, List, [], ◌∷◌, drop, length, map, Some, None, ap}
use Rattle.std.specs.Prelude.{slice_get}
use Rattle.std.proofs.lemmas.List.{drop_all}
use Rattle.syntax.specs.declared.unit.Item.{Item}
use Rattle.syntax.specs.Parts.{functions_of}
use Rattle.syntax.specs.Views.{item_tree, unit_tree}

-- which is found there
pub item_found : (items : List Item) (i : ℕ) (x : Item) (rest : List Item) → drop i items ≡ x ∷ rest → slice_get (map item_tree items) i ≡ Some (item_tree x)
item_found [] zero x rest h = absurd (cc)
item_found [] (suc i) x rest h = absurd (cc)
item_found (y ∷ items) zero x rest h = let is : y ≡ x = cc in ap (λ z. Some (item_tree z)) is
item_found (y ∷ items) (suc i) x rest h = item_found items i x rest h

-- no function is left where no item is
pub none_left : (items : List Item) (i k : ℕ) → length items ≤ i → slice_get (functions_of (unit_tree (drop i items))) k ≡ None
none_left items i k past = ap (λ (l : List Item). slice_get (functions_of (unit_tree l)) k) (drop_all i items past)
