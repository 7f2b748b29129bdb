-- Names that differ, and names that are in a list, or in two.
use Rattle.std.proofs.Common.{◌≡◌, ◌≢◌, true, false, List, [], ◌∷◌, ◌++◌, sym, ◌∙◌}
use Rattle.std.proofs.lemmas.Bool.{false_from_ne_true, or_left, or_right, or_parts}
use Rattle.std.proofs.lemmas.Cmp.{nat_list_eq_equiv}
use Rattle.std.proofs.lemmas.List.Folds.{list_any-append}
use Rattle.std.proofs.lemmas.Slice.Eq.{bytes_eq-Decides}
use Rattle.std.specs.Str.{bytes_eq}
use Rattle.base.specs.Bytes.{Identifier}
use Rattle.type_rules.specs.TypeRules.{has_name}

pub other_name : (x y : Identifier) → x ≢ y → bytes_eq x y ≡ false
other_name x y other = false_from_ne_true (bytes_eq x y) (λ e. other ((bytes_eq-Decides x y).0 e))

pub has_last : (names : List Identifier) (x : Identifier) → has_name (names ++ x ∷ []) x ≡ true
has_last names x = list_any-append (bytes_eq x) names (x ∷ []) ∙ or_right (has_name names x) (has_name (x ∷ []) x) (or_left (bytes_eq x x) false (nat_list_eq_equiv.refl x))

pub both_none : (xs ys : List Identifier) (x : Identifier) → has_name (xs ++ ys) x ≡ false → (has_name xs x ≡ false) × (has_name ys x ≡ false)
both_none xs ys x h = or_parts (has_name xs x) (has_name ys x) (sym (list_any-append (bytes_eq x) xs ys) ∙ h)
