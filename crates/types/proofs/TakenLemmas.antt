-- Names that are taken, and the table that finds them.
use Rattle.std.proofs.Common.{◌≡◌, Bool, true, false, ◌||◌, cond, List, [], ◌∷◌, ◌++◌, map, reverse, Some, is_some, refl, sym, ap, ap₂, ◌∙◌}
use Rattle.std.specs.Str.{bytes_eq}
use Rattle.std.proofs.lemmas.List.Folds.{list_any-append}
use Rattle.std.proofs.lemmas.Cmp.{nat_list_eq_equiv}
use Rattle.std.proofs.lemmas.Grind.{reverse_onto}
use Rattle.base.specs.Bytes.{Identifier, ByName, lookup}
use Rattle.type_rules.specs.TypeRules.{has_name, has_repeated}

-- their names, in the order of their declarations
abbrev pub in_order : {T : Type 0} → ByName T → List Identifier
in_order known = reverse (map (λ k. k.0) known)

-- one name more is the last
pub one_more : {T : Type 0} (x : Identifier) (value : T) (known : ByName T) → in_order ((x, value) ∷ known) ≡ in_order known ++ x ∷ []
one_more x value known = reverse_onto (map (λ k. k.0) known) x []

-- a name that is found is one of them
pub is_found : {T : Type 0} (x : Identifier) (known : ByName T) → is_some (lookup x known) ≡ has_name (in_order known) x
is_found x [] = refl
is_found {T} x (k ∷ known) =
    by (bytes_eq x k.0)
    ∙ ap (λ b. bytes_eq x k.0 || b) (is_found x known)
    ∙ swapped (bytes_eq x k.0) (has_name (in_order known) x)
    ∙ sym (list_any-append (bytes_eq x) (in_order known) (k.0 ∷ []))
    ∙ sym (ap (λ names. has_name names x) (one_more k.0 k.1 known))
  where
    by : (b : Bool) → is_some (cond b (Some k.1) (lookup x known)) ≡ (b || is_some (lookup x known))
    by true = refl
    by false = refl

    swapped : (a b : Bool) → (a || b) ≡ (b || (a || false))
    swapped true true = refl
    swapped true false = refl
    swapped false true = refl
    swapped false false = refl

-- one name more is spelled like another one, or two of the others are alike
pub repeated_more : (names : List Identifier) (x : Identifier) → has_repeated (names ++ x ∷ []) ≡ (has_repeated names || has_name names x)
repeated_more [] x = refl
repeated_more (y ∷ names) x =
    ap₂ (λ a b. a || b) (list_any-append (bytes_eq y) names (x ∷ [])) (repeated_more names x)
    ∙ ap (λ b. (has_name names y || (b || false)) || (has_repeated names || has_name names x)) (nat_list_eq_equiv.symm y x)
    ∙ shuffled (has_name names y) (bytes_eq x y) (has_repeated names) (has_name names x)
  where
    shuffled : (a b c d : Bool) → ((a || (b || false)) || (c || d)) ≡ ((a || c) || (b || d))
    shuffled true b c d = refl
    shuffled false true true d = refl
    shuffled false true false d = refl
    shuffled false false c d = refl
