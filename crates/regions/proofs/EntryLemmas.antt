-- At a function's beginning: each name that is put into scope is new.
use Rattle.std.proofs.Common.{◌≡◌, ℕ, zero, suc, ◌+◌, ◌<◌, false, ◌||◌, List, [], ◌∷◌, length, map, drop, get_or, Option, Some, None, refl, sym, ap, ap₂, ◌∙◌, subst, bytes_eq, add-one, drop-cons}
use Rattle.std.specs.Prelude.{filter_map, reverse}
use Rattle.std.specs.List.{AllByRecursion, IsDistinct, list_any, cons_option}
use Rattle.std.proofs.lemmas.Map.Keys.{IsDistinct-head, IsDistinct-tail}
use Rattle.base.specs.Bytes.{Identifier}
use Rattle.syntax.specs.declared.unit.Parameter.{Parameter as ParameterInMemory}
use Rattle.syntax.specs.Views.{parameter_tree}
use Rattle.region_rules.specs.RegionStates.{parameter_state}
use Rattle.region_states.specs.SameStates.{NamedState}
use Rattle.region_states.proofs.ScopeLemmas.{any_reverse}

abbrev named : List NamedState → List Identifier
named vs = map (λ v. v.0) vs

-- the variables of parameters
abbrev pub variables_of : List ParameterInMemory → List NamedState
variables_of items = filter_map parameter_state (map parameter_tree items)

without_first : (o : Option NamedState) (vs : List NamedState) → IsDistinct bytes_eq (named (cons_option o vs)) → IsDistinct bytes_eq (named vs)
without_first None vs d = d
without_first (Some v) vs d = IsDistinct-tail bytes_eq v.0 (named vs) d

later_distinct : (items : List ParameterInMemory) (n : ℕ) → IsDistinct bytes_eq (named (variables_of items)) → IsDistinct bytes_eq (named (variables_of (drop n items)))
later_distinct items zero d = d
later_distinct [] (suc n) d = d
later_distinct (p ∷ items) (suc n) d = later_distinct items n (without_first (parameter_state (parameter_tree p)) (variables_of items) d)

-- a name that differs from all of these isn't one
none_is : (names : List Identifier) (x : Identifier) → AllByRecursion (λ y. bytes_eq x y ≡ false) names → list_any (bytes_eq x) names ≡ false
none_is [] x h = refl
none_is (y ∷ names) x h = ap₂ (λ a b. a || b) h.0 (none_is names x h.1)

-- the first of names that differ is not among the others
pub first_new : (v : NamedState) (vs : List NamedState) → IsDistinct bytes_eq (named (v ∷ vs)) → list_any (bytes_eq v.0) (reverse (named vs)) ≡ false
first_new v vs d = any_reverse (bytes_eq v.0) (named vs) ∙ none_is (named vs) v.0 (IsDistinct-head bytes_eq v.0 (named vs) d)

pub others_distinct : (v : NamedState) (vs : List NamedState) → IsDistinct bytes_eq (named (v ∷ vs)) → IsDistinct bytes_eq (named vs)
others_distinct v vs d = IsDistinct-tail bytes_eq v.0 (named vs) d

-- a parameter's name is not among those after it
pub parameter_new : (items : List ParameterInMemory) (n m : ℕ) (p : ParameterInMemory) (v : NamedState) → n < length items → n + 1 ≡ m → p ≡ get_or items n p → parameter_state (parameter_tree p) ≡ Some v
    → IsDistinct bytes_eq (named (variables_of items)) → list_any (bytes_eq v.0) (reverse (named (variables_of (drop m items)))) ≡ false
parameter_new items n m p v lt next read is d =
    let rest = drop (n + 1) items in
    let here : drop n items ≡ p ∷ rest = rw add-one (drop-cons items n p lt ∙ ap (λ x. x ∷ drop (suc n) items) (sym read)) in
    let own = subst (λ ps. IsDistinct bytes_eq (named (variables_of ps))) here (later_distinct items n d) in
    ap (λ k. list_any (bytes_eq v.0) (reverse (named (variables_of (drop k items))))) (sym next)
    ∙ first_new v (variables_of rest) (subst (λ o. IsDistinct bytes_eq (named (cons_option o (variables_of rest)))) is own)
