-- The rules that are broken at one place, one after the other.
use Rattle.std.proofs.Common.{◌≡◌, ℕ, Bool, true, false, List, [], ◌∷◌, ◌++◌, refl, ap, ◌∙◌, map, filter, flat_map, if◌then◌else◌}
use Rattle.type_rules.specs.declared.rule.TypeRule.{TypeRule}
use Rattle.type_rules.specs.TypeRules.{typing_rules}
use Rattle.types.specs.Faults.{broken_if}

one : (line : ℕ) (rule : TypeRule) (b : Bool) (rest : List TypeRule) → map (λ r. (line, r)) (if b then rule ∷ rest else rest) ≡ broken_if b rule line ++ map (λ r. (line, r)) rest
one line rule true rest = refl
one line rule false rest = refl

listed_of : (p : TypeRule → Bool) (line : ℕ) (rules : List TypeRule) → map (λ r. (line, r)) (filter p rules) ≡ flat_map (λ r. broken_if (p r) r line) rules
listed_of p line [] = refl
listed_of p line (rule ∷ rules) = one line rule (p rule) (filter p rules) ∙ ap (λ xs. broken_if (p rule) rule line ++ xs) (listed_of p line rules)

pub listed : (p : TypeRule → Bool) (line : ℕ) → map (λ r. (line, r)) (filter p typing_rules) ≡ flat_map (λ r. broken_if (p r) r line) typing_rules
listed p line = listed_of p line typing_rules
