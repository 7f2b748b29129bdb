-- A statement that obeys the rules breaks none.
use Rattle.std.proofs.Common.{◌≡◌, ℕ, zero, suc, slice_get, Bool, true, false, not, ◌&&◌, List, [], ◌∷◌, Some, refl, sym, ap, ◌∙◌, true≢false}
use Rattle.std.specs.List.{list_all}
use Rattle.syntax.specs.Tree.{Stmt}
use Rattle.region_rules.specs.declared.rule.RegionRule.{RegionRule}
use Rattle.region_rules.specs.declared.rule.RegionRule.TheVariants.{CallWhileCritical, ReturnWithBuffer, HeldBuffer, UntestedBuffer, WrongBuffer, ReturnInFrame, PopLastFrame, DeadReference, ArrayInUse, PathsDiffer, WrongLevel, NoReturn}
use Rattle.region_rules.specs.RegionRules.{breaks_region_rule, own_rules, Obeys}
use Rattle.region_rules.specs.RegionStates.{RegionState}

-- each rule of the list is unbroken
pub nth : (p : RegionRule → Bool) (rules : List RegionRule) (rule : RegionRule) (k : ℕ) → list_all p rules ≡ true → slice_get rules k ≡ Some rule → p rule ≡ true
nth p [] rule k h e = cc
nth p (r ∷ rules) rule zero h e = let b = both_true (p r) (list_all p rules) h in ap p (some_is r rule e) ∙ b.0
  where
    some_is : (x y : RegionRule) → Some x ≡ Some y → y ≡ x
    some_is x y e = cc

    both_true : (s t : Bool) → (s && t) ≡ true → (s ≡ true) × (t ≡ true)
    both_true true t h = (refl, h)
    both_true false t h = absurd (true≢false (sym h))
nth p (r ∷ rules) rule (suc k) h e = nth p rules rule k (second_true (p r) (list_all p rules) h) e
  where
    second_true : (s t : Bool) → (s && t) ≡ true → t ≡ true
    second_true true t h = h
    second_true false t h = absurd (true≢false (sym h))

pub not_both : (b : Bool) → not b ≡ true → b ≡ true → ⊥
not_both true h k = true≢false (sym h)
not_both false h k = true≢false (sym k)

pub unbroken_at : (before : RegionState) (s : Stmt) (rule : RegionRule) (k : ℕ) → slice_get own_rules k ≡ Some rule → Obeys before s → breaks_region_rule rule before s ≡ true → ⊥
unbroken_at before s rule k e h b = not_both (breaks_region_rule rule before s) (nth (λ r. not (breaks_region_rule r before s)) own_rules rule k h e) b

pub kept : (before : RegionState) (s : Stmt) (rule : RegionRule) → Obeys before s → breaks_region_rule rule before s ≡ true → ⊥
kept before s CallWhileCritical h b = unbroken_at before s CallWhileCritical 0 refl h b
kept before s ReturnWithBuffer h b = unbroken_at before s ReturnWithBuffer 1 refl h b
kept before s HeldBuffer h b = unbroken_at before s HeldBuffer 2 refl h b
kept before s UntestedBuffer h b = unbroken_at before s UntestedBuffer 3 refl h b
kept before s WrongBuffer h b = unbroken_at before s WrongBuffer 4 refl h b
kept before s ReturnInFrame h b = unbroken_at before s ReturnInFrame 5 refl h b
kept before s PopLastFrame h b = unbroken_at before s PopLastFrame 6 refl h b
kept before s DeadReference h b = unbroken_at before s DeadReference 7 refl h b
kept before s ArrayInUse h b = unbroken_at before s ArrayInUse 8 refl h b
kept before s WrongLevel h b = unbroken_at before s WrongLevel 9 refl h b
kept before s PathsDiffer h b = absurd (true≢false (sym b))
kept before s NoReturn h b = absurd (true≢false (sym b))
