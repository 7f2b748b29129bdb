-- The ancestry of a class, step by step.
use Rattle.std.proofs.Common.{◌≡◌, ◌≢◌, ℕ, zero, suc, ◌+◌, ◌<◌, Bool, true, false, Some, None, refl, ap, ◌∙◌, arith}
use Rattle.std.specs.Prelude.{◌||◌, ◌==◌}
use Rattle.std.specs.List.{list_any}
use Rattle.std.proofs.lemmas.Bool.Decides.{nat_tests}
use Rattle.class_rules.specs.Class.{Classes, superclass, above, ancestry_within}

-- whether a class is among the ancestors of another, at most this many
abbrev pub is_among : ℕ → Classes → ℕ → ℕ → Bool
is_among n T a d = list_any (λ x. x == d) (ancestry_within n T a)

module _ (T : Classes) (a d : ℕ) where
  pub among-here : (n : ℕ) → 0 < n → a ≡ d → is_among n T a d ≡ true
  among-here zero h e = absurd (omega arith)
  among-here (suc n) h e = let same : (a == d) ≡ true = grind (arith, nat_tests) in ap (λ b. b || list_any (λ x. x == d) (above (ancestry_within n T) (superclass T a))) same

  other : a ≢ d → (a == d) ≡ false
  other h = grind (arith, nat_tests)

  pub among-above : (n m s : ℕ) → n ≡ m + 1 → a ≢ d → superclass T a ≡ Some s → is_among n T a d ≡ is_among m T s d
  among-above zero m s e h q = absurd (omega arith)
  among-above (suc n) m s e h q =
      let same : n ≡ m = omega arith in
      ap (λ b. b || list_any (λ x. x == d) (above (ancestry_within n T) (superclass T a))) (other h)
      ∙ ap (λ o. list_any (λ x. x == d) (above (ancestry_within n T) o)) q
      ∙ ap (λ k. is_among k T s d) same

  pub among-top : (n : ℕ) → a ≢ d → superclass T a ≡ None → is_among n T a d ≡ false
  among-top zero h q = refl
  among-top (suc n) h q =
      ap (λ b. b || list_any (λ x. x == d) (above (ancestry_within n T) (superclass T a))) (other h)
      ∙ ap (λ o. list_any (λ x. x == d) (above (ancestry_within n T) o)) q
