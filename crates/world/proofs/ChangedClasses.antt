-- A table with one class changed.
use Rattle.std.proofs.Common.{◌≡◌, ℕ, zero, suc, ◌+◌, ◌<◌, ◌≤◌, Bool, true, false, cond, [], ◌∷◌, length, map, Some, refl, sym, ap, ◌∙◌, arith, sum_by}
use Rattle.std.specs.Prelude.{◌==◌, slice_get}
use Rattle.std.specs.List.{enumerate_from}
use Rattle.std.proofs.lemmas.Bool.{eqb-true}
use Rattle.std.proofs.lemmas.List.Sums.{sum_by-cons}
use Rattle.std.proofs.lemmas.Bool.Decides.{nat_tests}
use Rattle.class_rules.specs.Additions.{with_changed_class}
use Rattle.class_rules.specs.Class.{Class, Classes, class_at}
use Rattle.world_lines.proofs.Tests.{other_number, later_number}

module _ (change : Class → Class) (number : ℕ) where
  abbrev pub changed : ℕ → Classes → Classes
  changed n ds = map (λ (d : ℕ × Class). cond (d.0 == number) (change d.1) d.1) (enumerate_from n ds)

  pub changed-length : (n : ℕ) (ds : Classes) → length (changed n ds) ≡ length ds
  changed-length n [] = refl
  changed-length n (d ∷ ds) = ap suc (changed-length (n + 1) ds)

  -- before the changed class all are as they were
  unchanged : (n : ℕ) (ds : Classes) (i : ℕ) → n + i < number → slice_get (changed n ds) i ≡ slice_get ds i
  unchanged n [] i h = refl
  unchanged n (d ∷ ds) zero h = ap (λ b. Some (cond b (change d) d)) (other_number n number (omega (arith, h)))
  unchanged n (d ∷ ds) (suc i) h = unchanged (n + 1) ds i (omega (arith, h))

  pub unchanged_at : (T : Classes) (c : ℕ) → c < number → class_at (with_changed_class T number change) c ≡ class_at T c
  unchanged_at T zero h = refl
  unchanged_at T (suc i) h = unchanged 1 T i (omega (arith, h))

  -- ---- sums over the classes

  module _ (f : Class → ℕ) where
    -- after the changed class all are as they were
    sum_after : (n : ℕ) (ds : Classes) → number < n → sum_by f (changed n ds) ≡ sum_by f ds
    sum_after n [] h = refl
    sum_after n (d ∷ ds) h =
        ap (λ b. sum_by f (cond b (change d) d ∷ changed (n + 1) ds)) (later_number n number h)
        ∙ sum_by-cons f d (changed (n + 1) ds)
        ∙ ap (λ k. f d + k) (sum_after (n + 1) ds (omega (arith, h)))
        ∙ sym (sum_by-cons f d ds)

    -- what the class adds that changes, the sum adds
    sum_from : (more : ℕ) → ((d : Class) → f (change d) ≡ f d + more) → (n : ℕ) (ds : Classes) → n ≤ number → number < n + length ds → sum_by f (changed n ds) ≡ sum_by f ds + more
    sum_from more adds n [] low high = absurd (omega (arith, low, high))
    sum_from more adds n (d ∷ ds) low high = by_test (n == number) refl (λ other. sum_from more adds (n + 1) ds (omega (arith, other)) (omega (arith, high)))
      where
        by_test : (b : Bool) → (n == number) ≡ b → (n < number → sum_by f (changed (n + 1) ds) ≡ sum_by f ds + more) → sum_by f (cond b (change d) d ∷ changed (n + 1) ds) ≡ sum_by f (d ∷ ds) + more
        by_test true e further = omega (arith, sum_by-cons f (change d) (changed (n + 1) ds), sum_by-cons f d ds, adds d, sum_after (n + 1) ds (omega (arith, eqb-true n number e)))
        by_test false e further =
            let other : n < number = grind (arith, nat_tests, e, low) in
            omega (arith, sum_by-cons f d (changed (n + 1) ds), sum_by-cons f d ds, further other)

    pub changed-sum : (more : ℕ) → ((d : Class) → f (change d) ≡ f d + more) → (T : Classes) → 0 < number → number ≤ length T → sum_by f (with_changed_class T number change) ≡ sum_by f T + more
    changed-sum more adds T low high = sum_from more adds 1 T (omega (arith, low)) (omega (arith, high))
