-- What isn't kept may be cleared, as what is kept holds all that can be reached.
use Rattle.std.proofs.Common.{◌≡◌, ℕ, suc, ◌+◌, ◌<◌, Bool, true, false, List, [], ◌∷◌, ◌++◌, Some, refl, sym, subst, arith, inl, inr, ◌⊎◌}
use Rattle.std.specs.Prelude.{◌≢◌, not, nat_lt, slice_index}
use Rattle.std.specs.List.Sorted.{IsStrictlyIncreasing}
use Rattle.std.proofs.lemmas.Bool.{and_from, false_from_ne_true, false≢true, lt-ltb, not-true}
use Rattle.semantics.specs.Reachable.{is_in, roots, Reached, FromRoot, FromObject}
use Rattle.semantics.specs.State.{State}
use Rattle.semantics.specs.Step.{clearing_step}
use Rattle.semantics.specs.WeakReferences.{are_rising, held_beside, may_clear, reached_with, weakly_held, with_cleared}
use Rattle.semantics.specs.World.{World}
use Rattle.semantics.proofs.ReachableLemmas.{In, contains_in, from_filter, in_append_cases, reached_lists, to_contains}
use Rattle.semantics.proofs.WeakLaws.{all_of, none_of}
use Rattle.machine_collections.specs.Kept.{AreNotKept, HoldReachable}

-- ---- lists of names

rises : (n : ℕ) (names : List ℕ) → IsStrictlyIncreasing (n ∷ names) → are_rising (n ∷ names) ≡ true
rises n [] h = refl
rises n (m ∷ names) h =
    let rest : IsStrictlyIncreasing (m ∷ names) = λ k within. let next : suc k + 1 ≡ suc (k + 1) = omega arith in subst (λ (j : ℕ). slice_index (n ∷ m ∷ names) (suc k) < slice_index (n ∷ m ∷ names) j) next (h (suc k) (omega (arith, within))) in
    and_from (nat_lt n m) (are_rising (m ∷ names)) (lt-ltb n m (h 0 (omega arith))) (rises m names rest)

rising : (names : List ℕ) → names ≢ [] → IsStrictlyIncreasing names → are_rising names ≡ true
rising [] some h = absurd (some refl)
rising (n ∷ names) some h = rises n names h

never : (b : Bool) → b ≡ true → b ≡ false → ⊥
never true h e = false≢true (sym e)
never false h e = false≢true h

-- ---- what is kept

module _ (w : World) (s : State) (Kept : ℕ → Type 0) (names : List ℕ) (holds : HoldReachable w s Kept) (cleared : AreNotKept s Kept names) where
  -- what is held weakly beside these isn't known not to be kept
  from_beside : (x : ℕ) → In (held_beside s names) x → ¬ (¬ (Kept x))
  from_beside x k out =
      let passed = from_filter (λ n. not (is_in names n)) (weakly_held s.shared.statics) x k in
      never (is_in names x) (contains_in names x (cleared.all x (to_contains (weakly_held s.shared.statics) x passed.1) out)) (not-true (is_in names x) passed.0)

  -- nor is what the roots and these lead to
  no_further : (n : ℕ) → Reached s.shared.heap (roots w s ++ held_beside s names) n → ¬ (¬ (Kept n))
  no_further n (FromRoot x name c) out = by_root (in_append_cases (roots w s) (held_beside s names) x (contains_in (roots w s ++ held_beside s names) x c))
    where
      by_root : In (roots w s) x ⊎ In (held_beside s names) x → ⊥
      by_root (inl k) = out (holds.reachable x (FromRoot x name (to_contains (roots w s) x k)))
      by_root (inr k) = from_beside x k out
  no_further n (FromObject m x r name c) out = no_further m r (λ kept. out (holds.closed m x kept c))

  unreached : (x : ℕ) → In names x → is_in (reached_with w s (held_beside s names)) x ≡ false
  unreached x k =
      false_from_ne_true (is_in (reached_with w s (held_beside s names)) x)
      (λ e. no_further x ((reached_lists s.shared.heap (roots w s ++ held_beside s names)).sound x (to_contains (reached_with w s (held_beside s names)) x e)) (cleared.gone x (to_contains names x k)))

  may_clear_these : names ≢ [] → may_clear w s names ≡ true
  may_clear_these some =
      let up = rising names some cleared.rising in
      let held_so = all_of (is_in (weakly_held s.shared.statics)) names (λ x k. contains_in (weakly_held s.shared.statics) x (cleared.held x (to_contains names x k))) in
      let out = none_of (is_in (reached_with w s (held_beside s names))) names unreached in
      rw (up, held_so, out) refl

  pub not_kept_clears : names ≢ [] → clearing_step w s names ≡ Some (with_cleared names s)
  unfolding clearing_step
  not_kept_clears some = rw (may_clear_these some) refl
