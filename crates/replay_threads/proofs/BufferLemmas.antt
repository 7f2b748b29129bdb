-- What the buffers of threads take together.
use Rattle.std.proofs.Common.{◌≡◌, ℕ, ◌+◌, ◌≤◌, List, [], ◌∷◌, length, drop, refl, sym, ap, ◌∙◌}
use Rattle.std.specs.Prelude.{sum_by, flat_map}
use Rattle.std.proofs.lemmas.List.{drop_all, length-append}
use Rattle.std.proofs.lemmas.List.Concat.{flat_map-cons}
use Rattle.std.proofs.lemmas.List.Sums.{sum_by-cons}
use Rattle.base.specs.Bytes.{Identifier}
use Rattle.semantics.specs.Thread.{BuffersInUse}
use Rattle.semantics.specs.Variable.{Variable, Variables, copied_length, viewed}
use Rattle.replay_terms.specs.Views.{count_viewed, total}
use Rattle.replay_threads.specs.declared.thread.Thread.{Thread}
use Rattle.replay_threads.specs.States.{copied_in, in_use_by, viewed_in}

-- what variables have together, as the definitions sum it
pub total_copied : (vs : Variables) → total copied_length vs ≡ sum_by (λ (v : Identifier × Variable). copied_length v.1) vs
total_copied [] = refl
total_copied ((x, v) ∷ vs) = ap (λ n. copied_length v + n) (total_copied vs) ∙ sym (sum_by-cons (λ (w : Identifier × Variable). copied_length w.1) (x, v) vs)

pub total_viewed : (vs : Variables) → total count_viewed vs ≡ length (flat_map (λ (v : Identifier × Variable). viewed v.1) vs)
total_viewed [] = refl
total_viewed ((x, v) ∷ vs) =
    let others = flat_map (λ (w : Identifier × Variable). viewed w.1) vs in
    ap (λ n. count_viewed v + n) (total_viewed vs)
    ∙ sym (length-append (viewed v) others)
    ∙ ap (λ (l : List ℕ). length l) (sym (flat_map-cons (λ (w : Identifier × Variable). viewed w.1) (x, v) vs))

module _ {X : Type 0} (copies : X → ℕ) (views : X → List ℕ) (xs : List X) where
  -- what those from a place on take
  abbrev pub copied_from : ℕ → ℕ
  copied_from i = sum_by copies (drop i xs)

  abbrev pub viewed_from : ℕ → ℕ
  viewed_from i = length (flat_map views (drop i xs))

  pub copied_next : (i : ℕ) (x : X) → drop i xs ≡ x ∷ drop (i + 1) xs → copied_from i ≡ copies x + copied_from (i + 1)
  copied_next i x here = ap (sum_by copies) here ∙ sum_by-cons copies x (drop (i + 1) xs)

  pub viewed_next : (i : ℕ) (x : X) → drop i xs ≡ x ∷ drop (i + 1) xs → viewed_from i ≡ length (views x) + viewed_from (i + 1)
  viewed_next i x here =
      ap (λ (ys : List X). length (flat_map views ys)) here
      ∙ ap (λ (l : List ℕ). length l) (flat_map-cons views x (drop (i + 1) xs))
      ∙ length-append (views x) (flat_map views (drop (i + 1) xs))

  -- past the last nothing is taken
  pub none_past : (i : ℕ) → length xs ≤ i → (copied_from i ≡ 0) × (viewed_from i ≡ 0)
  none_past i past =
      let none : drop i xs ≡ [] = drop_all i xs past in
      (ap (sum_by copies) none, ap (λ (ys : List X). length (flat_map views ys)) none)

-- all of them together
pub in_use_so : (ts : List Thread) (copied views : ℕ) → copied ≡ sum_by copied_in ts → views ≡ length (flat_map viewed_in ts) → record { copied = copied; views = views } ≡ in_use_by ts
in_use_so ts copied views c v =
    ap (λ n. let u : BuffersInUse = record { copied = n; views = views } in u) c
    ∙ ap (λ n. let u : BuffersInUse = record { copied = sum_by copied_in ts; views = n } in u) v
