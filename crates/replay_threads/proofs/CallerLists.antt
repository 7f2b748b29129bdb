-- The callers of a thread, taken from the last one on, and what they have together.
use Rattle.std.proofs.Common.{◌≡◌, ℕ, ◌+◌, ◌-◌, ◌<◌, List, [], ◌∷◌, ◌++◌, length, drop, get_or, refl, sym, ap, ◌∙◌, arith}
use Rattle.std.specs.Prelude.{flat_map, sum_by}
use Rattle.std.proofs.lemmas.List.{drop_more, get_or-reverse, length-reverse, reverse-append}
use Rattle.std.proofs.lemmas.List.Concat.{flat_map-cons}
use Rattle.std.proofs.lemmas.List.Sums.{sum_by-cons}
use Rattle.semantics.specs.Thread.{Caller}
use Rattle.replay_steps.specs.Callers.{CallerStands}
use Rattle.replay_steps.specs.declared.activation.Activation.{Activation}
use Rattle.replay_threads.specs.Threads.{CallersStand, last_first}

-- the last of several comes first
pub last_is_first : (xs : List Activation) (a : Activation) → last_first (xs ++ a ∷ []) ≡ a ∷ last_first xs
last_is_first xs a = reverse-append xs (a ∷ [])

-- the next of them, from the last one on
pub next_caller : (xs : List Activation) (i : ℕ) (a : Activation) → i < length xs → a ≡ get_or xs (length xs - 1 - i) a → drop i (last_first xs) ≡ a ∷ drop (i + 1) (last_first xs)
next_caller xs i a low is =
    drop_more (last_first xs) i a (omega (arith, low, length-reverse xs))
    ∙ ap (λ (b : Activation). b ∷ drop (i + 1) (last_first xs)) (get_or-reverse xs i a low ∙ sym is)

-- what callers have that stand for others
module _ (names : Activation → List ℕ) (names_of : Caller → List ℕ) (same : (a : Activation) (c : Caller) → CallerStands a c → names a ≡ names_of c) where
  pub names_same : (xs : List Activation) (cs : List Caller) → CallersStand xs cs → flat_map names xs ≡ flat_map names_of cs
  names_same [] [] h = refl
  names_same [] (c ∷ cs) h = absurd h
  names_same (a ∷ xs) [] h = absurd h
  names_same (a ∷ xs) (c ∷ cs) h =
      flat_map-cons names a xs
      ∙ ap (λ (l : List ℕ). l ++ flat_map names xs) (same a c h.0)
      ∙ ap (λ (l : List ℕ). names_of c ++ l) (names_same xs cs h.1)
      ∙ sym (flat_map-cons names_of c cs)

-- how much they have
module _ (count : Activation → ℕ) (count_of : Caller → ℕ) (same : (a : Activation) (c : Caller) → CallerStands a c → count a ≡ count_of c) where
  pub counts_same : (xs : List Activation) (cs : List Caller) → CallersStand xs cs → sum_by count xs ≡ sum_by count_of cs
  counts_same [] [] h = refl
  counts_same [] (c ∷ cs) h = absurd h
  counts_same (a ∷ xs) [] h = absurd h
  counts_same (a ∷ xs) (c ∷ cs) h =
      sum_by-cons count a xs
      ∙ ap (λ n. n + sum_by count xs) (same a c h.0)
      ∙ ap (λ n. count_of c + n) (counts_same xs cs h.1)
      ∙ sym (sum_by-cons count_of c cs)
