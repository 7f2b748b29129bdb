-- Marks by place, and the list of the places whose values are still to be followed.
use Rattle.std.specs.Prelude.{◌≡◌, ℕ, ◌+◌, Bool, true, false, cond, List, [], ◌∷◌, length, Option, Some, ◌⊎◌, slice_index_or, Contains}
use Rattle.reachability.specs.Reach.{IsReached}

-- past the last place nothing is marked
abbrev pub is_marked : List Bool → ℕ → Bool
is_marked marks p = slice_index_or marks p false

-- just the marked places wait
pub record WaitsFor (marks : List Bool) (waiting : List ℕ) : Type 0 where
  pub marked : (p : ℕ) → Contains waiting p → is_marked marks p ≡ true
  pub waits : (p : ℕ) → is_marked marks p ≡ true → Contains waiting p

-- just the places that can be reached from the roots are marked
pub record AreReached (references : ℕ → List (Option ℕ)) (roots marks : List Bool) : Type 0 where
  pub count : length marks ≡ length roots
  pub sound : (p : ℕ) → is_marked marks p ≡ true → IsReached references (λ r. is_marked roots r ≡ true) p
  pub complete : (p : ℕ) → IsReached references (λ r. is_marked roots r ≡ true) p → is_marked marks p ≡ true

-- ---- steps of a marking

-- how many places have no mark
abbrev pub unmarked : List Bool → ℕ
unmarked [] = 0
unmarked (m ∷ ms) = cond m 0 1 + unmarked ms

-- of what has P some were marked and put on the list, and nothing else was done
pub record Adds (P : ℕ → Type 0) (marks : List Bool) (waiting : List ℕ) (after : List Bool) (longer : List ℕ) : Type 0 where
  pub count : length after ≡ length marks
  pub work : unmarked after + length longer ≡ unmarked marks + length waiting
  pub stays : (p : ℕ) → is_marked marks p ≡ true → is_marked after p ≡ true
  pub listed : (p : ℕ) → Contains waiting p → Contains longer p
  pub fresh : (p : ℕ) → is_marked after p ≡ true → (is_marked marks p ≡ true) ⊎ (P p × Contains longer p)
  pub ours : (p : ℕ) → Contains longer p → Contains waiting p ⊎ (P p × (is_marked after p ≡ true))

-- what the place refers to is marked
abbrev pub IsFollowed : (ℕ → List (Option ℕ)) → List Bool → ℕ → Type 0
IsFollowed references marks p = (q : ℕ) → Contains (references p) (Some q) → is_marked marks q ≡ true
