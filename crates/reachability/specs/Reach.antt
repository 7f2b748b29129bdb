-- What can be reached in a graph. Each of a place's values refers to a place or doesn't.
use Rattle.std.specs.Prelude.{ℕ, List, Option, Some, Contains}

-- What can be reached: each root, and what a value of a reached place refers to.
pub data IsReached (references : ℕ → List (Option ℕ)) (IsRoot : ℕ → Type 0) : ℕ → Type 0 where
  Root : (p : ℕ) → IsRoot p → IsReached references IsRoot p
  Referred : (p q : ℕ) → IsReached references IsRoot p → Contains (references p) (Some q) → IsReached references IsRoot q

-- no value of a place refers to what is no place
abbrev pub IsClosed : (ℕ → Type 0) → (ℕ → List (Option ℕ)) → Type 0
IsClosed IsPlace references = (p q : ℕ) → IsPlace p → Contains (references p) (Some q) → IsPlace q
