-- What the status of a check says of which a log is written.
use Rattle.std.specs.Prelude.{◌≡◌, ℕ, List}
use Rattle.std.specs.List.{All}
use Rattle.program_check.specs.Checks.{PassesCheck}

-- a file of this name may be read as a program that passes
abbrev pub MayPass : (gives : List ℕ → List ℕ → Type 0) → (name : List ℕ) → Type 0
MayPass gives name = (program : List ℕ) × gives name program × PassesCheck program

-- status 0 says that each of the programs with these names passes
abbrev pub PassAll : (gives : List ℕ → List ℕ → Type 0) → (names : List (List ℕ)) → (status : ℕ) → Type 0
PassAll gives names status = status ≡ 0 → All (MayPass gives) names
