-- The parts of a text between separators.
use Rattle.std.specs.Prelude.{ℕ, List, [], ◌==◌, Option, Some, None}
use Rattle.std.specs.List.{slice_split}
use Rattle.std.specs.Borrow.{Bor}
use Rattle.world_schedules.specs.declared.split.Split.{Split}

abbrev pub parts_of : ℕ → List ℕ → List (List ℕ)
parts_of separator text = slice_split (λ b. b == separator) text

abbrev pub parts_of_rest : ℕ → Option (Bor (List ℕ)) → List (List ℕ)
parts_of_rest separator None = []
parts_of_rest separator (Some text) = parts_of separator text.now

-- the parts that are left
abbrev pub parts_left : Split → List (List ℕ)
parts_left p = parts_of_rest p.separator p.rest
