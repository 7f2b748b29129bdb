-- Titles under numbers.
use Rattle.std.specs.Prelude.{ℕ, ◌==◌, if◌then◌else◌, List, [], ◌∷◌, Option, Some, None}
use Rattle.cli_explanations.specs.declared.Explanation.{Explanation}

-- numbers, each with its title
abbrev pub Titles : Type 0
Titles = List (ℕ × List ℕ)

-- the title of a number
abbrev pub title_in : (number : ℕ) → Titles → Option (List ℕ)
title_in number [] = None
title_in number ((other, title) ∷ titles) = let further = title_in number titles in if other == number then Some title else further

-- the number and the title of an explanation
abbrev pub titled : Explanation → ℕ × List ℕ
titled e = (e.number, e.title.now)
