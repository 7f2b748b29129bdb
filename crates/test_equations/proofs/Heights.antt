-- Expressions within and beyond the height.
use Rattle.std.specs.Prelude.{◌≡◌, ◌∷◌, [], refl, map}
use Rattle.syntax.specs.Limits.{block_height}
use Rattle.syntax.specs.Parts.{functions_of}
use Rattle.test_equations.proofs.Trees.{highest, too_high}

highest-height : map (λ f. block_height f.body) (functions_of highest) ≡ 32 ∷ []
highest-height = refl

too_high-height : map (λ f. block_height f.body) (functions_of too_high) ≡ 33 ∷ []
too_high-height = refl
