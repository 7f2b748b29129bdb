-- Names that are added to others, those of one after the other.
use Rattle.std.proofs.Common.{◌≡◌, ℕ, List, ◌∷◌, ◌++◌, sym, ap, ◌∙◌, append_assoc}
use Rattle.std.specs.Prelude.{flat_map}
use Rattle.std.proofs.lemmas.List.Concat.{flat_map-cons}

-- the names of one more are added
pub added_next : {X : Type 0} (own : X → List ℕ) (xs after : List X) (x : X) (names more all : List ℕ) → xs ≡ x ∷ after → more ≡ names ++ own x → names ++ flat_map own xs ≡ all → more ++ flat_map own after ≡ all
added_next own xs after x names more all here added so_far =
    ap (λ (l : List ℕ). l ++ flat_map own after) added
    ∙ append_assoc names (own x) (flat_map own after)
    ∙ ap (λ (l : List ℕ). names ++ l) (sym (ap (flat_map own) here ∙ flat_map-cons own x after))
    ∙ so_far
