-- Texts of signatures, by their first and last bytes.
use Rattle.std.proofs.Common.{◌≡◌, ℕ, Bool, false, List, [], ◌∷◌, ◌++◌, ap, ◌∙◌, arith, sym}
use Rattle.std.specs.Prelude.{◌&&◌, ◌==◌}
use Rattle.std.specs.Str.{bytes_eq}
use Rattle.std.proofs.Math.Bool.{and-false, and-true, and_assoc}
use Rattle.std.proofs.lemmas.Bool.Decides.{nat_tests}

longer : (x : ℕ) (xs : List ℕ) (b : ℕ) (t : Bool) → (t && bytes_eq (xs ++ x ∷ []) []) ≡ false
longer x [] b t = and-false t
longer x (y ∷ xs) b t = and-false t

shorter : (x : ℕ) (xs : List ℕ) (t : Bool) → (t && bytes_eq [] (xs ++ x ∷ [])) ≡ false
shorter x [] t = and-false t
shorter x (y ∷ xs) t = and-false t

pub same_last : (xs ys : List ℕ) (a b : ℕ) → bytes_eq (xs ++ a ∷ []) (ys ++ b ∷ []) ≡ (bytes_eq xs ys && (b == a))
same_last [] [] a b = let e : (a == b) ≡ (b == a) = grind (arith, nat_tests) in and-true (a == b) ∙ e
same_last [] (y ∷ ys) a b = shorter b ys (a == y)
same_last (x ∷ xs) [] a b = longer a xs b (x == b)
same_last (x ∷ xs) (y ∷ ys) a b = ap (λ t. (x == y) && t) (same_last xs ys a b) ∙ sym (and_assoc (x == y) (bytes_eq xs ys) (b == a))

-- the last byte and what comes before it
pub ended : (name bytes front : List ℕ) (last : ℕ) → bytes ≡ front ++ last ∷ [] → bytes_eq (name ++ 59 ∷ []) bytes ≡ (bytes_eq name front && (last == 59))
ended name bytes front last e = ap (bytes_eq (name ++ 59 ∷ [])) e ∙ same_last name front 59 last

-- bytes that end otherwise
pub not_ended : (name bytes front : List ℕ) (last : ℕ) → bytes ≡ front ++ last ∷ [] → (last == 59) ≡ false → bytes_eq (name ++ 59 ∷ []) bytes ≡ false
not_ended name bytes front last e other = ended name bytes front last e ∙ ap (λ t. bytes_eq name front && t) other ∙ and-false (bytes_eq name front)
