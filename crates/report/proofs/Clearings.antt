-- How many clearings the beginnings of a journal have.
use Rattle.std.proofs.Common.{◌≡◌, ℕ, zero, suc, ◌+◌, ◌≤◌, List, [], ◌∷◌, Some, sym, ap, subst, arith}
use Rattle.std.specs.Prelude.{slice_get, take}
use Rattle.semantics.specs.Journal.{Entry, Step, Clearing, clearings_in}

-- no more than entries
pub no_more_clearings : (entries : List Entry) (i : ℕ) → clearings_in (take i entries) ≤ i
no_more_clearings entries zero = omega arith
no_more_clearings [] (suc i) = omega arith
no_more_clearings (Step k refused ∷ entries) (suc i) = omega (arith, no_more_clearings entries i)
no_more_clearings (Clearing names ∷ entries) (suc i) = omega (arith, no_more_clearings entries i)

-- one entry more
one_more : (entries : List Entry) (i : ℕ) (e : Entry) → slice_get entries i ≡ Some e → clearings_in (take i entries) + clearings_in (e ∷ []) ≡ clearings_in (take (suc i) entries)
one_more [] i e at = absurd (cc)
one_more (x ∷ entries) zero e at = let same : x ≡ e = cc in omega (arith, ap (λ (y : Entry). clearings_in (y ∷ [])) (sym same))
one_more (Step k refused ∷ entries) (suc i) e at = one_more entries i e at
one_more (Clearing names ∷ entries) (suc i) e at = omega (arith, one_more entries i e at)

pub clearings_so_far : (entries : List Entry) (i : ℕ) (e : Entry) → slice_get entries i ≡ Some e → clearings_in (take i entries) + clearings_in (e ∷ []) ≡ clearings_in (take (i + 1) entries)
clearings_so_far entries i e at =
    let next : suc i ≡ i + 1 = omega arith in
    subst (λ (n : ℕ). clearings_in (take i entries) + clearings_in (e ∷ []) ≡ clearings_in (take n entries)) next (one_more entries i e at)
