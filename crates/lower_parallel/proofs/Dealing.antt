-- How the codes of a program are dealt out to workers.
use Rattle.std.proofs.Common.{◌≡◌, ℕ, ◌+◌, ◌<◌, ◌%◌, Bool, List, [], ◌∷◌, if◌then◌else◌, refl, sym, ap, subst, ⊎_elim}
use Rattle.std.proofs.lemmas.Bool.{eq-eqb, ne_eqb, cases_eq}
use Rattle.std.proofs.lemmas.Nat.{mod_below}
use Rattle.std.proofs.lemmas.List.Elements.{All-nil, All-cons, All-head, All-tail}
use Rattle.std.specs.List.{All}
use Rattle.code.specs.Depth.{Listing}
use Rattle.lower_parallel.specs.Shares.{share_of, IsShort}

-- the first code is the worker's own
pub own_first : (workers worker number : ℕ) (c : Listing) (codes : List Listing) → number % workers ≡ worker → share_of workers worker number (c ∷ codes) ≡ c ∷ share_of workers worker (number + 1) codes
own_first workers worker number c codes own =
    let rest = share_of workers worker (number + 1) codes in ap (λ (b : Bool). if b then c ∷ rest else rest) (eq-eqb (number % workers) worker own)

-- or another's
pub other_first : (workers worker number : ℕ) (c : Listing) (codes : List Listing) → (number % workers ≡ worker → ⊥) → share_of workers worker number (c ∷ codes) ≡ share_of workers worker (number + 1) codes
other_first workers worker number c codes other =
    let rest = share_of workers worker (number + 1) codes in ap (λ (b : Bool). if b then c ∷ rest else rest) (ne_eqb (number % workers) worker other)

-- where no share has a code that is too long, none of the codes is
pub all_short : (workers number : ℕ) (codes : List Listing) → 0 < workers → ((w : ℕ) → w < workers → All IsShort (share_of workers w number codes)) → All IsShort codes
all_short workers number [] some h = All-nil IsShort
all_short workers number (c ∷ codes) some h =
    let own = subst (All IsShort) (own_first workers (number % workers) number c codes refl) (h (number % workers) (mod_below number workers some)) in
    All-cons IsShort c codes (All-head IsShort c (share_of workers (number % workers) (number + 1) codes) own)
    (all_short workers (number + 1) codes some (λ w below. ⊎_elim
    (λ e. subst (λ k. All IsShort (share_of workers k (number + 1) codes)) (sym e) (All-tail IsShort c (share_of workers (number % workers) (number + 1) codes) own))
    (λ d. subst (All IsShort) (other_first workers w number c codes (λ e. d (sym e))) (h w below))
    (cases_eq w (number % workers))))
