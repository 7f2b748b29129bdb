-- What is known after some codes are taken from the workers' shares, each from the worker whose turn it is.
use Rattle.std.proofs.Common.{◌≡◌, ℕ, zero, suc, ◌+◌, ◌<◌, ◌%◌, List, [], ◌∷◌, ◌++◌, Result, Ok, length, map, get_or, refl, sym, ap, ◌∙◌, subst, append_assoc, ⊎_elim, arith}
use Rattle.std.specs.Prelude.{IfOk}
use Rattle.std.proofs.lemmas.Bool.{cases_eq}
use Rattle.std.proofs.lemmas.List.{append-nil, length_push, length-map}
use Rattle.std.proofs.lemmas.Result.{IfOk-at_ok}
use Rattle.code.specs.Depth.{Listing}
use Rattle.lower_parallel.specs.Shares.{share_of, IsShare, AreShares}
use Rattle.lower_parallel.proofs.Dealing.{own_first, other_first}

-- these codes of the program are taken, and what is left of a worker's share, `share w`, is its share of the codes that are left
pub record AreTaken (program : List Listing) (workers : ℕ) (share : ℕ → List Listing) (codes : List Listing) : Type 0 where
  pub rest : List Listing
  pub all : codes ++ rest ≡ program
  pub shares : (w : ℕ) → w < workers → share w ≡ share_of workers w (length codes) rest

pub none_taken : (program : List Listing) (workers : ℕ) (shares : List (List Listing)) (codes : List Listing) → length shares ≡ workers → codes ≡ [] → AreShares program shares → AreTaken program workers (λ w. get_or shares w []) codes
none_taken program workers shares codes many none h = rw (← many, none) (record { rest = program; all = refl; shares = λ w below. (h w below).0 })

-- the share of the worker whose turn it is begins with the next code
next_code : (workers : ℕ) (share : ℕ → List Listing) (number : ℕ) (c : Listing) (rest : List Listing) → share (number % workers) ≡ share_of workers (number % workers) number (c ∷ rest)
    → share (number % workers) ≡ c ∷ share_of workers (number % workers) (number + 1) rest
next_code workers share number c rest h = h ∙ own_first workers (number % workers) number c rest refl

-- what is taken from the front of it is the next code, and the shares are then those of the codes after it
module _ (workers : ℕ) (share after : ℕ → List Listing) (number : ℕ) (c : Listing) (below : number % workers < workers) (taken : share (number % workers) ≡ c ∷ after (number % workers)) (kept : (w : ℕ) → (w ≡ number % workers → ⊥) → after w ≡ share w) where
  abbrev Shared : (ℕ → List Listing) → ℕ → List Listing → Type 0
  Shared share number rest = (w : ℕ) → w < workers → share w ≡ share_of workers w number rest

  takes : (program codes rest : List Listing) → length codes ≡ number → codes ++ rest ≡ program → Shared share number rest → AreTaken program workers after (codes ++ c ∷ [])
  takes program codes [] counted all h = let e : c ∷ after (number % workers) ≡ [] = sym taken ∙ h (number % workers) below in absurd (cc)
  takes program codes (d ∷ rest) counted all h =
      let same : c ∷ after (number % workers) ≡ d ∷ share_of workers (number % workers) (number + 1) rest = sym taken ∙ next_code workers share number d rest (h (number % workers) below) in
      let code : d ≡ c = cc in
      let left : after (number % workers) ≡ share_of workers (number % workers) (number + 1) rest = cc in
      let others : Shared after (number + 1) rest = λ w low. ⊎_elim
      (λ e. subst (λ k. after k ≡ share_of workers k (number + 1) rest) (sym e) left)
      (λ differ. kept w differ ∙ h w low ∙ other_first workers w number d rest (λ e. differ (sym e)))
      (cases_eq w (number % workers)) in
      record {
        rest = rest;
        all = append_assoc codes (c ∷ []) rest ∙ ap (λ x. codes ++ x ∷ rest) (sym code) ∙ all;
        shares = subst (λ n. Shared after n rest) (ap (λ n. n + 1) (sym counted) ∙ sym (length_push codes c)) others;
      }

pub one_taken : (program : List Listing) (workers : ℕ) (share after : ℕ → List Listing) (codes : List Listing) (number : ℕ) (c : Listing) → AreTaken program workers share codes → length codes ≡ number → number % workers < workers
    → share (number % workers) ≡ c ∷ after (number % workers) → ((w : ℕ) → (w ≡ number % workers → ⊥) → after w ≡ share w) → AreTaken program workers after (codes ++ c ∷ [])
one_taken program workers share after codes number c h counted below taken kept =
    takes workers share after number c below taken kept program codes h.rest counted h.all (subst (λ n. (w : ℕ) → w < workers → share w ≡ share_of workers w n h.rest) counted h.shares)

-- where it is empty, all codes are taken
ends : (program codes rest : List Listing) (workers number : ℕ) (share : ℕ → List Listing) → codes ++ rest ≡ program → share (number % workers) ≡ share_of workers (number % workers) number rest → share (number % workers) ≡ [] → codes ≡ program
ends program codes [] workers number share all h empty = sym (append-nil codes) ∙ all
ends program codes (c ∷ rest) workers number share all h empty =
    let e : c ∷ share_of workers (number % workers) (number + 1) rest ≡ [] = sym (next_code workers share number c rest h) ∙ empty in absurd (cc)

pub all_taken : (program : List Listing) (workers : ℕ) (share : ℕ → List Listing) (codes : List Listing) (number : ℕ) → AreTaken program workers share codes → length codes ≡ number → number % workers < workers → share (number % workers) ≡ []
    → codes ≡ program
all_taken program workers share codes number h counted below empty =
    ends program codes h.rest workers number share h.all (subst (λ n. share (number % workers) ≡ share_of workers (number % workers) n h.rest) counted (h.shares (number % workers) below)) empty

-- ---- the shares themselves

-- where each of these is Ok, the answer at a place is that of the share there
share_at : {D E : Type 0} (f : D → List Listing) (shares : List D) (w : ℕ) → w < length shares → (x : D) × (get_or (map f shares) w [] ≡ f x) × ((d : Result D E) → get_or (map (λ s. Ok s) shares) w d ≡ Ok x)
share_at f [] w below = absurd (omega arith)
share_at f (y ∷ shares) zero below = (y, refl, λ d. refl)
share_at f (y ∷ shares) (suc w) below = share_at f shares w (omega arith)

pub shares_made : {D E : Type 0} (f : D → List Listing) (program : List Listing) (workers : ℕ) (answers : List (Result D E)) (shares : List D) → length answers ≡ workers → answers ≡ map (λ s. Ok s) shares
    → ((w : ℕ) (d : Result D E) → w < workers → IfOk (get_or answers w d) (λ s. IsShare workers w program (f s))) → AreShares program (map f shares)
shares_made {D} {E} f program workers answers shares many all each w below =
    let counted : length shares ≡ workers = sym (length-map {B = Result D E} shares (λ s. Ok s)) ∙ ap (λ (l : List (Result D E)). length l) (sym all) ∙ many in
    let same : length (map f shares) ≡ workers = length-map shares f ∙ counted in
    let there = share_at {D = D} {E = E} f shares w (subst (λ n. w < n) (length-map shares f) below) in
    let share : IsShare workers w program (f there.0) = IfOk-at_ok (λ s. IsShare workers w program (f s)) (ap (λ (l : List (Result D E)). get_or l w (Ok there.0)) all ∙ there.2 (Ok there.0)) (each w (Ok there.0) (subst (λ n. w < n) same below)) in
    subst (λ n. IsShare n w program (get_or (map f shares) w [])) (sym same) (subst (IsShare workers w program) (sym there.1) share)
