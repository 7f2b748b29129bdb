-- Programs that are checked one after the other, of which a log is written.
use Rattle.std.proofs.Common.{◌≡◌, ℕ, List, ◌∷◌, map, max, arith, sym, ◌∙◌}
use Rattle.std.specs.Borrow.{Bor}
use Rattle.std.specs.List.{All}
use Rattle.std.proofs.lemmas.List.Elements.{All-cons}
use Rattle.cli_logs.specs.Logs.{MayPass}

abbrev pub texts_of : List (Bor (List ℕ)) → List (List ℕ)
texts_of = map (λ name. name.now)

-- where the status is 0 so far, all programs pass if the rest of them do
abbrev pub PassSoFar : (gives : List ℕ → List ℕ → Type 0) → (names rest : List (Bor (List ℕ))) → (status : ℕ) → Type 0
PassSoFar gives names rest status = status ≡ 0 → All (MayPass gives) (texts_of rest) → All (MayPass gives) (texts_of names)

-- what may pass now may pass before
pub may_before : {gives gives_before : List ℕ → List ℕ → Type 0} {name : List ℕ} → ((other bytes : List ℕ) → gives other bytes → gives_before other bytes)
    → MayPass gives name → MayPass gives_before name
may_before {name = name} kept (program, given, passes) = (program, kept name program given, passes)

both_zero : (status one : ℕ) → max status one ≡ 0 → (status ≡ 0) × (one ≡ 0)
both_zero status one e = (omega (arith, e), omega (arith, e))

-- one more program is checked
pub goes_on : {gives gives_now : List ℕ → List ℕ → Type 0} (names rest : List (Bor (List ℕ))) {status one next : ℕ} (name : Bor (List ℕ)) (after : List (Bor (List ℕ)))
    → PassSoFar gives names rest status → rest ≡ name ∷ after → ((other bytes : List ℕ) → gives_now other bytes → gives other bytes)
    → (one ≡ 0 → MayPass gives_now name.now) → next ≡ max status one → PassSoFar gives names after next
goes_on {gives} {gives_now} names rest {status} {one} name after s e kept passes greatest zero passed =
    let both = both_zero status one (sym greatest ∙ zero) in
    let one_passes : MayPass gives name.now = may_before kept (passes both.1) in
    s both.0 (rw e (All-cons (MayPass gives) name.now (texts_of after) one_passes passed))
