-- Numbers that nothing is said of.
use Rattle.std.proofs.Common.{arith, ◌≡◌, ℕ, ◌/◌, ◌≤◌, ◌<◌, ◌^◌, List, Option, Some, None, Result, Ok, Err, refl, subst}
use Rattle.std.proofs.lemmas.Bool.{ne_eqb}
use Rattle.std.specs.Prelude.{codes}
use Rattle.std.specs.Str.Parse.{ParsesUnsigned}
use Rattle.clap.specs.Walk.{Row, first_of}
use Rattle.cli_explanations.specs.Numbered.{title_in}
use Rattle.cli_explanations.specs.Titles.{faults_near, traps_near, fault_title, trap_title}
use Rattle.cli_explanations.specs.declared.Explanation.{Explanation}
use Rattle.cli_words.specs.Requests.{HasValue, Spells, AsksFault, AsksTrap, IsSaid}

-- no fault and no trap has a number past 99
no_faults : (n ten : ℕ) → 10 ≤ ten → title_in n (faults_near ten) ≡ None
unfolding faults_near
no_faults n ten h =
    rw (
      ne_eqb ten 0 (omega arith),
      ne_eqb ten 1 (omega arith),
      ne_eqb ten 2 (omega arith),
      ne_eqb ten 3 (omega arith),
      ne_eqb ten 4 (omega arith),
      ne_eqb ten 5 (omega arith),
      ne_eqb ten 6 (omega arith),
      ne_eqb ten 8 (omega arith),
      ne_eqb ten 9 (omega arith),
    ) refl

no_traps : (n ten : ℕ) → 10 ≤ ten → title_in n (traps_near ten) ≡ None
unfolding traps_near
no_traps n ten h = rw (ne_eqb ten 0 (omega arith), ne_eqb ten 1 (omega arith)) refl

-- a number that a text spells and that isn't read is too large
too_large : {E : Type 0} (text : List ℕ) (r : Result ℕ E) (n : ℕ) → ParsesUnsigned 32 10 text r → ((m : ℕ) → r ≡ Ok m → ⊥) → Spells text n → 100 ≤ n
too_large text (Ok m) n h none spells = absurd (none m refl)
too_large text (Err e) n h none spells = go (λ small. h (spells.0, subst (λ (m : ℕ). m < 2 ^ 32) spells.1 small))
  where
    go : (n < 2 ^ 32 → ⊥) → 100 ≤ n
    go large = omega arith

-- nothing is said of a fault whose number isn't read
pub no_fault_said : {E : Type 0} (rows : List Row) (text : List ℕ) (r : Result ℕ E) (e : Option Explanation) → ParsesUnsigned 32 10 text r → ((m : ℕ) → r ≡ Ok m → ⊥) → HasValue rows (codes "N") text
    → None ≡ first_of (codes "NUMBER") rows → e ≡ None → IsSaid rows e
no_fault_said rows text r (Some e) h none first second is = absurd (cc is)
no_fault_said rows text r None h none first second is = λ n. (λ asks. fault n asks, λ asks. absurd (cc (asks.2, second)))
  where
    fault : (n : ℕ) → AsksFault rows n → fault_title n ≡ None
    fault n (t, first-t, second-t, spells) =
        let same : t ≡ text = cc (first, first-t) in
        no_faults n (n / 10) (omega (arith, too_large text r n h none (subst (λ (x : List ℕ). Spells x n) same spells)))

-- nor of a trap whose number isn't read
pub no_trap_said : {E : Type 0} (rows : List Row) (text : List ℕ) (r : Result ℕ E) (e : Option Explanation) → ParsesUnsigned 32 10 text r → ((m : ℕ) → r ≡ Ok m → ⊥) → Some text ≡ first_of (codes "NUMBER") rows → e ≡ None → IsSaid rows e
no_trap_said rows text r (Some e) h none second is = absurd (cc is)
no_trap_said rows text r None h none second is = λ n. (λ asks. absurd (cc (asks.2, second)), λ asks. trap n asks)
  where
    trap : (n : ℕ) → AsksTrap rows n → trap_title n ≡ None
    trap n (t, first-t, second-t, spells) =
        let same : t ≡ text = cc (second, second-t) in
        no_traps n (n / 10) (omega (arith, too_large text r n h none (subst (λ (x : List ℕ). Spells x n) same spells)))

-- nor of words of which none is a number
pub none_said : (rows : List Row) (e : Option Explanation) → first_of (codes "N") rows ≡ None → e ≡ None → IsSaid rows e
none_said rows (Some e) missing is = absurd (cc is)
none_said rows None missing is = λ n. (λ asks. absurd (cc (asks.1, missing)), λ asks. absurd (cc (asks.1, missing)))
