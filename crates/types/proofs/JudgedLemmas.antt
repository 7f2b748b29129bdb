-- Rules that are judged one after another.
use Rattle.std.proofs.Common.{◌≡◌, ℕ, Bool, true, false, [], ◌∷◌, ◌++◌, Option, Some, None, refl}
use Rattle.type_rules.specs.declared.rule.TypeRule.{TypeRule}
use Rattle.types.specs.Faults.{Faults, Judges, broken_if}

-- a rule that is broken is the first, where those before it are kept
pub Judges-first : (rule : TypeRule) (line : ℕ) (b : Bool) (later : Faults) → b ≡ true → Judges (Some rule) line (broken_if b rule line ++ later)
Judges-first rule line true later h = refl
Judges-first rule line false later h = absurd cc

-- where a rule is kept, the later ones decide
pub Judges-later : (found : Option TypeRule) (rule : TypeRule) (line : ℕ) (b : Bool) (later : Faults) → b ≡ false → Judges found line later → Judges found line (broken_if b rule line ++ later)
Judges-later found rule line true later h k = absurd cc
Judges-later found rule line false later h k = k

-- where none is found, none is broken
pub judged-none : (line : ℕ) (broken : Faults) → Judges None line broken → broken ≡ []
judged-none line [] h = refl
judged-none line (f ∷ rest) h = absurd cc
