-- What is seen in variables and statics.
use Rattle.std.proofs.Common.{◌≡◌, Bool, refl}
use Rattle.std.specs.Prelude.{not}
use Rattle.semantics.specs.declared.value.Value.TheVariants.{Truth}
use Rattle.semantics.specs.Value.{Outcome, Gives, Traps, Stuck, outcome_map}
use Rattle.replay_terms.specs.Views.{negated}

-- the other truth
pub not_null : (o : Outcome Bool) → negated (outcome_map Truth o) ≡ outcome_map (λ b. Truth (not b)) o
not_null (Gives b) = refl
not_null (Traps trap) = refl
not_null Stuck = refl

pub ruleset null_rules = (not_null)

pub ruleset place_rules = (not_null)
