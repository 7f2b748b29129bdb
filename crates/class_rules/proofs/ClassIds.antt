-- Classes as they are held in memory, by their numbers.
use Rattle.std.proofs.Common.{◌≡◌, ℕ, Option, Some, None, unwrap_or, refl}
use Rattle.class_rules.specs.declared.class_id.ClassId.{ClassId}
use Rattle.class_rules.specs.ClassIds.{class_id, number_of}

-- there is no class where there is no number of one
pub no_class : (class : Option ClassId) → number_of class ≡ None → class ≡ None
no_class None h = refl
no_class (Some c) h = absurd (cc)

-- the number of a class, or that of another
pub number_or : (class : Option ClassId) (other : ClassId) → (unwrap_or class other).number ≡ unwrap_or (number_of class) other.number
number_or None other = refl
number_or (Some c) other = refl
