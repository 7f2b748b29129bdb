-- Which additions to a table in memory are refused, and with which fault.
use Rattle.std.specs.Prelude.{◌≡◌, Bool, [], ◌∷◌, find, Option, Some, None, Result, Ok, Err}
use Rattle.classes.specs.declared.fault.ClassError.{ClassError}
use Rattle.classes.specs.declared.fault.ClassError.TheVariants as errors
use Rattle.class_rules.specs.declared.rule.ClassRule.{ClassRule}
use Rattle.class_rules.specs.declared.rule.ClassRule.TheVariants.{NameTaken, BadSuperclass, BadSignature, TooMany}

-- the broken rule of the least number
abbrev pub first_broken : (ClassRule → Bool) → Option ClassRule
first_broken breaks = find breaks (NameTaken ∷ BadSuperclass ∷ BadSignature ∷ TooMany ∷ [])

-- The answer of an addition: the broken rule, where one is broken, and else what was made, unless memory ran out.
abbrev pub Answers : {A : Type 0} → Option ClassRule → (A → Type 0) → Result A ClassError → Type 0
Answers broken Made (Ok x) = (broken ≡ None) × Made x
Answers broken Made (Err errors.Memory) = broken ≡ None
Answers broken Made (Err (errors.Refused rule)) = broken ≡ Some rule
