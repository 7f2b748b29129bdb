-- What the layers answer, as what a check answers.
use Rattle.std.proofs.Common.{◌≡◌, ℕ, List, Err, subst}
use Rattle.syntax.specs.Tree.{SourceUnit}
use Rattle.code_meaning.specs.Length.{IsTooLong}
use Rattle.places.specs.declared.place.Place.TheVariants as place
use Rattle.places.specs.declared.place.Text.TheVariants as which
use Rattle.program_check.specs.declared.fault.RunError.{RunError}
use Rattle.program_check.specs.declared.fault.RunError.TheVariants.{Memory, Fault, Writer}
use Rattle.program_check.specs.Errors.{too_long}
use Rattle.program_check.specs.Passes.{IsRefusal}
use Rattle.program_check.specs.Programs.{IsProgram}
use Rattle.program_check.specs.Checks.{by_pass, by_length, PassesCheck, ChecksText}

pub refused_pass : (text : List ℕ) (e : RunError) → IsRefusal text e → ChecksText text (Err e)
refused_pass text Memory h = tt
refused_pass text (Fault number (place.Line which.Program line)) h = by_pass number line h
refused_pass text (Fault number (place.Line which.World line)) h = absurd h
refused_pass text (Fault number (place.Line which.Schedule line)) h = absurd h
refused_pass text (Fault number (place.Line which.Journal line)) h = absurd h
refused_pass text (Fault number (place.Entry entry)) h = absurd h
refused_pass text Writer h = absurd h

pub refused_length : (text : List ℕ) (unit : SourceUnit) → IsProgram text unit → IsTooLong unit → ChecksText text (Err too_long)
refused_length text unit is long = by_length unit is long

-- a program that passes has no function that is too long
pub none_is_long : (text : List ℕ) (found : SourceUnit) (p : PassesCheck text) → found ≡ p.unit → IsTooLong found → ⊥
none_is_long text found p same long = p.short (subst IsTooLong same long)
