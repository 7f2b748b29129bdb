-- Which program texts a check passes, and which number and place another earns.
use Rattle.std.specs.Prelude.{◌≡◌, ℕ, List, Result, Ok, Err}
use Rattle.syntax.specs.Tree.{SourceUnit}
use Rattle.code_meaning.specs.Length.{IsTooLong}
use Rattle.places.specs.declared.place.Place.{Place}
use Rattle.places.specs.declared.place.Place.TheVariants.{Line}
use Rattle.program_check.specs.declared.fault.RunError.{RunError}
use Rattle.program_check.specs.declared.fault.RunError.TheVariants.{Memory, Fault, Writer}
use Rattle.places.specs.declared.place.Text.TheVariants as which
use Rattle.program_check.specs.Programs.{IsProgram, IsRefusedProgram}

-- the text is that of an accepted program
pub record IsProgramText (text : List ℕ) : Type 0 where
  pub unit : SourceUnit
  pub of_program : IsProgram text unit

-- the text is that of an accepted program, and the code of no function is too long
pub record PassesCheck (text : List ℕ) : Type 0 where
  pub unit : SourceUnit
  pub of_program : IsProgram text unit
  pub short : IsTooLong unit → ⊥

-- The text is refused, by the first pass that finds a fault, or since the code of a function would be too long.
pub data FailsCheck (text : List ℕ) : (number : ℕ) → Place → Type 0 where
  by_pass : (number line : ℕ) → IsRefusedProgram text number line → FailsCheck text number (Line which.Program line)
  by_length : (unit : SourceUnit) → IsProgram text unit → IsTooLong unit → FailsCheck text 51 (Line which.Program 0)

-- what a check answers
abbrev pub ChecksText : List ℕ → Result Unit RunError → Type 0
ChecksText text (Ok _) = PassesCheck text
ChecksText text (Err Memory) = Unit {0}
ChecksText text (Err (Fault number place)) = FailsCheck text number place
ChecksText text (Err Writer) = ⊥

-- The text of an accepted program is refused for want of memory alone, or where a function is too long.
abbrev pub IsCheckedOrFails : Result Unit RunError → Type 0
IsCheckedOrFails (Ok _) = Unit {0}
IsCheckedOrFails (Err Memory) = Unit {0}
IsCheckedOrFails (Err (Fault number place)) = (number ≡ 51) × (place ≡ Line which.Program 0)
IsCheckedOrFails (Err Writer) = ⊥
