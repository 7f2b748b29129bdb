-- The place of a check's fault.
use Rattle.std.proofs.Common.{◌≡◌, ℕ, List, refl, sym, subst}
use Rattle.places.specs.declared.place.Place.{Place}
use Rattle.places.specs.declared.place.Place.TheVariants.{Line}
use Rattle.places.specs.declared.place.Text.{Text}
use Rattle.places.specs.declared.place.Text.TheVariants.{Program}
use Rattle.program_check.specs.Checks.{by_pass, by_length, FailsCheck}

-- a fault is at a line of the program
at_line : (text : List ℕ) (number : ℕ) (place : Place) → FailsCheck text number place → (line : ℕ) × (place ≡ Line Program line)
at_line text number place (by_pass n line h) = (line, refl)
at_line text number place (by_length unit p long) = (0, refl)

pub in_program : (text : List ℕ) (number : ℕ) (which : Text) (line : ℕ) → FailsCheck text number (Line which line) → FailsCheck text number (Line Program line)
in_program text number which line h =
    let found = at_line text number (Line which line) h in
    let same : Line Program line ≡ Line which line = cc (found.1) in
    subst (FailsCheck text number) (sym same) h
