-- What the check answers to C.
use Rattle.std.specs.Prelude.{◌≡◌, ℕ, ℤ, pos, List}
use Rattle.places.specs.declared.place.Place.TheVariants.{Line}
use Rattle.places.specs.declared.place.Text.TheVariants.{Program}
use Rattle.program_check.specs.Checks.{PassesCheck, FailsCheck}
use Rattle.jnirun_c.specs.declared.Fault.{Fault}

-- there is no fault
pub record IsNone (fault : Fault) : Type 0 where
  pub number : fault.number ≡ 0
  pub line : fault.line ≡ 0

-- What a text means to the check, and the status: the text passes; it earns the fault of this number at this line; or memory was refused.
pub data Answers (text : List ℕ) (fault : Fault) : (status : ℤ) → Type 0 where
  is_accepted : PassesCheck text → IsNone fault → Answers text fault (pos 0)
  is_refused : FailsCheck text fault.number (Line Program fault.line) → Answers text fault (pos 1)
  lacks_memory : IsNone fault → Answers text fault (pos 3)
