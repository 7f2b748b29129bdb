-- What a check of several programs does with files, standard output and standard error.
use Rattle.std.specs.Prelude.{◌≡◌, ℕ, List, [], ◌∷◌, ◌++◌, max, Result, Ok, Err, codes}
use Rattle.sinks.specs.Sink.{Written, StopsWithin}
use Rattle.places.specs.declared.place.Place.{Place}
use Rattle.program_check.specs.Checks.{PassesCheck, FailsCheck}
use Rattle.cli_commands.specs.Saying.{SendsText, Tells, fault_line, line_of}
use Rattle.cli_commands.specs.Telling.{told}
use Rattle.jnirun.specs.Serve.{passed, fault_words}

-- ---- one of the programs

-- What is done of a program with this name and this text, and its status. A line on standard output begins with the name.
pub data SaysOne (name program : List ℕ) (out out_after err err_after : Written) : (status : ℕ) → Type 0 where
  -- it passes
  is_passed : PassesCheck program → SendsText out out_after (line_of name passed) → err_after ≡ err → SaysOne name program out out_after err err_after 0
  -- the line of a fault that it earns is sent, and the fault is told
  is_refused : (number : ℕ) (place : Place) (detail : List ℕ) → FailsCheck program number place
      → SendsText out out_after (line_of name (fault_line number place))
      → Tells err err_after (told (codes "error") name program number place (fault_words number) detail)
      → SaysOne name program out out_after err err_after 1

-- Memory was refused, and nothing is written of the program, or standard output failed within its line.
pub data FailsAt (name program : List ℕ) (out out_after err err_after : Written) : Type 0 where
  lacks_memory : out_after ≡ out → Tells err err_after (codes "memory\n") → FailsAt name program out out_after err err_after
  loses_pass : PassesCheck program → StopsWithin out out_after (line_of name passed) → Tells err err_after (codes "writer\n")
      → FailsAt name program out out_after err err_after
  loses_fault : (number : ℕ) (place : Place) → FailsCheck program number place → StopsWithin out out_after (line_of name (fault_line number place))
      → Tells err err_after (codes "writer\n") → FailsAt name program out out_after err err_after

-- the program is checked, with this status, or that fails
abbrev pub SaysOrFails : (name program : List ℕ) → (out out_after err err_after : Written) → Result ℕ ℕ → Type 0
SaysOrFails name program out out_after err err_after (Ok status) = SaysOne name program out out_after err err_after status
SaysOrFails name program out out_after err err_after (Err status) = (status ≡ 3) × FailsAt name program out out_after err err_after

-- ---- one of the files

-- What is done of a program with this name, and its status, where files may be read as some texts and others may be lacking.
pub data ChecksOne (gives : List ℕ → List ℕ → Type 0) (lacks : List ℕ → Type 0) (name : List ℕ)
    (out out_after err err_after : Written) : (status : ℕ) → Type 0 where
  on_text : (program : List ℕ) (status : ℕ) → gives name program → SaysOne name program out out_after err err_after status
      → ChecksOne gives lacks name out out_after err err_after status
  has_no_file : lacks name → out_after ≡ out → Tells err err_after (line_of name (codes "file\n")) → ChecksOne gives lacks name out out_after err err_after 3

-- what is done of a program with which the check of all ends
pub data EndsAt (gives : List ℕ → List ℕ → Type 0) (name : List ℕ) (out out_after err err_after : Written) : Type 0 where
  fails_on : (program : List ℕ) → gives name program → FailsAt name program out out_after err err_after → EndsAt gives name out out_after err err_after
  cannot_read : out_after ≡ out → Tells err err_after (codes "memory\n") → EndsAt gives name out out_after err err_after

-- the program is checked, with this status, or the check of all ends
abbrev pub ChecksOrEnds : (gives : List ℕ → List ℕ → Type 0) → (lacks : List ℕ → Type 0) → (name : List ℕ) → (out out_after err err_after : Written)
    → Result ℕ ℕ → Type 0
ChecksOrEnds gives lacks name out out_after err err_after (Ok status) = ChecksOne gives lacks name out out_after err err_after status
ChecksOrEnds gives lacks name out out_after err err_after (Err status) = (status ≡ 3) × EndsAt gives name out out_after err err_after

-- ---- all of them

-- What is done of the programs with these names, in this order, and the greatest of their statuses.
pub data ChecksEach (gives : List ℕ → List ℕ → Type 0) (lacks : List ℕ → Type 0) (out : Written) (err : Written) :
    (names : List (List ℕ)) → (out_after err_after : Written) → (status : ℕ) → Type 0 where
  none : ChecksEach gives lacks out err [] out err 0
  one_more : (names : List (List ℕ)) (name : List ℕ) (out_before out_after err_before err_after : Written) (before status : ℕ)
      → ChecksEach gives lacks out err names out_before err_before before
      → ChecksOne gives lacks name out_before out_after err_before err_after status
      → ChecksEach gives lacks out err (names ++ name ∷ []) out_after err_after (max before status)

-- What a check of the programs with these names does: it checks each, or those before one with which it ends.
pub data ServesEach (gives : List ℕ → List ℕ → Type 0) (lacks : List ℕ → Type 0) (names : List (List ℕ))
    (out out_after err err_after : Written) : (status : ℕ) → Type 0 where
  all : (status : ℕ) → ChecksEach gives lacks out err names out_after err_after status → ServesEach gives lacks names out out_after err err_after status
  ends : (before : List (List ℕ)) (name : List ℕ) (after : List (List ℕ)) (out_before err_before : Written) (status : ℕ)
      → names ≡ before ++ name ∷ after → ChecksEach gives lacks out err before out_before err_before status
      → EndsAt gives name out_before out_after err_before err_after
      → ServesEach gives lacks names out out_after err err_after 3
