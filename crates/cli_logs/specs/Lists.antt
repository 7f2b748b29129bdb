-- What a check that tells all faults writes on standard output.
use Rattle.std.specs.Prelude.{◌≡◌, ℕ, Bool, true, false, List, [], ◌∷◌, ◌++◌, flat_map, max, Result, Ok, Err, codes}
use Rattle.sinks.specs.Sink.{Written, StopsWithin}
use Rattle.program_check.specs.AllFaults.{Entry, AreFaults}
use Rattle.cli_commands.specs.Saying.{SendsText, fault_line, line_of}

-- ---- one of the programs

-- a line of an answer: of several programs it begins with the name
abbrev pub line_in : (several : Bool) → (name line : List ℕ) → List ℕ
line_in true name line = line_of name line
line_in false name line = line

-- a line for each fault
abbrev pub fault_lines : (several : Bool) → (name : List ℕ) → List Entry → List ℕ
fault_lines several name faults = flat_map (λ f. line_in several name (fault_line f.0 f.1)) faults

-- what is written of a program with these faults
abbrev pub answer : (several : Bool) → (name : List ℕ) → List Entry → List ℕ
answer several name [] = line_in several name (codes "ok\n")
answer several name (f ∷ faults) = fault_lines several name (f ∷ faults)

-- its status
abbrev pub status_of : List Entry → ℕ
status_of [] = 0
status_of (f ∷ faults) = 1

-- the answer is sent, with the status, or standard output fails within it
abbrev pub SaysFaults : (several : Bool) → (name : List ℕ) → List Entry → (out out_after : Written) → Result ℕ ℕ → Type 0
SaysFaults several name faults out out_after (Ok status) = (status ≡ status_of faults) × SendsText out out_after (answer several name faults)
SaysFaults several name faults out out_after (Err status) = (status ≡ 3) × StopsWithin out out_after (answer several name faults)

-- ---- one of the files

module _ (gives : List ℕ → List ℕ → Type 0) (lacks : List ℕ → Type 0) (several : Bool) where
  -- What is written of a program with this name, and its status.
  pub data ListsOne (name : List ℕ) (out out_after : Written) : (status : ℕ) → Type 0 where
    on_text : (program : List ℕ) (faults : List Entry) → gives name program → AreFaults program faults → SendsText out out_after (answer several name faults)
        → ListsOne name out out_after (status_of faults)
    has_no_file : lacks name → out_after ≡ out → ListsOne name out out_after 3

  -- What is written of a program with which the check of all ends: memory was refused, or standard output failed.
  pub data EndsList (name : List ℕ) (out out_after : Written) : Type 0 where
    lacks_memory : out_after ≡ out → EndsList name out out_after
    loses_line : (program : List ℕ) (faults : List Entry) → gives name program → AreFaults program faults → StopsWithin out out_after (answer several name faults)
        → EndsList name out out_after

  -- the program is checked, with this status, or the check of all ends
  abbrev pub ListsOrEnds : (name : List ℕ) → (out out_after : Written) → Result ℕ ℕ → Type 0
  ListsOrEnds name out out_after (Ok status) = ListsOne name out out_after status
  ListsOrEnds name out out_after (Err status) = (status ≡ 3) × EndsList name out out_after

  -- ---- all of them

  -- the programs with these names are checked, and the status is the greatest of theirs
  pub data ListsEach (out : Written) : (names : List (List ℕ)) → (out_after : Written) → (status : ℕ) → Type 0 where
    none : ListsEach out [] out 0
    one_more : (names : List (List ℕ)) (name : List ℕ) (out_before out_after : Written) (before status : ℕ) → ListsEach out names out_before before
        → ListsOne name out_before out_after status → ListsEach out (names ++ name ∷ []) out_after (max before status)

  -- What a check of all faults of the programs with these names writes: the answer on each, or on those before one with which it ends.
  pub data ListsAll (names : List (List ℕ)) (out out_after : Written) : (status : ℕ) → Type 0 where
    all : (status : ℕ) → ListsEach out names out_after status → ListsAll names out out_after status
    ends : (before : List (List ℕ)) (name : List ℕ) (after : List (List ℕ)) (out_before : Written) (status : ℕ) → names ≡ before ++ name ∷ after
        → ListsEach out before out_before status → EndsList name out_before out_after → ListsAll names out out_after 3
