-- What is said of a command.
use Rattle.std.specs.Prelude.{◌≡◌, ◌⊎◌, ℕ, List, ◌++◌, codes, decimal}
use Rattle.sinks.specs.Sink.{Written, AppendsText, StopsWithin}
use Rattle.places.specs.declared.place.Place.{Place}
use Rattle.places.specs.declared.place.Place.TheVariants.{Line, Entry}

-- `fault 81 line 1`, or `fault 91 entry 4`
abbrev pub fault_line : ℕ → Place → List ℕ
fault_line number (Line text line) = codes "fault " ++ decimal number ++ codes " line " ++ decimal line ++ codes "\n"
fault_line number (Entry entry) = codes "fault " ++ decimal number ++ codes " entry " ++ decimal entry ++ codes "\n"

-- `a.c: fault 81 line 1`: a line of one of several files
abbrev pub line_of : (name line : List ℕ) → List ℕ
line_of name line = name ++ codes ": " ++ line

-- the text was appended, and nothing waits in the sink
pub record SendsText (old new : Written) (text : List ℕ) : Type 0 where
  pub appended : AppendsText old new text
  pub none_waits : new.waiting ≡ 0

-- the text was sent, or the sink failed within it
abbrev pub Tells : Written → Written → List ℕ → Type 0
Tells old new text = SendsText old new text ⊎ StopsWithin old new text
