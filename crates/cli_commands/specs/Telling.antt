-- How a fault or a trap is told on standard error.
use Rattle.std.specs.Prelude.{ℕ, zero, suc, ◌-◌, ◌==◌, nat_le, ◌&&◌, if◌then◌else◌, List, [], ◌∷◌, ◌++◌, codes, decimal}
use Rattle.places.specs.declared.place.Place.{Place}
use Rattle.places.specs.declared.place.Place.TheVariants.{Line, Entry}

-- ---- a line of a text

-- the text from a line on, where lines are counted from 0
unfoldable pub from_line : ℕ → List ℕ → List ℕ
from_line zero text = text
from_line (suc line) [] = []
from_line (suc line) (byte ∷ text) = if byte == 10 then from_line line text else from_line (suc line) text

-- the text from the line of a place on, where it has one
abbrev pub text_from : (text : List ℕ) → Place → List ℕ
text_from text (Line which line) = from_line (line - 1) text
text_from text (Entry entry) = text

-- a byte as it is shown: a tab as a space, and any other byte that isn't printable ASCII as a question mark
abbrev pub shown_byte : ℕ → ℕ
shown_byte byte = if nat_le 32 byte && nat_le byte 126 then byte else (if byte == 9 then 32 else 63)

-- the first line of the text as it is shown, or its beginning of this number of bytes
unfoldable pub shown_line : (most : ℕ) → List ℕ → List ℕ
shown_line zero text = []
shown_line (suc most) [] = []
shown_line (suc most) (byte ∷ text) = if byte == 10 then [] else shown_byte byte ∷ shown_line most text

-- the most bytes of a line that are shown
abbrev pub most_shown : ℕ
most_shown = 160

-- the line of a place, on a line of its own
unfoldable pub excerpt : (text : List ℕ) → Place → List ℕ
excerpt text (Line which line) = if line == 0 then [] else codes "    " ++ shown_line most_shown (from_line (line - 1) text) ++ codes "\n"
excerpt text (Entry entry) = []

-- ---- a fault or a trap

-- `:4`, or `: entry 4`; nothing where a fault has no line
unfoldable pub place_text : Place → List ℕ
place_text (Line which line) = if line == 0 then [] else codes ":" ++ decimal line
place_text (Entry entry) = codes ": entry " ++ decimal entry

-- `: error 38: a dead reference is used`
unfoldable pub reason_text : (kind : List ℕ) → (number : ℕ) → (words : List ℕ) → List ℕ
reason_text kind number words = codes ": " ++ kind ++ codes " " ++ decimal number ++ codes ": " ++ words

-- `: reference object was deleted` up to the end of the line; the end alone where no more is told
unfoldable pub detail_text : (detail : List ℕ) → List ℕ
detail_text [] = codes "\n"
detail_text (byte ∷ detail) = codes ": " ++ (byte ∷ detail) ++ codes "\n"

-- `length.c:4: error 38: a dead reference is used: reference object was deleted`, and below it that line of the text
abbrev pub told : (kind name text : List ℕ) → (number : ℕ) → Place → (words detail : List ℕ) → List ℕ
told kind name text number place words detail = name ++ place_text place ++ reason_text kind number words ++ detail_text detail ++ excerpt text place
