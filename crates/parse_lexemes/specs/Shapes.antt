-- What lexemes stand for, but for the bytes of names and strings.
use Rattle.std.specs.Prelude.{◌≡◌, ℕ, Bool, true, false, nat_lt, List, [], ◌∷◌, length, Option, Some, None, if◌then◌else◌}
use Rattle.scan.specs.declared.token.Token.{Token}
use Rattle.scan.specs.declared.token.Kind.{Kind}
use Rattle.scan.specs.declared.token.Kind.TheVariants as kinds
use Rattle.scan.specs.declared.token.Mark.{Mark}
use Rattle.scan.specs.declared.reserved.Word.{Word}
use Rattle.parse_lexemes.specs.declared.first.Fixed.{Fixed}
use Rattle.parse_lexemes.specs.declared.first.Fixed.TheVariants as fixed
use Rattle.parse_lexemes.specs.declared.first.Shape.{Shape}
use Rattle.parse_lexemes.specs.declared.first.Shape.TheVariants as shapes
use Rattle.parse_lexemes.specs.Meaning.{Meaning, Fixed', Name', Number', Text', between_quotes}
use Rattle.parse_lexemes.specs.Lexemes.{Lexed, same_fixed}

abbrev pub shape_of_kind : Kind → Shape
shape_of_kind kinds.Name = shapes.Name
shape_of_kind (kinds.Reserved word) = shapes.Fixed (fixed.Word word)
shape_of_kind (kinds.Number unsigned value) = shapes.Number unsigned value
shape_of_kind kinds.Text = shapes.Text
shape_of_kind (kinds.Symbol mark) = shapes.Fixed (fixed.Mark mark)

abbrev pub shape_of : Meaning → Shape
shape_of (Fixed' f) = shapes.Fixed f
shape_of (Name' bytes) = shapes.Name
shape_of (Number' value unsigned) = shapes.Number unsigned value
shape_of (Text' bytes) = shapes.Text

-- of the first lexeme
abbrev pub shape_at : List Lexed → Shape
shape_at [] = shapes.Nothing
shape_at (l ∷ ls) = shape_of l.meaning

abbrev pub is_shape : Shape → Fixed → Bool
is_shape (shapes.Fixed found) f = same_fixed found f
is_shape shapes.Name f = false
is_shape (shapes.Number unsigned value) f = false
is_shape shapes.Text f = false
is_shape shapes.Nothing f = false

abbrev pub mark_of_shape : Shape → Option Mark
mark_of_shape (shapes.Fixed (fixed.Mark mark)) = Some mark
mark_of_shape (shapes.Fixed (fixed.Word word)) = None
mark_of_shape (shapes.Fixed fixed.End) = None
mark_of_shape shapes.Name = None
mark_of_shape (shapes.Number unsigned value) = None
mark_of_shape shapes.Text = None
mark_of_shape shapes.Nothing = None

abbrev pub word_of_shape : Shape → Option Word
word_of_shape (shapes.Fixed (fixed.Word word)) = Some word
word_of_shape (shapes.Fixed (fixed.Mark mark)) = None
word_of_shape (shapes.Fixed fixed.End) = None
word_of_shape shapes.Name = None
word_of_shape (shapes.Number unsigned value) = None
word_of_shape shapes.Text = None
word_of_shape shapes.Nothing = None

abbrev pub is_name_shape : Shape → Bool
is_name_shape shapes.Name = true
is_name_shape (shapes.Fixed found) = false
is_name_shape (shapes.Number unsigned value) = false
is_name_shape shapes.Text = false
is_name_shape shapes.Nothing = false

-- the line of the last of these tokens, or this one
abbrev pub line_of_last : ℕ → List Token → ℕ
line_of_last line [] = line
line_of_last line (token ∷ tokens) = line_of_last token.line tokens

-- the line of the end after these tokens; there is none after it
abbrev pub line_of_end : List Token → ℕ → ℕ
line_of_end tokens at = if nat_lt (length tokens) at then 0 else line_of_last 1 tokens

-- These are the bytes of the first lexeme, where it is a name, or a string with its quotes.
abbrev pub IsNameIn : List ℕ → Meaning → Type 0
IsNameIn bytes (Name' found) = bytes ≡ found
IsNameIn bytes (Fixed' f) = Unit {0}
IsNameIn bytes (Number' value unsigned) = Unit {0}
IsNameIn bytes (Text' found) = Unit {0}

abbrev pub IsTextIn : List ℕ → Meaning → Type 0
IsTextIn bytes (Text' found) = between_quotes bytes ≡ found
IsTextIn bytes (Fixed' f) = Unit {0}
IsTextIn bytes (Name' found) = Unit {0}
IsTextIn bytes (Number' value unsigned) = Unit {0}

abbrev pub IsNameOf : List ℕ → List Lexed → Type 0
IsNameOf bytes [] = Unit {0}
IsNameOf bytes (l ∷ ls) = IsNameIn bytes l.meaning

abbrev pub IsTextOf : List ℕ → List Lexed → Type 0
IsTextOf bytes [] = Unit {0}
IsTextOf bytes (l ∷ ls) = IsTextIn bytes l.meaning
