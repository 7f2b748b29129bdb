-- What a token stands for, by the bytes that it has.
use Rattle.std.specs.Prelude.{ℕ, ◌-◌, Bool, List, [], ◌∷◌, length, take, slice_range}
use Rattle.scan.specs.declared.token.Token.{Token}
use Rattle.scan.specs.declared.token.Kind.{Kind}
use Rattle.scan.specs.declared.token.Kind.TheVariants as kinds
use Rattle.parse_lexemes.specs.declared.first.Fixed.{Fixed}
use Rattle.parse_lexemes.specs.declared.first.Fixed.TheVariants as fixed

-- a mark or a reserved word, which stand for themselves, or a name, a number or a string
pub data Meaning : Type 0 where
  Fixed' : Fixed → Meaning
  Name' : List ℕ → Meaning
  Number' : (value : ℕ) (unsigned : Bool) → Meaning
  Text' : List ℕ → Meaning

-- what is between the quotes of a string
abbrev pub between_quotes : List ℕ → List ℕ
between_quotes [] = []
between_quotes (quote ∷ rest) = take (length rest - 1) rest

-- what a token of this kind with these bytes stands for
abbrev pub meaning_of : Kind → List ℕ → Meaning
meaning_of kinds.Name bytes = Name' bytes
meaning_of (kinds.Reserved word) bytes = Fixed' (fixed.Word word)
meaning_of (kinds.Number unsigned value) bytes = Number' value unsigned
meaning_of kinds.Text bytes = Text' (between_quotes bytes)
meaning_of (kinds.Symbol mark) bytes = Fixed' (fixed.Mark mark)

-- what a token of a text stands for
unfoldable pub token_meaning : List ℕ → Token → Meaning
token_meaning text token = meaning_of token.kind (slice_range text token.start token.end)
