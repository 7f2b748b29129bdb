-- Which tokens a text spells (ISO/IEC 9899:1999, 6.4).
use Rattle.std.specs.Prelude.{◌≡◌, ◌≢◌, ℕ, ◌+◌, ◌-◌, ◌<◌, ◌≤◌, Bool, true, false, IsTrue, List, [], ◌∷◌, ◌++◌, length, take, drop, slice_index, ◌⊎◌, count_by, ◌==◌, Some, None}
use Rattle.std.specs.List.{prefix_len}
use Rattle.base.specs.Numbers.{number_limit}
use Rattle.scan.specs.declared.token.Mark.{Mark}
use Rattle.scan.specs.declared.token.Mark.TheVariants.{OpenParen, CloseParen, OpenBrace, CloseBrace, OpenBracket, CloseBracket, Semicolon, Comma, Assign, Star, Arrow, Ampersand, Bar, Caret, Tilde, Exclamation, Plus, Minus, Slash, Percent, Less, Greater, LessEqual, GreaterEqual, Equal, NotEqual, LogicalAnd, LogicalOr, ShiftLeft, ShiftRight}
use Rattle.scan.specs.declared.token.Kind.{Kind}
use Rattle.scan.specs.declared.token.Kind.TheVariants.{Name, Reserved, Number, Text, Symbol}
use Rattle.scan.specs.declared.token.Token.{Token}
use Rattle.scan.specs.Words.{word_of}
use Rattle.scan.specs.Bytes.{is_blank, is_name_start, is_word, is_text, is_in_line, is_digit, base_value}

-- every byte is of this class
abbrev pub Every : (ℕ → Bool) → List ℕ → Type 0
Every is [] = Unit {0}
Every is (byte ∷ bytes) = IsTrue (is byte) × Every is bytes

-- ---- what a token of each kind looks like

abbrev pub mark_bytes : Mark → List ℕ
mark_bytes OpenParen = 40 ∷ []
mark_bytes CloseParen = 41 ∷ []
mark_bytes OpenBrace = 123 ∷ []
mark_bytes CloseBrace = 125 ∷ []
mark_bytes OpenBracket = 91 ∷ []
mark_bytes CloseBracket = 93 ∷ []
mark_bytes Semicolon = 59 ∷ []
mark_bytes Comma = 44 ∷ []
mark_bytes Assign = 61 ∷ []
mark_bytes Star = 42 ∷ []
mark_bytes Arrow = 45 ∷ 62 ∷ []
mark_bytes Ampersand = 38 ∷ []
mark_bytes Bar = 124 ∷ []
mark_bytes Caret = 94 ∷ []
mark_bytes Tilde = 126 ∷ []
mark_bytes Exclamation = 33 ∷ []
mark_bytes Plus = 43 ∷ []
mark_bytes Minus = 45 ∷ []
mark_bytes Slash = 47 ∷ []
mark_bytes Percent = 37 ∷ []
mark_bytes Less = 60 ∷ []
mark_bytes Greater = 62 ∷ []
mark_bytes LessEqual = 60 ∷ 61 ∷ []
mark_bytes GreaterEqual = 62 ∷ 61 ∷ []
mark_bytes Equal = 61 ∷ 61 ∷ []
mark_bytes NotEqual = 33 ∷ 61 ∷ []
mark_bytes LogicalAnd = 38 ∷ 38 ∷ []
mark_bytes LogicalOr = 124 ∷ 124 ∷ []
mark_bytes ShiftLeft = 60 ∷ 60 ∷ []
mark_bytes ShiftRight = 62 ∷ 62 ∷ []

-- a letter or underscore, and then letters, underscores and digits
abbrev pub IsName : List ℕ → Type 0
IsName [] = ⊥
IsName (byte ∷ bytes) = IsTrue (is_name_start byte) × Every is_word bytes

-- 0x comes before the digits of base 16, and nothing before those of base 10
abbrev pub IsBaseSign : ℕ → List ℕ → Type 0
IsBaseSign base sign = ((base ≡ 10) × (sign ≡ [])) ⊎ ((base ≡ 16) × (sign ≡ 48 ∷ 120 ∷ []))

-- at least one digit, and in base 10 no zero before others
abbrev pub IsDigits : ℕ → List ℕ → Type 0
IsDigits base [] = ⊥
IsDigits base (first ∷ digits) = Every (is_digit base) (first ∷ digits) × (base ≡ 10 → first ≡ 48 → digits ≡ [])

abbrev pub suffix : Bool → List ℕ
suffix false = []
suffix true = 117 ∷ []

-- digits of one of the two bases, then perhaps u
pub record IsNumber (word : List ℕ) (value : ℕ) (unsigned : Bool) : Type 0 where
  pub base : ℕ
  pub sign : List ℕ
  pub digits : List ℕ
  pub based : IsBaseSign base sign
  pub formed : IsDigits base digits
  pub parts : word ≡ sign ++ (digits ++ suffix unsigned)
  pub value_is : value ≡ base_value base 0 digits
  pub small : value < number_limit unsigned

-- a string: two quotes, and what is between them
abbrev pub IsQuoted : List ℕ → Type 0
IsQuoted word = (inside : List ℕ) × Every is_text inside × (word ≡ 34 ∷ (inside ++ 34 ∷ []))

abbrev pub IsLexeme : Kind → List ℕ → Type 0
IsLexeme Name word = IsName word × (word_of word ≡ None)
IsLexeme (Reserved reserved) word = IsName word × (word_of word ≡ Some reserved)
IsLexeme (Number unsigned value) word = IsNumber word value unsigned
IsLexeme Text word = IsQuoted word
IsLexeme (Symbol mark) word = word ≡ mark_bytes mark

-- ---- what may come after a token

-- No letter, digit or underscore comes right after a number, nor a sign after one that ends in e.
abbrev pub IsApart : Kind → List ℕ → List ℕ → Type 0
IsApart Name word rest = Unit {0}
IsApart (Reserved reserved) word rest = Unit {0}
IsApart (Number unsigned value) word rest =
    IsFreeOf rest × (EndsInE word → (slice_index rest 0 ≢ 43) × (slice_index rest 0 ≢ 45))
  where
    IsFreeOf : List ℕ → Type 0
    IsFreeOf rest = is_word (slice_index rest 0) ≡ false

    EndsInE : List ℕ → Type 0
    EndsInE word = (slice_index word (length word - 1) ≡ 101) ⊎ (slice_index word (length word - 1) ≡ 69)
IsApart Text word rest = Unit {0}
IsApart (Symbol mark) word rest = Unit {0}

-- ---- comments

-- The first end of a comment is at the end of these bytes.
abbrev pub IsClosed : List ℕ → Type 0
IsClosed bytes = (inside : List ℕ) × (bytes ≡ inside ++ 42 ∷ 47 ∷ []) × ((front back : List ℕ) → inside ++ 42 ∷ [] ≢ front ++ 42 ∷ 47 ∷ back)

-- two bytes that begin a comment
abbrev pub BeginsComment : List ℕ → Type 0
BeginsComment text = (slice_index text 0 ≡ 47) × ((slice_index text 1 ≡ 42) ⊎ (slice_index text 1 ≡ 47))

-- the first n bytes are a blank or a comment: up to its first end, or up to the end of the line
abbrev pub IsGap : List ℕ → ℕ → Type 0
IsGap text n = IsBlank ⊎ (IsBlock ⊎ IsLine)
  where
    IsBlank : Type 0
    IsBlank = (byte : ℕ) × (rest : List ℕ) × (text ≡ byte ∷ rest) × IsTrue (is_blank byte) × (n ≡ 1)

    IsBlock : Type 0
    IsBlock = (body rest : List ℕ) × (text ≡ 47 ∷ 42 ∷ (body ++ rest)) × IsClosed body × (n ≡ length body + 2)

    IsLine : Type 0
    IsLine = (rest : List ℕ) × (text ≡ 47 ∷ 47 ∷ rest) × (n ≡ prefix_len is_in_line rest + 2)

-- The first n bytes are a token of this kind. It is the longest that begins there, where no comment begins.
pub record IsToken (kind : Kind) (text : List ℕ) (n : ℕ) : Type 0 where
  pub within : n ≤ length text
  pub form : IsLexeme kind (take n text)
  pub longest : (other : Kind) (m : ℕ) → m ≤ length text → IsLexeme other (take m text) → m ≤ n
  pub no_comment : BeginsComment text → ⊥
  pub apart : IsApart kind (take n text) (drop n text)

-- how many lines end in these bytes
abbrev pub line_ends : List ℕ → ℕ
line_ends bytes = count_by (λ byte. byte == 10) bytes

-- the line of a place, counted from 1
abbrev pub line_of : List ℕ → ℕ → ℕ
line_of text place = line_ends (take place text) + 1

-- a token of this kind in n bytes of the text, from a place on
abbrev pub token_at : List ℕ → ℕ → Kind → ℕ → Token
token_at text at kind n = record { kind = kind; line = line_of text at; start = at; end = at + n }

-- From a place on, the text is these tokens, and blanks and comments between them.
pub data SpellsFrom (text : List ℕ) : ℕ → List Token → Type 0 where
  ends : {at : ℕ} → at ≡ length text → SpellsFrom text at []
  passes : {at : ℕ} {tokens : List Token} (n : ℕ) → IsGap (drop at text) n → SpellsFrom text (at + n) tokens → SpellsFrom text at tokens
  takes : {at : ℕ} {tokens : List Token} (kind : Kind) (n : ℕ) → IsToken kind (drop at text) n
      → SpellsFrom text (at + n) tokens → SpellsFrom text at (token_at text at kind n ∷ tokens)

abbrev pub Spells : List ℕ → List Token → Type 0
Spells text tokens = SpellsFrom text 0 tokens
