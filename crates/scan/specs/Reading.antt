-- What is at a place of a text, found from left to right, with the fault that is met there.
use Rattle.std.specs.Prelude.{ℕ, ◌+◌, ◌-◌, Bool, true, false, not, ◌&&◌, ◌||◌, ◌==◌, nat_lt, List, [], ◌∷◌, length, take, drop, slice_index, Option, Some, None, Result, Ok, Err, if◌then◌else◌}
use Rattle.std.specs.List.{prefix_len}
use Rattle.std.specs.Option.{option_map}
use Rattle.base.specs.Numbers.{number_limit}
use Rattle.scan.specs.declared.token.Mark.{Mark}
use Rattle.scan.specs.declared.token.Mark.TheVariants.{OpenParen, CloseParen, OpenBrace, CloseBrace, OpenBracket, CloseBracket, Semicolon, Comma, Assign, Star, Arrow, Ampersand, Bar, Caret, Tilde, Exclamation, Plus, Minus, Slash, Percent, Less, Greater, LessEqual, GreaterEqual, Equal, NotEqual, LogicalAnd, LogicalOr, ShiftLeft, ShiftRight}
use Rattle.scan.specs.declared.token.Kind.{Kind}
use Rattle.scan.specs.declared.token.Kind.TheVariants.{Name, Reserved, Number, Text, Symbol}
use Rattle.scan.specs.declared.reserved.Word.{Word}
use Rattle.scan.specs.declared.fault.ScanRule.{ScanRule}
use Rattle.scan.specs.declared.fault.ScanRule.TheVariants.{BadByte, OpenComment, BadNumber, BadText}
use Rattle.scan.specs.Words.{word_of}
use Rattle.scan.specs.Bytes.{is_blank, is_name_start, is_word, is_text, is_in_line, is_digit, base_value}

-- ---- marks

abbrev pub lookup : List (ℕ × Mark) → ℕ → Option Mark
lookup [] byte = None
lookup (row ∷ rows) byte = if byte == row.0 then Some row.1 else lookup rows byte

abbrev pub marks : List (ℕ × Mark)
marks = (40, OpenParen) ∷ (41, CloseParen) ∷ (123, OpenBrace) ∷ (125, CloseBrace) ∷ (91, OpenBracket) ∷
    (93, CloseBracket) ∷ (59, Semicolon) ∷ (44, Comma) ∷ (61, Assign) ∷ (42, Star) ∷ (38, Ampersand) ∷ (124, Bar) ∷
    (94, Caret) ∷ (126, Tilde) ∷ (33, Exclamation) ∷ (43, Plus) ∷ (45, Minus) ∷ (47, Slash) ∷ (37, Percent) ∷
    (60, Less) ∷ (62, Greater) ∷ []

abbrev pub mark_of : ℕ → Option Mark
mark_of byte = lookup marks byte

abbrev pub lookup_pair : List (ℕ × ℕ × Mark) → ℕ → ℕ → Option Mark
lookup_pair [] first second = None
lookup_pair (row ∷ rows) first second = if first == row.0 && second == row.1 then Some row.2 else lookup_pair rows first second

abbrev pub pairs : List (ℕ × ℕ × Mark)
pairs = (45, 62, Arrow) ∷ (60, 61, LessEqual) ∷ (62, 61, GreaterEqual) ∷ (61, 61, Equal) ∷ (33, 61, NotEqual) ∷
    (38, 38, LogicalAnd) ∷ (124, 124, LogicalOr) ∷ (60, 60, ShiftLeft) ∷ (62, 62, ShiftRight) ∷ []

abbrev pub pair_of : ℕ → ℕ → Option Mark
pair_of first second = lookup_pair pairs first second

-- ---- numbers

-- digits that are in order: some, and in base 10 no zero before others
abbrev pub are_formed : ℕ → List ℕ → Bool
are_formed base digits = not (length digits == 0) && not (base == 10 && nat_lt 1 (length digits) && slice_index digits 0 == 48)

abbrev pub with_suffix : ℕ → List ℕ → List ℕ → Option (ℕ × Bool)
with_suffix base digits [] = within base digits false
  where
    within : ℕ → List ℕ → Bool → Option (ℕ × Bool)
    within base digits unsigned = if are_formed base digits
        && nat_lt (base_value base 0 digits) (number_limit unsigned) then Some (base_value base 0 digits, unsigned)
        else None
with_suffix base digits (b ∷ []) = if b == 117 && are_formed base digits
    && nat_lt (base_value base 0 digits) (number_limit true) then Some (base_value base 0 digits, true) else None
with_suffix base digits (b ∷ c ∷ more) = None

unfoldable pub number_in : ℕ → List ℕ → Option (ℕ × Bool)
number_in base word = with_suffix base (take (prefix_len (is_digit base) word) word) (drop (prefix_len (is_digit base) word) word)

unfoldable pub number_of : List ℕ → Option (ℕ × Bool)
number_of [] = number_in 10 []
number_of (a ∷ []) = number_in 10 (a ∷ [])
number_of (a ∷ b ∷ digits) = if a == 48 && b == 120 then number_in 16 digits else number_in 10 (a ∷ b ∷ digits)

-- ---- pieces

-- a token's kind, or none for a blank or a comment, and how many bytes it takes
abbrev pub Piece : Type 0
Piece = Option Kind × ℕ

abbrev pub word_kind : Option Word → Kind
word_kind None = Name
word_kind (Some reserved) = Reserved reserved

unfoldable pub name_at : List ℕ → Piece
name_at text = (Some (word_kind (word_of (take (prefix_len is_word text) text))), prefix_len is_word text)

abbrev pub is_e : ℕ → Bool
is_e byte = byte == 101 || byte == 69

abbrev pub is_sign : ℕ → Bool
is_sign byte = byte == 43 || byte == 45

abbrev pub number_piece : Option (ℕ × Bool) → Bool → ℕ → Result Piece ScanRule
number_piece None glued len = Err BadNumber
number_piece (Some number) glued len = if glued then Err BadNumber else Ok (Some (Number number.1 number.0), len)

unfoldable pub number_at : List ℕ → Result Piece ScanRule
number_at text =
    let len = prefix_len is_word text in
    let word = take len text in
    number_piece (number_of word) (is_e (slice_index word (length word - 1)) && is_sign (slice_index text len)) len

unfoldable pub text_at : List ℕ → Result Piece ScanRule
text_at inside = if slice_index inside (prefix_len is_text inside) == 34 then Ok (Some Text, prefix_len is_text inside + 2) else Err BadText

abbrev pub close_len : List ℕ → Option ℕ
close_len [] = None
close_len (a ∷ []) = None
close_len (a ∷ b ∷ rest) = if a == 42 && b == 47 then Some 2 else option_map (λ n. n + 1) (close_len (b ∷ rest))

abbrev pub mark_piece : Option Mark → Option Mark → Result Piece ScanRule
mark_piece (Some pair) one = Ok (Some (Symbol pair), 2)
mark_piece None (Some mark) = Ok (Some (Symbol mark), 1)
mark_piece None None = Err BadByte

abbrev pub mark_at : ℕ → ℕ → Result Piece ScanRule
mark_at first second = mark_piece (pair_of first second) (mark_of first)

abbrev pub block_piece : Option ℕ → Result Piece ScanRule
block_piece None = Err OpenComment
block_piece (Some len) = Ok (None, len + 2)

unfoldable pub comment_or_mark : ℕ → List ℕ → Result Piece ScanRule
comment_or_mark first [] = mark_at first 0
comment_or_mark first (second ∷ inside) =
    if first == 47 && second == 42 then block_piece (close_len inside)
    else if first == 47 && second == 47 then Ok (None, prefix_len is_in_line inside + 2)
    else mark_at first second

unfoldable pub piece_at : List ℕ → Result Piece ScanRule
piece_at [] = Err BadByte
piece_at (first ∷ rest) =
    if is_blank first then Ok (None, 1)
    else if is_name_start first then Ok (name_at (first ∷ rest))
    else if is_word first then number_at (first ∷ rest)
    else if first == 34 then text_at rest
    else comment_or_mark first rest
