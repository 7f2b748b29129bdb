-- Bytes with which one mark begins and nothing else.
use Rattle.std.proofs.Common.{◌≡◌, ℕ, List, [], ◌∷◌, Some, Result, Ok, refl}
use Rattle.scan.specs.declared.token.Mark.{Mark}
use Rattle.scan.specs.declared.token.Mark.TheVariants.{OpenParen, CloseParen, OpenBrace, CloseBrace, OpenBracket, CloseBracket, Semicolon, Comma, Star, Caret, Tilde, Plus, Percent}
use Rattle.scan.specs.declared.token.Kind.TheVariants.{Symbol}
use Rattle.scan.specs.declared.fault.ScanRule.{ScanRule}
use Rattle.scan.specs.Reading.{Piece, piece_at, comment_or_mark}

abbrev lone : Mark → Result Piece ScanRule
lone mark = Ok (Some (Symbol mark), 1)

pub open_paren : (rest : List ℕ) → piece_at (40 ∷ rest) ≡ lone OpenParen
unfolding piece_at comment_or_mark
open_paren [] = refl
open_paren (second ∷ rest) = refl

pub close_paren : (rest : List ℕ) → piece_at (41 ∷ rest) ≡ lone CloseParen
unfolding piece_at comment_or_mark
close_paren [] = refl
close_paren (second ∷ rest) = refl

pub open_brace : (rest : List ℕ) → piece_at (123 ∷ rest) ≡ lone OpenBrace
unfolding piece_at comment_or_mark
open_brace [] = refl
open_brace (second ∷ rest) = refl

pub close_brace : (rest : List ℕ) → piece_at (125 ∷ rest) ≡ lone CloseBrace
unfolding piece_at comment_or_mark
close_brace [] = refl
close_brace (second ∷ rest) = refl

pub open_bracket : (rest : List ℕ) → piece_at (91 ∷ rest) ≡ lone OpenBracket
unfolding piece_at comment_or_mark
open_bracket [] = refl
open_bracket (second ∷ rest) = refl

pub close_bracket : (rest : List ℕ) → piece_at (93 ∷ rest) ≡ lone CloseBracket
unfolding piece_at comment_or_mark
close_bracket [] = refl
close_bracket (second ∷ rest) = refl

pub semicolon : (rest : List ℕ) → piece_at (59 ∷ rest) ≡ lone Semicolon
unfolding piece_at comment_or_mark
semicolon [] = refl
semicolon (second ∷ rest) = refl

pub comma : (rest : List ℕ) → piece_at (44 ∷ rest) ≡ lone Comma
unfolding piece_at comment_or_mark
comma [] = refl
comma (second ∷ rest) = refl

pub star : (rest : List ℕ) → piece_at (42 ∷ rest) ≡ lone Star
unfolding piece_at comment_or_mark
star [] = refl
star (second ∷ rest) = refl

pub caret : (rest : List ℕ) → piece_at (94 ∷ rest) ≡ lone Caret
unfolding piece_at comment_or_mark
caret [] = refl
caret (second ∷ rest) = refl

pub tilde : (rest : List ℕ) → piece_at (126 ∷ rest) ≡ lone Tilde
unfolding piece_at comment_or_mark
tilde [] = refl
tilde (second ∷ rest) = refl

pub plus : (rest : List ℕ) → piece_at (43 ∷ rest) ≡ lone Plus
unfolding piece_at comment_or_mark
plus [] = refl
plus (second ∷ rest) = refl

pub percent : (rest : List ℕ) → piece_at (37 ∷ rest) ≡ lone Percent
unfolding piece_at comment_or_mark
percent [] = refl
percent (second ∷ rest) = refl

pub ruleset lone_marks = (open_paren, close_paren, open_brace, close_brace, open_bracket, close_bracket, semicolon, comma, star, caret, tilde, plus, percent)
