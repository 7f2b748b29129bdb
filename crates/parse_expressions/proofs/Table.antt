-- What the proofs need of the table of operators.
use Rattle.std.proofs.Common.{◌≡◌, ◌<◌, false, List, [], ◌∷◌, Some, None, refl, sym, ap, ◌∙◌, arith}
use Rattle.std.proofs.lemmas.Bool.{false_from_ne_true}
use Rattle.scan.specs.declared.token.Mark.{Mark}
use Rattle.scan.specs.declared.token.Mark.TheVariants as marks
use Rattle.syntax.specs.declared.expr.BinaryOp.{BinaryOp}
use Rattle.syntax.specs.declared.expr.BinaryOp.TheVariants.{LogicalOr, LogicalAnd, BitOr, BitXor, BitAnd, Equal, NotEqual, Less, LessEqual, Greater, GreaterEqual, ShiftLeft, ShiftRight, Add, Subtract, Multiply, Divide, Remainder}
use Rattle.syntax.specs.Limits.{operator_level, prefix_level}
use Rattle.parse_lexemes.specs.declared.first.Fixed.TheVariants as fixed
use Rattle.parse_lexemes.specs.Meaning.{Meaning, Fixed', Name', Number', Text'}
use Rattle.parse_lexemes.specs.Lexemes.{Lexed, same_mark, is_fixed_meaning}
use Rattle.parse_lexemes.specs.Spelling.{Spelled, Anywhere, mark}
use Rattle.parse_expressions.specs.Spelling.{operator_mark}
use Rattle.parse_lexemes.specs.Reading.{starts_with, rest_of}
use Rattle.parse_expressions.specs.Reading.{binary_of_mark, binary_of, operator_at}
use Rattle.parse_lexemes.proofs.Singles.{Begins, first_is, starts_takes}

pub level_small : (op : BinaryOp) → operator_level op < prefix_level
level_small LogicalOr = omega arith
level_small LogicalAnd = omega arith
level_small BitOr = omega arith
level_small BitXor = omega arith
level_small BitAnd = omega arith
level_small Equal = omega arith
level_small NotEqual = omega arith
level_small Less = omega arith
level_small LessEqual = omega arith
level_small Greater = omega arith
level_small GreaterEqual = omega arith
level_small ShiftLeft = omega arith
level_small ShiftRight = omega arith
level_small Add = omega arith
level_small Subtract = omega arith
level_small Multiply = omega arith
level_small Divide = omega arith
level_small Remainder = omega arith

mark_again : (op : BinaryOp) → binary_of_mark (operator_mark op) ≡ Some op
mark_again LogicalOr = refl
mark_again LogicalAnd = refl
mark_again BitOr = refl
mark_again BitXor = refl
mark_again BitAnd = refl
mark_again Equal = refl
mark_again NotEqual = refl
mark_again Less = refl
mark_again LessEqual = refl
mark_again Greater = refl
mark_again GreaterEqual = refl
mark_again ShiftLeft = refl
mark_again ShiftRight = refl
mark_again Add = refl
mark_again Subtract = refl
mark_again Multiply = refl
mark_again Divide = refl
mark_again Remainder = refl

mark_is : (m : Mark) (op : BinaryOp) → binary_of_mark m ≡ Some op → m ≡ operator_mark op
mark_is marks.LogicalOr op e = let f : LogicalOr ≡ op = cc in ap operator_mark f
mark_is marks.LogicalAnd op e = let f : LogicalAnd ≡ op = cc in ap operator_mark f
mark_is marks.Bar op e = let f : BitOr ≡ op = cc in ap operator_mark f
mark_is marks.Caret op e = let f : BitXor ≡ op = cc in ap operator_mark f
mark_is marks.Ampersand op e = let f : BitAnd ≡ op = cc in ap operator_mark f
mark_is marks.Equal op e = let f : Equal ≡ op = cc in ap operator_mark f
mark_is marks.NotEqual op e = let f : NotEqual ≡ op = cc in ap operator_mark f
mark_is marks.Less op e = let f : Less ≡ op = cc in ap operator_mark f
mark_is marks.LessEqual op e = let f : LessEqual ≡ op = cc in ap operator_mark f
mark_is marks.Greater op e = let f : Greater ≡ op = cc in ap operator_mark f
mark_is marks.GreaterEqual op e = let f : GreaterEqual ≡ op = cc in ap operator_mark f
mark_is marks.ShiftLeft op e = let f : ShiftLeft ≡ op = cc in ap operator_mark f
mark_is marks.ShiftRight op e = let f : ShiftRight ≡ op = cc in ap operator_mark f
mark_is marks.Plus op e = let f : Add ≡ op = cc in ap operator_mark f
mark_is marks.Minus op e = let f : Subtract ≡ op = cc in ap operator_mark f
mark_is marks.Star op e = let f : Multiply ≡ op = cc in ap operator_mark f
mark_is marks.Slash op e = let f : Divide ≡ op = cc in ap operator_mark f
mark_is marks.Percent op e = let f : Remainder ≡ op = cc in ap operator_mark f
mark_is _ op e = absurd cc

meaning_is : (m : Meaning) (op : BinaryOp) → binary_of m ≡ Some op → m ≡ Fixed' (fixed.Mark (operator_mark op))
meaning_is (Fixed' (fixed.Mark m)) op e = ap (λ (k : Mark). Fixed' (fixed.Mark k)) (mark_is m op e)
meaning_is (Fixed' (fixed.Word w)) op e = absurd cc
meaning_is (Fixed' fixed.End) op e = absurd cc
meaning_is (Name' bytes) op e = absurd cc
meaning_is (Number' value unsigned) op e = absurd cc
meaning_is (Text' bytes) op e = absurd cc

pub operator_is : (op : BinaryOp) (ls : List Lexed) → operator_at ls ≡ Some op → Begins (mark (operator_mark op) ∷ []) ls (rest_of ls)
operator_is op [] e = absurd cc
operator_is op (l ∷ ls) e = (meaning_is l.meaning op e, refl)

pub operator_again : (op : BinaryOp) (es : List Spelled) (ls rest : List Lexed) → Begins (mark (operator_mark op) ∷ es) ls rest → operator_at ls ≡ Some op
operator_again op es [] rest h = absurd h
operator_again op es (l ∷ ls) rest h = ap binary_of h.0 ∙ mark_again op

pub operator_first : (m : Meaning) (es : List Spelled) (ls rest : List Lexed) → Begins (Anywhere m ∷ es) ls rest → operator_at ls ≡ binary_of m
operator_first m es [] rest h = absurd h
operator_first m es (l ∷ ls) rest h = ap binary_of h.0

-- ---- what may come after an expression

-- no index
abbrev pub NoIndex : List Lexed → Type 0
NoIndex ls = starts_with (fixed.Mark marks.OpenBracket) ls ≡ false

-- nothing that goes on from an expression
pub record Closes (ls : List Lexed) : Type 0 where
  pub none : operator_at ls ≡ None
  pub index : NoIndex ls

pub closes : (m : Meaning) → binary_of m ≡ None → is_fixed_meaning m (fixed.Mark marks.OpenBracket) ≡ false → (es : List Spelled) (ls rest : List Lexed) → Begins (Anywhere m ∷ es) ls rest → Closes ls
closes m none index es ls rest h = record { none = operator_first m es ls rest h ∙ none; index = first_is m es ls rest (fixed.Mark marks.OpenBracket) h ∙ index }

pub closes_mark : (m : Mark) → binary_of_mark m ≡ None → same_mark m marks.OpenBracket ≡ false → (es : List Spelled) (ls rest : List Lexed) → Begins (mark m ∷ es) ls rest → Closes ls
closes_mark m none index es ls rest h = closes (Fixed' (fixed.Mark m)) none index es ls rest h

-- no operator is a bracket
pub operator_no_index : (op : BinaryOp) (ls : List Lexed) → operator_at ls ≡ Some op → NoIndex ls
operator_no_index op ls e = false_from_ne_true _ (λ s.
    let f : operator_at ls ≡ None = operator_first (Fixed' (fixed.Mark marks.OpenBracket)) [] ls (rest_of ls) (starts_takes (fixed.Mark marks.OpenBracket) ls s) in
    let g : Some op ≡ None = sym e ∙ f in
    absurd cc)
