-- Lexemes: tokens with what they stand for and their lines, and reading single ones.
use Rattle.std.specs.Prelude.{ℕ, Bool, true, false, ◌==◌, List, [], ◌∷◌, drop, Result, Ok, Err, if◌then◌else◌}
use Rattle.scan.specs.declared.token.Token.{Token}
use Rattle.scan.specs.declared.token.Mark.{Mark}
use Rattle.scan.specs.declared.token.Mark.TheVariants as marks
use Rattle.parse_lexemes.specs.declared.fault.ParseRule.{ParseRule}
use Rattle.parse_lexemes.specs.declared.fault.ParseRule.TheVariants.{NoForm}
use Rattle.parse_lexemes.specs.declared.fault.ParseError.{ParseError}
use Rattle.parse_lexemes.specs.Faults.{breaks}
use Rattle.scan.specs.declared.reserved.Word.{Word}
use Rattle.scan.specs.declared.reserved.Word.TheVariants as words
use Rattle.parse_lexemes.specs.declared.first.Fixed.{Fixed}
use Rattle.parse_lexemes.specs.declared.first.Fixed.TheVariants as fixed
use Rattle.parse_lexemes.specs.declared.cursor.Cursor.{Cursor}
use Rattle.parse_lexemes.specs.Meaning.{Meaning, Fixed', Name', Number', Text', token_meaning}

pub record Lexed : Type 0 where
  pub meaning : Meaning
  pub line : ℕ

-- ---- the lexemes of a text

-- the lexemes of tokens, and the end after them, in the line of the last one
unfoldable pub lexemes : List ℕ → ℕ → List Token → List Lexed
lexemes text line [] = record { meaning = Fixed' fixed.End; line = line } ∷ []
lexemes text line (token ∷ tokens) = record { meaning = token_meaning text token; line = token.line } ∷ lexemes text token.line tokens

-- the lexemes that aren't read yet
unfoldable pub views : Cursor → List Lexed
views c = drop c.at (lexemes c.source.now.text.now 1 c.source.now.tokens.now)

-- ---- single lexemes

-- a number of its own for each mark, and for each word
abbrev pub mark_code : Mark → ℕ
mark_code marks.OpenParen = 0
mark_code marks.CloseParen = 1
mark_code marks.OpenBrace = 2
mark_code marks.CloseBrace = 3
mark_code marks.OpenBracket = 4
mark_code marks.CloseBracket = 5
mark_code marks.Semicolon = 6
mark_code marks.Comma = 7
mark_code marks.Assign = 8
mark_code marks.Star = 9
mark_code marks.Arrow = 10
mark_code marks.Ampersand = 11
mark_code marks.Bar = 12
mark_code marks.Caret = 13
mark_code marks.Tilde = 14
mark_code marks.Exclamation = 15
mark_code marks.Plus = 16
mark_code marks.Minus = 17
mark_code marks.Slash = 18
mark_code marks.Percent = 19
mark_code marks.Less = 20
mark_code marks.Greater = 21
mark_code marks.LessEqual = 22
mark_code marks.GreaterEqual = 23
mark_code marks.Equal = 24
mark_code marks.NotEqual = 25
mark_code marks.LogicalAnd = 26
mark_code marks.LogicalOr = 27
mark_code marks.ShiftLeft = 28
mark_code marks.ShiftRight = 29

abbrev pub word_code : Word → ℕ
word_code words.Static = 0
word_code words.Const = 1
word_code words.Void = 2
word_code words.If = 3
word_code words.Else = 4
word_code words.While = 5
word_code words.Return = 6
word_code words.JniExport = 7
word_code words.JniCall = 8
word_code words.JniEnv = 9
word_code words.Env = 10
word_code words.PutJint = 11
word_code words.Uint32 = 12
word_code words.Jint = 13
word_code words.Jsize = 14
word_code words.Jboolean = 15
word_code words.Jshort = 16
word_code words.Jbyte = 17
word_code words.Jchar = 18
word_code words.JfieldId = 19
word_code words.Jobject = 20
word_code words.Jclass = 21
word_code words.Jstring = 22
word_code words.Jarray = 23
word_code words.Jthrowable = 24
word_code words.JintArray = 25
word_code words.JshortArray = 26
word_code words.JbyteArray = 27
word_code words.JcharArray = 28
word_code words.JobjectArray = 29
word_code words.JniTrue = 30
word_code words.JniFalse = 31
word_code words.JniCommit = 32
word_code words.JniAbort = 33
word_code words.Null = 34
word_code words.Unused = 35
word_code words.Jweak = 36
word_code words.JmethodId = 37

abbrev pub same_mark : Mark → Mark → Bool
same_mark a b = mark_code a == mark_code b

abbrev pub same_word : Word → Word → Bool
same_word a b = word_code a == word_code b

abbrev pub same_fixed : Fixed → Fixed → Bool
same_fixed (fixed.Mark a) (fixed.Mark b) = same_mark a b
same_fixed (fixed.Mark a) (fixed.Word b) = false
same_fixed (fixed.Mark a) fixed.End = false
same_fixed (fixed.Word a) (fixed.Mark b) = false
same_fixed (fixed.Word a) (fixed.Word b) = same_word a b
same_fixed (fixed.Word a) fixed.End = false
same_fixed fixed.End (fixed.Mark b) = false
same_fixed fixed.End (fixed.Word b) = false
same_fixed fixed.End fixed.End = true

abbrev pub is_fixed_meaning : Meaning → Fixed → Bool
is_fixed_meaning (Fixed' found) f = same_fixed found f
is_fixed_meaning (Name' bytes) f = false
is_fixed_meaning (Number' value unsigned) f = false
is_fixed_meaning (Text' bytes) f = false

abbrev pub is_fixed : Lexed → Fixed → Bool
is_fixed l f = is_fixed_meaning l.meaning f

abbrev pub line_at : List Lexed → ℕ
line_at [] = 0
line_at (l ∷ ls) = l.line

abbrev pub fault_at : ParseRule → List Lexed → ParseError
fault_at rule ls = breaks rule (line_at ls)

-- ---- reading single lexemes

unfoldable pub expect : Fixed → List Lexed → Result (List Lexed) ParseError
expect f [] = Err (breaks NoForm 0)
expect f (l ∷ ls) = if is_fixed l f then Ok ls else Err (breaks NoForm l.line)

abbrev pub name_in : Meaning → ℕ → List Lexed → Result (List ℕ × List Lexed) ParseError
name_in (Fixed' found) line ls = Err (breaks NoForm line)
name_in (Name' bytes) line ls = Ok (bytes, ls)
name_in (Number' value unsigned) line ls = Err (breaks NoForm line)
name_in (Text' bytes) line ls = Err (breaks NoForm line)

unfoldable pub name_at : List Lexed → Result (List ℕ × List Lexed) ParseError
name_at [] = Err (breaks NoForm 0)
name_at (l ∷ ls) = name_in l.meaning l.line ls
