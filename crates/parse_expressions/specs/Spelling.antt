-- How expressions and calls are spelled in tokens.
use Rattle.std.specs.Prelude.{false, List, [], ◌∷◌, ◌++◌, flat_map}
use Rattle.base.specs.Bytes.{Identifier}
use Rattle.scan.specs.declared.token.Mark.{Mark}
use Rattle.scan.specs.declared.token.Mark.TheVariants as marks
use Rattle.syntax.specs.declared.expr.PrefixOp.{PrefixOp}
use Rattle.syntax.specs.declared.expr.PrefixOp.TheVariants.{LogicalNot, Complement, ToWord, ToInt}
use Rattle.syntax.specs.declared.expr.BinaryOp.{BinaryOp}
use Rattle.syntax.specs.declared.expr.BinaryOp.TheVariants.{LogicalOr, LogicalAnd, BitOr, BitXor, BitAnd, Equal, NotEqual, Less, LessEqual, Greater, GreaterEqual, ShiftLeft, ShiftRight, Add, Subtract, Multiply, Divide, Remainder}
use Rattle.syntax.specs.Tree.{Expr, Number, Named, Variable, Element, Prefix, Binary, Paren, Argument, Value, Text, AddressOf, Call, RightSide, FromExpr, FromCall, Test, TestExpr, TestCall}
use Rattle.scan.specs.declared.reserved.Word.TheVariants as words
use Rattle.parse_lexemes.specs.Meaning.{Number', Text'}
use Rattle.parse_lexemes.specs.Spelling.{Spelled, mark, word, name, constant_word, Anywhere}

-- a prefix; a cast is a type in parentheses
abbrev pub prefix_tokens : PrefixOp → List Spelled
prefix_tokens LogicalNot = mark marks.Exclamation ∷ []
prefix_tokens Complement = mark marks.Tilde ∷ []
prefix_tokens ToWord = mark marks.OpenParen ∷ word words.Uint32 ∷ mark marks.CloseParen ∷ []
prefix_tokens ToInt = mark marks.OpenParen ∷ word words.Jint ∷ mark marks.CloseParen ∷ []

abbrev pub operator_mark : BinaryOp → Mark
operator_mark LogicalOr = marks.LogicalOr
operator_mark LogicalAnd = marks.LogicalAnd
operator_mark BitOr = marks.Bar
operator_mark BitXor = marks.Caret
operator_mark BitAnd = marks.Ampersand
operator_mark Equal = marks.Equal
operator_mark NotEqual = marks.NotEqual
operator_mark Less = marks.Less
operator_mark LessEqual = marks.LessEqual
operator_mark Greater = marks.Greater
operator_mark GreaterEqual = marks.GreaterEqual
operator_mark ShiftLeft = marks.ShiftLeft
operator_mark ShiftRight = marks.ShiftRight
operator_mark Add = marks.Plus
operator_mark Subtract = marks.Minus
operator_mark Multiply = marks.Star
operator_mark Divide = marks.Slash
operator_mark Remainder = marks.Percent

-- ---- expressions and calls

abbrev pub expression : Expr → List Spelled
expression (Number n unsigned) = Anywhere (Number' n unsigned) ∷ []
expression (Named c) = word (constant_word c) ∷ []
expression (Variable x) = name x ∷ []
expression (Element x i) = name x ∷ mark marks.OpenBracket ∷ (expression i ++ mark marks.CloseBracket ∷ [])
expression (Prefix op a) = prefix_tokens op ++ expression a
expression (Binary op a b) = expression a ++ mark (operator_mark op) ∷ expression b
expression (Paren a) = mark marks.OpenParen ∷ (expression a ++ mark marks.CloseParen ∷ [])

abbrev pub argument : Argument → List Spelled
argument (Value e) = expression e
argument (Text bytes) = Anywhere (Text' bytes) ∷ []
argument (AddressOf x) = mark marks.Ampersand ∷ name x ∷ []

-- (*env)->f(env, a, b)
abbrev pub call : Call → List Spelled
call c =
    mark marks.OpenParen ∷ mark marks.Star ∷ word words.Env ∷ mark marks.CloseParen ∷ mark marks.Arrow ∷ name c.function
    ∷ mark marks.OpenParen ∷ word words.Env ∷ (flat_map (λ a. mark marks.Comma ∷ argument a) c.arguments ++ mark marks.CloseParen ∷ [])

abbrev pub right : RightSide → List Spelled
right (FromExpr e) = expression e
right (FromCall c) = call c

-- a call is tested for 0
abbrev pub test_tokens : Test → List Spelled
test_tokens (TestExpr e) = expression e
test_tokens (TestCall c) = call c ++ mark marks.Equal ∷ Anywhere (Number' 0 false) ∷ []

-- ---- statements

-- x = r;
abbrev pub setting : Identifier → RightSide → List Spelled
setting x r = name x ∷ mark marks.Assign ∷ (right r ++ mark marks.Semicolon ∷ [])
