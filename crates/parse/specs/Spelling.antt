-- How a tree is spelled in tokens, and which tree a text spells.
use Rattle.std.specs.Prelude.{◌≡◌, ℕ, List, [], ◌∷◌, ◌++◌, flat_map}
use Rattle.std.specs.List.{AllZip}
use Rattle.scan.specs.declared.token.Token.{Token}
use Rattle.scan.specs.declared.token.Mark.TheVariants as marks
use Rattle.scan.specs.Spelling.{Spells}
use Rattle.syntax.specs.declared.expr.Constant.TheVariants.{Null}
use Rattle.syntax.specs.Tree.{Parameter, Function, Item, StaticItem, FunctionItem, SourceUnit}
use Rattle.syntax.specs.Limits.{IsTree}
use Rattle.scan.specs.declared.reserved.Word.TheVariants as words
use Rattle.parse_lexemes.specs.Meaning.{token_meaning}
use Rattle.parse_statements.specs.Spelling.{inside}
use Rattle.parse_lexemes.specs.Spelling.{Spelled, mark, word, name, on_line, constant_word, static_word, result_word, parameter_word, Anywhere, OnLine}

-- ---- functions and statics

-- a parameter, with the comma before it
abbrev pub parameter : Parameter → List Spelled
parameter p = mark marks.Comma ∷ word (parameter_word p.type) ∷ name p.name ∷ []

-- (JNIEnv *env, jclass cls, ..), but for the closing parenthesis
abbrev pub parameters : Function → List Spelled
parameters f =
    mark marks.OpenParen ∷ word words.JniEnv ∷ mark marks.Star ∷ word words.Env ∷ mark marks.Comma ∷ word words.Jclass ∷ name f.class_name
    ∷ flat_map parameter f.parameters

-- JNIEXPORT type JNICALL name(JNIEnv *env, jclass cls, ..) { .. }
abbrev pub function : Function → List Spelled
function f =
    on_line f.line (word words.JniExport ∷ word (result_word f.result) ∷ word words.JniCall ∷ name f.name ∷ parameters f)
    ++ mark marks.CloseParen ∷ mark marks.OpenBrace ∷ inside f.body

abbrev pub item : Item → List Spelled
item (StaticItem s) = on_line s.line (word words.Static ∷ word
    (static_word s.type) ∷ name s.name ∷ mark marks.Assign ∷ word (constant_word Null) ∷ mark marks.Semicolon ∷ [])
item (FunctionItem f) = function f

abbrev pub spell : SourceUnit → List Spelled
spell unit = flat_map item unit.items

-- ---- which tree a text spells

-- a token of the text is the one that the tree has, in its line
abbrev pub Stands : List ℕ → Token → Spelled → Type 0
Stands text token (Anywhere meaning) = token_meaning text token ≡ meaning
Stands text token (OnLine line meaning) = (token_meaning text token ≡ meaning) × (token.line ≡ line)

-- the tree of these tokens of a text
abbrev pub SpellsTree : List ℕ → List Token → SourceUnit → Type 0
SpellsTree text tokens unit = IsTree unit × AllZip (Stands text) tokens (spell unit)

-- the tree of a text
abbrev pub SpellsUnit : List ℕ → SourceUnit → Type 0
SpellsUnit text unit = (tokens : List Token) × Spells text tokens × SpellsTree text tokens unit
