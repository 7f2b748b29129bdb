-- Reading functions, statics and units from left to right, with the first fault that is met.
use Rattle.std.specs.Prelude.{ℕ, zero, suc, ◌+◌, ◌-◌, ◌==◌, List, [], ◌∷◌, length, Result, Ok, Err, if◌then◌else◌}
use Rattle.base.specs.Limits.{most_functions, most_names, most_statics}
use Rattle.scan.specs.declared.token.Mark.TheVariants as marks
use Rattle.base.specs.Bytes.{Identifier}
use Rattle.syntax.specs.declared.unit.ResultType.{ResultType}
use Rattle.syntax.specs.Tree.{Block, Parameter, Function, Static, Item, StaticItem, FunctionItem, SourceUnit}
use Rattle.parse_lexemes.specs.declared.fault.ParseRule.TheVariants.{NoForm, TooMany}
use Rattle.parse_lexemes.specs.declared.fault.ParseError.{ParseError}
use Rattle.scan.specs.declared.reserved.Word.TheVariants as words
use Rattle.parse_lexemes.specs.declared.first.Fixed.TheVariants as fixed
use Rattle.parse_lexemes.specs.Results.{◌>>=◌}
use Rattle.parse_lexemes.specs.Lexemes.{Lexed, fault_at, line_at, expect, name_at}
use Rattle.parse_statements.specs.Reading.{block_at}
use Rattle.parse_lexemes.specs.Reading.{starts_with, rest_of, static_type_at, result_type_at, parameter_type_at, found}

-- the parameters that each function has, up to the name of its class
unfoldable pub head_at : List Lexed → Result (List Lexed) ParseError
head_at ls = do
  a ← expect (fixed.Mark marks.OpenParen) ls
  b ← expect (fixed.Word words.JniEnv) a
  c ← expect (fixed.Mark marks.Star) b
  d ← expect (fixed.Word words.Env) c
  e ← expect (fixed.Mark marks.Comma) d
  expect (fixed.Word words.Jclass) e

unfoldable pub parameter_at : List Lexed → Result (Parameter × List Lexed) ParseError
parameter_at ls = do
  t ← found (parameter_type_at ls) ls
  name ← name_at t.1
  Ok (record { type = t.0; name = name.0 }, name.1)

-- parameters, each with the comma before it, where there may be this many
unfoldable pub parameters_at : ℕ → List Lexed → Result (List Parameter × List Lexed) ParseError
parameters_at zero ls = if starts_with (fixed.Mark marks.Comma) ls then Err (fault_at TooMany ls) else Ok ([], ls)
parameters_at (suc free) ls =
    if starts_with (fixed.Mark marks.Comma) ls
    then (parameter_at (rest_of ls) >>= λ p. parameters_at free p.1 >>= λ more. Ok (p.0 ∷ more.0, more.1))
    else Ok ([], ls)

-- a function's block, with what closes its parameters
unfoldable pub body_at : ℕ → List Lexed → Result (Block × List Lexed) ParseError
body_at free ls = do
  a ← expect (fixed.Mark marks.CloseParen) ls
  b ← expect (fixed.Mark marks.OpenBrace) a
  body ← block_at 31 free b
  Ok (body.0, body.2)

-- the result, the name and the class of a function
unfoldable pub signature_at : List Lexed → Result (ResultType × Identifier × Identifier × List Lexed) ParseError
signature_at ls = do
  a ← expect (fixed.Word words.JniExport) ls
  result ← found (result_type_at a) a
  b ← expect (fixed.Word words.JniCall) result.1
  name ← name_at b
  c ← head_at name.1
  class_name ← name_at c
  Ok (result.0, name.0, class_name.0, class_name.1)

-- a function; after the class it may have 255 more names
unfoldable pub function_at : List Lexed → Result (Function × List Lexed) ParseError
function_at ls = do
  signature ← signature_at ls
  parameters ← parameters_at (most_names - 1) signature.3
  body ← body_at (most_names - 1 - length parameters.0) parameters.1
  Ok (record { line = line_at ls; result = signature.0; name = signature.1; class_name = signature.2; parameters = parameters.0; body = body.0 }, body.1)

unfoldable pub static_at : List Lexed → Result (Static × List Lexed) ParseError
static_at ls = do
  a ← expect (fixed.Word words.Static) ls
  t ← found (static_type_at a) a
  name ← name_at t.1
  b ← expect (fixed.Mark marks.Assign) name.1
  c ← expect (fixed.Word words.Null) b
  rest ← expect (fixed.Mark marks.Semicolon) c
  Ok (record { line = line_at ls; type = t.0; name = name.0 }, rest)

-- an item, how many more functions and statics there may be after it, and what comes after it
abbrev pub ReadItem : Type 0
ReadItem = Item × ℕ × ℕ × List Lexed

-- an item, where there may be this many more functions and statics
unfoldable pub item_at : (functions statics : ℕ) → List Lexed → Result ReadItem ParseError
item_at functions statics ls =
    if starts_with (fixed.Word words.JniExport) ls then (if functions == 0 then Err (fault_at TooMany ls) else
    (function_at ls >>= λ f. Ok (FunctionItem f.0, functions - 1, statics, f.1)))
    else if starts_with (fixed.Word words.Static) ls then (if statics == 0 then Err (fault_at TooMany ls) else
    (static_at ls >>= λ s. Ok (StaticItem s.0, functions, statics - 1, s.1)))
    else Err (fault_at NoForm ls)

-- items up to the end, of which there are fewer than steps
unfoldable pub items_at : (steps functions statics : ℕ) → List Lexed → Result (List Item) ParseError
items_at zero functions statics ls = Err (fault_at NoForm ls)
items_at (suc steps) functions statics ls =
    if starts_with fixed.End ls then Ok []
    else (item_at functions statics ls >>= λ i. items_at steps i.1 i.2 i.3 >>= λ items. Ok (i.0 ∷ items))

unfoldable pub unit_at : List Lexed → Result SourceUnit ParseError
unit_at ls = items_at (length ls + 1) most_functions most_statics ls >>= λ items. Ok (record { items = items })
