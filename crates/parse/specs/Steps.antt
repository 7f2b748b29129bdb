-- Steps of reading that have functions of their own.
use Rattle.std.specs.Prelude.{ℕ, ◌-◌, ◌==◌, List, Result, Ok, Err, if◌then◌else◌}
use Rattle.syntax.specs.Tree.{StaticItem, FunctionItem}
use Rattle.parse_lexemes.specs.declared.fault.ParseRule.TheVariants.{TooMany}
use Rattle.parse_lexemes.specs.declared.fault.ParseError.{ParseError}
use Rattle.parse_lexemes.specs.Results.{◌>>=◌}
use Rattle.parse_lexemes.specs.Lexemes.{Lexed, fault_at}
use Rattle.parse.specs.Reading.{ReadItem, function_at, static_at}

-- a function, where there may be this many more functions and statics
unfoldable pub function_item_at : (functions statics : ℕ) → List Lexed → Result ReadItem ParseError
function_item_at functions statics ls = if functions == 0 then Err (fault_at TooMany ls) else
    (function_at ls >>= λ f. Ok (FunctionItem f.0, functions - 1, statics, f.1))

-- the same of a static
unfoldable pub static_item_at : (functions statics : ℕ) → List Lexed → Result ReadItem ParseError
static_item_at functions statics ls = if statics == 0 then Err (fault_at TooMany ls) else
    (static_at ls >>= λ s. Ok (StaticItem s.0, functions, statics - 1, s.1))
