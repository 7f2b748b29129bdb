-- What a reader answers: a value or the first fault; want of memory aside.
use Rattle.std.specs.Prelude.{◌≡◌, Result, Ok, Err}
use Rattle.parse_lexemes.specs.declared.fault.ParseError.{ParseError}
use Rattle.parse_lexemes.specs.declared.fault.ParseError.TheVariants.{Memory, Fault}

infixl 10 ◌>>=◌
abbrev pub ◌>>=◌ : {A B : Type 0} → Result A ParseError → (A → Result B ParseError) → Result B ParseError
(Ok x) >>= f = f x
(Err e) >>= f = Err e

-- The fault is the one of the reading, unless memory ran out.
abbrev pub Fails : {Y : Type 0} → ParseError → Result Y ParseError → Type 0
Fails Memory read = Unit {0}
Fails (Fault f) read = read ≡ Err (Fault f)

-- What a function returned, seen by view, is what reading gives, unless memory ran out.
abbrev pub Gives : {X Y : Type 0} → (X → Y) → Result X ParseError → Result Y ParseError → Type 0
Gives view (Ok x) read = read ≡ Ok (view x)
Gives view (Err e) read = Fails e read
