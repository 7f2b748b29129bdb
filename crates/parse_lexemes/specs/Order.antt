-- Tokens that are in a text.
use Rattle.std.specs.Prelude.{ℕ, ◌≤◌, List, [], ◌∷◌, length}
use Rattle.std.specs.Coded.{×_prop, Unit-prop, le_prop}
use Rattle.scan.specs.declared.token.Token.{Token}

abbrev pub IsInside : List ℕ → Token → Type 0
IsInside text token = (token.start ≤ token.end) × (token.end ≤ length text)

abbrev pub AreInside : List ℕ → List Token → Type 0
AreInside text [] = Unit {0}
AreInside text (token ∷ tokens) = IsInside text token × AreInside text tokens

IsInside-prop : (text : List ℕ) (token : Token) → IsProp (IsInside text token)
IsInside-prop text token = ×_prop le_prop le_prop

pub AreInside-prop : (text : List ℕ) (tokens : List Token) → IsProp (AreInside text tokens)
AreInside-prop text [] = Unit-prop
AreInside-prop text (token ∷ tokens) = ×_prop (IsInside-prop text token) (AreInside-prop text tokens)
