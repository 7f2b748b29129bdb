-- Functions with their numbers, and the table that finds them.
use Rattle.std.specs.Prelude.{◌≡◌, ◌+◌, ℕ, if◌then◌else◌, List, [], ◌∷◌, Option, Some, None}
use Rattle.std.specs.Borrow.{Bor}
use Rattle.std.specs.HashMap.{HashMap, get_by}
use Rattle.std.specs.Option.{option_map}
use Rattle.std.specs.Str.{bytes_eq}
use Rattle.base.specs.Bytes.{Identifier}
use Rattle.syntax.specs.Tree.{Function}
use Rattle.syntax.specs.Views.{function_tree}
use Rattle.functions.specs.declared.functions.NumberedFunction.{NumberedFunction}

-- the first function of this name, with its number, where this number of functions are before these
abbrev pub first_named : ℕ → List Function → Identifier → Option (ℕ × Function)
first_named before [] x = None
first_named before (f ∷ fs) x = if bytes_eq f.name x then Some (before, f) else first_named (before + 1) fs x

abbrev pub numbered_view : NumberedFunction → ℕ × Function
numbered_view n = (n.number, function_tree n.function.now)

module _ {S : Type 0} where
  -- the table finds the first of each name
  abbrev pub FindsAll : ℕ → List Function → HashMap (Bor Identifier) NumberedFunction S → Type 0
  FindsAll before fs table = (x : Identifier) → option_map numbered_view (get_by (λ key. bytes_eq x key.now) table) ≡ first_named before fs x

  abbrev pub FindsNone : HashMap (Bor Identifier) NumberedFunction S → Type 0
  FindsNone table = (x : Identifier) → get_by (λ key. bytes_eq x key.now) table ≡ None
