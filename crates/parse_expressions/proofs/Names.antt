-- A name that comes next as an expression.
use Rattle.std.proofs.Common.{◌≡◌, ℕ, Bool, true, false, List, [], ◌∷◌, None, Ok, if◌then◌else◌, refl, sym, ap, ◌∙◌}
use Rattle.scan.specs.declared.token.Mark.TheVariants as marks
use Rattle.syntax.specs.Tree.{Variable}
use Rattle.parse_lexemes.specs.declared.first.Fixed.{Fixed}
use Rattle.parse_lexemes.specs.declared.first.Fixed.TheVariants as fixed
use Rattle.parse_lexemes.specs.declared.first.Shape.TheVariants as shapes
use Rattle.parse_lexemes.specs.Meaning.{Meaning, Fixed', Name', Number', Text'}
use Rattle.parse_lexemes.specs.Lexemes.{Lexed, name_at}
use Rattle.parse_lexemes.specs.Shapes.{shape_of, shape_at, is_shape}
use Rattle.parse_lexemes.specs.Reading.{starts_with, starts_name, rest_of}
use Rattle.parse_lexemes.proofs.Shapes.{starts_with_is}
use Rattle.parse_expressions.specs.Reading.{ReadExpr, starts_element, operator_at, operand_at, expr_at}
use Rattle.parse_expressions.specs.Steps.{variable_at, within}
use Rattle.parse_expressions.proofs.Climbing.{alone}
use Rattle.parse_expressions.proofs.Openings.{opens_none, operand_plain}
use Rattle.parse_expressions.proofs.Primaries.{primary_shape}

-- what the name is
named_by : (m : Meaning) (l : Lexed) (ls : List Lexed) → l.meaning ≡ m → shapes.Name ≡ shape_of m → (x : List ℕ) × (name_at (l ∷ ls) ≡ Ok (x, ls))
unfolding name_at
named_by (Name' x) l ls means is = (x, rw means refl)
named_by (Number' value unsigned) l ls means is = absurd cc
named_by (Fixed' found) l ls means is = absurd cc
named_by (Text' found) l ls means is = absurd cc

named : (ls : List Lexed) → shapes.Name ≡ shape_at ls → (x : List ℕ) × (name_at ls ≡ Ok (x, rest_of ls))
named [] is = absurd cc
named (l ∷ ls) is = named_by l.meaning l ls refl is

module _ (ls : List Lexed) (is : shapes.Name ≡ shape_at ls) (bare : starts_with (fixed.Mark marks.OpenBracket) (rest_of ls) ≡ false) where
  no_fixed : (f : Fixed) → starts_with f ls ≡ false
  no_fixed f = sym (starts_with_is f ls) ∙ ap (λ s. is_shape s f) (sym is)

  no_element : starts_element ls ≡ false
  no_element = rw bare (same (starts_name ls))
    where
      same : (b : Bool) → (if b then false else false) ≡ false
      same true = refl
      same false = refl

  operand_name : (room : ℕ) → operand_at room ls ≡ variable_at ls
  operand_name room = operand_plain room ls (opens_none room ls no_fixed no_element) ∙ primary_shape ls shapes.Name is

  pub expr_name : (room least : ℕ) → None ≡ within least (operator_at (rest_of ls)) → expr_at room least ls ≡ variable_at ls
  expr_name room least none =
      let x = named ls is in
      let read : ReadExpr = (Variable x.0, 0, rest_of ls) in
      let variable : variable_at ls ≡ Ok read = rw x.1 refl in
      alone room least (Variable x.0) ls (rest_of ls) (operand_name room ∙ variable) none ∙ sym variable
