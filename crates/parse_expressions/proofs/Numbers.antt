-- A number that comes next as an operand, or as an expression.
use Rattle.std.proofs.Common.{◌≡◌, ℕ, Bool, false, List, None, Ok, refl, sym, ap, ◌∙◌}
use Rattle.syntax.specs.Tree.{Number}
use Rattle.parse_lexemes.specs.declared.first.Fixed.{Fixed}
use Rattle.parse_lexemes.specs.declared.first.Shape.TheVariants as shapes
use Rattle.parse_lexemes.specs.Lexemes.{Lexed}
use Rattle.parse_lexemes.specs.Shapes.{shape_at, is_shape, is_name_shape}
use Rattle.parse_lexemes.specs.Reading.{starts_with, starts_name, rest_of}
use Rattle.parse_lexemes.proofs.Shapes.{starts_with_is, starts_name_is}
use Rattle.parse_expressions.specs.Reading.{starts_element, operator_at, operand_at, expr_at}
use Rattle.parse_expressions.specs.Steps.{within}
use Rattle.parse_expressions.proofs.Climbing.{alone}
use Rattle.parse_expressions.proofs.Openings.{opens_none, operand_plain}
use Rattle.parse_expressions.proofs.Primaries.{primary_shape}

module _ (ls : List Lexed) (value : ℕ) (unsigned : Bool) (is : shapes.Number unsigned value ≡ shape_at ls) where
  no_fixed : (f : Fixed) → starts_with f ls ≡ false
  no_fixed f = sym (starts_with_is f ls) ∙ ap (λ s. is_shape s f) (sym is)

  no_name : starts_name ls ≡ false
  no_name = sym (starts_name_is ls) ∙ ap is_name_shape (sym is)

  no_element : starts_element ls ≡ false
  no_element = rw no_name refl

  pub operand_number : (room : ℕ) → operand_at room ls ≡ Ok (Number value unsigned, 0, rest_of ls)
  operand_number room = operand_plain room ls (opens_none room ls no_fixed no_element) ∙ primary_shape ls (shapes.Number unsigned value) is

  pub expr_number : (room least : ℕ) → None ≡ within least (operator_at (rest_of ls)) → expr_at room least ls ≡ Ok (Number value unsigned, 0, rest_of ls)
  expr_number room least none = alone room least (Number value unsigned) ls (rest_of ls) (operand_number room) none
