-- What is known of an expression's first lexeme by its shape.
use Rattle.std.proofs.Common.{◌≡◌, List, [], ◌∷◌, Result, Ok, Err, refl, sym, ap, ◌∙◌}
use Rattle.syntax.specs.Tree.{Number}
use Rattle.parse_lexemes.specs.declared.fault.ParseRule.TheVariants.{NoForm}
use Rattle.parse_lexemes.specs.declared.fault.ParseError.{ParseError}
use Rattle.parse_lexemes.specs.declared.first.Fixed.TheVariants as fixed
use Rattle.parse_lexemes.specs.declared.first.Shape.{Shape}
use Rattle.parse_lexemes.specs.declared.first.Shape.TheVariants as shapes
use Rattle.parse_lexemes.specs.Meaning.{Meaning, Fixed', Name', Number', Text'}
use Rattle.parse_lexemes.specs.Lexemes.{Lexed, fault_at, name_at}
use Rattle.parse_lexemes.specs.Shapes.{shape_of, shape_at}
use Rattle.parse_expressions.specs.Reading.{ReadExpr, primary_of, primary_at, named_of}
use Rattle.parse_expressions.specs.Steps.{variable_at}
use Rattle.parse_lexemes.specs.Reading.{rest_of, constant_of_word}

-- ---- expressions

abbrev pub primary_by : Shape → List Lexed → Result ReadExpr ParseError
primary_by (shapes.Number unsigned value) ls = Ok (Number value unsigned, 0, rest_of ls)
primary_by shapes.Name ls = variable_at ls
primary_by (shapes.Fixed (fixed.Word word)) ls = named_of (constant_of_word word) ls (rest_of ls)
primary_by (shapes.Fixed (fixed.Mark mark)) ls = Err (fault_at NoForm ls)
primary_by (shapes.Fixed fixed.End) ls = Err (fault_at NoForm ls)
primary_by shapes.Text ls = Err (fault_at NoForm ls)
primary_by shapes.Nothing ls = Err (fault_at NoForm ls)

primary_in_is : (m : Meaning) (l : Lexed) (ls : List Lexed) → l.meaning ≡ m → primary_by (shape_of m) (l ∷ ls) ≡ primary_of m (l ∷ ls) ls
unfolding name_at
primary_in_is (Number' value unsigned) l ls is = refl
primary_in_is (Name' bytes) l ls is = rw is refl
primary_in_is (Fixed' (fixed.Mark mark)) l ls is = refl
primary_in_is (Fixed' (fixed.Word word)) l ls is = refl
primary_in_is (Fixed' fixed.End) l ls is = refl
primary_in_is (Text' found) l ls is = refl

pub primary_is : (ls : List Lexed) → primary_by (shape_at ls) ls ≡ primary_at ls
unfolding primary_at
primary_is [] = refl
primary_is (l ∷ ls) = primary_in_is l.meaning l ls refl

-- what is read by the first lexeme's shape
pub primary_shape : (ls : List Lexed) (s : Shape) → s ≡ shape_at ls → primary_at ls ≡ primary_by s ls
primary_shape ls s is = sym (primary_is ls) ∙ ap (λ (x : Shape). primary_by x ls) (sym is)
