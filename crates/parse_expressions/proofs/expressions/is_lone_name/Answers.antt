use Rattle.std.proofs.Common.{◌≡◌, Bool, List, Option, Some, None, IsTrue, not, sym, ap, refl, ◌∙◌}
use Rattle.std.specs.Option.{option_map}
use Rattle.std.specs.Prelude.{is_some}
use Rattle.scan.specs.declared.token.Mark.TheVariants as marks
use Rattle.syntax.specs.declared.expr.BinaryOp.{BinaryOp}
use Rattle.parse_lexemes.specs.declared.first.Fixed.TheVariants as fixed
use Rattle.parse_lexemes.specs.Lexemes.{Lexed, views}
use Rattle.parse_lexemes.specs.Reading.{starts_with}
use Rattle.parse_expressions.specs.Reading.{operator_at}
use Rattle.parse_expressions.specs.Steps.{within}
use Rattle.parse_expressions.proofs.Names.{expr_name}
use Rattle.parse_expressions.proofs.expressions.is_lone_name.Goals as goal

none_if : (b : Bool) (o : Option BinaryOp) → is_some o ≡ not b → IsTrue b → None ≡ o
none_if b None is so = refl
none_if b (Some op) is so = absurd cc

pub returns-then-not-starts_with : goal.returns-then-not-starts_with
returns-then-not-starts_with c = λ so room.
    let bare = ap (starts_with (fixed.Mark marks.OpenBracket)) (sym c.skip-rest.ensures) ∙ sym c.starts_with.ensures ∙ c.if-not-starts_with.true in
    let none = (none_if c.is_none.result c.operator_within.result c.is_none.ensures so) ∙ c.operator_within.ensures ∙ ap (λ (ls : List Lexed). within c.args.least (operator_at ls)) c.skip-rest.ensures in
    expr_name (views c.args.lexemes) (sym c.in-Name.is ∙ c.shape.ensures) bare room c.args.least none
