use Rattle.std.proofs.Common.{List, sym, ap, ◌∙◌}
use Rattle.parse_lexemes.specs.Lexemes.{Lexed, views}
use Rattle.parse_expressions.specs.Reading.{operator_at}
use Rattle.parse_expressions.specs.Steps.{within}
use Rattle.parse_expressions.proofs.Numbers.{expr_number}
use Rattle.parse_expressions.proofs.expressions.lone_number.Goals as goal

pub returns-in-None : goal.returns-in-None
returns-in-None c = λ room.
    expr_number (views c.args.lexemes) c.in-Number.value c.in-Number.unsigned (sym c.in-Number.is ∙ c.shape.ensures) room c.args.least
    (c.in-None.ensures ∙ ap (λ (ls : List Lexed). within c.args.least (operator_at ls)) c.skip.ensures)
