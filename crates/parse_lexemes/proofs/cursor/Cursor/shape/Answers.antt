use Rattle.std.proofs.Common.{◌∙◌, ap, arith}
use Rattle.parse_lexemes.specs.Shapes.{shape_of_kind}
use Rattle.scan.specs.declared.token.Token.{Token}
use Rattle.parse_lexemes.proofs.Shapes.{shape_token, shape_end, shape_past}
use Rattle.parse_lexemes.proofs.cursor.Cursor.shape.Goals as goal

pub returns-then-self-tokens : goal.returns-then-self-tokens
returns-then-self-tokens c = c.of.ensures ∙ ap (λ (t : Token). shape_of_kind t.kind) c.token_in.ensures ∙ shape_token c.args.self c.token_in.result c.if-self-tokens.true

pub returns-then-self-tokens-2 : goal.returns-then-self-tokens-2
returns-then-self-tokens-2 c = shape_end c.args.self c.if-self-tokens-2.true

pub returns : goal.returns
returns c = shape_past c.args.self (omega (arith, c.if-self-tokens.false, c.if-self-tokens-2.false))
