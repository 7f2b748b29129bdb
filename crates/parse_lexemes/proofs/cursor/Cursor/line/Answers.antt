use Rattle.std.proofs.Common.{◌∙◌}
use Rattle.parse_lexemes.proofs.Shapes.{line_token, line_end}
use Rattle.parse_lexemes.proofs.cursor.Cursor.line.Goals as goal

pub returns-then-self-tokens : goal.returns-then-self-tokens
returns-then-self-tokens c = rw c.token_in.ensures (line_token c.args.self c.token_in.result c.if-self-tokens.true)

pub returns : goal.returns
returns c = c.line_of_end.ensures ∙ line_end c.args.self c.if-self-tokens.false
