use Rattle.std.proofs.Common.{arith, le-ltb, refl, length, ◌-◌}
use Rattle.parse_lexemes.proofs.Shapes.{last_line}
use Rattle.parse_lexemes.proofs.first.line_of_end.Goals as goal

pub returns : goal.returns
returns c = rw (le-ltb _ _ c.if-at-tokens.false) (last_line c.args.tokens.now 1 (length c.args.tokens.now - 1) c.token_in.result (omega (arith, c.if-tokens-eq0.false)) refl c.token_in.ensures)
