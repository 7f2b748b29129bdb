use Rattle.std.proofs.Common.{sym, []}
use Rattle.parse_lexemes.proofs.Shapes.{inside_at, name_token, text_token, name_none, text_none}
use Rattle.parse_lexemes.proofs.cursor.Cursor.bytes.Goals as goal

pub part_of-requires : goal.part_of-requires
part_of-requires c = rw c.token_in.ensures (inside_at c.args.self.source.now.text.now c.args.self.source.now.tokens.now c.args.self.at c.token_in.result c.args.self.source.now.inside c.if-self-tokens.true)

pub returns-then-self-tokens-clause-name : goal.returns-then-self-tokens-clause-name
returns-then-self-tokens-clause-name c = name_token c.args.self c.token_in.result c.part_of.result.now c.if-self-tokens.true (rw (sym c.token_in.ensures) c.part_of.ensures)

pub returns-then-self-tokens-clause-text : goal.returns-then-self-tokens-clause-text
returns-then-self-tokens-clause-text c = text_token c.args.self c.token_in.result c.part_of.result.now c.if-self-tokens.true (rw (sym c.token_in.ensures) c.part_of.ensures)

pub returns-clause-name : goal.returns-clause-name
returns-clause-name c = name_none c.args.self [] c.if-self-tokens.false

pub returns-clause-text : goal.returns-clause-text
returns-clause-text c = text_none c.args.self [] c.if-self-tokens.false
