use Rattle.std.proofs.Common.{refl}
use Rattle.parse_lexemes.proofs.Shapes.{rest_is}
use Rattle.parse_lexemes.proofs.cursor.Cursor.skip.Goals as goal

pub returns : goal.returns
returns c = rest_is c.args.self _ refl c.next.ensures.within c.next.ensures.past
