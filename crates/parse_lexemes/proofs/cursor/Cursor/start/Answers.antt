use Rattle.std.proofs.Common.{refl}
use Rattle.parse_lexemes.specs.Lexemes.{views}
use Rattle.parse_lexemes.proofs.cursor.Cursor.start.Goals as goal

pub returns : goal.returns
unfolding views
returns c = refl
