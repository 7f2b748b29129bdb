use Rattle.std.proofs.Common.{◌+◌, length, map}
use Rattle.parse_lexemes.specs.Lexemes.{views}
use Rattle.syntax.specs.Views.{item_tree}
use Rattle.parse.specs.Reading.{items_at}
use Rattle.parse.proofs.Items.{FillsUnit}
use Rattle.parse.proofs.functions.items.Given as goal

abbrev pub invariant-items : goal.invariant-items
invariant-items l = FillsUnit (map item_tree l.items.items) l.functions l.statics (views l.rest) (items_at (length (views l.lexemes) + 1) 256 256 (views l.lexemes))

abbrev pub decreases-items : goal.decreases-items
decreases-items l = length (views l.rest)
