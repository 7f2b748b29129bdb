use Rattle.std.proofs.Common.{◌+◌, ◌*◌, length}
use Rattle.parse_lexemes.specs.Lexemes.{views}
use Rattle.parse_statements.specs.Reading.{block_at}
use Rattle.parse_statements.proofs.Blocks.{Fills}
use Rattle.parse_statements.proofs.statements.+blocks.Given as goal

abbrev pub decreases-block : goal.decreases-block
decreases-block l = 4 * l.room + 3

abbrev pub decreases-statement : goal.decreases-statement
decreases-statement l = 4 * l.room + 2

abbrev pub decreases-branches : goal.decreases-branches
decreases-branches l = 4 * l.room + 1

abbrev pub decreases-other_block : goal.decreases-other_block
decreases-other_block l = 4 * l.room

abbrev pub invariant-block-statements : goal.invariant-block-statements
invariant-block-statements l = Fills l.room l.free l.statements.items l.returned (views l.rest) (block_at l.room l.names (views l.lexemes))

abbrev pub decreases-block-statements : goal.decreases-block-statements
decreases-block-statements l = length (views l.rest)
