use Rattle.std.proofs.Common.{◌+◌, length, map}
use Rattle.parse_lexemes.specs.Lexemes.{views}
use Rattle.syntax.specs.Views.{argument_tree}
use Rattle.parse_expressions.specs.Reading.{arguments_at}
use Rattle.parse_expressions.proofs.Commas.{FillsArguments}
use Rattle.parse_expressions.proofs.calls.arguments.Given as goal

abbrev pub invariant-arguments : goal.invariant-arguments
invariant-arguments l = FillsArguments l.room (map argument_tree l.arguments.items) (views l.rest) (arguments_at l.room (length (views l.lexemes) + 1) (views l.lexemes))

abbrev pub decreases-arguments : goal.decreases-arguments
decreases-arguments l = length (views l.rest)
