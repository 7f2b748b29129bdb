use Rattle.std.proofs.Common.{◌-◌, length, map}
use Rattle.parse_lexemes.specs.Lexemes.{views}
use Rattle.syntax.specs.Views.{parameter_tree}
use Rattle.parse.specs.Reading.{parameters_at}
use Rattle.parse.proofs.Commas.{FillsParameters}
use Rattle.parse.proofs.parameters.parameters.Given as goal

abbrev pub invariant-parameters : goal.invariant-parameters
invariant-parameters l = FillsParameters (map parameter_tree l.parameters.items) (views l.rest) (parameters_at 255 (views l.lexemes))

abbrev pub decreases-parameters : goal.decreases-parameters
decreases-parameters l = 255 - length l.parameters.items
