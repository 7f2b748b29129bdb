use Rattle.std.proofs.Common.{◌≡◌, drop, map}
use Rattle.cli_explanations.specs.Numbered.{titled, title_in}
use Rattle.cli_explanations.proofs.find.Given as goal

abbrev pub invariant-loop-explanation : goal.invariant-loop-explanation
invariant-loop-explanation l = title_in l.number (map titled (drop l.explanation-index l.explanations)) ≡ title_in l.number (map titled l.explanations)
