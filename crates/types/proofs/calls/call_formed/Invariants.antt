use Rattle.std.proofs.Common.{◌≡◌, drop, map, flat_map}
use Rattle.std.specs.List.{list_all}
use Rattle.syntax.specs.Parts.{argument_expressions}
use Rattle.syntax.specs.Views.{argument_tree}
use Rattle.type_rules.specs.TypeRules.{is_formed}
use Rattle.types.proofs.calls.call_formed.Given as goal

abbrev pub invariant-loop-argument : goal.invariant-loop-argument
invariant-loop-argument l =
    list_all (is_formed l.known) (flat_map argument_expressions (map argument_tree (drop l.argument-index l.call.arguments.items)))
    ≡ list_all (is_formed l.known) (flat_map argument_expressions (map argument_tree l.call.arguments.items))
