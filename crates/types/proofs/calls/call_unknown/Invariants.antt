use Rattle.std.proofs.Common.{◌≡◌, drop, map}
use Rattle.std.specs.List.{list_any}
use Rattle.syntax.specs.Views.{argument_tree}
use Rattle.type_rules.specs.ExprTypes.{is_unknown}
use Rattle.type_rules.specs.Uses.{argument_uses}
use Rattle.types.proofs.calls.call_unknown.Given as goal

abbrev pub invariant-loop-argument : goal.invariant-loop-argument
invariant-loop-argument l =
    list_any (argument_uses (is_unknown l.known)) (map argument_tree (drop l.argument-index l.call.arguments.items))
    ≡ list_any (argument_uses (is_unknown l.known)) (map argument_tree l.call.arguments.items)
