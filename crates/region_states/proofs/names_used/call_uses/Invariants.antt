use Rattle.std.proofs.Common.{◌≡◌, drop, map}
use Rattle.std.specs.List.{list_any}
use Rattle.syntax.specs.Views.{argument_tree}
use Rattle.region_states.specs.StatesInMemory.{asks}
use Rattle.type_rules.specs.Uses.{argument_uses}
use Rattle.region_states.proofs.names_used.call_uses.Given as goal

abbrev pub invariant-loop-argument : goal.invariant-loop-argument
invariant-loop-argument l =
    list_any (argument_uses (asks l.condition l.state)) (map argument_tree (drop l.argument-index l.call.arguments.items))
    ≡ list_any (argument_uses (asks l.condition l.state)) (map argument_tree l.call.arguments.items)
