use Rattle.std.proofs.Common.{◌≡◌, drop, map}
use Rattle.std.specs.List.{list_all}
use Rattle.syntax.specs.Views.{argument_tree}
use Rattle.jni.specs.declared.kinds.ParameterKind.TheVariants.{Passed}
use Rattle.type_rules.specs.ExprTypes.{argument_fits}
use Rattle.types.proofs.calls.all_pass.Given as goal

abbrev pub invariant-loop-argument : goal.invariant-loop-argument
invariant-loop-argument l =
    list_all (argument_fits l.known Passed) (map argument_tree (drop l.argument-index l.arguments))
    ≡ list_all (argument_fits l.known Passed) (map argument_tree l.arguments)
