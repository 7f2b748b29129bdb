use Rattle.std.proofs.Common.{◌≡◌, ◌++◌, drop, map, flat_map}
use Rattle.std.specs.Prelude.{codes}
use Rattle.std.specs.Str.{bytes_eq}
use Rattle.syntax.specs.Tree.{Parameter}
use Rattle.syntax.specs.Views.{function_tree, parameter_tree}
use Rattle.semantics.specs.Method.{method_signature, parameter_signature, result_signature}
use Rattle.class_queries.proofs.methods.has_signature.Given as goal

-- what is still wanted of the text that is left
abbrev pub invariant-loop-parameter : goal.invariant-loop-parameter
invariant-loop-parameter l =
    bytes_eq (method_signature (function_tree l.function)) l.text
    ≡ bytes_eq (flat_map (λ (p : Parameter). parameter_signature p.type) (map parameter_tree (drop l.parameter-index l.function.parameters.items))
    ++ codes ")" ++ result_signature l.function.result) l.rest
