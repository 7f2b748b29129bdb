use Rattle.std.proofs.Common.{◌≡◌, ◌-◌}
use Rattle.std.specs.Prelude.{slice_get}
use Rattle.syntax.specs.Views.{unit_tree}
use Rattle.semantics.specs.Method.{methods_named}
use Rattle.class_queries.proofs.FoundMethods.{named_within}
use Rattle.class_queries.proofs.methods.find_method.Given as goal

-- what is found from here on is what is found
abbrev pub invariant-loop : goal.invariant-loop
invariant-loop l =
    slice_get (named_within (l.end - l.counter) (unit_tree l.items) l.classes l.declarer.number l.name l.text) 0
    ≡ slice_get (methods_named (unit_tree l.items) l.classes l.fn.class.number l.name l.text) 0
