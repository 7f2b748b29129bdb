use Rattle.std.proofs.Common.{◌≡◌, drop}
use Rattle.syntax.specs.Views.{unit_tree}
use Rattle.semantics.specs.Load.{refused_calls}
use Rattle.replay.proofs.load.first_unfit.Given as goal

abbrev pub invariant-loop-call : goal.invariant-loop-call
invariant-loop-call l =
    refused_calls (unit_tree l.functions) l.world.classes l.calls
    ≡ refused_calls (unit_tree l.functions) l.world.classes (drop l.call-index l.calls)
