use Rattle.std.proofs.Common.{◌≡◌, drop}
use Rattle.std.specs.List.{flat_map}
use Rattle.syntax.specs.Views.{unit_tree}
use Rattle.semantics.specs.Load.{refused_calls}
use Rattle.replay.proofs.LoadLemmas.{calls_of}
use Rattle.replay.proofs.load.first_misfit.Given as goal

abbrev pub invariant-loop-calls : goal.invariant-loop-calls
invariant-loop-calls l =
    flat_map (refused_calls (unit_tree l.functions) l.world.classes) (calls_of l.calls-items)
    ≡ flat_map (refused_calls (unit_tree l.functions) l.world.classes) (calls_of (drop l.calls-index l.calls-items))
