use Rattle.std.proofs.Common.{◌≡◌, drop, length}
use Rattle.syntax.specs.Views.{unit_tree}
use Rattle.semantics.specs.World.{loaded_objects}
use Rattle.semantics.specs.Load.{refused_calls}
use Rattle.machine_threads.proofs.LoadLemmas.{AgreeSoFar}
use Rattle.machine_threads.proofs.load.load_thread.Given as goal

abbrev pub invariant-loop-call : goal.invariant-loop-call
invariant-loop-call l = record {
  agree : AgreeSoFar l.program l.world.classes (length (loaded_objects l.world)) l.calls l.call-index l.nexts.items;
  all : refused_calls (unit_tree l.program.unit) l.world.classes l.calls ≡ refused_calls (unit_tree l.program.unit) l.world.classes (drop l.call-index l.calls);
}
