use Rattle.std.proofs.Common.{◌≡◌, List, Option, drop, length}
use Rattle.tables.specs.Elements.{OwnedNumbers}
use Rattle.syntax.specs.Views.{unit_tree}
use Rattle.heap.specs.Heap.{Space}
use Rattle.semantics.specs.World.{loaded_objects}
use Rattle.semantics.specs.Thread.{Shared}
use Rattle.machine_threads.proofs.ThreadLoads.{AgreeSoFar, refused_of}
use Rattle.machine_threads.proofs.load.load_all.Given as goal

abbrev pub invariant-loop-calls : goal.invariant-loop-calls
invariant-loop-calls l = record {
  agree : (space : Space) (copies : List (Option OwnedNumbers)) (shared : Shared) → AgreeSoFar l.program l.world.classes space copies (length (loaded_objects l.world)) shared l.calls-items l.calls-index l.threads.items;
  all : refused_of (unit_tree l.program.unit) l.world.classes l.calls-items ≡ refused_of (unit_tree l.program.unit) l.world.classes (drop l.calls-index l.calls-items);
}
