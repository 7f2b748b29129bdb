use Rattle.semantics.specs.Views.{names_of}
use Rattle.report_objects.specs.Names.{AreRoots}
use Rattle.report_objects.proofs.MarkedRoots.{IsBelow, IsSoFar}
use Rattle.report_objects.proofs.roots.marked_roots.Given as goal

abbrev pub invariant-loop-name : goal.invariant-loop-name
invariant-loop-name l = AreRoots l.count (IsBelow l.name) l.marks

abbrev pub invariant-loop-name-2 : goal.invariant-loop-name-2
invariant-loop-name-2 l = AreRoots l.count (IsSoFar l.loaded (names_of l.names) l.name-index) l.marks
