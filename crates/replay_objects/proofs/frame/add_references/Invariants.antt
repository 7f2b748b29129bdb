use Rattle.std.proofs.Common.{◌≡◌, ◌-◌, ◌++◌, length}
use Rattle.semantics.specs.Views.{names_of}
use Rattle.replay_objects.proofs.FrameLemmas.{references_from}
use Rattle.replay_objects.proofs.frame.add_references.Given as goal

abbrev pub invariant-loop-done : goal.invariant-loop-done
invariant-loop-done l = names_of l.names.items ≡ names_of l.fn.names.items ++ references_from l.frames (length l.frames - l.done)
