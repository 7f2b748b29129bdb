use Rattle.std.proofs.Common.{◌≡◌, ◌++◌, take, drop, length}
use Rattle.semantics.specs.Views.{names_of}
use Rattle.semantics.specs.WeakReferences.{cleared_statics}
use Rattle.replay_terms.proofs.WeakStatics.{seen_in}
use Rattle.replay_terms.proofs.statics.clear_held.Given as goal

abbrev pub invariant-loop-place : goal.invariant-loop-place
invariant-loop-place l =
    (seen_in l.held.entries ≡ cleared_statics (names_of l.names) (take l.place (seen_in l.fn.held.entries)) ++ drop l.place (seen_in l.fn.held.entries))
    × (length l.held.entries ≡ length l.fn.held.entries)
