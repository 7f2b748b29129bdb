use Rattle.std.proofs.Common.{◌≡◌, ◌++◌, drop}
use Rattle.semantics.specs.Views.{names_of}
use Rattle.semantics.specs.WeakReferences.{weakly_held}
use Rattle.replay_terms.proofs.WeakStatics.{seen_in}
use Rattle.replay_terms.proofs.statics.add_weak.Given as goal

abbrev pub invariant-loop-place : goal.invariant-loop-place
invariant-loop-place l =
    names_of l.names.items ++ weakly_held (seen_in (drop l.place l.held.entries)) ≡ names_of l.fn.names.items ++ weakly_held (seen_in l.held.entries)
