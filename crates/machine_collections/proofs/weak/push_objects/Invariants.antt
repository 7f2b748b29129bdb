use Rattle.std.proofs.Common.{◌≡◌, ◌+◌, ◌≤◌, ◌++◌, drop, length}
use Rattle.std.specs.Prelude.{vec_capacity, vec_len}
use Rattle.semantics.specs.Views.{names_of}
use Rattle.machine_collections.proofs.weak.push_objects.Given as goal

abbrev pub invariant-loop-place : goal.invariant-loop-place
invariant-loop-place l = record {
  items : names_of l.objects.items ++ drop l.place l.names ≡ names_of l.fn.objects.items ++ l.names;
  room : vec_len l.objects + length l.names ≤ vec_capacity l.objects + l.place;
}
