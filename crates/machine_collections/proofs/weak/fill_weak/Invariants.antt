use Rattle.std.proofs.Common.{◌≡◌, ◌+◌, ◌≤◌, ◌++◌, drop, length}
use Rattle.std.specs.Prelude.{vec_capacity, vec_len}
use Rattle.tables.specs.Weaks.{weak_places}
use Rattle.machine_collections.proofs.weak.fill_weak.Given as goal

abbrev pub invariant-loop-place : goal.invariant-loop-place
invariant-loop-place l = record {
  places : l.list.places.items ++ drop l.place (weak_places l.weaks) ≡ weak_places l.weaks;
  room : vec_len l.list.places + length (drop l.place (weak_places l.weaks)) ≤ vec_capacity l.list.places;
}
