use Rattle.std.proofs.Common.{◌≡◌, ◌+◌, ◌++◌, drop, length}
use Rattle.std.specs.Prelude.{vec_capacity, vec_len}
use Rattle.machine_collections.specs.Roots.{loaded_places}
use Rattle.machine_collections.proofs.roots.push_loaded.Given as goal

abbrev pub invariant-loop-addr : goal.invariant-loop-addr
invariant-loop-addr l = record {
  places : l.places.items ++ drop l.addr-index (loaded_places l.loaded) ≡ l.fn.places.items ++ loaded_places l.loaded;
  len : vec_len l.places + length (drop l.addr-index (loaded_places l.loaded)) ≡ vec_len l.fn.places + length (loaded_places l.loaded);
  capacity : vec_capacity l.places ≡ vec_capacity l.fn.places;
}
