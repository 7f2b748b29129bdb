use Rattle.std.proofs.Common.{◌≡◌, ◌+◌, ◌++◌, drop, length}
use Rattle.std.specs.Prelude.{vec_capacity, vec_len}
use Rattle.machine_collections.proofs.roots.push_globals.Given as goal

abbrev pub invariant-loop-place : goal.invariant-loop-place
invariant-loop-place l = record {
  places : l.places.items ++ drop l.place (l.globals) ≡ l.fn.places.items ++ l.globals;
  len : vec_len l.places + length (drop l.place (l.globals)) ≡ vec_len l.fn.places + length (l.globals);
  capacity : vec_capacity l.places ≡ vec_capacity l.fn.places;
}
