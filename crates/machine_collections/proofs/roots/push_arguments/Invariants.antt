use Rattle.std.proofs.Common.{◌≡◌, ◌+◌, ◌++◌, drop, length, map}
use Rattle.std.specs.Prelude.{vec_capacity, vec_len}
use Rattle.machine_collections.specs.Roots.{argument_place}
use Rattle.machine_collections.proofs.roots.push_arguments.Given as goal

abbrev pub invariant-loop-argument : goal.invariant-loop-argument
invariant-loop-argument l = record {
  places : l.places.items ++ drop l.argument-index (map argument_place l.arguments) ≡ l.fn.places.items ++ map argument_place l.arguments;
  len : vec_len l.places + length (drop l.argument-index (map argument_place l.arguments)) ≡ vec_len l.fn.places + length (map argument_place l.arguments);
  capacity : vec_capacity l.places ≡ vec_capacity l.fn.places;
}
