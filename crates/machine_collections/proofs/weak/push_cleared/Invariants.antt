use Rattle.std.proofs.Common.{◌≡◌, ◌+◌, ◌≤◌, ◌++◌, drop, length, map}
use Rattle.std.specs.Prelude.{vec_capacity, vec_len}
use Rattle.std.specs.Option.{option_map}
use Rattle.semantics.specs.declared.object_id.ObjectId.{ObjectId}
use Rattle.machine_collections.specs.Clearing.{cleared_names, holds_cleared}
use Rattle.machine_collections.proofs.weak.push_cleared.Given as goal

abbrev pub invariant-loop-place : goal.invariant-loop-place
invariant-loop-place l = record {
  items : l.cleared.items ++ cleared_names (drop l.place (map (option_map (λ (o : ObjectId). o.number)) l.objects)) (drop l.place (map (holds_cleared l.weaks) l.statics))
      ≡ l.fn.cleared.items ++ cleared_names (map (option_map (λ (o : ObjectId). o.number)) l.objects) (map (holds_cleared l.weaks) l.statics);
  room : vec_len l.cleared + length l.objects ≤ vec_capacity l.cleared + l.place;
}
