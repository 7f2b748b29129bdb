use Rattle.std.proofs.Common.{◌≡◌, ◌+◌, ◌≤◌, ◌++◌, drop, length, map}
use Rattle.std.specs.Prelude.{vec_capacity, vec_len}
use Rattle.std.specs.Option.{option_map}
use Rattle.semantics.specs.declared.object_id.ObjectId.{ObjectId}
use Rattle.machine_collections.specs.Clearing.{weak_names}
use Rattle.machine_collections.proofs.weak.fill_objects.Given as goal

abbrev pub invariant-loop-held : goal.invariant-loop-held
invariant-loop-held l = record {
  names : map (option_map (λ (o : ObjectId). o.number)) l.objects.items ++ drop l.held-index (weak_names l.heap l.weaks l.statics) ≡ weak_names l.heap l.weaks l.statics;
  room : vec_len l.objects + length (drop l.held-index (weak_names l.heap l.weaks l.statics)) ≤ vec_capacity l.objects;
}
