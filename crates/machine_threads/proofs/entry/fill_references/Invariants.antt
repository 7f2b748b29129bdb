use Rattle.std.proofs.Common.{◌≡◌, ◌+◌, ◌≤◌, ◌-◌, ◌∷◌, length, take}
use Rattle.std.specs.Prelude.{filter_map, slice_get, vec_capacity}
use Rattle.machine_threads.specs.Entry.{given_address, keys_from}
use Rattle.tables.specs.References.{references_in}
use Rattle.machine_threads.proofs.EntryTables.{one_frame}
use Rattle.machine_threads.proofs.entry.fill_references.Given as goal

abbrev pub invariant-loop-argument : goal.invariant-loop-argument
invariant-loop-argument l = record {
  table : l.locals ≡ one_frame (length (references_in (filter_map given_address l.fn.next.arguments.items)) + 17) (references_in (slice_get l.loaded (l.fn.next.class.number - 1) ∷ filter_map given_address (take l.argument-index l.fn.next.arguments.items)));
  keys : l.keys.items ≡ keys_from 0 (slice_get l.loaded (l.fn.next.class.number - 1) ∷ filter_map given_address (take l.argument-index l.fn.next.arguments.items));
  capacity : l.count ≤ vec_capacity l.keys;
}
