use Rattle.std.proofs.Common.{◌≡◌, ◌≤◌, length, take}
use Rattle.std.specs.Prelude.{filter_map, vec_capacity}
use Rattle.tables.specs.References.{references_in}
use Rattle.machine_threads.specs.Entry.{given_address, given_word}
use Rattle.machine_threads.proofs.entry.fill_numbers.Given as goal

abbrev pub invariant-loop-argument : goal.invariant-loop-argument
invariant-loop-argument l = record {
  items : l.slots.items ≡ filter_map given_word (take l.argument-index l.arguments);
  capacity : l.count ≤ vec_capacity l.slots;
  references : l.references ≡ length (references_in (filter_map given_address (take l.argument-index l.arguments)));
}
