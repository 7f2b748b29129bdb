use Rattle.std.proofs.Common.{◌≡◌, ◌<◌, ◌+◌, List, None, length, filter_map, refl, sym, ap, ◌∙◌, arith}
use Rattle.std.specs.Prelude.{vec_len}
use Rattle.code.specs.declared.slots.SlotCounts.{SlotCounts}
use Rattle.heap.specs.declared.value.Value.{Value}
use Rattle.machine_scenes.specs.declared.buffer.Buffer.TheVariants as buffer
use Rattle.tables.specs.Locals.{LocalTable, pushed}
use Rattle.tables.specs.References.{references_in}
use Rattle.machine_threads.specs.Entry.{first_frame, given_address}
use Rattle.machine_threads.proofs.EntryTables.{resized}
use Rattle.machine_threads.proofs.entry.begin.Goals as goal

pub fill_references-requires-clause-given : goal.fill_references-requires-clause-given
fill_references-requires-clause-given c =
    let room : length (filter_map given_address c.args.next.now.arguments.items) < c.args.code.now.slots.references = c.requires.room.references in
    rw c.slots-slots.ensures.counts room

pub fill_references-requires-clause-frame : goal.fill_references-requires-clause-frame
fill_references-requires-clause-frame c =
    let given = c.args.next.now.arguments.items in
    let count : c.fill_numbers-given.result ≡ length (references_in (filter_map given_address given)) = c.fill_numbers-given.ensures.references ∙ ap (λ (l : List Value). length (references_in (filter_map given_address l))) c.deref.ensures.value in
    let capacity : (1 + c.fill_numbers-given.result) + 16 ≡ length (references_in (filter_map given_address given)) + 17 = omega (arith, count) in
    c.in_ok-push_first.ensures.pushed ∙ ap (λ (t : LocalTable). pushed t ((1 + c.fill_numbers-given.result) + 16)) c.in_ok-locals.ensures ∙ ap first_frame capacity

pub returns : goal.returns
returns c = record {
  function = refl;
  place = refl;
  stack = c.new-2.ensures;
  numbers = rw (sym c.slots-slots.ensures.counts, sym c.deref.ensures.value) c.fill_numbers-given.ensures.numbers;
  addresses = c.fill_references.ensures.addresses;
  given = rw (sym c.slots-slots.ensures.counts) c.fill_references.ensures.given;
  locals = c.fill_references.ensures.made;
  references = c.fill_references.ensures.held;
  fields = c.in_ok-resize.ensures.items ∙ resized None c.new-fields.result.items c.args.code.now.slots.field_ids c.slots-slots.result.field_ids (vec_len c.new-fields.result) c.new-fields.ensures.items c.new-fields.ensures.len (ap (λ (s : SlotCounts). s.field_ids) c.slots-slots.ensures.counts);
  buffers = c.in_ok-resize-2.ensures.items ∙ resized buffer.Null c.new-buffers.result.items c.args.code.now.slots.buffers c.slots-slots.result.buffers (vec_len c.new-buffers.result) c.new-buffers.ensures.items c.new-buffers.ensures.len (ap (λ (s : SlotCounts). s.buffers) c.slots-slots.ensures.counts);
}
