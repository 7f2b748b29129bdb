use Rattle.std.proofs.Common.{◌≡◌, ◌<◌, ◌+◌, List, None, length, filter_map, replicate, refl, sym, ap, ◌∙◌, arith}
use Rattle.code.specs.declared.slots.SlotCounts.{SlotCounts}
use Rattle.heap.specs.declared.value.Value.{Value}
use Rattle.machine_scenes.specs.declared.buffer.Buffer.TheVariants as buffer
use Rattle.tables.specs.References.{references_in}
use Rattle.machine_threads.specs.Entry.{first_frame, given_address}
use Rattle.machine_threads.proofs.entry.begin_again.Goals as goal

pub fill_references-requires-clause-given : goal.fill_references-requires-clause-given
fill_references-requires-clause-given c =
    let room : length (filter_map given_address c.args.next.now.arguments.items) < c.args.code.now.slots.references = c.requires.room.references in
    rw c.slots-slots.ensures.counts room

pub fill_references-requires-clause-frame : goal.fill_references-requires-clause-frame
fill_references-requires-clause-frame c =
    let given = c.args.next.now.arguments.items in
    let count : c.fill_numbers-given.result ≡ length (references_in (filter_map given_address given)) = c.fill_numbers-given.ensures.references ∙ ap (λ (l : List Value). length (references_in (filter_map given_address l))) c.deref.ensures.value in
    let capacity : (1 + c.fill_numbers-given.result) + 16 ≡ length (references_in (filter_map given_address given)) + 17 = omega (arith, count) in
    c.restart.ensures ∙ ap first_frame capacity

pub returns : goal.returns
returns c = record {
  function = refl;
  place = refl;
  stack = c.clear.ensures;
  numbers = rw (sym c.slots-slots.ensures.counts, sym c.deref.ensures.value) c.fill_numbers-given.ensures.numbers;
  addresses = c.fill_references.ensures.addresses;
  given = rw (sym c.slots-slots.ensures.counts) c.fill_references.ensures.given;
  locals = c.fill_references.ensures.made;
  references = c.fill_references.ensures.held;
  fields = c.empty_fields.ensures ∙ ap (λ (s : SlotCounts). replicate s.field_ids None) c.slots-slots.ensures.counts;
  buffers = c.empty_buffers.ensures ∙ ap (λ (s : SlotCounts). replicate s.buffers buffer.Null) c.slots-slots.ensures.counts;
}
