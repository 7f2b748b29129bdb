use Rattle.std.proofs.Common.{◌≡◌, ◌+◌, ◌-◌, ◌<◌, ◌≤◌, length, Some, ◌∙◌, arith, ⊎_elim}
use Rattle.std.specs.Prelude.{slice_get}
use Rattle.std.proofs.lemmas.Bool.{cases_lt}
use Rattle.heap.specs.declared.value.Value.TheVariants.{Block as Reference}
use Rattle.heap.specs.Heap.{values_at}
use Rattle.heap.proofs.Places.{IsAddress-within}
use Rattle.compact.specs.Reach.{Refers}
use Rattle.compact.proofs.Adding.{Seen-more}
use Rattle.compact.proofs.Blocks.{value_within, one_reference}
use Rattle.compact.proofs.Going.{noting}
use Rattle.compact.proofs.slicing.note_many.Goals as goal

pub note-requires : goal.note-requires
note-requires c =
    let there = c.requires.closed c.args.a c.in-Some.next.1 c.requires.address (record { place = c.in-Some.next.0; value = c.in-Some.ensures.reference.value }) in
    let within = IsAddress-within c.args.heap.now c.in-Some.next.1 c.requires.laid_out there in
    omega (arith, within, c.values.invariant.adds.count, c.requires.count)

pub values-smaller : goal.values-smaller
values-smaller c =
    let e = c.in-Some.ensures.reference in
    let inside = value_within c.args.heap.now c.args.a c.in-Some.next.0 (Reference c.in-Some.next.1) e.value in
    let from = e.from_on in
    let smaller : length (values_at c.args.heap.now c.args.a) - (c.in-Some.next.0 + 1) < length (values_at c.args.heap.now c.args.a) - c.values.place = omega arith in
    smaller

pub values-preserved : goal.values-preserved
values-preserved c =
    let e = c.in-Some.ensures.reference in
    let h = c.values.invariant in
    let there = c.requires.closed c.args.a c.in-Some.next.1 c.requires.address (record { place = c.in-Some.next.0; value = e.value }) in
    let low = IsAddress-within c.args.heap.now c.in-Some.next.1 c.requires.laid_out there in
    let one = noting c.values.marking c.note.new.self c.in-Some.next.1 c.note.ensures (omega (arith, low, h.adds.count, c.requires.count)) in
    let inside = value_within c.args.heap.now c.args.a c.in-Some.next.0 (Reference c.in-Some.next.1) e.value in
    let more = Seen-more (Refers c.args.heap.now c.args.a) (λ k x. slice_get (values_at c.args.heap.now c.args.a) k ≡ Some (Reference x)) c.args.marking.now.kept c.args.marking.now.waiting c.values.marking.kept c.values.marking.waiting c.note.new.self.kept c.note.new.self.waiting c.in-Some.next.0 c.in-Some.next.1 h.adds
    (λ k x l v. ⊎_elim
    (λ (before : k < c.values.place). h.seen k x before v)
    (λ (after : c.values.place ≤ k). absurd (e.none_before k x after l v))
    (cases_lt k c.values.place))
    (record { place = c.in-Some.next.0; value = e.value }) (λ x v. one_reference x c.in-Some.next.1 (values_at c.args.heap.now c.args.a) c.in-Some.next.0 v e.value) one.adds one.kept in
    record { within = omega arith; adds = more.adds; seen = more.seen; marked = one.marked ∙ h.marked }
