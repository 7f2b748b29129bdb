use Rattle.std.proofs.Common.{◌≡◌, Some, ap, ◌∙◌, arith}
use Rattle.std.specs.Prelude.{slice_get}
use Rattle.heap.specs.declared.value.Value.{Value}
use Rattle.heap.specs.declared.value.Value.TheVariants.{Block as Reference}
use Rattle.heap.specs.Heap.{values_at}
use Rattle.heap.proofs.Places.{IsAddress-within}
use Rattle.compact.specs.Reach.{Refers}
use Rattle.compact.proofs.Adding.{Seen-more, Seen-none}
use Rattle.compact.proofs.Blocks.{one_reference, no_reference}
use Rattle.compact.proofs.Going.{noting}
use Rattle.compact.proofs.slicing.note_references.Goals as goal
use Rattle.compact.proofs.slicing.note_references.Goals.{in-Block, in_default}

pub note-requires : goal.note-requires
note-requires c =
    let read : slice_get (values_at c.args.heap.now c.args.a) c.loop-place.place ≡ Some (Reference c.in-Block.b) = c.get.ensures ∙ ap (λ (v : Value). Some v) c.in-Block.is in
    let there = c.requires.closed c.args.a c.in-Block.b c.requires.address (record { place = c.loop-place.place; value = read }) in
    let within = IsAddress-within c.args.heap.now c.in-Block.b c.requires.laid_out there in
    omega (arith, within, c.loop-place.invariant.adds.count, c.requires.count)

pub loop-place-preserved : goal.loop-place-preserved
loop-place-preserved c =
    elim c.match-get.branch [
      | in-Block w ↦
          let read : slice_get (values_at c.args.heap.now c.args.a) c.loop-place.place ≡ Some (Reference w.in-Block.b) = c.get.ensures ∙ ap (λ (v : Value). Some v) w.in-Block.is in
          let there = c.requires.closed c.args.a w.in-Block.b c.requires.address (record { place = c.loop-place.place; value = read }) in
          let within = IsAddress-within c.args.heap.now w.in-Block.b c.requires.laid_out there in
          let one = noting c.loop-place.marking w.note.new.self w.in-Block.b w.note.ensures (omega (arith, within, c.loop-place.invariant.adds.count, c.requires.count)) in
          let more = Seen-more (Refers c.args.heap.now c.args.a) (λ k x. slice_get (values_at c.args.heap.now c.args.a) k ≡ Some (Reference x)) c.args.marking.now.kept c.args.marking.now.waiting c.loop-place.marking.kept c.loop-place.marking.waiting w.note.new.self.kept w.note.new.self.waiting c.loop-place.place w.in-Block.b c.loop-place.invariant.adds c.loop-place.invariant.seen (record { place = c.loop-place.place; value = read }) (λ x v. one_reference x w.in-Block.b (values_at c.args.heap.now c.args.a) c.loop-place.place v read) one.adds one.kept in
          rw w.marking-is (record { adds = more.adds; seen = more.seen; marked = one.marked ∙ c.loop-place.invariant.marked })
      | in_default w ↦
          let more = Seen-none (Refers c.args.heap.now c.args.a) (λ k x. slice_get (values_at c.args.heap.now c.args.a) k ≡ Some (Reference x)) c.args.marking.now.kept c.args.marking.now.waiting c.loop-place.marking.kept c.loop-place.marking.waiting c.loop-place.place c.loop-place.invariant.adds c.loop-place.invariant.seen (λ x v. w.in_default.not-Block x (no_reference x c.get.result (values_at c.args.heap.now c.args.a) c.loop-place.place c.get.ensures v)) in
          rw w.marking-is (record { adds = more.adds; seen = more.seen; marked = c.loop-place.invariant.marked })
    ]
