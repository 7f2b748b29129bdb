use Rattle.std.proofs.Common.{◌≡◌, ◌<◌, ℕ, true, false, Some, length, set, arith}
use Rattle.std.specs.Prelude.{slice_index, slice_get}
use Rattle.std.proofs.lemmas.List.{get_or-set_same, get_or-set_other}
use Rattle.heap.specs.Heap.{addresses}
use Rattle.heap.specs.Marks.{is_kept}
use Rattle.heap.proofs.Places.{ends_inside}
use Rattle.compact.proofs.Packing.{placing_dead, placing_loose, placing_end, given}
use Rattle.compact.proofs.placing.place_in_order.Goals as goal
use Rattle.compact.proofs.placing.place_in_order.Goals.{then-kept-index, else-kept-index}

pub bounds-kept-index : goal.bounds-kept-index
bounds-kept-index c =
    let end = ends_inside c.args.heap.now c.loop-place.place c.address-a.result c.loop-place.invariant.laid_out c.address-a.ensures.address in
    omega (arith, end, c.cell-index.ensures, c.requires.marks)

pub overflow_add-next : goal.overflow_add-next
overflow_add-next c =
    let end = ends_inside c.args.heap.now c.loop-place.place c.address-a.result c.loop-place.invariant.laid_out c.address-a.ensures.address in
    omega (arith, end, c.len_of.ensures, c.requires.limit)

pub overflow_add-next-then-kept-index : goal.overflow_add-next-then-kept-index
overflow_add-next-then-kept-index c =
    let end = ends_inside c.args.heap.now c.loop-place.place c.address-a.result c.loop-place.invariant.laid_out c.address-a.ensures.address in
    let low = c.loop-place.invariant.placing.floor c.loop-place.place c.address-a.result (omega arith) c.address-a.ensures.address in
    omega (arith, end, low, c.len_of.ensures, c.requires.limit)

pub loop-place-preserved : goal.loop-place-preserved
loop-place-preserved c =
    let h = c.loop-place.invariant in
    let a : ℕ = c.address-a.result in
    let at : slice_get (addresses c.args.heap.now) c.loop-place.place ≡ Some a = c.address-a.ensures.address in
    let end = ends_inside c.args.heap.now c.loop-place.place a h.laid_out at in
    let same : length c.loop-place.to ≡ length c.args.to.now = c.loop-place.auto.to in
    let within : a < length c.loop-place.to = omega (arith, end, same, c.requires.count) in
    elim c.if-kept-index.branch [
      | then-kept-index w ↦
          let kept : is_kept c.args.kept.now a ≡ true = rw c.cell-index.ensures at w.if-kept-index.true in
          let next : ℕ = c.loop-place.next in
          let gives = given c.args.heap.now (slice_index c.loop-place.to) (slice_index (set c.loop-place.to a next)) c.loop-place.place a h.laid_out at (λ x ne. get_or-set_other c.loop-place.to a x next 0 ne) in
          rw (w.to-is, c.cell-index.ensures) (record {
            laid_out = h.laid_out;
            placing = placing_loose c.args.heap.now c.args.kept.now (slice_index c.loop-place.to) (slice_index (set c.loop-place.to a next)) c.loop-place.place next a c.if-kept-index.next h.placing gives c.requires.loose (get_or-set_same c.loop-place.to a next 0 within) kept (omega (arith, w.next-is, w.len_of.ensures));
          })
      | else-kept-index w ↦
          let dead : is_kept c.args.kept.now a ≡ false = rw c.cell-index.ensures at w.if-kept-index.false in
          rw (w.to-is, w.next-is) (record {
            laid_out = h.laid_out;
            placing = placing_dead c.args.heap.now c.args.kept.now (slice_index c.loop-place.to) c.loop-place.place c.loop-place.next 0 a h.placing at dead (c.requires.loose a);
          })
    ]

pub returns-clause-packing : goal.returns-clause-packing
returns-clause-packing c = placing_end c.args.heap.now c.args.kept.now (slice_index c.loop-place.to) c.loop-place.place c.loop-place.next 0 c.loop-place.invariant.laid_out c.requires.blocks c.loop-place.invariant.placing (omega (arith, c.count-place-end.ensures.count))
