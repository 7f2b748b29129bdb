use Rattle.std.proofs.Common.{◌≡◌, ℕ, ◌+◌, true, get_or, refl, sym, ap, ◌∙◌, arith}
use Rattle.std.specs.Prelude.{slice_index}
use Rattle.heap.specs.Values.{word_of, word_in}
use Rattle.heap.specs.Cells.{space_in}
use Rattle.heap.specs.Marks.{is_kept}
use Rattle.heap.proofs.Moving.{count_starts}
use Rattle.heap.proofs.Ordered.{ordered_none, ordered_skip, ordered_step, ordered_end, next_start, none_marked}
use Rattle.heap.proofs.relocating.move_in_order.Goals as goal
use Rattle.heap.proofs.relocating.move_in_order.Goals.{then-kept-from, else-kept-from}

pub loop-place-init : goal.loop-place-init
loop-place-init c = ordered_none (space_in c.args.cells.now c.args.pins.now c.args.starts.now) c.args.cells.now c.args.pins.now c.args.kept.now (slice_index c.args.to.now) c.args.starts.now c.requires.placement

pub bounds-kept-from : goal.bounds-kept-from
bounds-kept-from c =
    let h = c.loop-place.invariant in
    let a : ℕ = get_or c.loop-place.starts c.loop-place.place 0 in
    let n = next_start c.args.cells.now c.args.pins.now c.args.starts.now c.args.kept.now (slice_index c.args.to.now) c.loop-place.place c.loop-place.cells c.loop-place.pins c.loop-place.starts c.loop-place.kept c.loop-place.listed c.requires.laid_out h (omega arith) in
    omega (arith, n.1, h.count, c.requires.marks)

pub move_block-requires-clause-room : goal.move_block-requires-clause-room
move_block-requires-clause-room c =
    let h = c.loop-place.invariant in
    let a : ℕ = get_or c.loop-place.starts c.loop-place.place 0 in
    let n = next_start c.args.cells.now c.args.pins.now c.args.starts.now c.args.kept.now (slice_index c.args.to.now) c.loop-place.place c.loop-place.cells c.loop-place.pins c.loop-place.starts c.loop-place.kept c.loop-place.listed c.requires.laid_out h (omega arith) in
    let same : word_in c.loop-place.cells (a + 2) ≡ word_in c.args.cells.now (a + 2) = ap word_of (h.moving.cells_ahead c.loop-place.place a (a + 2) (omega arith) n.0 (omega arith)) in
    omega (arith, n.1, same, h.moving.cells)

pub move_block-requires-clause-closed : goal.move_block-requires-clause-closed
move_block-requires-clause-closed c i b low high e =
    let h = c.loop-place.invariant in
    let a : ℕ = get_or c.loop-place.starts c.loop-place.place 0 in
    let n = next_start c.args.cells.now c.args.pins.now c.args.starts.now c.args.kept.now (slice_index c.args.to.now) c.loop-place.place c.loop-place.cells c.loop-place.pins c.loop-place.starts c.loop-place.kept c.loop-place.listed c.requires.laid_out h (omega arith) in
    let kept : is_kept c.args.kept.now a ≡ true = sym (h.marks_ahead c.loop-place.place a (omega arith) n.0) ∙ c.if-kept-from.true in
    let same : word_in c.loop-place.cells (a + 2) ≡ word_in c.args.cells.now (a + 2) = ap word_of (h.moving.cells_ahead c.loop-place.place a (a + 2) (omega arith) n.0 (omega arith)) in
    c.requires.closed a i b kept low (omega (arith, high, same)) (sym (h.moving.cells_ahead c.loop-place.place a (a + i) (omega arith) n.0 (omega arith)) ∙ e)

pub bounds-pins-target : goal.bounds-pins-target
bounds-pins-target c =
    let h = c.loop-place.invariant in
    let a : ℕ = get_or c.loop-place.starts c.loop-place.place 0 in
    let n = next_start c.args.cells.now c.args.pins.now c.args.starts.now c.args.kept.now (slice_index c.args.to.now) c.loop-place.place c.loop-place.cells c.loop-place.pins c.loop-place.starts c.loop-place.kept c.loop-place.listed c.requires.laid_out h (omega arith) in
    let kept : is_kept c.args.kept.now a ≡ true = sym (h.marks_ahead c.loop-place.place a (omega arith) n.0) ∙ c.if-kept-from.true in
    let down = c.requires.placement.down a kept in
    omega (arith, n.1, down, h.moving.pins, c.requires.pins)

pub loop-place-preserved : goal.loop-place-preserved
loop-place-preserved c =
    let h = c.loop-place.invariant in
    let a : ℕ = get_or c.loop-place.starts c.loop-place.place 0 in
    let n = next_start c.args.cells.now c.args.pins.now c.args.starts.now c.args.kept.now (slice_index c.args.to.now) c.loop-place.place c.loop-place.cells c.loop-place.pins c.loop-place.starts c.loop-place.kept c.loop-place.listed c.requires.laid_out h (omega arith) in
    elim c.if-kept-from.branch [
      | then-kept-from w ↦
          let kept : is_kept c.args.kept.now a ≡ true = sym (h.marks_ahead c.loop-place.place a (omega arith) n.0) ∙ w.if-kept-from.true in
          rw (w.cells-is, w.pins-is, w.starts-is, w.kept-is, w.listed-is) (ordered_step c.args.cells.now c.args.pins.now c.args.starts.now (space_in c.args.cells.now c.args.pins.now c.args.starts.now) c.args.kept.now (slice_index c.args.to.now) c.args.starts.now c.loop-place.place a (get_or c.args.to.now a 0) c.loop-place.cells c.loop-place.pins c.loop-place.starts c.loop-place.kept c.loop-place.listed w.move_block.new.cells refl c.requires.laid_out c.requires.placement c.requires.order c.requires.pins c.requires.marks h n.0 w.if-kept-from.true (omega (arith, n.1, c.requires.marks)) (omega arith) refl (c.requires.loose a kept) w.move_block.ensures.forwarded)
      | else-kept-from w ↦
          rw (w.cells-is, w.pins-is, w.starts-is, w.kept-is, w.listed-is) (ordered_skip (space_in c.args.cells.now c.args.pins.now c.args.starts.now) c.args.cells.now c.args.pins.now c.args.kept.now (slice_index c.args.to.now) c.args.starts.now c.loop-place.place a c.loop-place.cells c.loop-place.pins c.loop-place.starts c.loop-place.kept c.loop-place.listed h n.0 w.if-kept-from.false)
    ]

pub returns-clause-listed : goal.returns-clause-listed
returns-clause-listed c =
    let count = count_starts c.args.cells.now c.args.pins.now c.args.starts.now in
    ordered_end (space_in c.args.cells.now c.args.pins.now c.args.starts.now) c.args.cells.now c.args.pins.now c.args.kept.now (slice_index c.args.to.now) c.args.starts.now c.loop-place.place c.loop-place.cells c.loop-place.pins c.loop-place.starts c.loop-place.kept c.loop-place.listed c.requires.placement c.loop-place.invariant (omega arith) (omega (arith, c.loop-place.auto.place-end))

pub returns-clause-clear : goal.returns-clause-clear
returns-clause-clear c a =
    let count = count_starts c.args.cells.now c.args.pins.now c.args.starts.now in
    none_marked (space_in c.args.cells.now c.args.pins.now c.args.starts.now) c.args.cells.now c.args.pins.now c.args.kept.now (slice_index c.args.to.now) c.args.starts.now c.loop-place.place c.loop-place.cells c.loop-place.pins c.loop-place.starts c.loop-place.kept c.loop-place.listed a c.loop-place.invariant (omega arith)
