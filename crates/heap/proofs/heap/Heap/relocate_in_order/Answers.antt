use Rattle.std.proofs.Common.{◌≡◌, ℕ, ◌+◌, ◌-◌, ◌<◌, List, length, get_or, take, Option, Some, None, sym, ap, ◌∙◌, subst, arith}
use Rattle.std.specs.Prelude.{slice_get, slice_index, IfSome}
use Rattle.std.proofs.lemmas.List.{with_items_is}
use Rattle.heap.specs.declared.value.Value.{Value}
use Rattle.heap.specs.declared.value.Value.TheVariants.{Block as Reference}
use Rattle.heap.specs.Heap.{Space, bare}
use Rattle.heap.specs.Cells.{cells_from, space_in}
use Rattle.heap.specs.Marking.{IsUnderWay}
use Rattle.heap.specs.Marks.{Marks}
use Rattle.heap.specs.Moves.{end_in, AreMovedInOrder}
use Rattle.heap.specs.Values.{cell_in, word_in}
use Rattle.heap.proofs.Lookups.{stored}
use Rattle.heap.proofs.WordLaws.{slice_get-cells_from}
use Rattle.heap.proofs.Relocated.{listed_inside, listed_there, relocated_space, relocated_stored}
use Rattle.heap.proofs.UnderWay.{bare_view}
use Rattle.heap.proofs.heap.Heap.relocate_in_order.Goals as goal

pub move_in_order-count-requires-clause-closed : goal.move_in_order-count-requires-clause-closed
move_in_order-count-requires-clause-closed c a i b k low high e =
    let cs = c.self.inside.cells in
    let here = stored cs c.self.inside.pins.items c.self.inside.starts.items (bare c.args.self.now) a (bare_view c.self.view_is) c.self.invariant.stored.laid_out (c.requires.placement.blocks a k) in
    let at : a + 3 + (i - 3) ≡ a + i = omega (arith, low) in
    let there : slice_get (cells_from cs (a + 3) (word_in cs (a + 2))) (i - 3) ≡ Some (Reference b) =
    slice_get-cells_from cs (a + 3) (word_in cs (a + 2)) (i - 3) (omega (arith, low, high)) ∙ ap (λ n. Some (cell_in cs n)) at ∙ ap (λ (v : Value). Some v) e in
    let below : b < c.args.self.now.cells = c.requires.closed a (i - 3) b k (ap (λ (l : List Value). slice_get l (i - 3)) here.values ∙ there) in
    omega (arith, below, c.requires.count)

pub move_in_order-count-requires-clause-loose : goal.move_in_order-count-requires-clause-loose
move_in_order-count-requires-clause-loose c a k =
    let here = stored c.self.inside.cells c.self.inside.pins.items c.self.inside.starts.items (bare c.args.self.now) a (bare_view c.self.view_is) c.self.invariant.stored.laid_out (c.requires.placement.blocks a k) in
    ap (λ (xs : List ℕ). get_or xs a 0) c.deref_mut.ensures.value ∙ sym here.pins ∙ c.requires.loose a

pub end_of_last-self-inside-requires-clause-within : goal.end_of_last-self-inside-requires-clause-within
end_of_last-self-inside-requires-clause-within c k l =
    let m = subst (λ (xs : List ℕ). AreMovedInOrder c.self.inside.cells xs c.args.kept.now (slice_index c.args.to.now) c.move_in_order-count.new.cells c.move_in_order-count.new.pins c.move_in_order-count.new.starts c.move_in_order-count.result) c.deref_mut.ensures.value c.move_in_order-count.ensures.listed in
    let starts = with_items_is c.self.inside.starts c.move_in_order-count.new.starts (omega (arith, c.move_in_order-count.ensures.starts, c.deref_mut-2.ensures.len)) in
    let items : c.truncate.new.self.items ≡ take c.move_in_order-count.result c.move_in_order-count.new.starts = c.truncate.ensures.items ∙ ap (take c.move_in_order-count.result) starts in
    listed_inside c.self.inside.cells c.self.inside.pins.items c.self.inside.starts.items c.self.inside.end c.self.inside.starts.cap (bare c.args.self.now) c.args.kept.now (slice_index c.args.to.now) c.move_in_order-count.new.cells c.move_in_order-count.new.pins c.move_in_order-count.new.starts c.move_in_order-count.result c.deref.result.now c.self.invariant.stored (bare_view c.self.view_is) (record { blocks = c.requires.placement.blocks; down = c.requires.placement.down; apart = c.requires.placement.apart }) m (c.deref.ensures.value ∙ items) k l

pub invariant_of-self : goal.invariant_of-self
invariant_of-self c =
    let m = subst (λ (xs : List ℕ). AreMovedInOrder c.self.inside.cells xs c.args.kept.now (slice_index c.args.to.now) c.move_in_order-count.new.cells c.move_in_order-count.new.pins c.move_in_order-count.new.starts c.move_in_order-count.result) c.deref_mut.ensures.value c.move_in_order-count.ensures.listed in
    let starts = with_items_is c.self.inside.starts c.move_in_order-count.new.starts (omega (arith, c.move_in_order-count.ensures.starts, c.deref_mut-2.ensures.len)) in
    let items : c.truncate.new.self.items ≡ take c.move_in_order-count.result c.move_in_order-count.new.starts = c.truncate.ensures.items ∙ ap (take c.move_in_order-count.result) starts in
    let there : c.deref.result.now ≡ c.truncate.new.self.items = c.deref.ensures.value in
    let listed = listed_there c.self.inside.cells c.self.inside.pins.items c.self.inside.starts.items c.self.inside.end c.self.inside.starts.cap (bare c.args.self.now) c.args.kept.now (slice_index c.args.to.now) c.move_in_order-count.new.cells c.move_in_order-count.new.pins c.move_in_order-count.new.starts c.move_in_order-count.result c.truncate.new.self.items c.end_of_last-self-inside.result c.self.invariant.stored (bare_view c.self.view_is) (record { blocks = c.requires.placement.blocks; down = c.requires.placement.down; apart = c.requires.placement.apart }) m items (λ e. c.end_of_last-self-inside.ensures.none (ap length there ∙ e)) (λ k e. c.end_of_last-self-inside.ensures.last k (e ∙ sym (ap length there)) ∙ ap (λ (xs : List ℕ). end_in c.move_in_order-count.new.cells (get_or xs k 0)) there) in
    let pins = with_items_is c.self.inside.pins c.move_in_order-count.new.pins (omega (arith, m.moved.pins)) in
    let none : c.self.inside.marking ≡ None = ap (λ (t : Space). t.marking) c.self.view_is ∙ c.requires.none in
    rw pins (record {
      stored = relocated_stored c.self.inside.cells c.self.inside.pins.items c.self.inside.starts.items c.self.inside.end c.self.inside.starts.cap c.args.kept.now (slice_index c.args.to.now) c.move_in_order-count.new.cells c.move_in_order-count.new.pins m.marks c.truncate.new.self.items c.end_of_last-self-inside.result c.truncate.new.self.cap c.self.invariant.stored m.moved listed (omega (arith, m.moved.cells, c.self.invariant.stored.room, c.truncate.ensures.capacity));
      under_way = subst (λ (o : Option Marks). IfSome o (IsUnderWay (space_in c.move_in_order-count.new.cells c.move_in_order-count.new.pins c.truncate.new.self.items))) (sym none) tt;
    })

pub returns-clause-relocated : goal.returns-clause-relocated
returns-clause-relocated c =
    let m = subst (λ (xs : List ℕ). AreMovedInOrder c.self.inside.cells xs c.args.kept.now (slice_index c.args.to.now) c.move_in_order-count.new.cells c.move_in_order-count.new.pins c.move_in_order-count.new.starts c.move_in_order-count.result) c.deref_mut.ensures.value c.move_in_order-count.ensures.listed in
    let starts = with_items_is c.self.inside.starts c.move_in_order-count.new.starts (omega (arith, c.move_in_order-count.ensures.starts, c.deref_mut-2.ensures.len)) in
    let items : c.truncate.new.self.items ≡ take c.move_in_order-count.result c.move_in_order-count.new.starts = c.truncate.ensures.items ∙ ap (take c.move_in_order-count.result) starts in
    let there : c.deref.result.now ≡ c.truncate.new.self.items = c.deref.ensures.value in
    let listed = listed_there c.self.inside.cells c.self.inside.pins.items c.self.inside.starts.items c.self.inside.end c.self.inside.starts.cap (bare c.args.self.now) c.args.kept.now (slice_index c.args.to.now) c.move_in_order-count.new.cells c.move_in_order-count.new.pins c.move_in_order-count.new.starts c.move_in_order-count.result c.truncate.new.self.items c.end_of_last-self-inside.result c.self.invariant.stored (bare_view c.self.view_is) (record { blocks = c.requires.placement.blocks; down = c.requires.placement.down; apart = c.requires.placement.apart }) m items (λ e. c.end_of_last-self-inside.ensures.none (ap length there ∙ e)) (λ k e. c.end_of_last-self-inside.ensures.last k (e ∙ sym (ap length there)) ∙ ap (λ (xs : List ℕ). end_in c.move_in_order-count.new.cells (get_or xs k 0)) there) in
    let pins = with_items_is c.self.inside.pins c.move_in_order-count.new.pins (omega (arith, m.moved.pins)) in
    let r = relocated_space c.self.inside.cells c.self.inside.pins.items c.self.inside.starts.items c.self.inside.end c.self.inside.starts.cap (bare c.args.self.now) c.args.kept.now (slice_index c.args.to.now) c.move_in_order-count.new.cells c.move_in_order-count.new.pins m.marks c.truncate.new.self.items c.end_of_last-self-inside.result c.self.invariant.stored (bare_view c.self.view_is) (record { blocks = c.requires.placement.blocks; down = c.requires.placement.down; apart = c.requires.placement.apart }) m.moved listed in
    rw pins (record { cells = r.cells; laid_out = r.laid_out; moved = r.moved; only = r.only })
