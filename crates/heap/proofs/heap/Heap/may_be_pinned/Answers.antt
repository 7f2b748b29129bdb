use Rattle.std.proofs.Common.{◌≡◌, ℕ, ◌≤◌, false, ap, get_or, List, arith}
use Rattle.std.specs.Prelude.{nat_lt}
use Rattle.heap.specs.Heap.{bare}
use Rattle.heap.specs.Cells.{space_in}
use Rattle.heap.proofs.Layouts.{ends_within}
use Rattle.heap.proofs.Relocated.{none_pinned}
use Rattle.heap.proofs.UnderWay.{bare_view}
use Rattle.heap.proofs.heap.Heap.may_be_pinned.Goals as goal

pub most_pins-requires : goal.most_pins-requires
most_pins-requires c =
    let within = ends_within 0 (space_in c.self.inside.cells c.self.inside.pins.items c.self.inside.starts.items).blocks (space_in c.self.inside.cells c.self.inside.pins.items c.self.inside.starts.items).cells c.self.invariant.stored.laid_out in
    omega (arith, within, c.self.invariant.stored.after, c.self.invariant.stored.counted)

not_above : (n : ℕ) → nat_lt 0 n ≡ false → n ≤ 0
not_above n e = grind (arith)

pub returns : goal.returns
returns c e a =
    let most = not_above c.most_pins.result e in
    none_pinned c.self.inside.cells c.self.inside.pins.items c.self.inside.starts.items (bare c.args.self.now) c.self.inside.end a (bare_view c.self.view_is) c.self.invariant.stored.laid_out c.self.invariant.stored.after
    (λ k l.
    let low = c.most_pins.ensures k l in
    let same = ap (λ (xs : List ℕ). get_or xs k 0) c.deref.ensures.value in
    omega (arith, low, same))
