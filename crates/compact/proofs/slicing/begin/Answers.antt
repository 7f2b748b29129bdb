use Rattle.std.proofs.Common.{◌<◌, Some, sym, ap, ◌∙◌, subst}
use Rattle.std.specs.List.{Contains}
use Rattle.heap.specs.Heap.{Space, pins_at}
use Rattle.heap.specs.Marking.{IsUnderWay}
use Rattle.heap.proofs.Lookups.{IsAddress-from_pins}
use Rattle.compact.specs.Reach.{AreAddresses}
use Rattle.compact.proofs.Going.{UnderWay-new, UnderWay-more}
use Rattle.compact.proofs.slicing.begin.Goals as goal

pub note_roots-requires-clause-roots : goal.note_roots-requires-clause-roots
note_roots-requires-clause-roots g c = subst (λ (s : Space). AreAddresses s (g.R.Roots.roots c.args.roots.now)) (sym c.lend_marks.ensures.same) c.requires.roots

pub returns-clause-under_way : goal.returns-clause-under_way
returns-clause-under_way g c =
    let s = c.lend_marks.new.heap in
    let roots = g.R.Roots.roots c.args.roots.now in
    let first = UnderWay-new s c.in_ok-kept.kept.items c.in_ok-marking.marking c.in_ok-kept.ensures.clear (c.in_ok-kept.ensures.count ∙ sym (ap (λ (x : Space). x.cells) c.lend_marks.ensures.same)) c.in_ok-marking.ensures in
    let second = UnderWay-more s (λ x. 0 < pins_at s x) c.in_ok-marking.marking c.note_pinned.new.marking first c.note_pinned.ensures.adds (λ x p. IsAddress-from_pins s x p) in
    let there = subst (λ (x : Space). AreAddresses x roots) (sym c.lend_marks.ensures.same) c.requires.roots in
    let third = UnderWay-more s (λ x. Contains roots (Some x)) c.note_pinned.new.marking c.note_roots.new.marking second c.note_roots.ensures.adds (λ x k. there x k) in
    subst (λ (x : Space). IsUnderWay x c.note_roots.new.marking) c.lend_marks.ensures.same third
